use Rattle.std.proofs.Common.{[], ◌∷◌, arith, codes, refl}
use Rattle.std.proofs.lemmas.List.{take_rest}
use Rattle.texting_robots.proofs.StatementLemmas.{usual_is}
use Rattle.texting_robots.proofs.parser.statement.after_usual.Goals as goal

pub returns-in-83 : goal.returns-in-83
returns-in-83 c =
    rw (c.in-Sitemap.is, take_rest) (usual_is c.args.text.now (codes "Sitemap") (codes "sitemap")
    (codes "site-map" ∷ codes "site map" ∷ []) (omega arith) (
      omega arith,
      (
        omega arith,
        (
          omega arith,
          (
            omega arith,
            (
              omega arith,
              (
                omega arith,
                (omega arith, tt),
              ),
            ),
          ),
        ),
      ),
    ) refl refl)
