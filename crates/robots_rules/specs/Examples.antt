-- Worked examples. They are theorems, proved as contracts in `src/theorems.rt`.
use Rattle.std.specs.Prelude.{List, [], ◌∷◌, codes}
use Rattle.texting_robots.specs.Callers.{Allow, Disallow, LineValue, UserAgent}
use Rattle.robots_rules.specs.Needless.{AreDeletable}

abbrev pub twice : List LineValue
twice = UserAgent (codes "*") ∷ Disallow (codes "/a") ∷ Disallow (codes "/a") ∷ []

-- of two equal rules, not both can be deleted
abbrev pub not_both : Type 0
not_both = ¬ AreDeletable (2 ∷ 3 ∷ []) twice

abbrev pub three : List LineValue
three = UserAgent (codes "*") ∷ Disallow (codes "/a") ∷ Allow (codes "/ab") ∷ Disallow (codes "/abc") ∷ []

-- the longer Disallow can't if an Allow between them matches some of its texts: `/abc` is denied
abbrev pub between : Type 0
between = ¬ AreDeletable (4 ∷ []) three
