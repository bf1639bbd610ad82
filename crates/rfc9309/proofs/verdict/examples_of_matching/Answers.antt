use Rattle.std.proofs.Common.{arith, ◌≡◌, ◌++◌, ◌∷◌, List, [], ℕ, codes, false, true, refl}
use Rattle.texting_robots.specs.Escape.{escaped}
use Rattle.texting_robots.proofs.Shared.{matches, matches_sound, not_matching}
use Rattle.rfc9309.specs.Matching.{IsMatch, Reading, filled, normal_from, normal_path, normal_uri}
use Rattle.rfc9309.specs.Matching.{without_end}
use Rattle.rfc9309.specs.Examples as example
use Rattle.rfc9309.proofs.verdict.examples_of_matching.Goals as goal

-- the whole URI is matched with these strings in place of the stars
whole : (stays : Reading) (path uri : List ℕ) (strings : List (List ℕ))
    → normal_uri stays uri ≡ filled (normal_path stays path) strings ++ [] → IsMatch stays path uri
whole stays path uri strings e = record { strings = strings; rest = []; whole = e; end = λ _. refl }

only : (stays : Reading) (path uri : List ℕ) (strings : List (List ℕ))
    → normal_uri stays uri ≡ filled (normal_path stays path) strings ++ []
    → matches true (escaped path) uri ≡ false → example.OnlyByStandard stays path uri
only stays path uri strings e other = grind (arith, not_matching, whole)

pub returns : goal.returns
unfolding normal_from without_end filled
returns c = record {
  encoding = ((refl, refl), (refl, refl), (refl, refl), (refl, refl), (refl, refl));
  literals = ((refl, refl), (refl, refl));
  differences = (
    only _ _ _ [] refl refl,
    only _ _ _ [] refl refl,
    only _ _ _ [] refl refl,
    only _ _ _ [] refl refl,
    only _ _ _ [] refl refl,
    only _ _ _ [] refl refl,
    only _ _ _ [] refl refl,
    only _ _ _ [] refl refl,
    only _ _ _ (codes "b" ∷ []) refl refl,
    only _ _ _ [] refl refl,
  );
  reserved_in_uri = only _ _ _ [] refl refl;
  reserved_alike = (whole _ _ _ [] refl, matches_sound _ _ _ refl);
}
