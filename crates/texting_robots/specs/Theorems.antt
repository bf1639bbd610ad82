-- Predicates of the theorems in `laws`.
use Rattle.std.specs.Prelude.{◌≡◌, ◌↔◌, ℕ, Bool, ◌==◌, ◌&&◌, List, [], ◌∷◌, slice_index, if◌then◌else◌}
use Rattle.texting_robots.specs.Executable.{delay_for, rules_for, sitemaps_in}
use Rattle.texting_robots.specs.{Rules.IsRejected, Cut.cr, Cut.lf, Verdict.IsVerdict}
use Rattle.texting_robots.specs.Line.{Allow, Disallow, LineValue}

-- each CR that precedes an LF is dropped (`slice_index` is 0 past the end)
abbrev pub crlf_to_lf : List ℕ → List ℕ
crlf_to_lf [] = []
crlf_to_lf (b ∷ text) =
    if b == cr && slice_index text 0 == lf then crlf_to_lf text else b ∷ crlf_to_lf text

-- both crawlers have the same rules, verdicts and delay, and both files are rejected or neither
pub record SameButSitemaps (agent : List ℕ) (lines : List LineValue)
    (other : List ℕ) (others : List LineValue) : Type 0 where
  pub rules : rules_for agent lines ≡ rules_for other others
  pub verdict : (text : List ℕ) (answer : Bool)
      → IsVerdict (rules_for agent lines) text answer ↔ IsVerdict (rules_for other others) text answer
  pub delay : delay_for agent lines ≡ delay_for other others
  pub rejection : IsRejected agent lines ↔ IsRejected other others

-- all of `SameButSitemaps`, and the same sitemaps
abbrev pub Same : List ℕ → List LineValue → List ℕ → List LineValue → Type 0
Same agent lines other others =
    SameButSitemaps agent lines other others × (sitemaps_in lines ≡ sitemaps_in others)

abbrev pub IsSameKind : LineValue → LineValue → Type 0
IsSameKind (Allow value) (Allow other) = Unit {0}
IsSameKind (Disallow value) (Disallow other) = Unit {0}
IsSameKind line other = ⊥
