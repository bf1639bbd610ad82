-- An empty line at the start of a text, which ends with LF or NUL, only moves the numbers of the later lines.
use Rattle.std.proofs.Common.{◌≡◌, ℕ, suc, ◌+◌, ◌==◌, Bool, true, List, [], ◌∷◌, Option, drop, refl, arith}
use Rattle.std.proofs.Common.{inl, inr}
use Rattle.std.specs.List.{list_any}
use Rattle.std.proofs.lemmas.Bool.{cases_Bool, cond-true}
use Rattle.texting_robots.specs.{Cut.lf, Executable.sitemaps_in, Group.is_agent, Line.LineValue, Line.Raw}
use Rattle.texting_robots.specs.Internal.Cut.{empty_lines, is_feed, read_as}
use Rattle.texting_robots.specs.Internal.{Line.lines_of, Site.named_from, Site.tagged_from}
use Rattle.texting_robots.proofs.{CutLemmas.cut_cons, LineLemmas.line_without_kind, RulesLemmas.delay_from}

feed_adds : (b : ℕ) (text : List ℕ) → (b == lf) ≡ true
    → lines_of (b ∷ text) ≡ Raw [] ∷ lines_of text
feed_adds b text feed = grind (arith, cond-true, cut_cons, line_without_kind)

pub past_empty : {X : Type 0} (given : ℕ → List LineValue → X)
    → ((position : ℕ) (left : List LineValue)
    → given position (Raw [] ∷ left) ≡ given (position + 1) left)
    → (n : Bool) (position : ℕ) (text : List ℕ)
    → (let k = empty_lines n text in
    given position (lines_of (read_as n text)) ≡ given (position + k) (lines_of (read_as n (drop k text))))
past_empty given step n position [] = grind arith
past_empty given step n position (b ∷ text) =
    let k = empty_lines n text in
    elim (cases_Bool (is_feed n b)) [
      | inl feed ↦
          let more : 1 + k ≡ suc k = omega arith in
          grind (arith, feed_adds, given, step, past_empty given step n (position + 1) text)
      | inr other ↦ grind (arith, given)
    ]

module _ (n : Bool) (position : ℕ) (text : List ℕ) where
  abbrev k : ℕ
  k = empty_lines n text

  abbrev lines : List LineValue
  lines = lines_of (read_as n text)

  abbrev left : List LineValue
  left = lines_of (read_as n (drop k text))

  pub tagged_past : (group : ℕ) (joins : Bool)
      → tagged_from group joins position lines ≡ tagged_from group joins (position + k) left
  tagged_past group joins = past_empty (tagged_from group joins) (λ p left. refl) n position text

  pub named_past : (group : ℕ) (joins : Bool) (count : ℕ)
      → named_from group joins position count lines ≡ named_from group joins (position + k) count left
  named_past group joins count =
      past_empty (λ p left. named_from group joins p count left) (λ p left. refl) n position text

  pub sitemaps_past : sitemaps_in lines ≡ sitemaps_in left
  sitemaps_past = past_empty (λ p left. sitemaps_in left) (λ p left. refl) n position text

  pub agents_past : list_any is_agent lines ≡ list_any is_agent left
  agents_past = past_empty (λ p left. list_any is_agent left) (λ p left. refl) n position text

  pub delay_past : (last : Option ℕ) → delay_from last lines ≡ delay_from last left
  delay_past last = past_empty (λ p left. delay_from last left) (λ p left. refl) n position text
