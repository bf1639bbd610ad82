-- If each block that has rules keeps one, the lines that are left apply to the same crawlers.
use Rattle.std.proofs.Common.{◌≡◌, ℕ, ◌+◌, ◌==◌, Bool, true, false, not, ◌||◌, [], List, ◌∷◌, Option, Some}
use Rattle.std.proofs.Common.{None, ap, sym, refl, ◌∙◌, arith, filter, filter_map, map, if◌then◌else◌}
use Rattle.std.specs.List.{enumerate_from, list_any}
use Rattle.texting_robots.specs.declared.groups.GroupTracker.{GroupTracker}
use Rattle.texting_robots.specs.Executable.{captured_lines, placed_in, placed_rules, rules_for}
use Rattle.texting_robots.specs.{Line.LineValue, Line.Raw, Line.is_raw, Rules.PlacedRule, Rules.unplaced}
use Rattle.texting_robots.specs.{Theorems.Same, Group.group_name, Group.is_agent}
use Rattle.texting_robots.specs.Internal.Group.{from_captured, start_of, step}
use Rattle.texting_robots.proofs.Shared.{captured_walked, named_is_agent, raw_changes_nothing}
use Rattle.robots_rules.specs.declared.blocks.Block.{Block}
use Rattle.robots_rules.specs.Blocks.{block_after, is_rule, keep_blocks_from, left_from, no_rule}
use Rattle.robots_rules.specs.Needless.{lines_without, without}

abbrev pub among : List ℕ → ℕ → Bool
among numbers n = list_any (λ number. number == n) numbers

pub left_are : {A : Type 0} (numbers : List ℕ) (position : ℕ) (lines : List A)
    → map (λ (p : ℕ × A). p.1)
    (filter (λ (p : ℕ × A). not (among numbers (p.0 + 1))) (enumerate_from position lines))
    ≡ left_from (among numbers) position lines
left_are numbers position [] = refl
left_are numbers position (line ∷ lines) = grind (arith, left_are numbers (position + 1) lines)

pub rule_isnt_agent : (line : LineValue) → is_rule line ≡ true → is_agent line ≡ false
rule_isnt_agent line is = grind arith

next_block : (gone : ℕ → Bool) (block : Block) (position : ℕ) (line : LineValue) (lines : List LineValue)
    → keep_blocks_from gone block position (line ∷ lines) ≡ true
    → (next : Block) × (block_after block (gone (position + 1)) line ≡ Some next)
    × (keep_blocks_from gone next (position + 1) lines ≡ true)
next_block gone block position line lines keeps = grind arith

abbrev blank : (ℕ → Bool) → ℕ → List LineValue → List LineValue
blank gone position [] = []
blank gone position (line ∷ lines) =
    (if gone (position + 1) then Raw [] else line) ∷ blank gone (position + 1) lines

abbrev is_meant : LineValue → Bool
is_meant line = not (is_raw line)

left_as_blanked : (gone : ℕ → Bool) (position : ℕ) (lines : List LineValue)
    → filter is_meant (left_from gone position lines) ≡ filter is_meant (blank gone position lines)
left_as_blanked gone position [] = refl
left_as_blanked gone position (line ∷ lines) = grind (arith, left_as_blanked gone (position + 1) lines)

-- the next line is captured or not in the same way
record AreAlike (block : Block) (tracker other : GroupTracker) : Type 0 where
  captured : tracker.captured ≡ other.captured
  named : block.is_lost ≡ false → tracker.named ≡ other.named
  unnamed : block.has_rule ≡ true → other.named ≡ false

module _ (gone : ℕ → Bool) (name : List ℕ) where
  -- what is found in the lines that stay
  abbrev masked : {X : Type 0} → (ℕ × LineValue → Option X) → ℕ × LineValue → Option X
  masked given line = if gone (line.0 + 1) then None else given line

  walked : {X : Type 0} (given : ℕ × LineValue → Option X)
      → ((position : ℕ) → given (position, Raw []) ≡ None) → (position : ℕ) (lines : List LineValue)
      (block : Block) (tracker other : GroupTracker) → AreAlike block tracker other
      → keep_blocks_from gone block position lines ≡ true
      → from_captured given name other position (blank gone position lines)
      ≡ from_captured (masked given) name tracker position lines
  walked given none position [] block tracker other alike keeps = refl
  walked {X} given none position (line ∷ lines) block tracker other alike keeps =
      grind (arith, next_block, walked given none (position + 1) lines)

  abbrev staying : List PlacedRule → List PlacedRule
  staying = filter (λ (p : PlacedRule). not (gone p.line))

  masked_rules : (lines : List (ℕ × LineValue))
      → filter_map (masked placed_in) lines ≡ staying (filter_map placed_in lines)
  masked_rules [] = refl
  masked_rules ((position, line) ∷ lines) = grind (arith, masked_rules lines)

-- ---- what no rule gives

module _ (gone : ℕ → Bool) where
  -- so what reads line after line, and no rule, gives the same without them
  same_blank : {A : Type 0} (read : List LineValue → A) (step : LineValue → A → A)
      → ((line : LineValue) (lines : List LineValue) → read (line ∷ lines) ≡ step line (read lines))
      → ((line : LineValue) (later : A) → is_rule line ≡ true → step line later ≡ step (Raw []) later)
      → (block : Block) (position : ℕ) (lines : List LineValue)
      → keep_blocks_from gone block position lines ≡ true → read (blank gone position lines) ≡ read lines
  same_blank read step first none block position [] keeps = refl
  same_blank read step first none block position (line ∷ lines) keeps =
      let (next, is, more) = next_block gone block position line lines keeps in
      let same = same_blank read step first none next (position + 1) lines more in
      grind (arith, first, none line (read lines))

module _ (numbers : List ℕ) (lines : List LineValue)
    (keeps : keep_blocks_from (among numbers) no_rule 0 lines ≡ true) where
  abbrev goes : ℕ → Bool
  goes = among numbers

  abbrev rest : List LineValue
  rest = blank goes 0 lines

  same_any : (test : LineValue → Bool) → test (Raw []) ≡ false
      → ((line : LineValue) → is_rule line ≡ true → test line ≡ false)
      → list_any test rest ≡ list_any test lines
  same_any test none others = same_blank goes (list_any test) (λ line later. test line || later)
      (λ _ _. refl) (λ line later is. rw (none, others line is) refl) no_rule 0 lines keeps

  same_name : (agent : List ℕ) → group_name agent rest ≡ group_name agent lines
  same_name agent = grind (arith, same_any, named_is_agent, rule_isnt_agent)

  same_agents : list_any is_agent rest ≡ list_any is_agent lines
  same_agents = same_any is_agent refl rule_isnt_agent

  same_lines : (agent : List ℕ) → Same agent (lines_without numbers lines) agent rest
  same_lines agent = raw_changes_nothing agent _ _
      (ap (filter is_meant) (left_are numbers 0 lines) ∙ left_as_blanked goes 0 lines)

  captured : {X : Type 0} (given : ℕ × LineValue → Option X)
      → ((position : ℕ) → given (position, Raw []) ≡ None) → (name : List ℕ)
      → filter_map given (captured_lines name rest)
      ≡ from_captured (masked goes name given) name (start_of lines) 0 lines
  captured given none name = grind (arith, captured_walked, same_agents, walked)

  pub deleted : (agent : List ℕ)
      → rules_for agent (lines_without numbers lines) ≡ unplaced (without numbers (placed_rules agent lines))
  deleted agent =
      let name = group_name agent lines in
      (same_lines agent).0.rules
      ∙ ap unplaced (ap (λ name. filter_map placed_in (captured_lines name rest)) (same_name agent)
      ∙ captured placed_in (λ _. refl) name
      ∙ sym (captured_walked (masked goes name placed_in) name lines)
      ∙ masked_rules goes name (captured_lines name lines))
