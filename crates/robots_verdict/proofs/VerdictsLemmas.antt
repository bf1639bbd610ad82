-- Verdict lines: how they are appended one by one, that the URLs determine them, and that rules which decide
-- alike have the same lines.
use Rattle.std.proofs.Common.{arith, ◌≡◌, ℕ, ◌+◌, ◌<◌, List, [], ◌∷◌, ◌++◌, length, map, take, append_assoc}
use Rattle.std.proofs.Common.{refl, slice_index_or}
use Rattle.std.specs.List.{AllZip}
use Rattle.std.proofs.lemmas.List.{append-nil, map-append, take_more, Elements.AllZip-push}
use Rattle.texting_robots.specs.Callers.{AnswerAlike, PlacedRule, prepared}
use Rattle.texting_robots.specs.{Decision.IsDecisionOn, declared.decision.Decision.Decision}
use Rattle.texting_robots.proofs.Shared.{each_text_answered}
use Rattle.safe_output.{specs.Lines.ended, proofs.SanitizeLemmas.lines_added}
use Rattle.robots_verdict.specs.Report.{AddsVerdict, AddsVerdicts, IsVerdictLine, verdict_front}

module _ (rules : List PlacedRule) where
  pub adds_nothing : (text : List ℕ) → AddsVerdicts rules [] text text
  adds_nothing text = grind (arith, append-nil)

  -- appending the verdict and the line number, then the URL and LF, appends a verdict line
  pub adds_one : (decision : Decision) (url old mid new : List ℕ) → IsDecisionOn rules (prepared url) decision
      → mid ≡ old ++ verdict_front decision.allowed decision.line
      → new ≡ mid ++ ended (url ∷ [])
      → AddsVerdict rules url old new
  adds_one decision url old mid new decided front back =
      let before = verdict_front decision.allowed decision.line in
      record {
        line = before ++ url;
        verdict = grind arith;
        whole = rw (back, front) (simp (append_assoc, append-nil));
      }

  -- loop step for the next URL of a list
  pub adds_next : {A : Type 0} (f : A → List ℕ) (items : List A) (place : ℕ) (item : A)
      (old mid new : List ℕ)
      → place < length items → AddsVerdicts rules (map f (take place items)) old mid
      → AddsVerdict rules (f (slice_index_or items place item)) mid new
      → AddsVerdicts rules (map f (take (place + 1) items)) old new
  adds_next f items place item old mid new below first then = record {
    lines = first.lines ++ then.line ∷ [];
    verdicts = rw (take_more items place item below, map-append)
        (AllZip-push (IsVerdictLine rules) (map f (take place items)) first.lines
        (f (slice_index_or items place item)) then.line first.verdicts then.verdict);
    whole = lines_added old mid new first.lines (then.line ∷ []) first.whole then.whole;
  }

  line_once : (url line other : List ℕ) → IsVerdictLine rules url line
      → IsVerdictLine rules url other → line ≡ other
  line_once url line other one two =
      let a = one.decided in
      let b = two.decided in
      let text = prepared url in
      grind arith

  pub lines_once : (urls lines others : List (List ℕ)) → AllZip (IsVerdictLine rules) urls lines
      → AllZip (IsVerdictLine rules) urls others → lines ≡ others
  lines_once [] [] [] one two = refl
  lines_once [] [] (other ∷ others) one two = absurd two
  lines_once [] (line ∷ lines) others one two = absurd one
  lines_once (url ∷ urls) [] others one two = absurd one
  lines_once (url ∷ urls) (line ∷ lines) [] one two = absurd two
  lines_once (url ∷ urls) (line ∷ lines) (other ∷ others) (one, more) (two, rest) =
      let first = line_once url line other one two in
      let later = lines_once urls lines others more rest in
      cc

  pub some_lines : (urls : List (List ℕ))
      → (lines : List (List ℕ)) × AllZip (IsVerdictLine rules) urls lines
  some_lines [] = ([], tt)
  some_lines (url ∷ urls) =
      let answered = each_text_answered rules (prepared url) in
      let decision : Decision = record { allowed = answered.allowed; line = answered.number } in
      let (lines, are) = some_lines urls in (
        (verdict_front answered.allowed answered.number ++ url) ∷ lines,
        (
          record {
            decision = decision;
            decided = grind arith;
            whole = refl;
          },
          are,
        ),
      )

pub lines_like : (rules others : List PlacedRule) → AnswerAlike rules others
    → (urls lines : List (List ℕ)) → AllZip (IsVerdictLine rules) urls lines
    → AllZip (IsVerdictLine others) urls lines
lines_like rules others alike [] [] are = tt
lines_like rules others alike [] (line ∷ lines) are = absurd are
lines_like rules others alike (url ∷ urls) [] are = absurd are
lines_like rules others alike (url ∷ urls) (line ∷ lines) (first, later) =
    grind (arith, lines_like rules others alike urls lines later)
