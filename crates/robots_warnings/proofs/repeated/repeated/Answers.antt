use Rattle.std.proofs.Common.{◌≡◌, ◌∙◌, ◌+◌, ◌<◌, ℕ, List, Some, ap, length, map, option_map, refl, slice_get}
use Rattle.std.proofs.Common.{slice_index_or, true}
use Rattle.std.proofs.lemmas.Option.{slice_get-get_or, slice_get-map}
use Rattle.texting_robots.specs.declared.labels.LabeledLine.{LabeledLine}
use Rattle.texting_robots.specs.Callers.{Label, LineValue, by_value, label_by_value}
use Rattle.robots_warnings.specs.{File.lines_of, Facts.is_rule, Repeated.IsAbove, Repeated.IsRepeat}
use Rattle.robots_warnings.proofs.SeenLemmas.{all_pushed}
use Rattle.robots_warnings.proofs.repeated.repeated.Goals as goal

line_at : (labels : List LabeledLine) (at : ℕ) (labeled : LabeledLine) → at < length labels
    → slice_get (lines_of (map label_by_value labels)) at
    ≡ Some (by_value (slice_index_or labels at labeled).line)
line_at labels at labeled below =
    slice_get-map (λ (label : Label). label.line) (map label_by_value labels) at
    ∙ ap (option_map (λ (label : Label). label.line)) (slice_get-map label_by_value labels at
    ∙ ap (option_map label_by_value) (slice_get-get_or labels at labeled below))

repeat_at : {lines : List LineValue} {at : ℕ} {line : LineValue}
    → (is_rule line ≡ true) × IsAbove lines at line → slice_get lines at ≡ Some line → IsRepeat lines (at + 1)
repeat_at {lines} {at} {line} (rule, again) here =
    record { position = at; line = line; number_is = refl; at = here; rule = rule; again = again }

pub loop-index-preserved : goal.loop-index-preserved
loop-index-preserved c =
    let at = c.loop-index.index in
    let labels = c.args.labels.now in
    let lines = lines_of (map label_by_value labels) in
    let was = c.loop-index.invariant in
    let adds = c.in_ok-repeats.ensures in
    record {
      has = adds.has lines at was.has (line_at labels at _ c.loop-index-test.true);
      are = all_pushed (IsRepeat lines) _ _ (at + 1) was.are
          (λ is. repeat_at (adds.was lines at was.has (c.is_reported-is.ensures is))
          (line_at labels at _ c.loop-index-test.true)) c.in_ok-push_if.ensures;
    }
