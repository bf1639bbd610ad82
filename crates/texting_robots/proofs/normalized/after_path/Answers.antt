use Rattle.std.proofs.Common.{◌∙◌, ap, arith, inl, inr, sym}
use Rattle.std.proofs.lemmas.{Bool.cases_eq, Bool.false≢true, List.take_rest}
use Rattle.url.specs.Path.{dot_count}
use Rattle.texting_robots.proofs.NormalizedLemmas.{path_more, segment_read, undotted}
use Rattle.texting_robots.proofs.normalized.after_path.Goals as goal

pub loop-rest-preserved-else-is_dots : goal.loop-rest-preserved-else-is_dots
loop-rest-preserved-else-is_dots c =
    let front = ap dot_count (rw take_rest at c.split.ensures.front) in
    let resolved = sym front ∙ elim (cases_eq (dot_count c.split.result.0.now) 0) [
      | inl none ↦ none
      | inr dots ↦ absurd (false≢true (sym c.if-is_dots.false ∙ c.is_dots.ensures.1 dots))
    ] in
    path_more _ _ _ c.loop-rest.invariant (rw (rw take_rest at c.split.ensures.rest)
    (segment_read 1 c.loop-rest.rest.now (omega arith) (omega arith) (omega arith) resolved))

pub loop-rest-preserved : goal.loop-rest-preserved
loop-rest-preserved c =
    let plain = rw take_rest at (sym c.begins_dotted.ensures ∙ c.if-begins_dotted.false) in
    path_more _ _ _ c.loop-rest.invariant (path_more _ _ _ (rw (rw take_rest at c.after.ensures)
    (segment_read 1 c.loop-rest.rest.now (omega arith) (omega arith) (omega arith) (undotted _ plain)))
    c.after_plain-rest-else-begins_dotted.ensures.passed)
