use Rattle.std.proofs.Common.{map, refl, ◌+◌}
use Rattle.std.proofs.lemmas.List.{drop-map, take_rest}
use Rattle.texting_robots.specs.Callers.{file_lines, label_by_value}
use Rattle.robots_warnings.{specs.Closed.IsReplacing, specs.File.lines_of, proofs.SeenLemmas.all_pushed}
use Rattle.robots_warnings.proofs.replaced.replacing.Goals as goal

pub loop-index-preserved : goal.loop-index-preserved
loop-index-preserved c =
    let agents = map (λ agent. agent.now) c.args.agents.now in
    let at = c.loop-index.index in
    let labels = map label_by_value c.args.labels.now in
    all_pushed (IsReplacing agents (file_lines c.args.site.now) (lines_of labels)) _ _ (at + 1)
    c.loop-index.invariant (λ is. (
      at,
      refl,
      simp (drop-map, drop-map)
          (rw take_rest at (c.in_ok-is.ensures is)),
    ))
    c.in_ok-push_if.ensures
