use Rattle.std.proofs.Common.{ℕ, List, IsPermutation, ap, arith, refl, slice_get, subst, sym, ◌∙◌}
use Rattle.std.{specs.Option.option_or, proofs.lemmas.List.append-nil}
use Rattle.texting_robots.specs.Executable.{delay_before_agents, file_lines, placed_in, rule_in}
use Rattle.texting_robots.specs.{Group.group_name, Line.delay_in, Pattern.IsOverlong}
use Rattle.texting_robots.{specs.Rules.PlacedRule, specs.Rules.Rule, proofs.CapturedLemmas.captured_walked}
use Rattle.texting_robots.proofs.RulesLemmas.{all_added, first_or_cons, append_option, none_if_empty}
use Rattle.texting_robots.proofs.RulesLemmas.{none_unplaced, first_overlong, option_or_none, rejected_wider}
use Rattle.texting_robots.proofs.MainTheoremLemmas.{if_err, overlong_rejected}
use Rattle.texting_robots.proofs.builder.read_file.Goals as goal

pub loop-position-preserved : goal.loop-position-preserved
loop-position-preserved c =
    let (next, here, further, _) = c.in-Some.ensures.steps in
    let name =
    rw (c.lazy_file_lines.ensures.value, c.as_bytes.ensures.value) at c.group_for-group.ensures.name in
    let added = rw (name, here) at c.in_ok-take.ensures in
    let so_far = c.loop-position.invariant in
    rw (added.tracker, further) (record {
      known = added.known;
      rules = append_option _ _ _ _ added.rules ∙ rw next at so_far.rules;
      sitemaps = append_option _ _ _ _ added.sitemaps ∙ rw next at so_far.sitemaps;
      delay = first_or_cons _ _ _ _ added.delay ∙ rw next at so_far.delay;
      accepted = all_added (λ (placed : PlacedRule). ¬ IsOverlong placed.rule.0) _ _ _
          added.rules added.accepted so_far.accepted;
    })

pub loop-position-init : goal.loop-position-init
loop-position-init c =
    let lines = file_lines c.args.txt.now in
    let name = group_name c.args.agent.now lines in
    let start = rw c.lazy_file_lines.ensures.value at c.group_for-group.ensures.start in
    let items = c.enumerate-position-items.ensures in
    let source = items.source ∙ c.lazy_file_lines-2.ensures.value in
    let empty = c.new-reading.ensures in
    rw (
      c.into_iter-position-iterator.ensures.into_iter_gives,
      items.count,
      source,
      empty.tracker ∙ start,
      empty.rules,
      empty.sitemaps,
      empty.delay,
    ) (record {
      known = empty.known;
      rules = sym (captured_walked placed_in name lines);
      sitemaps = refl;
      delay = ap (λ (delays : List ℕ). slice_get delays 0)
          (sym (captured_walked (λ p. delay_in p.1) name lines));
      accepted = λ k d below. absurd (omega arith);
    })

pub returns-in_err-take-clause-rejected : goal.returns-in_err-take-clause-rejected
returns-in_err-take-clause-rejected c =
    let (next, here, _, _) = c.in-Some.ensures.steps in
    let so_far = c.loop-position.invariant in
    if_err c.from_residual.result c.in_err-take.field-0.0 _ c.from_residual.ensures.1
    (rejected_wider _ _ _ (λ is. overlong_rejected c.args.agent.now c.args.txt.now _ (first_overlong _
    c.loop-position.reading.tracker.captured (rule_in c.in-Some.line) _ _ _ (rw next at so_far.rules)
    so_far.accepted is)) (rw here at c.in_err-take.ensures.rejected))

-- a line that fails gives a rule or a sitemap, so no line fails if the file gives neither
pub returns-in_err-take-clause-without_memory : goal.returns-in_err-take-clause-without_memory
returns-in_err-take-clause-without_memory c =
    grind (arith, none_if_empty, c.in-Some.ensures.steps, c.loop-position.invariant)

pub returns-clause-robot : goal.returns-clause-robot
returns-clause-robot c =
    let lines = file_lines c.args.txt.now in
    let ((end, gone), _) = c.in-None.ensures.steps in
    let so_far = c.loop-position.invariant in
    let rules = rw (end, append-nil) at so_far.rules in
    let sorted =
    subst (λ (all : List PlacedRule). IsPermutation all c.sorted.result) rules c.sorted.ensures in
    let first = rw end at so_far.delay in
    let early = rw c.lazy_file_lines.ensures.value at c.group_for-group.ensures.delay in
    let none = none_unplaced (λ (rule : Rule). IsOverlong rule.0) _ so_far.accepted in
    record {
      delay = c.or.ensures ∙ ap (λ last. option_or c.loop-position.reading.delay last) early
          ∙ ap (λ delay. option_or delay (delay_before_agents lines)) (sym (option_or_none _) ∙ first);
      sitemaps = rw (end, append-nil) at so_far.sitemaps;
      rules = sorted;
      accepted = rw rules at none;
    }
