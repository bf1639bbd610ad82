use Rattle.std.proofs.Common.{◌++◌, ap, map, sym, ◌∙◌, arith}
use Rattle.texting_robots.proofs.RulesLemmas.{append_option}
use Rattle.texting_robots.proofs.SiteNameLemmas.{all_left, left_again, left_at, left_first, agent_at}
use Rattle.texting_robots.proofs.site.Site.agents.Goals as goal

pub loop-position-init : goal.loop-position-init
loop-position-init c = grind (arith, all_left, left_at)

pub loop-position-preserved-then-first-position : goal.loop-position-preserved-then-first-position
loop-position-preserved-then-first-position c =
    let position = c.loop-position.position in
    let at = agent_at c.lines-line-items.result.now _ position _ c.lines-line-items.ensures
    c.loop-position-test.true c.line-item.is in
    let first = rw c.deref.ensures.value at c.first.ensures in
    ap (λ left. map (λ agent. agent.now) c.loop-position.agents.items ++ left)
    (left_again c.self.inside.names position _ at (λ same. c.if-first-position.true (first ∙ same)))
    ∙ c.loop-position.invariant

pub loop-position-preserved : goal.loop-position-preserved
loop-position-preserved c =
    let position = c.loop-position.position in
    let at = agent_at c.lines-line-items.result.now _ position _ c.lines-line-items.ensures
    c.loop-position-test.true c.line-item.is in
    let first = rw c.deref.ensures.value at c.first.ensures in
    append_option _ _ _ _ (rw c.deref-in-loop-position.ensures.value at c.in_ok-push_if_text.ensures)
    ∙ ap (λ left. map (λ agent. agent.now) c.loop-position.agents.items ++ left)
    (sym (left_first c.self.inside.names position _ at (sym first ∙ c.if-first-position.false)))
    ∙ c.loop-position.invariant
