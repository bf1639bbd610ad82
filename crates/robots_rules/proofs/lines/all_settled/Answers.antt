use Rattle.std.proofs.Common.{Bor, List, ℕ, ap, ap₂, map, sym, take_all, ◌∙◌, ◌++◌, ◌∷◌, []}
use Rattle.std.proofs.lemmas.List.{Elements.All-push, map-append, map_more}
use Rattle.texting_robots.specs.Callers.{file_lines}
use Rattle.robots_rules.specs.Search.{IsSettled, SettledValue}
use Rattle.robots_rules.proofs.lines.all_settled.Goals as goal

pub loop-agent-preserved : goal.loop-agent-preserved
loop-agent-preserved c =
    let all = c.loop-agent.all.items in
    let one = c.in_ok-settled.settled in
    record {
      names = rw c.in-Ok.ensures.items (map-append (λ (s : SettledValue). s.agent) all (one ∷ [])
          ∙ ap₂ (λ (front : List (List ℕ)) (last : List ℕ). front ++ last ∷ []) c.loop-agent.invariant.names
          c.in_ok-settled.ensures.agent
          ∙ sym (map_more (λ (agent : Bor (List ℕ)). agent.now) c.args.crawlers.now c.loop-agent.agent-index _
          c.loop-agent-test.true));
      settled = rw c.in-Ok.ensures.items (All-push (IsSettled (file_lines c.args.site.now)) all one
          c.loop-agent.invariant.settled c.in_ok-settled.ensures.settled);
    }

pub returns-clause-names : goal.returns-clause-names
returns-clause-names c =
    c.loop-agent.invariant.names ∙ ap (map (λ (agent : Bor (List ℕ)). agent.now))
    (take_all c.loop-agent.agent-index c.args.crawlers.now c.loop-agent-test.false)
