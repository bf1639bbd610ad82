use Rattle.std.proofs.Common.{◌∙◌, Bor, List, ℕ, bytes_eq, codes, map, subst, sym}
use Rattle.std.specs.List.{Contains}
use Rattle.std.proofs.lemmas.{List.Folds.Any-from_list_any, List.map-append, Slice.Eq.bytes_eq-Decides}
use Rattle.robots_rules.proofs.TogetherLemmas.{to_map}
use Rattle.robots_rules.proofs.SettledLemmas.{among_names, among_pushed}
use Rattle.robots_rules.proofs.lines.crawlers_of.Goals as goal

pub returns-then-has_star : goal.returns-then-has_star
returns-then-has_star c =
    let name = λ (agent : Bor (List ℕ)). agent.now in
    let agents = c.in_ok-agents.agents.items in
    let some = rw c.deref.ensures.value at (sym c.has_star.ensures ∙ c.if-has_star.true) in
    let (k, one, below, at, is) =
    Any-from_list_any (λ (agent : Bor (List ℕ)). bytes_eq agent.now (codes "*")) agents some in
    let star : Contains (map name agents) (codes "*") =
    subst (Contains (map name agents)) ((bytes_eq-Decides one.now (codes "*")).0 is)
    (to_map name agents one (k, below, at)) in
    λ agent has. among_names (codes "*") (map name agents) star agent (rw (← c.in_ok-agents.ensures) at has)

pub returns : goal.returns
returns c =
    let name = λ (agent : Bor (List ℕ)). agent.now in
    let agents = c.in_ok-agents.agents.items in
    λ agent has. rw (c.in_ok-push.ensures.items, map-append name agents _)
    (among_pushed (codes "*") (map name agents) agent (rw (← c.in_ok-agents.ensures) at has))
