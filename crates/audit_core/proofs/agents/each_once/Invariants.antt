use Rattle.std.proofs.Common.{◌≡◌, [], drop, map}
use Rattle.texting_robots.specs.{Callers.UserAgent}
use Rattle.audit_core.specs.{Audit.with_names, Internal.Agents.HasAgents}
use Rattle.audit_core.proofs.agents.each_once.Given as goal

abbrev pub invariant-loop-name : goal.invariant-loop-name
invariant-loop-name l = record {
  met : HasAgents l.met (map (λ name. name.now) l.names.items);
  names : with_names (map (λ name. name.now) l.names.items)
      (map UserAgent (map (λ name. name.now) (drop l.name-index l.given)))
      ≡ with_names [] (map UserAgent (map (λ name. name.now) l.given));
}
