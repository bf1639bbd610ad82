use Rattle.std.proofs.Common.{map, take}
use Rattle.std.specs.List.{AllZip}
use Rattle.audit_compare.specs.Compare.{IsCompared}
use Rattle.audit_compare.proofs.compare.crawlers_of.Given as goal

abbrev pub invariant-loop-agent : goal.invariant-loop-agent
invariant-loop-agent l =
    AllZip
    (IsCompared (map (λ url. url.now) l.urls) l.older.here.bytes.now l.newer.here.bytes.now)
    (map (λ agent. agent.now) (take l.agent-index l.agents)) l.crawlers.items
