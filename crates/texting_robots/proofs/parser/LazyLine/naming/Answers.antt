use Rattle.std.proofs.Common.{◌≡◌, ◌∙◌, Some, rules, sym}
use Rattle.texting_robots.specs.Internal.Statement.{kind_by}
use Rattle.texting_robots.specs.declared.parser.statement.Kind.TheVariants as kind
use Rattle.texting_robots.proofs.LineLemmas.{agent_tail, agent_value}
use Rattle.texting_robots.proofs.parser.LazyLine.naming.Goals as goal

pub returns-in_ok-tail_as-in-Some-UserAgent : goal.returns-in_ok-tail_as-in-Some-UserAgent
returns-in_ok-tail_as-in-Some-UserAgent c =
    let by : kind_by c.self.inside.text.now ≡ Some kind.UserAgent = search rules in
    let tail = c.in_ok-tail_as-in-Some-UserAgent.ensures in
    rw (← c.self.view_is) (
      agent_tail _ _ c.self.invariant.0 _ by tail,
      c.value_is.ensures ∙ sym (agent_value _ _ c.self.invariant.0 _ _ by tail),
    )
