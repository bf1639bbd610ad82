use Rattle.texting_robots.proofs.ExecutableLemmas.{delay_is_computed}
use Rattle.texting_robots.proofs.laws.each_agent_has_its_delay.Goals as goal

pub returns : goal.returns
returns c = delay_is_computed
