use Rattle.texting_robots.proofs.DelayLemmas.{delay_computed}
use Rattle.texting_robots.proofs.laws.each_text_has_one_delay.Goals as goal

pub returns : goal.returns
returns c = delay_computed
