use Rattle.std.proofs.Common.{codes, []}
use Rattle.texting_robots.{specs.Internal.Delay.delay_of, proofs.DelayLemmas.delay_of_is as computed}
use Rattle.texting_robots.proofs.laws.examples_of_delays.Goals as goal

pub returns : goal.returns
unfolding delay_of
returns c = record {
  seconds = (computed (codes "3.14"), computed (codes ".5"), computed (codes "+2.5E1"));
  rounded_down = (computed (codes "1.0000009"), computed (codes "0.0000019"), computed (codes "1e-7"));
  greatest =
      (computed (codes "inf"), computed (codes "INFINITY"), computed (codes "18446744073709.551616"));
  minus =
      (computed (codes "-0"), computed (codes "-1"), computed (codes "-1e-99"), computed (codes "-inf"));
  no_delay = (
    computed [],
    computed (codes "."),
    computed (codes "nan"),
    computed (codes "1e"),
    computed (codes " 5"),
  );
}
