use Rattle.std.proofs.Common.{add-one, arith, drop-cons}
use Rattle.texting_robots.proofs.site.names.hash_of.Goals as goal

pub loop-byte-preserved : goal.loop-byte-preserved
loop-byte-preserved c =
    let left = drop-cons c.args.name.now c.loop-byte.byte-index 0 c.loop-byte-test.true in record {
      small = omega arith;
      hash = rw (c.from.ensures, c.to_ascii_lowercase.ensures.value, add-one)
          (rw left at c.loop-byte.invariant.hash);
    }
