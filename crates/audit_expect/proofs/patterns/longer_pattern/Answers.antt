use Rattle.std.proofs.Common.{length, refl}
use Rattle.std.proofs.lemmas.List.{take_rest}
use Rattle.audit_expect.proofs.PatternLemmas.{longer_matches}
use Rattle.audit_expect.proofs.patterns.longer_pattern.Goals as goal

pub returns : goal.returns
returns c =
    longer_matches c.longest.result c.args.pattern.now c.before_byte-front.result.now _
    c.before_byte-front.ensures (rw (
      c.in_ok-push_escaped_bytes.ensures.ok,
      c.in_ok-push_str-2.ensures.bytes,
      c.deref.ensures,
      c.in_ok-repeat.ensures.bytes,
      c.in_ok-push_str.ensures.bytes,
      c.in_ok-longer.ensures,
      take_rest c.args.pattern.now (length c.before_byte-front.result.now),
    ) refl)
