use Rattle.std.proofs.{Common.rules, lemmas.List.nil_from_length}
use Rattle.texting_robots.proofs.PreparedLemmas.{target_read}
use Rattle.texting_robots.proofs.normalized.is_target.Goals as goal

pub returns : goal.returns
returns c empty =
    target_read c.args.text.now c.in-Some.query.now _ _ c.in-Some.ensures c.after_delimited-fragment.ensures
    c.after_delimited.ensures (nil_from_length _ (search rules))
