use Rattle.std.{proofs.Common.◌≡◌, proofs.Common.take, specs.List.list_all}
use Rattle.texting_robots.specs.Internal.Cut.{is_feed}
use Rattle.texting_robots.proofs.parser.cut.all_feed.Given as goal

abbrev pub invariant-loop-byte : goal.invariant-loop-byte
invariant-loop-byte l = l.all ≡ list_all (is_feed l.nul_ends) (take l.byte-index l.bytes)
