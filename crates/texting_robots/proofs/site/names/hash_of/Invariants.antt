use Rattle.std.proofs.Common.{◌≡◌, ◌<◌, drop}
use Rattle.std.specs.Str.{str_to_ascii_lowercase}
use Rattle.texting_robots.specs.Internal.Site.{hash_from}
use Rattle.texting_robots.proofs.site.names.hash_of.Given as goal

abbrev pub invariant-loop-byte : goal.invariant-loop-byte
invariant-loop-byte l = record {
  small : l.hash < 16777216;
  hash : hash_from l.hash (str_to_ascii_lowercase (drop l.byte-index l.name))
      ≡ hash_from 0 (str_to_ascii_lowercase l.name);
}
