use Rattle.std.proofs.Common.{sym, ◌∙◌}
use Rattle.rfc9309.proofs.RobotLemmas.{robotstxt_is_file, rules_read}
use Rattle.rfc9309.proofs.FileLemmas.{file_read, addresses_are, sitemaps_are_read}
use Rattle.rfc9309.proofs.standard_files_are_read_so.Goals as goal

pub returns : goal.returns
returns c = record {
  read = λ text groups agent file. rules_read text agent _ groups (file_read text groups file).1;
  once = λ text groups others file other.
      sym (file_read text groups file).1.same ∙ (file_read text others other).1.same;
  sitemaps = sitemaps_are_read;
  listed = λ text groups file.
      let (addresses, lists) = (file_read text groups file).1.lists in
      let same = addresses_are text addresses lists in
      (addresses, lists, λ others is. sym (addresses_are text others is) ∙ same);
  bare = robotstxt_is_file;
}
