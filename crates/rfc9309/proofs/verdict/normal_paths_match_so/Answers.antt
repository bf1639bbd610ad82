use Rattle.rfc9309.proofs.{NormalLemmas.matches_so, VerdictLemmas.octets_are, VerdictLemmas.octets_written}
use Rattle.rfc9309.proofs.verdict.normal_paths_match_so.Goals as goal

pub returns : goal.returns
returns c = record {
  matching = matches_so;
  octets = octets_are;
  written = octets_written;
}
