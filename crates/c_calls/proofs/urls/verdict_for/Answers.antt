use Rattle.c_calls.proofs.NumberLemmas.{lines_fit}
use Rattle.c_calls.proofs.urls.verdict_for.Goals as goal

pub number_for-requires : goal.number_for-requires
number_for-requires c = lines_fit _ c.requires
