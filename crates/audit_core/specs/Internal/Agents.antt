-- The list of the names found so far, and the set that contains them in lower case.
use Rattle.std.specs.Prelude.{◌≡◌, ℕ, Bool, List, bytes_eq}
use Rattle.std.specs.{BTreeSet.BTreeSet, BTreeSet.contains, List.list_any, Str.str_to_ascii_lowercase}
use Rattle.texting_robots.specs.Callers.{LineValue}
use Rattle.robots_warnings.specs.Internal.Names.{Key, key_cmp}
use Rattle.audit_core.specs.Audit.{with_name}

abbrev pub has_lowered : List ℕ → List (List ℕ) → Bool
has_lowered lowered names = list_any (λ name. bytes_eq (str_to_ascii_lowercase name) lowered) names

pub record HasAgents (met : BTreeSet Key) (names : List (List ℕ)) : Type 0 where
  pub each : (key : Key) → contains key_cmp met key ≡ has_lowered key.items names

-- the name of a line, if it is a new one, is appended to the list and inserted into the set
pub record AddsAgent (old_met new_met : BTreeSet Key) (old new : List (List ℕ)) (line : LineValue)
    : Type 0 where
  pub names : HasAgents old_met old → new ≡ with_name old line
  pub met : HasAgents old_met old → HasAgents new_met new
