-- What the warnings have to know about a file as a whole.
use Rattle.std.specs.Prelude.{[], ℕ, Bool, true, false, nat_eq, nat_lt, List}
use Rattle.std.specs.Prelude.{◌∷◌, drop, if◌then◌else◌, length}
use Rattle.std.specs.{List.starts_with}
use Rattle.texting_robots.specs.Callers.{Allow, Disallow, LineValue, file_limit}

abbrev pub is_rule : LineValue → Bool
is_rule (Allow value) = true
is_rule (Disallow value) = true
is_rule _ = false

abbrev pub mark : List ℕ
mark = 0xEF ∷ 0xBB ∷ 0xBF ∷ []

abbrev pub without_start : List ℕ → List ℕ → List ℕ
without_start start text = if starts_with nat_eq text start then drop (length start) text else text

abbrev pub is_too_large : List ℕ → Bool
is_too_large file = nat_lt file_limit (length file)
