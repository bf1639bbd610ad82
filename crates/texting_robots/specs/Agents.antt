-- Which crawlers a file names.
use Rattle.std.specs.Prelude.{Bool, List, [], ◌∷◌, ◌++◌, ℕ, Option, Some, None, filter, bytes_eq}
use Rattle.std.specs.Prelude.{if◌then◌else◌}
use Rattle.std.specs.{List.filter_map, List.list_any, Str.is_utf8, Str.str_to_ascii_lowercase}
use Rattle.texting_robots.specs.Line.{LineValue, UserAgent}

-- whether one of these names equals the name, ASCII letters in any case
abbrev pub is_among : List ℕ → List (List ℕ) → Bool
is_among name names =
    list_any (λ other. bytes_eq (str_to_ascii_lowercase other) (str_to_ascii_lowercase name)) names

-- the names, without those that equal an earlier one, or one of `earlier`
abbrev pub each_once : List (List ℕ) → List (List ℕ) → List (List ℕ)
each_once earlier [] = []
each_once earlier (name ∷ names) =
    if is_among name earlier then each_once (earlier ++ name ∷ []) names
    else name ∷ each_once (earlier ++ name ∷ []) names

abbrev pub agent_in : LineValue → Option (List ℕ)
agent_in (UserAgent name) = Some name
agent_in _ = None

-- the names in user-agent lines, in order and each once; a product token is a string, so others aren't names
abbrev pub agents_in : List LineValue → List (List ℕ)
agents_in lines = filter is_utf8 (each_once [] (filter_map agent_in lines))
