-- Which warnings are reported, chosen by name.
use Rattle.std.specs.Prelude.{ℕ, ◌==◌, Bool, not, ◌||◌, ◌&&◌, List, bytes_eq, filter, length}
use Rattle.std.specs.{List.list_any}
use Rattle.robots_warnings.specs.{Table.name_of, Message.WarningValue}

abbrev pub is_among_names : List (List ℕ) → List ℕ → Bool
is_among_names names name = list_any (λ other. bytes_eq other name) names

-- `only` is empty or contains the name, and `ignored` doesn't contain it
abbrev pub is_chosen : List (List ℕ) → List (List ℕ) → List ℕ → Bool
is_chosen only ignored name =
    (length only == 0 || is_among_names only name) && not (is_among_names ignored name)

-- the warnings that are reported, in order
abbrev pub chosen : List (List ℕ) → List (List ℕ) → List WarningValue → List WarningValue
chosen only ignored warnings =
    filter (λ (warning : WarningValue). is_chosen only ignored (name_of warning.cause)) warnings
