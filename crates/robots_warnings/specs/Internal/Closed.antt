-- What is found of the lines that close a site.
use Rattle.std.specs.Prelude.{◌≡◌, ℕ, Any, Bool, IsTrue, List, MatchOption, Option, Some, length, nat_lt}
use Rattle.std.specs.{Borrow.Bor, List.list_any}
use Rattle.texting_robots.specs.Callers.{PlacedRule}
use Rattle.robots_warnings.specs.{Closed.is_rival, Message.WarningValue, Warnings.is_closing_cause}

-- a pattern has no rival exactly if it has this length at least
abbrev pub IsNeeded : (is_exempt : List ℕ → Bool) → List PlacedRule → ℕ → Type 0
IsNeeded is_exempt rules needed =
    (pattern : List ℕ) → nat_lt (length pattern) needed ≡ list_any (is_rival is_exempt pattern) rules

-- a warning that its line closes the site to the crawler that it names, which one of these rows says
abbrev pub IsClosed : List (Option ℕ × Bor (List ℕ)) → WarningValue → Type 0
IsClosed rows warning =
    IsTrue (is_closing_cause warning.cause) × MatchOption warning.line ⊥ (λ number.
    Any (λ row. (row.0 ≡ Some number) × (warning.about ≡ Some row.1.now)) rows)
