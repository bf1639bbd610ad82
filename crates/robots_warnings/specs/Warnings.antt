-- The warnings whose absence says something: none is missing where it is so.
use Rattle.std.specs.Prelude.{[], ◌≡◌, ℕ, Bool, IsTrue, Any, List, ◌∷◌, Some, None, Option, MatchOption, ⊤}
use Rattle.std.specs.Prelude.{false, if◌then◌else◌, true}
use Rattle.texting_robots.specs.Callers.{LineValue}
use Rattle.robots_warnings.specs.declared.table.Cause.{Cause}
use Rattle.robots_warnings.specs.declared.table.Cause.TheVariants as cause
use Rattle.robots_warnings.specs.Conflicts.{overrules_for_one}
use Rattle.robots_warnings.specs.{Closed.line_closing_site, Message.WarningValue, Targets.has_odd_target}

-- about a URL that the user passed
abbrev pub url_warnings : List ℕ → List WarningValue
url_warnings url =
    if has_odd_target url then
    record { line = None; cause = cause.UrlNotNormal; about = Some url; detail = None } ∷ [] else []

-- a warning for such a reason about the line with this number
abbrev pub IsAbout : (is_reason : Cause → Bool) → (number : ℕ) → WarningValue → Type 0
IsAbout is_reason number warning = (warning.line ≡ Some number) × IsTrue (is_reason warning.cause)

-- each of these lines has such a warning
abbrev pub HasEach : (is_reason : Cause → Bool) → (IsIn : ℕ → Type 0) → (found : List WarningValue) → Type 0
HasEach is_reason IsIn found = (number : ℕ) → IsIn number → Any (IsAbout is_reason number) found

-- that a line closes a site
abbrev pub is_closing_cause : Cause → Bool
is_closing_cause cause.ClosedSite = true
is_closing_cause cause.ClosedSiteToOthers = true
is_closing_cause other = false

-- if there is a line, there is such a warning about it
abbrev pub IsTold : (found : List WarningValue) → (line : Option ℕ) → Type 0
IsTold found line = MatchOption line ⊤ (λ number. Any (IsAbout is_closing_cause number) found)

abbrev pub ClosesToOne : (agents : List (List ℕ)) → List LineValue → (number : ℕ) → Type 0
ClosesToOne agents lines number = Any (λ agent. line_closing_site lines agent ≡ Some number) agents

-- where a line closes the site to one of these crawlers, there is such a warning about this line
abbrev pub HasClosed : (agents : List (List ℕ)) → List LineValue → (found : List WarningValue) → Type 0
HasClosed agents lines found = HasEach is_closing_cause (ClosesToOne agents lines) found

abbrev pub is_empty_cause : Cause → Bool
is_empty_cause cause.EmptyDisallow = true
is_empty_cause other = false

-- where an empty Disallow overrules a Disallow for one of these crawlers, its line has such a warning;
-- `is_empty` holds for the numbers of empty Disallows
abbrev pub HasOverruling : (is_empty : ℕ → Bool) → (agents : List (List ℕ)) → List LineValue
    → (found : List WarningValue) → Type 0
HasOverruling is_empty agents lines found =
    HasEach is_empty_cause (λ number. IsTrue (overrules_for_one is_empty agents lines number)) found
