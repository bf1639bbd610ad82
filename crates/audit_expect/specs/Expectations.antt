-- Expectations that hold on a robots.txt file.
use Rattle.std.specs.Prelude.{◌≡◌, ℕ, ◌==◌, Bool, true, false, All, List, Option, Some, None, [], ◌∷◌, ◌++◌}
use Rattle.std.specs.Prelude.{flat_map, if◌then◌else◌, is_some, length, map, take}
use Rattle.texting_robots.specs.Callers.{IsRejected, IsVerdict, LineValue, escaped, file_limit, file_lines}
use Rattle.texting_robots.specs.Callers.{lines_read, placed_rules, rules_for}
use Rattle.rfc9309.specs.StandardReading.{IsStandardVerdict, pattern_of}
use Rattle.rfc9309.specs.{Matching.all_stay, Matching.normal_uri, StandardTarget.written_target}
use Rattle.robots_warnings.specs.Crawlers.{Row, crawlers, other_group}
use Rattle.audit_core.specs.{Target.asked_target, Audit.crawlers_in, Standard.text_read}
use Rattle.audit_expect.specs.Expect.{AreExpectedIn, ExpectationValue, is_any}
use Rattle.audit_expect.specs.Patterns.{AreDecidedAs}

-- What is written and what is compared here have the same normal form. They don't if `url` changes what RFC
-- 9309 compares, such as dot segments, a backslash, or an apostrophe in a query.
abbrev pub IsAskedAsWritten : List ℕ → Type 0
IsAskedAsWritten url = normal_uri all_stay (asked_target url) ≡ normal_uri all_stay (written_target url)

-- `url` doesn't change the URL, and this is the verdict in both readings: on what is compared here, and on
-- what is written by RFC 9309
pub record IsDecidedAs (file agent url : List ℕ) (allowed : Bool) : Type 0 where
  pub written : IsAskedAsWritten url
  pub here : IsVerdict (rules_for agent (lines_read file)) (asked_target url) allowed
  pub standard : IsStandardVerdict agent (take file_limit file) (written_target url) allowed

-- each path that the pattern matches has the verdict in both readings; for RFC 9309, the pattern is in normal
-- form, as the rules in the text are
pub record AreDecidedInBoth (file agent : List ℕ) (one : ExpectationValue) : Type 0 where
  pub here : AreDecidedAs (escaped one.url) (placed_rules agent (lines_read file)) one.allowed
  pub standard : AreDecidedAs (escaped (pattern_of all_stay one.url))
      (placed_rules agent (file_lines (text_read file))) one.allowed

-- for this crawler, neither reading rejects the file, and both have the verdict on the URL, or on each path
-- that the pattern matches
pub record HoldsFor (file agent : List ℕ) (one : ExpectationValue) : Type 0 where
  pub accepted : ¬ IsRejected agent (lines_read file)
  pub standard : ¬ IsRejected agent (file_lines (text_read file))
  pub url : one.is_pattern ≡ false → IsDecidedAs file agent one.url one.allowed
  pub pattern : one.is_pattern ≡ true → AreDecidedInBoth file agent one

-- the expectation holds for the crawler, or for the group that its vendor applies in place of the one that
-- applies here, if there is one; with no group, which has an empty name, everything is allowed
abbrev pub HoldsIn : List ℕ → ExpectationValue → (group : Option (List ℕ)) → Type 0
HoldsIn file one None = HoldsFor file one.agent one
HoldsIn file one (Some []) = one.allowed ≡ true
HoldsIn file one (Some (byte ∷ name)) = HoldsFor file (byte ∷ name) one

abbrev pub Holds : (file : List ℕ) → ExpectationValue → Type 0
Holds file one = HoldsIn file one (other_group (lines_read file) one.agent)

-- the name, if the vendor of the crawler applies another group to it than the one that applies here
abbrev pub elsewhere : List LineValue → List ℕ → List (List ℕ)
elsewhere lines name = if is_some (other_group lines name) then name ∷ [] else []

-- `*`, each crawler that the lines name, and each known one with such a vendor: to any other crawler the
-- rules of `*` apply
abbrev pub all_crawlers : List LineValue → List (List ℕ)
all_crawlers lines = crawlers_in lines ++ flat_map (elsewhere lines) (map (λ (row : Row). row.0) crawlers)

-- the expectation, or if it is about any crawler, one about each of these
abbrev pub about_each : List (List ℕ) → ExpectationValue → List ExpectationValue
about_each names one =
    if is_any one.agent then map (λ name. record one { agent = name }) names else one ∷ []

-- if none of the expectations in the text, of which there are some, fails, all of them hold on the file.
-- Which fail isn't stated, as one may also fail because it isn't decided
pub record AreFailuresOf (text file : List ℕ) (failing : ℕ) : Type 0 where
  pub expectations : List ExpectationValue
  pub all : AreExpectedIn text expectations
  pub some : (length expectations == 0) ≡ false
  pub hold : failing ≡ 0
      → All (Holds file) (flat_map (about_each (all_crawlers (lines_read file))) expectations)
