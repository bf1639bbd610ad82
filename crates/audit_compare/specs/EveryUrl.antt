-- What becomes of the verdicts of all URLs. Crawlers ask for match targets, which begin with `/`.
use Rattle.std.specs.Prelude.{◌≡◌, ◌≢◌, ◌==◌, ◌&&◌, ℕ, Bool, true, false, List, [], None, Option, Some}
use Rattle.std.specs.Prelude.{IsTrue, codes, if◌then◌else◌, is_none, length, string_bytes, unwrap_or}
use Rattle.texting_robots.specs.Callers.{LineValue, PlacedRule, lines_read, placed_rules}
use Rattle.texting_robots.specs.{Callers.unplaced, Decision.IsDecisionOn, Group.is_agent}
use Rattle.std.specs.{List.list_any}
use Rattle.rfc9309.specs.{Matching.all_stay, Matching.normal_uri, StandardTarget.written_target}
use Rattle.robots_rules.specs.Same.{HaveSameVerdicts}
use Rattle.robots_warnings.specs.{Crawlers.other_group}
use Rattle.audit_core.specs.{Standard.text_lines, Target.asked_target}
use Rattle.audit_compare.specs.declared.every_url.{Example.Example, InBoth.InBoth, Verdicts.Verdicts}
use Rattle.audit_compare.specs.declared.every_url.Verdicts.TheVariants.{Other, Same, Undecided}
use Rattle.audit_compare.specs.declared.{vendor.VendorChange.VendorChange}

-- crawlers ask for the path as it is, and it is what RFC 9309 compares of it
abbrev pub IsNormal : List ℕ → Type 0
IsNormal path = (asked_target path ≡ path) × (normal_uri all_stay (written_target path) ≡ path)

-- what both files decide on the path, which is in normal form in RFC 9309's reading; the verdicts differ
pub record IsExample (is_standard : Bool) (older newer : List PlacedRule) (example : Example)
    : Type 0 where
  pub was : IsDecisionOn older (asked_target (string_bytes example.path)) example.older
  pub is : IsDecisionOn newer (asked_target (string_bytes example.path)) example.newer
  pub differ : example.older.allowed ≢ example.newer.allowed
  pub normal : IsTrue is_standard → IsNormal (string_bytes example.path)

-- if they are the same, then on every match target; nothing is said if they aren't decided
abbrev pub AreVerdicts : (is_standard : Bool) → (older newer : List PlacedRule) → Verdicts → Type 0
AreVerdicts is_standard older newer Same = HaveSameVerdicts (codes "/") (unplaced older) (unplaced newer)
AreVerdicts is_standard older newer (Other example) = IsExample is_standard older newer example
AreVerdicts is_standard older newer Undecided = Unit {0}

-- a crawler's rules here, and those in the text that stands for the file in RFC 9309's reading
abbrev pub RulesInBoth : Type 0
RulesInBoth = List PlacedRule × List PlacedRule

abbrev pub rules_in_both : (agent file : List ℕ) → RulesInBoth
rules_in_both agent file = (placed_rules agent (lines_read file), placed_rules agent (text_lines file))

-- in RFC 9309's reading; if nothing is said of it, each file has the same rules in it as here, in whatever
-- lines
abbrev pub AreStandardVerdicts : (older newer : RulesInBoth) → Option Verdicts → Type 0
AreStandardVerdicts older newer (Some verdicts) = AreVerdicts true older.1 newer.1 verdicts
AreStandardVerdicts older newer None =
    (unplaced older.0 ≡ unplaced older.1) × (unplaced newer.0 ≡ unplaced newer.1)

-- what becomes of the verdicts in both readings
pub record AreInBoth (older newer : RulesInBoth) (verdicts : InBoth) : Type 0 where
  pub here : AreVerdicts false older.0 newer.0 verdicts.here
  pub in_text : AreStandardVerdicts older newer verdicts.standard

abbrev pub is_same : (here : Verdicts) → (standard : Option Verdicts) → Bool
is_same Same None = true
is_same Same (Some Same) = true
is_same here standard = false

-- the name of the group that the vendor of the crawler applies to it: if that isn't another one, the
-- crawler's, for which the one that applies here is found; empty if it is none, as in a file without a
-- user-agent line, whose rules Google ignores
abbrev pub name_at_vendor : List LineValue → List ℕ → List ℕ
name_at_vendor lines agent =
    unwrap_or (other_group lines agent) (if list_any is_agent lines then agent else [])

-- with no group everything is allowed, as in an empty file
abbrev pub file_of_group : (file name : List ℕ) → List ℕ
file_of_group file name = if length name == 0 then [] else file

abbrev pub rules_at_vendor : (agent file : List ℕ) → RulesInBoth
rules_at_vendor agent file =
    let name = name_at_vendor (lines_read file) agent in rules_in_both name (file_of_group file name)

-- the vendor of the crawler isn't known to apply another group than the one that applies here, which may be
-- that of rules without a user-agent line
abbrev pub is_here : (older newer : List LineValue) (agent : List ℕ) → Bool
is_here older newer agent = is_none (other_group older agent) && is_none (other_group newer agent)

-- which group the vendor of the crawler applies in each file, and what becomes of the verdicts of all URLs
pub record IsVendorChange (older newer agent : List ℕ) (vendor : VendorChange) : Type 0 where
  pub older_is : string_bytes vendor.older ≡ name_at_vendor (lines_read older) agent
  pub newer_is : string_bytes vendor.newer ≡ name_at_vendor (lines_read newer) agent
  pub verdicts_are : AreInBoth (rules_at_vendor agent older) (rules_at_vendor agent newer) vendor.verdicts

-- what changes at the vendor, unless it applies the groups that apply here
abbrev pub AreAtVendor : (older newer agent : List ℕ) → Option VendorChange → Type 0
AreAtVendor older newer agent None = is_here (lines_read older) (lines_read newer) agent ≡ true
AreAtVendor older newer agent (Some vendor) = IsVendorChange older newer agent vendor

abbrev pub is_same_at_vendor : Option VendorChange → Bool
is_same_at_vendor None = true
is_same_at_vendor (Some vendor) = is_same vendor.verdicts.here vendor.verdicts.standard
