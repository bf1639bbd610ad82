-- Two versions of a robots.txt file compared.
use Rattle.std.specs.Prelude.{◌≡◌, ℕ, ◌==◌, Bool, true, false, not, ◌&&◌, ◌||◌, List, [], ◌∷◌, ◌++◌, None}
use Rattle.std.specs.Prelude.{Option, Some, bytes_eq, filter, flat_map, if◌then◌else◌, is_some, length, map, nat_eq}
use Rattle.std.specs.{List.AllZip, List.list_all, List.list_any, List.zip, Option.option_eq}
use Rattle.std.proofs.Math.{Bool.beq}
use Rattle.texting_robots.specs.Callers.{LineValue, PlacedRule, Rule, lines_read, placed_rules, sitemaps_in}
use Rattle.texting_robots.specs.declared.decision.{Decision.Decision}
use Rattle.audit_core.specs.declared.group.Group.{Group}
use Rattle.audit_core.specs.declared.group.Group.TheVariants.{Everyone, Named, Nobody, Star}
use Rattle.audit_core.specs.Audit.{IsAgentAudit, VerdictValue, agents_requested}
use Rattle.audit_compare.specs.declared.compare.Comparison.{Comparison}
use Rattle.audit_compare.specs.declared.compared.Compared.{Compared}
use Rattle.audit_compare.specs.declared.compared.{RuleChanges.RuleChanges, UrlChange.UrlChange}
use Rattle.audit_compare.specs.EveryUrl.{AreAtVendor, AreStandardVerdicts, AreVerdicts, is_same}
use Rattle.audit_compare.specs.EveryUrl.{is_same_at_vendor, rules_in_both}

-- of the same kind, and with equal patterns, which are escaped values
abbrev pub is_same_rule : Rule → Rule → Bool
is_same_rule one other = beq one.1 other.1 && bytes_eq one.0 other.0

-- one of the rules is the same, in whatever line
abbrev pub has_rule : List PlacedRule → Rule → Bool
has_rule rules rule = list_any (λ (placed : PlacedRule). is_same_rule placed.rule rule) rules

-- the rules that the others lack, in order
abbrev pub rules_lacked : List PlacedRule → List PlacedRule → List PlacedRule
rules_lacked others rules = filter (λ (placed : PlacedRule). not (has_rule others placed.rule)) rules

-- the rules that these lines have for the crawler, and the other lines don't
abbrev pub rules_only_in : List LineValue → List LineValue → List ℕ → List PlacedRule
rules_only_in lines others agent = rules_lacked (placed_rules agent others) (placed_rules agent lines)

-- the rules of each list that the other one lacks
pub record AreChanges (older newer : List PlacedRule) (rules : RuleChanges) : Type 0 where
  pub removed_are : rules.removed.items ≡ rules_lacked newer older
  pub added_are : rules.added.items ≡ rules_lacked older newer

abbrev pub is_in_line_of : List PlacedRule → Option ℕ → Bool
is_in_line_of rules line = list_any (λ (placed : PlacedRule). option_eq nat_eq line (Some placed.line)) rules

-- both decisions allow or both deny, the rule that decided wasn't removed, and the one that decides now
-- wasn't added
abbrev pub is_same_decision : RuleChanges → (older newer : Decision) → Bool
is_same_decision rules older newer = beq older.allowed newer.allowed
    && not (is_in_line_of rules.removed.items older.line || is_in_line_of rules.added.items newer.line)

-- the verdicts in RFC 9309's reading aren't those here, and here or there they change
abbrev pub is_otherwise : (one other : VerdictValue) (was is : Decision) → Bool
is_otherwise one other was is =
    not (beq one.decision.allowed was.allowed && beq other.decision.allowed is.allowed)
    && not (beq one.decision.allowed other.decision.allowed && beq was.allowed is.allowed)

abbrev pub Changed : Type 0
Changed = List ℕ × Decision × Decision × Bool

abbrev pub standard_change : (one other : VerdictValue) → (older newer : Option Decision) → List Changed
standard_change one other (Some was) (Some is) =
    if is_otherwise one other was is then (one.url, was, is, true) ∷ [] else []
standard_change one other was is = []

-- the URL and the decisions on it, if they differ here; and if RFC 9309's verdicts change otherwise, these
abbrev pub change_on : RuleChanges → VerdictValue → VerdictValue → List Changed
change_on rules one other =
    (if is_same_decision rules one.decision other.decision then []
    else (one.url, one.decision, other.decision, false) ∷ [])
    ++ standard_change one other one.standard other.standard

-- the changes on all URLs, in order
abbrev pub changes_in : RuleChanges → (older newer : List VerdictValue) → List Changed
changes_in rules older newer = flat_map (λ pair. change_on rules pair.0 pair.1) (zip older newer)

abbrev pub changed : List UrlChange → List Changed
changed changes =
    map (λ change. (change.url.now, change.older, change.newer, change.is_standard)) changes

-- exactly the URLs on which the decisions differ, in order
abbrev pub AreUrlChanges : RuleChanges → (older newer : List VerdictValue) → List UrlChange → Type 0
AreUrlChanges rules older newer changes = changed changes ≡ changes_in rules older newer

-- what both files mean for a crawler, the URLs on which decisions differ, and what becomes of the verdicts of
-- all URLs, in both readings, unless the crawler's vendor applies other groups, and then by these
pub record IsCompared (urls : List (List ℕ)) (older newer agent : List ℕ) (compared : Compared)
    : Type 0 where
  pub agent_is : compared.agent.now ≡ agent
  pub older_is : IsAgentAudit urls older agent compared.older
  pub newer_is : IsAgentAudit urls newer agent compared.newer
  pub rules_are : AreChanges (placed_rules agent (lines_read older)) (placed_rules agent (lines_read newer))
      compared.rules
  pub changes_are : AreUrlChanges compared.rules compared.older.verdicts compared.newer.verdicts
      compared.changes.items
  pub here : AreVerdicts false (placed_rules agent (lines_read older)) (placed_rules agent (lines_read newer))
      compared.verdicts.here
  pub standard : compared.vendor ≡ None
      → AreStandardVerdicts (rules_in_both agent older) (rules_in_both agent newer) compared.verdicts.standard
  pub vendor_is : AreAtVendor older newer agent compared.vendor

abbrev pub is_listed : List (List ℕ) → List ℕ → Bool
is_listed texts text = list_any (λ other. bytes_eq other text) texts

-- exactly those of the listed texts that the others lack, in whatever order
pub record AreOnlyIn (listed others texts : List (List ℕ)) : Type 0 where
  pub each : (text : List ℕ)
      → is_listed texts text ≡ (is_listed listed text && not (is_listed others text))

abbrev pub ComparisonValue : Type 0
ComparisonValue = Comparison

-- the comparison of two files for these crawlers, or if there are none for `*` and each that one of them
-- names, and the sitemaps that only one of them lists
pub record IsComparison (agents urls : List (List ℕ)) (older newer : List ℕ) (comparison : Comparison)
    : Type 0 where
  pub all : AllZip (IsCompared urls older newer)
      (agents_requested agents (lines_read older ++ lines_read newer)) comparison.crawlers.items
  pub removed_are : AreOnlyIn (sitemaps_in (lines_read older)) (sitemaps_in (lines_read newer))
      (map (λ text. text.now) comparison.removed.items)
  pub added_are : AreOnlyIn (sitemaps_in (lines_read newer)) (sitemaps_in (lines_read older))
      (map (λ text. text.now) comparison.added.items)

-- in one of the readings
abbrev pub is_rejected : Compared → Bool
is_rejected compared =
    ((is_some compared.older.rejected || is_some compared.newer.rejected)
    || is_some compared.older.standard.rejected) || is_some compared.newer.standard.rejected

abbrev pub is_same_group : Group → Group → Bool
is_same_group Named Named = true
is_same_group Star Star = true
is_same_group Nobody Nobody = true
is_same_group Everyone Everyone = true
is_same_group _ _ = false

abbrev pub are_none : RuleChanges → Bool
are_none rules = length rules.removed.items == 0 && length rules.added.items == 0

-- no verdict changes for the crawler, in either reading, or at its vendor
abbrev pub keep_verdicts : Compared → Bool
keep_verdicts compared =
    is_same compared.verdicts.here compared.verdicts.standard && is_same_at_vendor compared.vendor

-- no file is rejected for the crawler, and no group, delay or rule differs; by the theorem
-- `same_rules_decide_alike` no verdict differs then. Nor does one in RFC 9309's reading, or by the groups
-- that its vendor applies
abbrev pub is_unchanged : Compared → Bool
is_unchanged compared =
    ((not (is_rejected compared) && is_same_group compared.older.group compared.newer.group)
    && option_eq nat_eq compared.older.delay compared.newer.delay)
    && (are_none compared.rules && keep_verdicts compared)

abbrev pub rejects_some : Comparison → Bool
rejects_some comparison = list_any is_rejected comparison.crawlers.items

abbrev pub keeps_verdicts : Comparison → Bool
keeps_verdicts comparison = list_all keep_verdicts comparison.crawlers.items

abbrev pub differs_nowhere : Comparison → Bool
differs_nowhere comparison =
    (list_all is_unchanged comparison.crawlers.items && length comparison.removed.items == 0)
    && length comparison.added.items == 0
