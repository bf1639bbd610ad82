-- The audit of a file: its lines, what applies to each requested crawler, and the warnings.
use Rattle.std.specs.Prelude.{◌≡◌, ◌≢◌, ◌↔◌, ◌⊎◌, ◌==◌, ◌&&◌, ◌||◌, ℕ, All, Bool, Contains, false, true, not}
use Rattle.std.specs.Prelude.{List, [], ◌∷◌, ◌++◌, Option, Some, None, bytes_eq, codes, filter, flat_map}
use Rattle.std.specs.Prelude.{if◌then◌else◌, is_some, length, map, nat_eq, take}
use Rattle.std.specs.{Char.is_ascii_alphanumeric, Char.is_ascii_digit, Str.byte, Str.is_utf8}
use Rattle.std.specs.List.{AllZip, ends_with, list_all, list_any, position_from, starts_with}
use Rattle.texting_robots.specs.Callers.{IsFirstOverlong, IsRejected, IsVerdict, Label, LineValue, PlacedRule}
use Rattle.texting_robots.specs.Callers.{UserAgent, delay_for, file_limit, group_name, is_agent_named}
use Rattle.texting_robots.specs.Callers.{is_named, lines_read, placed_rules, rules_for}
use Rattle.texting_robots.specs.{Agents.is_among, Group.is_agent, Decision.IsDecisionOn}
use Rattle.texting_robots.specs.declared.decision.Decision.{Decision}
use Rattle.safe_output.specs.Bytes.{has}
use Rattle.rfc9309.specs.{Conformance.conformance_of, Matching.all_stay, Matching.normal_uri}
use Rattle.rfc9309.specs.{StandardReading.IsStandardVerdict, StandardTarget.written_target}
use Rattle.rfc9309.specs.declared.conformance.Conformance.{Conformance}
use Rattle.robots_rules.specs.Blocks.{AreFoundIn}
use Rattle.robots_rules.specs.Needless.{AreDeletable, NeedlessValue, nothing, numbers_of}
use Rattle.robots_warnings.specs.Crawlers.{Row, crawlers, ignores_star, other_group}
use Rattle.robots_warnings.specs.Message.{WarningValue}
use Rattle.robots_warnings.specs.Warnings.{HasClosed, HasOverruling, url_warnings}
use Rattle.robots_warnings.specs.{Facts.is_too_large, File.labels_for, Means.Means, Conflicts.is_empty_at}
use Rattle.audit_core.specs.{Request.RequestValue, Target.asked_target, Chosen.chosen, Chosen.is_chosen}
use Rattle.audit_core.specs.{Together.is_needless, Together.needless_line, Reach.IsReach}
use Rattle.audit_core.specs.{Standard.text_lines}
use Rattle.audit_core.specs.declared.group.{Group.Group, AtVendor.AtVendor}
use Rattle.audit_core.specs.declared.group.AtVendor.TheVariants.{NoGroup, OtherGroup, Same}
use Rattle.audit_core.specs.declared.group.Group.TheVariants.{Everyone, Named, Nobody, Star}
use Rattle.audit_core.specs.declared.reach.Reach.{Reach}
use Rattle.audit_core.specs.declared.reach.Reach.TheVariants.{Part}
use Rattle.audit_core.specs.declared.standard.StandardAudit.{StandardAudit}
use Rattle.audit_core.specs.declared.standard.Alike.TheVariants.{Yes}

-- in a crawler's name, as in `archive.org_bot`
abbrev pub is_name_byte : ℕ → Bool
is_name_byte b =
    is_ascii_alphanumeric b || ((b == byte "_" || b == byte "-") || (b == byte "." || b == byte " "))

-- a dot and a digit, as in `Googlebot.2`
abbrev pub has_version : List ℕ → Bool
has_version name = has (byte ".") name && list_any is_ascii_digit name

abbrev pub has_space_around : List ℕ → Bool
has_space_around name = starts_with nat_eq name (codes " ") || ends_with nat_eq name (codes " ")

abbrev pub is_own_name : List ℕ → Bool
is_own_name name = (not (length name == 0) && list_all is_name_byte name)
    && not (has_space_around name || has_version name)

-- a crawler can call itself so, or it is `*`
abbrev pub is_crawler_name : List ℕ → Bool
is_crawler_name name = bytes_eq name (codes "*") || is_own_name name

-- a name is appended if it is new, a crawler can have it, and it is UTF-8, as a crawler's name is a string
abbrev pub with_name : List (List ℕ) → LineValue → List (List ℕ)
with_name names (UserAgent name) =
    if is_utf8 name && is_crawler_name name
    then (if is_among name names then names else names ++ name ∷ []) else names
with_name names _ = names

abbrev pub with_names : List (List ℕ) → List LineValue → List (List ℕ)
with_names names [] = names
with_names names (line ∷ lines) = with_names (with_name names line) lines

-- `*`, and then each crawler that the lines name, once, in the order of the lines
abbrev pub crawlers_in : List LineValue → List (List ℕ)
crawlers_in lines = with_names (codes "*" ∷ []) lines

-- the given crawlers, each once, or if there is none, those that the lines name
abbrev pub agents_requested : List (List ℕ) → List LineValue → List (List ℕ)
agents_requested [] lines = crawlers_in lines
agents_requested (agent ∷ agents) lines = with_names [] (map UserAgent (agent ∷ agents))

-- which user-agent lines determine the group of the crawler
abbrev pub group_of : List ℕ → List LineValue → Group
group_of agent lines =
    if is_named agent lines then Named
    else if is_named (codes "*") lines then Star
    else if list_any is_agent lines then Nobody else Everyone

-- the number of the first line that names the crawler's group
abbrev pub naming_line : List ℕ → List LineValue → Option ℕ
naming_line agent lines = position_from (is_agent_named (group_name agent lines)) 1 lines

-- which group its vendor applies, if that is said to be another one
abbrev pub at_vendor : Option (List ℕ) → AtVendor
at_vendor None = Same
at_vendor (Some group) = if length group == 0 then NoGroup else OtherGroup

abbrev pub ignoring_among : List LineValue → List Row → List (List ℕ)
ignoring_among lines rows = map (λ row. row.0) (filter (ignores_star lines) rows)

-- of `*`, the known crawlers to which their vendors apply no group, although the file has one of `*`
abbrev pub ignored_by : List LineValue → (agent : List ℕ) → List (List ℕ)
ignored_by lines agent = if bytes_eq agent (codes "*") then ignoring_among lines crawlers else []

pub record VerdictValue : Type 0 where
  pub url : List ℕ
  pub decision : Decision
  pub standard : Option Decision

pub record AgentValue : Type 0 where
  pub agent : List ℕ
  pub asked : List ℕ
  pub group : Group
  pub group_line : Option ℕ
  pub rules : ℕ
  pub reach : Reach
  pub allows : List ℕ
  pub vendor : AtVendor
  pub ignored_by : List (List ℕ)
  pub delay : Option ℕ
  pub rejected : Option ℕ
  pub verdicts : List VerdictValue
  pub standard : StandardAudit

-- the decision of these rules on what RFC 9309 compares; `None` without rules, since the file is rejected
abbrev pub IsDecidedBy : Option (List PlacedRule) → (url : List ℕ) → Option Decision → Type 0
IsDecidedBy None url decision = decision ≡ None
IsDecidedBy (Some rules) url None = ⊥
IsDecidedBy (Some rules) url (Some decision) =
    IsDecisionOn rules (normal_uri all_stay (written_target url)) decision

-- the URL as it is given, the decision of the rules on what crawlers ask for, and that of the rules that RFC
-- 9309 finds
pub record IsVerdictOn (rules : List PlacedRule) (others : Option (List PlacedRule)) (url : List ℕ)
    (verdict : VerdictValue) : Type 0 where
  pub url_is : verdict.url ≡ url
  pub decided : IsDecisionOn rules (asked_target url) verdict.decision
  pub standard : IsDecidedBy others url verdict.standard

-- a reading has rules unless it rejects the file because of this line
abbrev pub unless : (rejected : Option ℕ) → List PlacedRule → Option (List PlacedRule)
unless None rules = Some rules
unless (Some line) rules = None

-- the verdicts on the URLs; none if the reading here rejects the file
abbrev pub IsRuling : List (List ℕ) → (here standard : Option (List PlacedRule)) → List VerdictValue → Type 0
IsRuling urls None standard verdicts = verdicts ≡ []
IsRuling urls (Some rules) standard verdicts = AllZip (IsVerdictOn rules standard) urls verdicts

-- whether the lines are rejected for the crawler, and if so, the line of its first overlong rule
abbrev pub IsRejectedAt : List ℕ → List LineValue → (rejected : Option ℕ) → Type 0
IsRejectedAt agent lines None = ¬ IsRejected agent lines
IsRejectedAt agent lines (Some line) = IsFirstOverlong (placed_rules agent lines) line

-- on every path, the verdict of the lines read here and that of RFC 9309's reading are equal
abbrev pub AreReadAlike : (file agent : List ℕ) → Type 0
AreReadAlike file agent = (uri : List ℕ) (answer : Bool)
    → IsVerdict (rules_for agent (lines_read file)) (normal_uri all_stay (codes "/" ++ uri)) answer
    ↔ IsStandardVerdict agent (take file_limit file) (codes "/" ++ uri) answer

-- What RFC 9309 says of the file for a crawler with this name, and whether that is what this library says. By
-- the theorem `standard_texts_are_read_so`, the text's verdict on a URL is that of the standard on the file.
pub record IsStandardAudit (file agent : List ℕ) (audit : StandardAudit) : Type 0 where
  pub rejected : IsRejectedAt agent (text_lines file) audit.rejected
  pub reach : IsReach (placed_rules agent (text_lines file)) audit.reach audit.allows.items
  pub alike : audit.alike ≡ Yes → AreReadAlike file agent

-- what the file means for a crawler with this name, whichever group its vendor applies; nothing is said of
-- what it may fetch if that is another one
pub record IsAgentAudit (urls : List (List ℕ)) (file agent : List ℕ) (value : AgentValue) : Type 0 where
  pub agent_is : value.agent ≡ agent
  pub asked_is : value.asked ≡ agent
  pub group_is : value.group ≡ group_of agent (lines_read file)
  pub line_is : value.group_line ≡ naming_line agent (lines_read file)
  pub rules_are : value.rules ≡ length (placed_rules agent (lines_read file))
  pub reach_is : IsReach (placed_rules agent (lines_read file)) value.reach value.allows
  pub vendor_is : value.vendor ≡ at_vendor (other_group (lines_read file) agent)
  pub reach_elsewhere : (value.vendor ≡ Same) ⊎ (value.reach ≡ Part)
  pub ignored_by_is : value.ignored_by ≡ ignored_by (lines_read file) agent
  pub delay_is : value.delay ≡ delay_for agent (lines_read file)
  pub rejected_is : IsRejectedAt agent (lines_read file) value.rejected
  pub standard_is : IsStandardAudit file agent value.standard
  pub ruling : IsRuling urls (unless value.rejected (placed_rules agent (lines_read file)))
      (unless value.standard.rejected (placed_rules agent (text_lines file))) value.verdicts

-- to a crawler to which its vendor applies no group, a file means what an empty one means
pub record IsOfNoGroup (urls : List (List ℕ)) (agent : List ℕ) (value : AgentValue) : Type 0 where
  pub like : AgentValue
  pub like_is : IsAgentAudit urls [] agent like
  pub same : value ≡ record like { asked = []; group = Nobody; vendor = NoGroup }

-- to one to which its vendor applies another group, it means what it means to a crawler with that name
pub record IsOfOtherGroup (urls : List (List ℕ)) (file agent : List ℕ) (value : AgentValue) : Type 0 where
  pub like : AgentValue
  pub like_is : IsAgentAudit urls file value.asked like
  pub same : value ≡ record like { agent = agent; vendor = OtherGroup }

abbrev pub IsReportedAt : AtVendor → (urls : List (List ℕ)) → (file agent : List ℕ) → AgentValue → Type 0
IsReportedAt Same urls file agent value = IsAgentAudit urls file agent value
IsReportedAt NoGroup urls file agent value = IsOfNoGroup urls agent value
IsReportedAt OtherGroup urls file agent value = IsOfOtherGroup urls file agent value

-- what a report says of a crawler
abbrev pub IsReported : (urls : List (List ℕ)) → (file agent : List ℕ) → AgentValue → Type 0
IsReported urls file agent value =
    IsReportedAt (at_vendor (other_group (lines_read file) agent)) urls file agent value

pub record AuditValue : Type 0 where
  pub labels : List Label
  pub agents : List AgentValue
  pub warnings : List WarningValue
  pub syntax : Conformance

-- `*` if there is no single crawler
abbrev pub labeling_agent : Option (List ℕ) → List ℕ
labeling_agent (Some agent) = agent
labeling_agent None = codes "*"

abbrev pub labels_requested : RequestValue → List ℕ → List Label
labels_requested requested file = labels_for (labeling_agent requested.agent) file

abbrev pub rejects_some : List AgentValue → Bool
rejects_some agents =
    list_any (λ (agent : AgentValue). is_some agent.rejected || is_some agent.standard.rejected) agents

-- of a warning about a needless rule, an audit says that its line is one of the found lines: see there
abbrev pub IsSo : (agents : List (List ℕ)) → (file : List ℕ) → List Label → WarningValue → Type 0
IsSo agents file labels warning =
    is_needless warning.cause ≡ false → Means agents file labels warning

-- the lines of needless rules, unless the request hides these warnings
abbrev pub needless_shown : RequestValue → NeedlessValue → List ℕ
needless_shown requested needless =
    if is_chosen requested.only requested.ignored (codes "needless-rule") then numbers_of needless.rules
    else []

-- What is true of an audit. Each warning says what is so, where `--explain` prints that as proved; the
-- warnings about needless rules are in exactly their lines; and none is missing, unless the request hides it,
-- of those whose absence says something. Which others there are, and in which order, isn't stated, nor which
-- reason a warning about a needless rule gives.
-- Of needless rules, it is only stated that those found are needless together: there may be more. They are
-- those of all groups, whichever crawler the report is about, since deleting only some of them could change a
-- verdict; and they can be deleted in RFC 9309's reading, too.
pub record IsAuditOf (requested : RequestValue) (file : List ℕ) (audit : AuditValue) : Type 0 where
  pub needless : NeedlessValue
  pub needless_are : AreFoundIn (take file_limit file) needless.rules
  pub standard : needless.rules ≢ [] → AreDeletable (numbers_of needless.rules) (text_lines file)
  pub unrequested : requested.has_needless ≡ false → needless ≡ nothing
  pub too_large : is_too_large file ≡ true → needless ≡ nothing
  pub labels_are : audit.labels ≡ labels_requested requested file
  pub agents_are : AllZip (IsReported requested.urls file)
      (agents_requested requested.agents (lines_read file)) audit.agents
  pub warnings_are : All (IsSo (agents_requested requested.agents (lines_read file)) file
      (labels_requested requested file)) audit.warnings
  pub in_lines : flat_map needless_line audit.warnings ≡ needless_shown requested needless
  pub told : All (Contains audit.warnings)
      (chosen requested.only requested.ignored (flat_map url_warnings requested.urls))
  -- the line that closes the site to a crawler has a warning
  pub closed : is_chosen requested.only requested.ignored (codes "closed-site") ≡ true
      → HasClosed (agents_requested requested.agents (lines_read file)) (lines_read file) audit.warnings
  -- an empty Disallow that overrules a Disallow for a crawler has a warning
  pub overruling : is_chosen requested.only requested.ignored (codes "empty-disallow") ≡ true
      → HasOverruling (is_empty_at (labels_requested requested file))
      (agents_requested requested.agents (lines_read file)) (lines_read file) audit.warnings
  pub syntax_is : audit.syntax ≡ conformance_of file

abbrev pub is_against : Option Decision → Bool
is_against None = false
is_against (Some decision) = not decision.allowed

-- in both readings; one that has no verdict has nothing against it
abbrev pub is_allowed : VerdictValue → Bool
is_allowed verdict = verdict.decision.allowed && not (is_against verdict.standard)

abbrev pub allows_all : AgentValue → Bool
allows_all agent = list_all is_allowed agent.verdicts

abbrev pub all_allowed : List AgentValue → Bool
all_allowed agents = list_all allows_all agents
