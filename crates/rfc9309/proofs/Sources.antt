-- Source lines: the line as the library reads it, with its value as written. They give back the groups,
-- merged.
use Rattle.std.proofs.Common.{◌≡◌, ℕ, Bool, false, not, List, [], ◌∷◌, Option, Some, None, ◌++◌, refl, ap}
use Rattle.std.proofs.Common.{append-nil, append_assoc, arith, if◌then◌else◌}
use Rattle.texting_robots.specs.Line.{LineValue, UserAgent, Allow, CrawlDelay, Disallow, Sitemap, is_raw}
use Rattle.texting_robots.specs.{Executable.rule_in, Executable.sitemap_in, Delay.IsDelay, Group.is_member}
use Rattle.texting_robots.specs.{Trim.IsTrimOf, Rules.Rule, Internal.Line.line_of}
use Rattle.rfc9309.specs.{LineTest.value_in, StandardRobot.IsReadAs}
use Rattle.rfc9309.specs.Rfc9309 as rfc

-- the value, between the colon and a comment
unfoldable pub written : List ℕ → List ℕ
written body = value_in body

abbrev pub Source : Type 0
Source = LineValue × List ℕ

abbrev pub source_of : List ℕ → Source
source_of body = (line_of body, written body)

abbrev pub is_not_raw : Source → Bool
is_not_raw source = not (is_raw source.0)

-- if nothing is written but the Allow has a value, it was an empty Disallow
abbrev pub allowed_in : List ℕ → List ℕ → rfc.Member
allowed_in (b ∷ pattern) value = rfc.Allow (b ∷ pattern)
allowed_in [] [] = rfc.Allow []
allowed_in [] (b ∷ value) = rfc.Disallow []

abbrev pub member_in : LineValue → List ℕ → rfc.Member
member_in (Allow value) pattern = allowed_in pattern value
member_in (Disallow value) pattern = rfc.Disallow pattern
member_in _ number = rfc.Delay number

abbrev pub GivesRuleOf : rfc.Member → Option Rule → Type 0
GivesRuleOf member (Some rule) = IsReadAs member rule
GivesRuleOf member None = rfc.is_rule member ≡ false

abbrev IsReadLine : LineValue → List ℕ → Type 0
IsReadLine (Sitemap value) text = (sitemap_in (Sitemap value) ≡ Some value) × IsTrimOf value text
IsReadLine (CrawlDelay None) text = ⊥
IsReadLine (CrawlDelay (Some delay)) text = IsDelay text (Some delay)
IsReadLine (Allow value) text = GivesRuleOf (member_in (Allow value) text) (rule_in (Allow value))
IsReadLine (Disallow value) text = GivesRuleOf (member_in (Disallow value) text) (rule_in (Disallow value))
IsReadLine line text = Unit {0}

abbrev pub IsRead : Source → Type 0
IsRead source = IsReadLine source.0 source.1

-- beginning with the last item
abbrev pub onto : {X A : Type 0} → (X → A → A) → List X → A → A
onto put [] following = following
onto put (x ∷ xs) following = put x (onto put xs following)

-- the members before any token, and the merged groups after them
pub record Parts : Type 0 where
  pub ungrouped : List rfc.Member
  pub groups : List rfc.Group

abbrev pub parts_of : List rfc.Member → List rfc.Group → Parts
parts_of ungrouped groups = record { ungrouped = ungrouped; groups = groups }

abbrev pub with_tokens : List (List ℕ) → Parts → Parts
with_tokens tokens parts = parts_of [] (rfc.put_before tokens parts.ungrouped parts.groups)

abbrev pub with_token : List ℕ → Parts → Parts
with_token token parts = with_tokens (token ∷ []) parts

abbrev pub with_member : rfc.Member → Parts → Parts
with_member member parts = parts_of (member ∷ parts.ungrouped) parts.groups

abbrev with_line : LineValue → List ℕ → Parts → Parts
with_line (UserAgent token) text parts = with_token token parts
with_line line text parts = if is_member line then with_member (member_in line text) parts else parts

abbrev pub with_source : Source → Parts → Parts
with_source source parts = with_line source.0 source.1 parts

abbrev pub parts_in : List Source → Parts
parts_in sources = onto with_source sources (parts_of [] [])

abbrev address_before : LineValue → List ℕ → List (List ℕ) → List (List ℕ)
address_before (Sitemap value) address following = address ∷ following
address_before line text following = following

abbrev pub with_address : Source → List (List ℕ) → List (List ℕ)
with_address source following = address_before source.0 source.1 following

abbrev pub with_group : rfc.Group → Parts → Parts
with_group group parts = with_tokens group.tokens (parts_of (group.members ++ parts.ungrouped) parts.groups)

members_put : (members : List rfc.Member) (parts : Parts)
    → onto with_member members parts ≡ parts_of (members ++ parts.ungrouped) parts.groups
members_put [] parts = refl
members_put (member ∷ members) parts = ap (with_member _) (members_put members _)

put_both : (tokens more : List (List ℕ)) (members : List rfc.Member) (later : List rfc.Group)
    → rfc.put_before tokens [] (rfc.put_before more members later)
    ≡ rfc.put_before (tokens ++ more) members later
put_both tokens more members later = grind (arith, append_assoc)

tokens_put : (token : List ℕ) (tokens : List (List ℕ)) (parts : Parts)
    → onto with_token (token ∷ tokens) parts ≡ with_tokens (token ∷ tokens) parts
tokens_put token [] parts = refl
tokens_put token (next ∷ tokens) parts = grind (arith, put_both, tokens_put next tokens)

pub group_put : (token : List ℕ) (tokens : List (List ℕ)) (group : rfc.Group) (parts : Parts)
    → group.tokens ≡ token ∷ tokens
    → onto with_token (token ∷ tokens) (onto with_member group.members parts) ≡ with_group group parts
group_put token tokens group parts same =
    rw (same, members_put _ _)
    (tokens_put _ _ _)

pub groups_put : (groups : List rfc.Group)
    → onto with_group groups (parts_of [] []) ≡ parts_of [] (rfc.merged groups)
groups_put [] = refl
groups_put (group ∷ later) = grind (arith, append-nil, groups_put later)
