-- The grammar of a robots.txt file in RFC 9309, section 2.2, as relations between the bytes of a production
-- and the items that they contain, such as groups. The names are those of the productions; the items come
-- before the bytes. Nothing here refers to this library but `names_read`, and `groups_of`, where a delay ends
-- a list of tokens.
--
-- `IsRobotstxt` is exactly the standard's grammar, as it is printed there, and `IsRobotstxtByLines` states it
-- as a list of lines. `IsFile` extends the latter by a leading byte order mark, a last line without a line
-- end, a pattern that begins with a star, and the lines that the standard leaves to implementers. At the end
-- are the sitemaps of a file, and the rules for a crawler.
use Rattle.std.specs.Prelude.{◌≡◌, ◌⊎◌, ℕ, ◌≤◌, Bool, true, false, List, [], ◌∷◌, ◌++◌, map, codes, bytes_eq}
use Rattle.std.specs.Prelude.{filter, Contains, if◌then◌else◌}
use Rattle.std.specs.{List.flat_map, List.list_any, List.AllByRecursion as Each, Char.to_ascii_lowercase}

-- a line after a group's product tokens: a rule with its pattern, or a delay with its number, as written
pub data Member : Type 0 where
  Allow : List ℕ → Member
  Disallow : List ℕ → Member
  Delay : List ℕ → Member

-- a group's product tokens, and the lines after them
pub record Group : Type 0 where
  pub tokens : List (List ℕ)
  pub members : List Member

-- `%xlow-high`, such as `%x41-5A`
abbrev pub IsBetween : ℕ → ℕ → ℕ → Type 0
IsBetween low high byte = (low ≤ byte) × (byte ≤ high)

-- `*P`, where P has no items
pub record IsMany (P : List ℕ → Type 0) (text : List ℕ) : Type 0 where
  pub units : List (List ℕ)
  pub each : Each P units
  pub whole : text ≡ flat_map (λ unit. unit) units

-- a chunk of the text, and its items
pub record RepeatUnit (X : Type 0) : Type 0 where
  pub items : List X
  pub bytes : List ℕ

-- `*P`, where each chunk of the text has some items; the result is all of them, in order
pub record Repeats {X : Type 0} (P : List X → List ℕ → Type 0) (items : List X)
    (text : List ℕ) : Type 0 where
  pub units : List (RepeatUnit X)
  pub each : Each (λ unit. P unit.items unit.bytes) units
  pub written : items ≡ flat_map (λ unit. unit.items) units
  pub whole : text ≡ flat_map (λ unit. unit.bytes) units

-- P / Q, where P has one item and Q none
abbrev pub IsOneOr : {X : Type 0} → (X → List ℕ → Type 0) → (List ℕ → Type 0)
    → List X → List ℕ → Type 0
IsOneOr {X} P Q items text =
    ((item : X) × P item text × (items ≡ item ∷ [])) ⊎ (Q text × (items ≡ []))

-- a literal string, which is given in lower case; the case of ASCII letters doesn't matter
abbrev pub IsLiteral : List ℕ → List ℕ → Type 0
IsLiteral letters bytes = map to_ascii_lowercase bytes ≡ letters

-- ---- UTF8-char-noctl

-- UTF8-tail = %x80-BF
abbrev pub IsUtf8Tail : ℕ → Type 0
IsUtf8Tail byte = IsBetween 0x80 0xBF byte

-- UTF8-1-noctl = %x21 / %x22 / %x24-7F
abbrev pub IsUtf8OneNoctl : List ℕ → Type 0
IsUtf8OneNoctl (a ∷ []) = (a ≡ 0x21) ⊎ ((a ≡ 0x22) ⊎ IsBetween 0x24 0x7F a)
IsUtf8OneNoctl _ = ⊥

-- UTF8-2 = %xC2-DF UTF8-tail
abbrev pub IsUtf8Two : List ℕ → Type 0
IsUtf8Two (a ∷ b ∷ []) = IsBetween 0xC2 0xDF a × IsUtf8Tail b
IsUtf8Two _ = ⊥

-- UTF8-3 = %xE0 %xA0-BF UTF8-tail / %xE1-EC 2UTF8-tail / %xED %x80-9F UTF8-tail / %xEE-EF 2UTF8-tail
abbrev pub IsUtf8Three : List ℕ → Type 0
IsUtf8Three (a ∷ b ∷ c ∷ []) =
    ((a ≡ 0xE0) × IsBetween 0xA0 0xBF b × IsUtf8Tail c)
    ⊎ ((IsBetween 0xE1 0xEC a × IsUtf8Tail b × IsUtf8Tail c)
    ⊎ (((a ≡ 0xED) × IsBetween 0x80 0x9F b × IsUtf8Tail c)
    ⊎ (IsBetween 0xEE 0xEF a × IsUtf8Tail b × IsUtf8Tail c)))
IsUtf8Three _ = ⊥

-- UTF8-4 = %xF0 %x90-BF 2UTF8-tail / %xF1-F3 3UTF8-tail / %xF4 %x80-8F 2UTF8-tail
abbrev pub IsUtf8Four : List ℕ → Type 0
IsUtf8Four (a ∷ b ∷ c ∷ d ∷ []) =
    ((a ≡ 0xF0) × IsBetween 0x90 0xBF b × IsUtf8Tail c × IsUtf8Tail d)
    ⊎ ((IsBetween 0xF1 0xF3 a × IsUtf8Tail b × IsUtf8Tail c × IsUtf8Tail d)
    ⊎ ((a ≡ 0xF4) × IsBetween 0x80 0x8F b × IsUtf8Tail c × IsUtf8Tail d))
IsUtf8Four _ = ⊥

-- UTF8-char-noctl = UTF8-1-noctl / UTF8-2 / UTF8-3 / UTF8-4
abbrev pub IsUtf8CharNoctl : List ℕ → Type 0
IsUtf8CharNoctl bytes =
    IsUtf8OneNoctl bytes ⊎ (IsUtf8Two bytes ⊎ (IsUtf8Three bytes ⊎ IsUtf8Four bytes))

-- WS = %x20 / %x09
abbrev pub IsWs : ℕ → Type 0
IsWs byte = (byte ≡ 0x20) ⊎ (byte ≡ 0x09)

-- NL = %x0D / %x0A / %x0D.0A
abbrev pub IsNl : List ℕ → Type 0
IsNl bytes = (bytes ≡ 0x0D ∷ []) ⊎ ((bytes ≡ 0x0A ∷ []) ⊎ (bytes ≡ 0x0D ∷ 0x0A ∷ []))

-- a part of a comment: UTF8-char-noctl / WS / "#"
abbrev pub IsCommentUnit : List ℕ → Type 0
IsCommentUnit bytes =
    IsUtf8CharNoctl bytes
    ⊎ (((byte : ℕ) × IsWs byte × (bytes ≡ byte ∷ [])) ⊎ (bytes ≡ codes "#"))

-- comment = "#" *( UTF8-char-noctl / WS / "#" )
pub record IsComment (bytes : List ℕ) : Type 0 where
  pub text : List ℕ
  pub is_text : IsMany IsCommentUnit text
  pub whole : bytes ≡ codes "#" ++ text

-- EOL = *WS [ comment ] NL
pub record IsEol (bytes : List ℕ) : Type 0 where
  pub blanks : List ℕ
  pub comment : List ℕ
  pub nl : List ℕ
  pub whole : bytes ≡ blanks ++ (comment ++ nl)
  pub are_blanks : Each IsWs blanks
  pub is_comment : (comment ≡ []) ⊎ IsComment comment
  pub is_nl : IsNl nl

-- emptyline = EOL
abbrev pub IsEmptyLine : List ℕ → Type 0
IsEmptyLine bytes = IsEol bytes

-- a byte of an identifier: %x2D / %x41-5A / %x5F / %x61-7A
abbrev pub IsIdentifierByte : ℕ → Type 0
IsIdentifierByte byte =
    (byte ≡ 0x2D) ⊎ (IsBetween 0x41 0x5A byte ⊎ ((byte ≡ 0x5F) ⊎ IsBetween 0x61 0x7A byte))

-- identifier = 1*( %x2D / %x41-5A / %x5F / %x61-7A )
abbrev pub IsIdentifier : List ℕ → Type 0
IsIdentifier [] = ⊥
IsIdentifier (byte ∷ bytes) = Each IsIdentifierByte (byte ∷ bytes)

-- product-token = identifier / "*"
abbrev pub IsProductToken : List ℕ → Type 0
IsProductToken bytes = IsIdentifier bytes ⊎ (bytes ≡ codes "*")

-- literal *UTF8-char-noctl, where the literal has no letter
pub record IsPatternWith (literal bytes : List ℕ) : Type 0 where
  pub text : List ℕ
  pub is_text : IsMany IsUtf8CharNoctl text
  pub whole : bytes ≡ literal ++ text

-- path-pattern = "/" *UTF8-char-noctl
abbrev pub IsPathPattern : List ℕ → Type 0
IsPathPattern bytes = IsPatternWith (codes "/") bytes

-- empty-pattern = *WS
abbrev pub IsEmptyPattern : List ℕ → Type 0
IsEmptyPattern bytes = Each IsWs bytes

-- path-pattern / empty-pattern: the item is the path pattern, or the empty string
abbrev pub IsPattern : List ℕ → List ℕ → Type 0
IsPattern pattern bytes =
    (IsPathPattern bytes × (pattern ≡ bytes)) ⊎ (IsEmptyPattern bytes × (pattern ≡ []))

-- *WS word *WS ":" *WS value EOL
pub record IsKeyed (word value text : List ℕ) : Type 0 where
  pub margin : List ℕ
  pub key : List ℕ
  pub blanks : List ℕ
  pub gap : List ℕ
  pub eol : List ℕ
  pub whole : text ≡ margin ++ (key ++ (blanks ++ (codes ":" ++ (gap ++ (value ++ eol)))))
  pub margin_blank : Each IsWs margin
  pub is_key : IsLiteral word key
  pub blanks_blank : Each IsWs blanks
  pub gap_blank : Each IsWs gap
  pub is_eol : IsEol eol

-- startgroupline = *WS "user-agent" *WS ":" *WS product-token EOL
abbrev pub IsStartGroupLine : List ℕ → List ℕ → Type 0
IsStartGroupLine token text = IsProductToken token × IsKeyed (codes "user-agent") token text

-- *WS word *WS ":" *WS ( path-pattern / empty-pattern ) EOL
pub record IsRuleWith (word pattern text : List ℕ) : Type 0 where
  pub value : List ℕ
  pub is_pattern : IsPattern pattern value
  pub is_line : IsKeyed word value text

-- rule = *WS ( "allow" / "disallow" ) *WS ":" *WS ( path-pattern / empty-pattern ) EOL
abbrev pub IsRule : Member → List ℕ → Type 0
IsRule (Allow pattern) text = IsRuleWith (codes "allow") pattern text
IsRule (Disallow pattern) text = IsRuleWith (codes "disallow") pattern text
IsRule (Delay number) text = ⊥

-- ---- groups and files

-- group = startgroupline *( startgroupline / emptyline ) *( rule / emptyline )
pub record IsGroup (group : Group) (text : List ℕ) : Type 0 where
  pub token : List ℕ
  pub tokens : List (List ℕ)
  pub start : List ℕ
  pub agents : List ℕ
  pub lines : List ℕ
  pub whole : text ≡ start ++ (agents ++ lines)
  pub is_start : IsStartGroupLine token start
  pub are_agents : Repeats (IsOneOr IsStartGroupLine IsEmptyLine) tokens agents
  pub written : group.tokens ≡ token ∷ tokens
  pub are_members : Repeats (IsOneOr IsRule IsEmptyLine) group.members lines

-- robotstxt = *( group / emptyline )
abbrev pub IsRobotstxt : List Group → List ℕ → Type 0
IsRobotstxt groups text = Repeats (IsOneOr IsGroup IsEmptyLine) groups text

-- ---- further lines, which the standard leaves to implementers

-- %x30-39
abbrev pub IsDigitByte : ℕ → Type 0
IsDigitByte byte = IsBetween 0x30 0x39 byte

-- 1*DIGIT
abbrev pub IsDigits : List ℕ → Type 0
IsDigits [] = ⊥
IsDigits (byte ∷ bytes) = Each IsDigitByte (byte ∷ bytes)

-- 1*DIGIT "." 1*DIGIT
pub record IsFraction (bytes : List ℕ) : Type 0 where
  pub units : List ℕ
  pub fraction : List ℕ
  pub are_units : IsDigits units
  pub is_fraction : IsDigits fraction
  pub whole : bytes ≡ units ++ (codes "." ++ fraction)

-- delay = 1*DIGIT [ "." 1*DIGIT ]
abbrev pub IsNumber : List ℕ → Type 0
IsNumber bytes = IsDigits bytes ⊎ IsFraction bytes

-- delayline = *WS "crawl-delay" *WS ":" *WS delay EOL
abbrev pub IsDelayLine : Member → List ℕ → Type 0
IsDelayLine (Allow pattern) text = ⊥
IsDelayLine (Disallow pattern) text = ⊥
IsDelayLine (Delay number) text = IsNumber number × IsKeyed (codes "crawl-delay") number text

-- sitemapline = *WS "sitemap" *WS ":" *WS address EOL, where address = *UTF8-char-noctl
abbrev pub IsSitemapLine : List ℕ → List ℕ → Type 0
IsSitemapLine address text = IsMany IsUtf8CharNoctl address × IsKeyed (codes "sitemap") address text

-- the field names that this library recognizes, in lower case; those with a space are left out, since no
-- identifier contains one
abbrev pub names_read : List (List ℕ)
names_read =
    codes "user-agent" ∷ codes "useragent" ∷ codes "allow" ∷ codes "disallow" ∷ codes "dissallow"
    ∷ codes "dissalow" ∷ codes "disalow" ∷ codes "diasllow" ∷ codes "disallaw" ∷ codes "sitemap"
    ∷ codes "site-map" ∷ codes "crawl-delay" ∷ codes "crawldelay" ∷ []

-- otherline = *WS identifier *WS ":" *( UTF8-char-noctl / WS / "#" ) NL, where the identifier isn't
-- recognized
pub record IsOtherLine (text : List ℕ) : Type 0 where
  pub margin : List ℕ
  pub name : List ℕ
  pub blanks : List ℕ
  pub value : List ℕ
  pub nl : List ℕ
  pub whole : text ≡ margin ++ (name ++ (blanks ++ (codes ":" ++ (value ++ nl))))
  pub margin_blank : Each IsWs margin
  pub is_name : IsIdentifier name
  pub is_other : ¬ Contains names_read (map to_ascii_lowercase name)
  pub blanks_blank : Each IsWs blanks
  pub is_value : IsMany IsCommentUnit value
  pub is_nl : IsNl nl

-- starpattern = "*" *UTF8-char-noctl, which isn't in the standard's grammar, but in its first example
abbrev pub IsStarPattern : List ℕ → Type 0
IsStarPattern bytes = IsPatternWith (codes "*") bytes

-- starrule = *WS ( "allow" / "disallow" ) *WS ":" *WS starpattern EOL
abbrev pub IsStarRule : Member → List ℕ → Type 0
IsStarRule (Allow pattern) text = IsStarPattern pattern × IsKeyed (codes "allow") pattern text
IsStarRule (Disallow pattern) text = IsStarPattern pattern × IsKeyed (codes "disallow") pattern text
IsStarRule (Delay number) text = ⊥

-- ---- a file by its lines

-- what a line states: a product token, a member of a group, the address of a sitemap, or nothing that counts
-- here
pub data Entry : Type 0 where
  Agent : List ℕ → Entry
  InGroup : Member → Entry
  Sitemap : List ℕ → Entry
  Nothing : Entry

-- the text is lines, one after the other, which state these, one each
abbrev pub AreLines : (Line : Entry → List ℕ → Type 0) → List Entry → List ℕ → Type 0
AreLines Line [] text = text ≡ []
AreLines Line (entry ∷ entries) text =
    (line : List ℕ) × (rest : List ℕ) × (text ≡ line ++ rest) × Line entry line
    × AreLines Line entries rest

-- a group before others; without members, its tokens go to the first of these
abbrev pub put_before : List (List ℕ) → List Member → List Group → List Group
put_before tokens [] (next ∷ later) =
    record { tokens = tokens ++ next.tokens; members = next.members } ∷ later
put_before tokens members later = record { tokens = tokens; members = members } ∷ later

-- Section 2.1: a group is one or more user-agent lines, followed by one or more rules; the last group may
-- have no rules. The printed grammar can also read user-agent lines before others as groups without members:
-- these are merged with the next one.
abbrev pub merged : List Group → List Group
merged [] = []
merged (group ∷ later) = put_before group.tokens group.members (merged later)

-- the members above the first token
abbrev pub above_groups : List Entry → List Member
above_groups [] = []
above_groups (Agent token ∷ entries) = []
above_groups (InGroup member ∷ entries) = member ∷ above_groups entries
above_groups (Sitemap address ∷ entries) = above_groups entries
above_groups (Nothing ∷ entries) = above_groups entries

-- Each token begins a group, with the members up to the next token. Tokens with no member between them are
-- those of one group. A delay is a member here, so it ends a list of tokens; in `StandardReading`
-- no line states one.
abbrev pub groups_of : List Entry → List Group
groups_of [] = []
groups_of (Agent token ∷ entries) =
    put_before (token ∷ []) (above_groups entries) (groups_of entries)
groups_of (InGroup member ∷ entries) = groups_of entries
groups_of (Sitemap address ∷ entries) = groups_of entries
groups_of (Nothing ∷ entries) = groups_of entries

abbrev pub is_rule : Member → Bool
is_rule (Allow pattern) = true
is_rule (Disallow pattern) = true
is_rule (Delay number) = false

-- the standard's own lines: startgroupline / rule / emptyline
abbrev pub IsStandardLine : Entry → List ℕ → Type 0
IsStandardLine (Agent token) text = IsStartGroupLine token text
IsStandardLine (InGroup member) text = IsRule member text
IsStandardLine (Sitemap address) text = ⊥
IsStandardLine Nothing text = IsEmptyLine text

-- robotstxt as a list of lines: no rule is above the first group, and the groups are those that the lines
-- make
pub record IsRobotstxtByLines (groups : List Group) (text : List ℕ) : Type 0 where
  pub entries : List Entry
  pub are_lines : AreLines IsStandardLine entries text
  pub none_above : above_groups entries ≡ []
  pub written : groups ≡ groups_of entries

-- ---- the extended grammar by its lines

-- The extended grammar has no form by groups: that further lines are skipped is stated by `groups_of` itself.

-- memberline = rule / starrule / delayline; in the standard: rule
abbrev pub IsMemberLine : Member → List ℕ → Type 0
IsMemberLine member text = IsRule member text ⊎ (IsStarRule member text ⊎ IsDelayLine member text)

-- line = startgroupline / memberline / sitemapline / emptyline / otherline
abbrev pub IsLine : Entry → List ℕ → Type 0
IsLine (Agent token) text = IsStartGroupLine token text
IsLine (InGroup member) text = IsMemberLine member text
IsLine (Sitemap address) text = IsSitemapLine address text
IsLine Nothing text = IsEmptyLine text ⊎ IsOtherLine text

-- lines of the extended grammar (`IsLine`): only these delays are above the first group, and the groups are
-- those that the lines make
pub record IsExtendedByLines (numbers : List (List ℕ)) (groups : List Group) (text : List ℕ) : Type 0 where
  pub entries : List Entry
  pub are_lines : AreLines IsLine entries text
  pub above : above_groups entries ≡ map Delay numbers
  pub written : groups ≡ groups_of entries

-- a byte order mark in UTF-8, which the standard's grammar doesn't have, or nothing
abbrev pub IsBom : List ℕ → Type 0
IsBom bytes = (bytes ≡ []) ⊎ (bytes ≡ 0xEF ∷ 0xBB ∷ 0xBF ∷ [])

-- what the text lacks at its end: nothing, or NL
abbrev pub IsLastNl : List ℕ → Type 0
IsLastNl bytes = (bytes ≡ []) ⊎ IsNl bytes

-- a content of this kind, possibly after a byte order mark, and possibly without the last NL
pub record IsFileOf (Content : List ℕ → Type 0) (text : List ℕ) : Type 0 where
  pub bom : List ℕ
  pub rest : List ℕ
  pub nl : List ℕ
  pub whole : text ≡ bom ++ rest
  pub is_bom : IsBom bom
  pub is_nl : IsLastNl nl
  pub is_content : Content (rest ++ nl)

-- a file in the extended grammar, with these delays above its groups
abbrev pub IsFileWith : List (List ℕ) → List Group → List ℕ → Type 0
IsFileWith numbers groups text = IsFileOf (IsExtendedByLines numbers groups) text

-- a file in the extended grammar, with these groups: only delays may be above them, no rules
abbrev pub IsFile : List Group → List ℕ → Type 0
IsFile groups text = (numbers : List (List ℕ)) × IsFileWith numbers groups text

-- ---- the sitemaps of a file

abbrev pub addresses_of : List Entry → List (List ℕ)
addresses_of [] = []
addresses_of (Agent token ∷ entries) = addresses_of entries
addresses_of (InGroup member ∷ entries) = addresses_of entries
addresses_of (Sitemap address ∷ entries) = address ∷ addresses_of entries
addresses_of (Nothing ∷ entries) = addresses_of entries

-- lines of the extended grammar (`IsLine`), regardless of groups, which state these addresses
pub record HasSitemaps (addresses : List (List ℕ)) (text : List ℕ) : Type 0 where
  pub entries : List Entry
  pub are_lines : AreLines IsLine entries text
  pub written : addresses ≡ addresses_of entries

-- the addresses of the file's sitemaplines, in order
abbrev pub ListsSitemaps : List (List ℕ) → List ℕ → Type 0
ListsSitemaps addresses text = IsFileOf (HasSitemaps addresses) text

-- ---- the rules for a crawler

-- the token is the crawler's, without regard to the case of ASCII letters
abbrev pub is_token : List ℕ → List ℕ → Bool
is_token agent token = bytes_eq (map to_ascii_lowercase token) (map to_ascii_lowercase agent)

abbrev pub has_token : List ℕ → Group → Bool
has_token agent group = list_any (is_token agent) group.tokens

-- the groups with the crawler's token, or those with `*` if there are none
abbrev pub groups_for : List ℕ → List Group → List Group
groups_for agent groups =
    if list_any (has_token agent) groups then filter (has_token agent) groups
    else filter (has_token (codes "*")) groups

-- the rules of these groups, in order, without their delays
abbrev pub rules_for : List ℕ → List Group → List Member
rules_for agent groups = filter is_rule (flat_map (λ group. group.members) (groups_for agent groups))
