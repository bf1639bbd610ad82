-- Directives: which contents of lines are directives.
use Rattle.std.specs.Prelude.{◌≡◌, ◌≢◌, ◌⊎◌, ℕ, List, [], ◌∷◌, ◌++◌, codes}
use Rattle.std.specs.{Str.byte, Str.str_to_ascii_lowercase, List.AllByRecursion as Each, List.Contains}
use Rattle.texting_robots.specs.declared.parser.statement.Kind.TheVariants.{UserAgent, Allow, Disallow}
use Rattle.texting_robots.specs.declared.parser.statement.Kind.TheVariants.{Sitemap, CrawlDelay}
use Rattle.texting_robots.specs.{Trim.IsTrimOf, declared.parser.statement.Kind.Kind}

-- the accepted field names of each kind of directive, in lowercase
abbrev pub field_names : Kind → List (List ℕ)
field_names UserAgent = codes "user-agent" ∷ codes "user agent" ∷ codes "useragent" ∷ []
field_names Allow = codes "allow" ∷ []
field_names Disallow =
    codes "disallow" ∷ codes "dissallow" ∷ codes "dissalow" ∷ codes "disalow" ∷ codes "diasllow"
    ∷ codes "disallaw" ∷ []
field_names Sitemap = codes "sitemap" ∷ codes "site-map" ∷ codes "site map" ∷ []
field_names CrawlDelay = codes "crawl-delay" ∷ codes "crawl delay" ∷ codes "crawldelay" ∷ []

abbrev pub IsBlank : ℕ → Type 0
IsBlank b = (b ≡ byte " ") ⊎ (b ≡ byte "\t")

-- the first byte, if there is one, is neither a space, nor a tab, nor a colon
abbrev pub StartsValue : List ℕ → Type 0
StartsValue [] = Unit {0}
StartsValue (b ∷ text) = (¬ IsBlank b) × (b ≢ byte ":")

-- the rest is any number of spaces and tabs, a colon and the tail
abbrev pub IsAfterColon : List ℕ → List ℕ → Type 0
IsAfterColon tail rest =
    (blanks : List ℕ) × Each IsBlank blanks × (rest ≡ blanks ++ byte ":" ∷ tail)

-- the rest is one or more spaces and tabs, and the tail, which doesn't begin with a space, a tab or a colon
abbrev pub IsAfterBlanks : List ℕ → List ℕ → Type 0
IsAfterBlanks tail rest =
    (blanks : List ℕ) × Each IsBlank blanks × (blanks ≢ []) × (rest ≡ blanks ++ tail)
    × StartsValue tail

-- a directive: spaces and tabs, a field name of this kind, ASCII letters in any case, a separator, a raw
-- value without `#`, and nothing or a comment; the value is the raw value, trimmed
pub record IsStatement (kind : Kind) (value body : List ℕ) : Type 0 where
  pub margin : List ℕ
  pub key : List ℕ
  pub rest : List ℕ
  pub tail : List ℕ
  pub region : List ℕ
  pub comment : List ℕ
  pub whole : body ≡ margin ++ (key ++ rest)
  pub margin_blank : Each IsBlank margin
  pub is_key : Contains (field_names kind) (str_to_ascii_lowercase key)
  pub separated : IsAfterColon tail rest ⊎ IsAfterBlanks tail rest
  pub parted : tail ≡ region ++ comment
  pub no_hash : Each (λ b. b ≢ byte "#") region
  pub is_comment : (comment ≡ []) ⊎ ((text : List ℕ) × (comment ≡ byte "#" ∷ text))
  pub trimmed : IsTrimOf value region
