-- Which line has which content, and which lines a text has.
use Rattle.std.specs.Prelude.{◌≡◌, ◌⊎◌, ℕ, ◌==◌, Bool, true, false, List, [], ◌∷◌, ◌++◌, map, codes, IfSome}
use Rattle.std.specs.Prelude.{IsSome, Option, Some, None, if◌then◌else◌}
use Rattle.std.specs.{List.AllZip}
use Rattle.texting_robots.specs.Cut.{Pair, IsCut, joined, lf}
use Rattle.texting_robots.specs.declared.parser.{Line.Line, statement.Kind.Kind}
use Rattle.texting_robots.specs.{Delay.IsDelay, Pattern.IsSuffix, Statement.IsStatement}
use Rattle.texting_robots.specs.declared.parser.Line.TheVariants as line
use Rattle.texting_robots.specs.declared.parser.statement.Kind.TheVariants as kind

-- a line by value, wherever its bytes are in memory
pub data LineValue : Type 0 where
  UserAgent Allow Disallow Sitemap Raw : List ℕ → LineValue
  CrawlDelay : Option ℕ → LineValue

abbrev pub by_value : Line → LineValue
by_value (line.UserAgent value) = UserAgent value.now
by_value (line.Allow value) = Allow value.now
by_value (line.Disallow value) = Disallow value.now
by_value (line.Sitemap value) = Sitemap value.now
by_value (line.CrawlDelay delay) = CrawlDelay delay
by_value (line.Raw body) = Raw body.now

-- the line of a directive of this kind with this value; an empty Disallow is an Allow of `/`, and a
-- Crawl-delay whose value isn't a delay is `Raw`, with the whole content
abbrev pub IsLineWith : Kind → List ℕ → List ℕ → LineValue → Type 0
IsLineWith kind.UserAgent value body line = line ≡ UserAgent value
IsLineWith kind.Allow value body line = line ≡ Allow value
IsLineWith kind.Disallow [] body line = line ≡ Allow (codes "/")
IsLineWith kind.Disallow (b ∷ value) body line = line ≡ Disallow (b ∷ value)
IsLineWith kind.Sitemap value body line = line ≡ Sitemap value
IsLineWith kind.CrawlDelay value body line =
    ((delay : ℕ) × IsDelay value (Some delay) × (line ≡ CrawlDelay (Some delay)))
    ⊎ (IsDelay value None × (line ≡ Raw body))

-- the line with this content: that of its directive, or `Raw` if it isn't a directive
abbrev pub IsLineOf : LineValue → List ℕ → Type 0
IsLineOf line body =
    ((kind : Kind) × (value : List ℕ) × IsStatement kind value body × IsLineWith kind value body line)
    ⊎ (((kind : Kind) (value : List ℕ) → ¬ IsStatement kind value body) × (line ≡ Raw body))

abbrev pub without : ℕ → List ℕ → List ℕ
without byte [] = []
without byte (first ∷ text) = if first == byte then text else first ∷ text

-- the text without a byte order mark: without a leading EF, then a leading BB, then a leading BF
abbrev pub without_bom : List ℕ → List ℕ
without_bom text = without 0xBF (without 0xBB (without 0xEF text))

-- the lines of the contents in the text's cut, without the byte order mark
pub record AreLinesOf (lines : List LineValue) (text : List ℕ) : Type 0 where
  pub pairs : List Pair
  pub is_cut : IsCut pairs (without_bom text)
  pub each : AllZip IsLineOf lines (map (λ pair. pair.body) pairs)

abbrev pub nul_as_lf : ℕ → ℕ
nul_as_lf byte = if byte == 0 then lf else byte

-- the lines of the file, in which each NUL is read as LF
abbrev pub AreFileLinesOf : List LineValue → List ℕ → Type 0
AreFileLinesOf lines text = AreLinesOf lines (map nul_as_lf text)

-- the contents of the file's lines: those of the same cut
abbrev pub AreFileBodiesOf : List (List ℕ) → List ℕ → Type 0
AreFileBodiesOf bodies text = (pairs : List Pair) × IsCut pairs (without_bom (map nul_as_lf text))
    × (bodies ≡ map (λ pair. pair.body) pairs)

abbrev pub HasLines : List ℕ → (List LineValue → Type 0) → Type 0
HasLines file P = (lines : List LineValue) × AreFileLinesOf lines file × P lines

abbrev pub value_in : LineValue → Option (List ℕ)
value_in (UserAgent value) = Some value
value_in (Allow value) = Some value
value_in (Disallow value) = Some value
value_in (Sitemap value) = Some value
value_in (CrawlDelay delay) = None
value_in (Raw body) = Some body

-- the value is a range of the content; `IsStatement` states which range
abbrev pub IsRangeOf : List ℕ → List ℕ → Type 0
IsRangeOf value body = (before : List ℕ) × (after : List ℕ) × (body ≡ before ++ (value ++ after))

-- the bytes of the line are a range of its content, or the `/` of an empty Disallow; a delay is a number
abbrev pub HoldsRangeOf : LineValue → List ℕ → Type 0
HoldsRangeOf (Allow value) body =
    IsRangeOf value body ⊎ ((value ≡ codes "/") × IsStatement kind.Disallow [] body)
HoldsRangeOf (CrawlDelay delay) body = IsSome delay
HoldsRangeOf (Raw value) body = value ≡ body
HoldsRangeOf line body = IfSome (value_in line) (λ value. IsRangeOf value body)

-- the bytes of each line are a range of its content; the pairs are the text without its byte order mark
pub record HoldRangesOf (lines : List LineValue) (text : List ℕ) : Type 0 where
  pub pairs : List Pair
  pub is_cut : IsCut pairs (without_bom text)
  pub whole : IsSuffix (joined pairs) text
  pub each : AllZip HoldsRangeOf lines (map (λ pair. pair.body) pairs)

abbrev pub is_sitemap : LineValue → Bool
is_sitemap (Sitemap value) = true
is_sitemap _ = false

abbrev pub is_raw : LineValue → Bool
is_raw (Raw body) = true
is_raw _ = false

abbrev pub delay_in : LineValue → Option ℕ
delay_in (CrawlDelay delay) = delay
delay_in _ = None
