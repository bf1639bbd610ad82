-- Lines of reports, levels and colors.
use Rattle.std.specs.Prelude.{ℕ, Bool, true, false, List, codes, ◌≡◌, not, nat_eq, IsTrue, [], ◌∷◌, ◌⊎◌, ◌++◌}
use Rattle.std.specs.Prelude.{drop, flat_map, if◌then◌else◌, length}
use Rattle.std.specs.{Char.is_whitespace, List.AllByRecursion as Each, List.starts_with}
use Rattle.bstr.specs.{Trim.trim_start_by}
use Rattle.safe_output.specs.{declared.level.Level.Level, Lines.ended}
use Rattle.safe_output.specs.declared.level.Level.TheVariants.{Error, Note, Warning}
use Rattle.safe_output.specs.Sanitize.{IsPrintable, IsPrintableIn, has_command}

abbrev pub level_word : Level → List ℕ
level_word Error = codes "error"
level_word Warning = codes "warning"
level_word Note = codes "note"

-- the level is `least` or a more serious one
abbrev pub reaches : (level least : Level) → Bool
reaches level Note = true
reaches Error least = true
reaches Warning Warning = true
reaches Warning Error = false
reaches Note Warning = false
reaches Note Error = false

-- ---- Lines that no workflow on GitHub takes for a command. A command begins with `::`, possibly after white
-- space at the start of a line, or with `##[` anywhere in a line.

-- U+FEFF, which a reader may leave out at the start of a stream
abbrev pub mark : List ℕ
mark = 0xEF ∷ 0xBB ∷ 0xBF ∷ []

abbrev pub without_utf8_bom : List ℕ → List ℕ
without_utf8_bom text = if starts_with nat_eq text mark then drop (length mark) text else text

-- the first character that isn't white space isn't `:`
abbrev pub begins_plainly : List ℕ → Bool
begins_plainly text =
    not (starts_with nat_eq (trim_start_by is_whitespace (without_utf8_bom text)) (codes ":"))

-- a single line, safe to display, that isn't a command
pub record IsPlainLine (line : List ℕ) : Type 0 where
  pub printable : IsPrintableIn false line
  pub begins : IsTrue (begins_plainly line)
  pub inside : has_command line ≡ false

pub record IsReport (text : List ℕ) : Type 0 where
  pub lines : List (List ℕ)
  pub each : Each IsPlainLine lines
  pub text_is : text ≡ ended lines

abbrev pub color_of : Level → List ℕ
color_of Error = 27 ∷ codes "[1;31m"
color_of Warning = 27 ∷ codes "[1;33m"
color_of Note = 27 ∷ codes "[1;36m"

abbrev pub color_end : List ℕ
color_end = 27 ∷ codes "[0m"

abbrev pub shown_word : (has_colors : Bool) → Level → List ℕ
shown_word false level = level_word level
shown_word true level = color_of level ++ (level_word level ++ color_end)

-- the part is printable and shown as it is, or a word for a level between the codes of its color,
-- which so ends with it
abbrev pub IsShownAs : (part shown : List ℕ) → Type 0
IsShownAs part shown =
    (IsPrintable part × (shown ≡ part))
    ⊎ ((level : Level) × (part ≡ shown_word true level) × (shown ≡ level_word level))

-- printable parts and colored words; without the codes the text is `plain`
pub record IsColored (plain text : List ℕ) : Type 0 where
  -- each part, and what is shown of it
  pub parts : List (List ℕ × List ℕ)
  pub each : Each (λ part. IsShownAs part.0 part.1) parts
  pub text_is : text ≡ flat_map (λ part. part.0) parts
  pub plain_is : plain ≡ flat_map (λ part. part.1) parts

-- `shown` shows the text up to `rest`
pub record IsColoredTo (text rest shown : List ℕ) : Type 0 where
  pub plain : List ℕ
  pub colored : IsColored plain shown
  pub printable : IsPrintable rest
  pub text_is : text ≡ plain ++ rest

-- a report or, if there are colors, one into which color codes are inserted
abbrev pub IsShownReport : (has_colors : Bool) → List ℕ → Type 0
IsShownReport false text = IsReport text
IsShownReport true text = (plain : List ℕ) × IsReport plain × IsColored plain text
