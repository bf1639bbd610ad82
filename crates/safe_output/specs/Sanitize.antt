-- Invalid UTF-8, characters that are unsafe to display, and the start of commands are escaped.
use Rattle.std.specs.Prelude.{ℕ, ◌==◌, nat_eq, nat_lt, Bool, true, false, not, ◌&&◌, ◌||◌, IsTrue, List, []}
use Rattle.std.specs.Prelude.{◌∷◌, ◌++◌, Option, Some, None, codes, drop, encode_utf8, encode_utf8_all}
use Rattle.std.specs.Prelude.{flat_map, if◌then◌else◌, take}
use Rattle.std.specs.Str.{IsUtf8, byte, chars}
use Rattle.std.specs.{Char.is_control, Int.is_in_range, List.list_all, List.starts_with}
use Rattle.bstr.specs.Utf8.{Decoded, pieces}
use Rattle.texting_robots.specs.Callers.{escaped}
use Rattle.safe_output.specs.{Bytes.somewhere, Lines.lf}

-- a bidirectional control character
abbrev pub turns_text : ℕ → Bool
turns_text char =
    char == 0x61C || is_in_range 0x200E 0x200F char || is_in_range 0x202A 0x202E char
    || is_in_range 0x2066 0x2069 char

abbrev pub parts_text : ℕ → Bool
parts_text char = is_in_range 0x2028 0x2029 char

abbrev pub is_unsafe : ℕ → Bool
is_unsafe char = is_control char || turns_text char || parts_text char

-- shown unchanged; this includes LF if the text may have several lines
abbrev pub is_printable : Bool → ℕ → Bool
is_printable has_lines char = not (is_unsafe char) || (has_lines && char == lf)

abbrev pub is_printable_byte : Bool → ℕ → Bool
is_printable_byte has_lines byte = nat_lt byte 0x80 && is_printable has_lines byte

-- with `##[` a command begins in a workflow on GitHub, such as `##[error]`
abbrev pub begins_command : List ℕ → Bool
begins_command text = starts_with nat_eq text (codes "##[")

-- a command with `##[` works anywhere in a line
abbrev pub has_command : List ℕ → Bool
has_command text = somewhere begins_command text

abbrev pub is_other : ℕ → Bool
is_other b = not (nat_eq 35 b)

abbrev pub without_hash : ℕ → List ℕ
without_hash char = if char == byte "#" then codes "%23" else char ∷ []

-- the text, with each `#` escaped if it contains the start of a command
unfoldable pub without_commands : List ℕ → List ℕ
without_commands text =
    if has_command text then encode_utf8_all (flat_map without_hash (chars text)) else text

-- bytes that aren't valid UTF-8 (`None`) are changed to `%` and two hexadecimal digits each
abbrev pub safe_chunk : Bool → Option ℕ → List ℕ → List ℕ
safe_chunk has_lines None bytes = escaped bytes
safe_chunk has_lines (Some char) bytes =
    if is_printable has_lines char then encode_utf8 char else escaped bytes

abbrev pub safe_chunks : Bool → List Decoded → List ℕ → List ℕ
safe_chunks has_lines [] bytes = []
safe_chunks has_lines (chunk ∷ later) bytes =
    safe_chunk has_lines chunk.char (take chunk.size bytes)
    ++ safe_chunks has_lines later (drop chunk.size bytes)

-- all that is unsafe to display is escaped, in one line or in several
abbrev pub safe_in : Bool → List ℕ → List ℕ
safe_in has_lines bytes = safe_chunks has_lines (pieces bytes) bytes

abbrev pub sanitized_in : Bool → List ℕ → List ℕ
sanitized_in has_lines bytes = without_commands (safe_in has_lines bytes)

-- sanitized text of one line: it contains no LF, so it can't forge a line
abbrev pub sanitized : List ℕ → List ℕ
sanitized = sanitized_in false

-- UTF-8, and only characters that are shown unchanged
pub record IsPrintableIn (has_lines : Bool) (text : List ℕ) : Type 0 where
  pub utf8 : IsUtf8 text
  pub all : IsTrue (list_all (is_printable has_lines) (chars text))

-- UTF-8, and no character other than LF is unsafe to display
abbrev pub IsPrintable : List ℕ → Type 0
IsPrintable = IsPrintableIn true
