-- Parts of a byte string, and bytes in it.
use Rattle.std.specs.Prelude.{[], ℕ, ◌==◌, Bool, false, ◌||◌, List, ◌∷◌, codes, drop, if◌then◌else◌, reverse}
use Rattle.std.specs.{Char.is_ascii_alphanumeric, List.before_first, List.list_any, List.position_or_len}

abbrev pub has : ℕ → List ℕ → Bool
has b text = list_any (λ c. c == b) text

-- all of the text if the byte isn't in it
abbrev pub before_byte : ℕ → List ℕ → List ℕ
before_byte b text = before_first (λ c. c == b) text

-- from the byte on; empty if it isn't in the text
abbrev pub from_byte : ℕ → List ℕ → List ℕ
from_byte b text = drop (position_or_len (λ c. c == b) text) text

-- empty if the byte isn't in the text
abbrev pub after_byte : ℕ → List ℕ → List ℕ
after_byte b text = drop 1 (from_byte b text)

abbrev pub somewhere : (List ℕ → Bool) → List ℕ → Bool
somewhere test [] = false
somewhere test (b ∷ text) = test (b ∷ text) || somewhere test text

-- from the first byte on for which the test holds; empty if there is none
abbrev pub from_first : (List ℕ → Bool) → List ℕ → List ℕ
from_first test [] = []
from_first test (b ∷ text) = if test (b ∷ text) then b ∷ text else from_first test text

-- a space or a tab
abbrev pub is_blank : ℕ → Bool
is_blank b = b == 0x20 || b == 0x09

abbrev pub trim_blanks_start : List ℕ → List ℕ
trim_blanks_start [] = []
trim_blanks_start (b ∷ text) = if is_blank b then trim_blanks_start text else b ∷ text

abbrev pub trim_blanks_end : List ℕ → List ℕ
trim_blanks_end text = reverse (trim_blanks_start (reverse text))

abbrev pub trim_blanks : List ℕ → List ℕ
trim_blanks text = trim_blanks_end (trim_blanks_start text)

-- a byte that needs no escape anywhere in a URL
abbrev pub needs_no_escape : ℕ → Bool
needs_no_escape b = is_ascii_alphanumeric b || has b (codes "-._~")
