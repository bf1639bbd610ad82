-- What the content of a directive has besides its value: white space, a comment, and the text of a delay. Raw
-- values are those of directives with a colon.
use Rattle.std.specs.Prelude.{ℕ, ◌==◌, nat_eq, Bool, not, ◌||◌, ◌&&◌, List, codes, length}
use Rattle.std.specs.{List.ends_with, List.starts_with, Str.byte}
use Rattle.safe_output.specs.Bytes.{after_byte, before_byte, from_byte, trim_blanks}
use Rattle.robots_warnings.specs.{Closed.is_whole_site, File.hash}

-- what is between the first colon and the comment
abbrev pub tail_of : List ℕ → List ℕ
tail_of body = after_byte (byte ":") (before_byte hash body)

-- the comment, which starts with the first `#`; empty if there is none
abbrev pub comment_of : List ℕ → List ℕ
comment_of body = from_byte hash body

-- the tail without spaces and tabs at both ends
abbrev pub raw_value : List ℕ → List ℕ
raw_value tail = trim_blanks tail

-- a comment directly follows the value, which isn't empty
abbrev pub is_cut : (value tail comment : List ℕ) → Bool
is_cut value tail comment =
    not (length comment == 0) && (not (length value == 0) && ends_with nat_eq tail value)

-- the whole site is left, which is also the value of an empty Disallow, for example if nothing precedes a
-- comment that is written as a path: `#/a` or `#!/a`; an empty Allow has no effect
abbrev pub is_cut_to_root : (value tail comment : List ℕ) → Bool
is_cut_to_root value tail comment =
    let is_path = starts_with nat_eq comment (codes "#/") || starts_with nat_eq comment (codes "#!/") in
    (is_cut value tail comment || (is_path && length (raw_value tail) == 0)) && is_whole_site value
