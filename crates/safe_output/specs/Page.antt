-- A page that is written piece by piece: what may be written, its open elements, tags and end.
use Rattle.std.specs.Prelude.{◌≡◌, ℕ, ◌==◌, Bool, true, false, not, ◌&&◌, ◌||◌, IsTrue, List, [], ◌∷◌, ◌++◌}
use Rattle.std.specs.Prelude.{codes, map, reverse}
use Rattle.std.specs.{Borrow.Bor, List.list_all}
use Rattle.safe_output.specs.Sanitize.{IsPrintable, has_command, is_printable_byte}
use Rattle.safe_output.specs.Html.{is_among, is_name, is_style, is_title, other_names, void_names}
use Rattle.safe_output.specs.Reader.{Reader, Token, data_state, end_tag, new_tag, reader, run}
use Rattle.safe_output.specs.Reader.{self_closing_tag, start_tag}

abbrev pub so_far : List ℕ → Reader
so_far bytes = run (reader data_state [] []) bytes

-- an element with content, other than `style` and `title`
abbrev pub is_tag : List ℕ → Bool
is_tag name =
    is_name name && not (is_style name || is_title name || is_among (void_names ++ other_names) name)

abbrev pub is_void : List ℕ → Bool
is_void name = is_name name && is_among void_names name

-- names of attributes after those before them, none of which occurs twice
abbrev pub are_names : (before names : List (List ℕ)) → Bool
are_names before [] = true
are_names before (name ∷ names) =
    is_name name && (not (is_among before name) && are_names (before ++ name ∷ []) names)

abbrev pub names_of : List (Bor (List ℕ)) → List (List ℕ)
names_of names = map (λ name. name.now) names

abbrev pub names_in : List (Bor (List ℕ) × Bor (List ℕ)) → List (List ℕ)
names_in attributes = map (λ a. a.0.now) attributes

abbrev pub is_no_bracket : ℕ → Bool
is_no_bracket byte = not (byte == 91)

abbrev pub is_safe_byte : ℕ → Bool
is_safe_byte byte = is_printable_byte true byte && is_no_bracket byte

-- no byte of it begins a tag either
abbrev pub is_css : List ℕ → Bool
is_css bytes = list_all (λ byte. is_safe_byte byte && not (byte == 60)) bytes

-- printable, and without `[`, with which the start of a command on GitHub, `##[`, ends, whatever follows
abbrev pub IsSafe : List ℕ → Type 0
IsSafe bytes = IsPrintable bytes × IsTrue (list_all is_no_bracket bytes)

-- what was written is safe, ends neither in a tag nor in a character reference, and has these open
-- elements, from the outermost one inwards
pub record IsOpen (names : List (Bor (List ℕ))) (bytes : List ℕ) : Type 0 where
  pub safe : IsSafe bytes
  pub are_names : list_all is_name (names_of names) ≡ true
  pub state : (so_far bytes).state ≡ data_state
  pub opened : (so_far bytes).opened ≡ reverse (names_of names)

-- the start tag of an element is appended; one without content; and one that contains a text alone
abbrev pub begun : (name : List ℕ) → (labels : List (List ℕ)) → Reader → Reader
begun name labels page =
    reader data_state (name ∷ page.opened) (start_tag (new_tag name labels) ∷ page.tags)

abbrev pub with_void : (name : List ℕ) → (labels : List (List ℕ)) → Reader → Reader
with_void name labels page =
    reader data_state page.opened (self_closing_tag (new_tag name labels) ∷ page.tags)

abbrev pub with_text : (name : List ℕ) → Reader → Reader
with_text name page =
    reader data_state page.opened (end_tag name ∷ start_tag (new_tag name []) ∷ page.tags)

-- the innermost open element ends
abbrev pub ended : List (List ℕ) → List Token → Reader
ended [] tags = reader data_state [] tags
ended (innermost ∷ outer) tags = reader data_state outer (end_tag innermost ∷ tags)

abbrev pub closed : Reader → Reader
closed page = ended page.opened page.tags

-- all open elements end
abbrev pub all_ended : List (List ℕ) → List Token → List Token
all_ended [] tags = tags
all_ended (innermost ∷ outer) tags = all_ended outer (end_tag innermost ∷ tags)

abbrev pub all_closed : Reader → List Token
all_closed page = all_ended page.opened page.tags

-- a page without the start of a command, in which these tags are, and each element is closed
pub record IsPage (tags : List Token) (bytes : List ℕ) : Type 0 where
  pub content : List ℕ
  pub printable : IsPrintable bytes
  pub quiet : has_command bytes ≡ false
  pub begins : bytes ≡ codes "<!DOCTYPE html>" ++ content
  pub read : so_far content ≡ reader data_state [] tags

abbrev pub IsSomePage : List ℕ → Type 0
IsSomePage bytes = (tags : List Token) × IsPage tags bytes
