-- The tokenizer of the HTML standard (13.2.5), byte by byte: the tags in a page, and which elements are open.
--
-- States have the standard's names and numbers. A byte leads to `outside`, for good, where no page of this
-- crate goes: comments, upper-case names, other attributes than `name="value"`, references by number, errors.
-- Bytes that the standard treats in their own way are ASCII; a printable page has neither NUL nor CR. The
-- standard also adds missing tags, and moves elements that aren't allowed where they are. This doesn't.
use Rattle.std.specs.Prelude.{ℕ, ◌==◌, Bool, not, ◌&&◌, List, [], ◌∷◌, ◌++◌, if◌then◌else◌}
use Rattle.std.specs.{Str.bytes_eq}
use Rattle.safe_output.specs.Html.{is_among, is_letter, is_name_byte, is_style, is_title, other_names}
use Rattle.safe_output.specs.Html.{void_names}

-- a tag's name, and the names of its attributes
pub record Tag : Type 0 where
  pub name : List ℕ
  pub labels : List (List ℕ)

abbrev pub new_tag : List ℕ → List (List ℕ) → Tag
new_tag name labels = record { name = name; labels = labels }

pub data Token : Type 0 where
  start_tag : Tag → Token
  -- ends with `/>`
  self_closing_tag : Tag → Token
  end_tag : List ℕ → Token

-- 34 is `"`, 38 `&`, 47 `/`, 59 `;`, 60 `<`, 61 `=`, 62 `>`
pub data State : Type 0 where
  -- 13.2.5.1; in a `title` 13.2.5.2, and in a `style` 13.2.5.3
  data_state : State
  rcdata_state : State
  rawtext_state : State
  -- 13.2.5.72 and 73, with the state to return to
  character_reference : State → State
  -- 13.2.5.6; in a `title` 13.2.5.9, and in a `style` 13.2.5.12
  tag_open : State
  less_than_sign : State
  -- 13.2.5.7 and 8, with the name so far
  end_tag_open : State
  tag_name : List ℕ → State
  -- 13.2.5.8, 11 and 14
  end_tag_name : List ℕ → State
  -- 13.2.5.32, 33, with the name so far, 35, 36, 39 and 40
  before_attribute_name : Tag → State
  attribute_name : Tag → List ℕ → State
  before_attribute_value : Tag → State
  attribute_value : Tag → State
  after_attribute_value : Tag → State
  self_closing_start_tag : Tag → State
  outside : State

pub data Step : Type 0 where
  to : State → Step
  emit : Token → Step

-- a byte after the name of a start tag or after an attribute
abbrev pub after : Tag → ℕ → Step
after tag byte =
    if byte == 62 then emit (start_tag tag)
    else if byte == 32 then to (before_attribute_name tag)
    else if byte == 47 then to (self_closing_start_tag tag)
    else to outside

-- a byte of a text, which the byte `last` ends
abbrev pub within : State → (last : ℕ) → State → ℕ → Step
within state last next byte =
    if byte == last then to next
    else if byte == 38 then to (character_reference state)
    else to state

abbrev pub step : State → ℕ → Step
step data_state byte = within data_state 60 tag_open byte
step rcdata_state byte = within rcdata_state 60 less_than_sign byte
step rawtext_state byte = if byte == 60 then to less_than_sign else to rawtext_state
step (character_reference state) byte =
    if byte == 59 then to state
    else if is_letter byte then to (character_reference state)
    else to outside
step tag_open byte =
    if is_letter byte then to (tag_name (byte ∷ []))
    else if byte == 47 then to end_tag_open
    else to outside
step less_than_sign byte = if byte == 47 then to end_tag_open else to outside
step end_tag_open byte = if is_letter byte then to (end_tag_name (byte ∷ [])) else to outside
step (tag_name name) byte =
    if is_name_byte byte then to (tag_name (name ++ byte ∷ [])) else after (new_tag name []) byte
step (end_tag_name name) byte =
    if is_name_byte byte then to (end_tag_name (name ++ byte ∷ []))
    else if byte == 62 then emit (end_tag name)
    else to outside
step (before_attribute_name tag) byte =
    if is_letter byte then to (attribute_name tag (byte ∷ [])) else to outside
step (attribute_name tag label) byte =
    if is_name_byte byte then to (attribute_name tag (label ++ byte ∷ []))
    else if byte == 61 && not (is_among tag.labels label)
    then to (before_attribute_value (new_tag tag.name (tag.labels ++ label ∷ [])))
    else to outside
step (before_attribute_value tag) byte = if byte == 34 then to (attribute_value tag) else to outside
step (attribute_value tag) byte = within (attribute_value tag) 34 (after_attribute_value tag) byte
step (after_attribute_value tag) byte = after tag byte
step (self_closing_start_tag tag) byte = if byte == 62 then emit (self_closing_tag tag) else to outside
step outside byte = to outside

-- the names of the open elements, from the innermost one outwards, and the tags, the last one first
pub record Reader : Type 0 where
  pub state : State
  pub opened : List (List ℕ)
  pub tags : List Token

abbrev pub reader : State → List (List ℕ) → List Token → Reader
reader state opened tags = record { state = state; opened = opened; tags = tags }

-- within an element of this name (13.2.6.4.4 and 7)
abbrev pub content_state : List ℕ → State
content_state name =
    if is_style name then rawtext_state
    else if is_title name then rcdata_state
    else if is_among (void_names ++ other_names) name then outside
    else data_state

abbrev pub if_so : Bool → State
if_so is = if is then data_state else outside

abbrev pub with_token : Token → List (List ℕ) → List Token → Reader
with_token (start_tag tag) opened tags =
    reader (content_state tag.name) (tag.name ∷ opened) (start_tag tag ∷ tags)
with_token (self_closing_tag tag) opened tags =
    reader (if_so (is_among void_names tag.name)) opened (self_closing_tag tag ∷ tags)
with_token (end_tag name) [] tags = reader outside [] tags
with_token (end_tag name) (innermost ∷ outer) tags =
    reader (if_so (bytes_eq innermost name)) outer (end_tag name ∷ tags)

abbrev pub with_step : Step → List (List ℕ) → List Token → Reader
with_step (to state) opened tags = reader state opened tags
with_step (emit token) opened tags = with_token token opened tags

abbrev pub run : Reader → List ℕ → Reader
run from [] = from
run from (byte ∷ bytes) = run (with_step (step from.state byte) from.opened from.tags) bytes
