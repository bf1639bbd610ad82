-- A page that is written piece by piece: each piece keeps it safe, and is read as the tags that were written.
use Rattle.std.specs.Prelude.{◌&&◌, ◌||◌, not, if◌then◌else◌}
use Rattle.std.{specs.Borrow.Bor, specs.List.list_all, proofs.lemmas.Slice.Eq.bytes_eq-Decides}
use Rattle.std.proofs.Common.{[], ◌++◌, ◌==◌, ◌∙◌, ◌∷◌, ◌≡◌, ap, append-nil, append_assoc, arith, Bool, codes}
use Rattle.std.proofs.Common.{false, flat_map, List, refl, reverse, subst, sym, true, ℕ}
use Rattle.std.proofs.lemmas.Bool.{and_parts, not-true, Decides.nat_tests}
use Rattle.std.proofs.lemmas.List.{map-append, reverse-append, Folds.list_all-append}
use Rattle.safe_output.specs.Sanitize.{has_command, is_printable_byte, IsPrintable, IsPrintableIn, sanitized}
use Rattle.safe_output.specs.Sanitize.{without_commands}
use Rattle.safe_output.specs.Html.{attribute_bytes, escaped_byte, is_name_byte, is_unchanged, shown_attribute}
use Rattle.safe_output.specs.Html.{end_bytes, is_letter, other_names, style_bytes, title_bytes, void_names}
use Rattle.safe_output.specs.Html.{escaped, is_among, is_name, is_plain, is_style, is_title, tag_bytes}
use Rattle.safe_output.specs.Page.{all_closed, all_ended, are_names, begun, closed, ended, is_css}
use Rattle.safe_output.specs.Page.{is_no_bracket, is_safe_byte, is_tag, is_void, IsOpen, IsPage, IsSafe}
use Rattle.safe_output.specs.Page.{names_in, names_of, so_far, with_text, with_void}
use Rattle.safe_output.specs.Reader.{after, after_attribute_value, attribute_name, attribute_value}
use Rattle.safe_output.specs.Reader.{before_attribute_name, character_reference, data_state, end_tag}
use Rattle.safe_output.specs.Reader.{end_tag_name, end_tag_open, new_tag, rawtext_state, rcdata_state, reader}
use Rattle.safe_output.specs.Reader.{Reader, run, start_tag, State, step, Tag, tag_name, tag_open, to, Token}
use Rattle.safe_output.proofs.EscapeLemmas.{escaped_printable}
use Rattle.safe_output.proofs.SanitizeLemmas.{append_printable, ascii_printable, line_printable}
use Rattle.safe_output.proofs.SanitizeLemmas.{printable_kept, sanitized_printable}

-- ---- Safe bytes.

pub are_all : (test more : ℕ → Bool) (bytes : List ℕ)
    → list_all (λ byte. test byte && more byte) bytes ≡ true
    → (list_all test bytes ≡ true) × (list_all more bytes ≡ true)
are_all test more [] are = (refl, refl)
are_all test more (byte ∷ bytes) are = grind (arith, and_parts, are_all test more bytes)

pub ascii_safe : (bytes : List ℕ) → list_all is_safe_byte bytes ≡ true → IsSafe bytes
ascii_safe bytes are =
    let both = are_all (is_printable_byte true) is_no_bracket bytes are in
    (ascii_printable true bytes both.0, both.1)

pub both_safe : {one two : List ℕ} → IsSafe one → IsSafe two → IsSafe (one ++ two)
both_safe {one} {two} is too =
    (append_printable true one two is.0 too.0, rw (list_all-append, is.1) too.1)

name_byte_safe : (byte : ℕ) → is_name_byte byte ≡ true → is_safe_byte byte ≡ true
name_byte_safe byte is = grind (arith, nat_tests)

name_bytes_safe : (bytes : List ℕ) → list_all is_name_byte bytes ≡ true → list_all is_safe_byte bytes ≡ true
name_bytes_safe [] are = refl
name_bytes_safe (byte ∷ bytes) are = grind (arith, and_parts, name_byte_safe, name_bytes_safe bytes)

name_safe : (name : List ℕ) → is_name name ≡ true → IsSafe name
name_safe [] named = absurd (cc)
name_safe (byte ∷ bytes) named =
    let both = and_parts (is_letter byte) (list_all is_name_byte bytes) named in
    ascii_safe (byte ∷ bytes) (name_bytes_safe (byte ∷ bytes) (rw both.0 both.1))

escaped_bracketless : (bytes : List ℕ) → list_all is_no_bracket (escaped bytes) ≡ true
escaped_bracketless [] = refl
escaped_bracketless (byte ∷ bytes) = rw (list_all-append, one) (escaped_bracketless bytes)
  where
    one : list_all is_no_bracket (escaped_byte byte) ≡ true
    one = grind arith

-- ---- Bytes that lead from one reader to another.

pub record Reads (from : Reader) (bytes : List ℕ) (last : Reader) : Type 0 where
  pub safe : IsSafe bytes
  pub leads : run from bytes ≡ last

pub run_append : (one two : List ℕ) (from : Reader) → run from (one ++ two) ≡ run (run from one) two
run_append [] two from = refl
run_append (byte ∷ one) two from = run_append one two _

read_on : {from mid last : Reader} {one two : List ℕ} → Reads from one mid → Reads mid two last
    → Reads from (one ++ two) last
read_on {from} {mid} {last} {one} {two} first second = record {
  safe = both_safe first.safe second.safe;
  leads = run_append one two from ∙ ap (λ (r : Reader). run r two) first.leads ∙ second.leads;
}

-- bytes of which each is known
literal : {from : Reader} (last : Reader) (bytes : List ℕ) → list_all is_safe_byte bytes ≡ true
    → run from bytes ≡ last → Reads from bytes last
literal last bytes are leads = record { safe = ascii_safe bytes are; leads = leads }

none_of : (a b c : Bool) (x y z w : State) → not (a || b || c) ≡ true
    → (if a then x else if b then y else if c then z else w) ≡ w
none_of a b c x y z w is = grind arith

module _ (page : Reader) where
  abbrev at : State → Reader
  at state = reader state page.opened page.tags

  -- in a state in which only `<`, `"` and `&` lead elsewhere
  module _ (state : State) (refers : step state 38 ≡ to (character_reference state))
      (stays : (byte : ℕ) → (byte == 38) ≡ false → (byte == 60) ≡ false → (byte == 34) ≡ false
      → step state byte ≡ to state) where
    one_read : (byte : ℕ) → run (at state) (escaped_byte byte) ≡ at state
    one_read byte = grind (arith, refers, stays)

    all_read : (bytes : List ℕ) → run (at state) (escaped bytes) ≡ at state
    all_read [] = refl
    all_read (byte ∷ bytes) =
        run_append (escaped_byte byte) (escaped bytes) (at state)
        ∙ ap (λ (r : Reader). run r (escaped bytes)) (one_read byte) ∙ all_read bytes

    pub text_read : (text : List ℕ) → IsPrintable text → Reads (at state) (escaped text) (at state)
    text_read text is = record {
      safe = (escaped_printable escaped_byte refl (grind arith) text is, escaped_bracketless text);
      leads = all_read text;
    }

  pub shown_read : (text : List ℕ) → Reads (at data_state) (escaped (sanitized text)) (at data_state)
  shown_read text =
      text_read data_state refl (λ byte amp lt quot. rw (lt, amp) refl) (sanitized text)
      (sanitized_printable text)

  -- a name is read from the state `first` on
  module _ (first : State) (naming : List ℕ → State)
      (begins : (byte : ℕ) → is_letter byte ≡ true → step first byte ≡ to (naming (byte ∷ [])))
      (goes_on : (done : List ℕ) (byte : ℕ) → is_name_byte byte ≡ true
      → step (naming done) byte ≡ to (naming (done ++ byte ∷ []))) where
    rest_read : (done name : List ℕ) → list_all is_name_byte name ≡ true
        → run (at (naming done)) name ≡ at (naming (done ++ name))
    rest_read done [] are = rw (append-nil done) refl
    rest_read done (byte ∷ name) are =
        let both = and_parts (is_name_byte byte) (list_all is_name_byte name) are in
        rw (goes_on done byte both.0)
        (rw (append_assoc done (byte ∷ []) name) at (rest_read (done ++ byte ∷ []) name both.1))

    pub name_read : (name : List ℕ) → is_name name ≡ true → Reads (at first) name (at (naming name))
    name_read [] named = absurd (cc)
    name_read (byte ∷ name) named =
        let both = and_parts (is_letter byte) (list_all is_name_byte name) named in record {
          safe = name_safe (byte ∷ name) named;
          leads = rw (begins byte both.0) (rest_read (byte ∷ []) name both.1);
        }

  -- ---- Tags.

  attribute_read : (state : State) (tag : Tag) (name value : List ℕ)
      → step state 32 ≡ to (before_attribute_name tag)
      → is_name name ≡ true → is_among tag.labels name ≡ false → IsPrintable value
      → Reads (at state) (attribute_bytes name value)
      (at (after_attribute_value (new_tag tag.name (tag.labels ++ name ∷ []))))
  unfolding attribute_bytes
  attribute_read state tag name value goes named new is =
      let whole : Tag = new_tag tag.name (tag.labels ++ name ∷ []) in
      let label = name_read (before_attribute_name tag) (attribute_name tag) (λ byte is. rw is refl)
      (λ done byte is. rw is refl) name named in
      let text = text_read (attribute_value whole) refl (λ byte amp lt quot. rw (quot, amp) refl) value is in
      read_on (literal (at (before_attribute_name tag)) (codes " ") refl (rw goes refl))
      (read_on label (read_on (literal (at (attribute_value whole)) (codes "=\"") refl (rw new refl))
      (read_on text (literal _ (codes "\"") refl refl))))

  -- after the name of a tag or an attribute
  attributes_read : (state : State) (name : List ℕ) (labels : List (List ℕ))
      (attributes : List (Bor (List ℕ) × Bor (List ℕ))) (byte : ℕ) (end : List ℕ) (last : Reader)
      → ((byte : ℕ) → is_name_byte byte ≡ false → step state byte ≡ after (new_tag name labels) byte)
      → are_names labels (names_in attributes) ≡ true → is_name_byte byte ≡ false
      → Reads (at (after_attribute_value (new_tag name (labels ++ names_in attributes)))) (byte ∷ end) last
      → Reads (at state) (flat_map shown_attribute attributes ++ byte ∷ end) last
  attributes_read state name labels [] byte end last goes are isnt ends = record {
    safe = ends.safe;
    leads = rw (goes byte isnt) (rw (append-nil labels) at ends.leads);
  }
  attributes_read state name labels (a ∷ attributes) byte end last goes are isnt ends =
      let both = and_parts (is_name a.0.now) _ are in
      let rest = and_parts (not (is_among labels a.0.now)) _ both.1 in
      let first = attribute_read state (new_tag name labels) a.0.now (sanitized a.1.now) (goes 32 refl)
      both.0 (not-true (is_among labels a.0.now) rest.0) (sanitized_printable a.1.now) in
      let labels_now : List (List ℕ) = labels ++ a.0.now ∷ [] in
      rw (append_assoc (shown_attribute a) (flat_map shown_attribute attributes) (byte ∷ end))
      (read_on first (attributes_read (after_attribute_value (new_tag name labels_now)) name labels_now
      attributes byte end last (λ byte isnt. refl) rest.1 isnt
      (rw (append_assoc labels (a.0.now ∷ []) (names_in attributes)) ends)))

  module _ (name : List ℕ) (attributes : List (Bor (List ℕ) × Bor (List ℕ)))
      (labeled : are_names [] (names_in attributes) ≡ true) where
    tag_read : (byte : ℕ) (end : List ℕ) (last : Reader) → is_name name ≡ true → is_name_byte byte ≡ false
        → Reads (at (after_attribute_value (new_tag name (names_in attributes)))) (byte ∷ end) last
        → Reads (at data_state) (tag_bytes name attributes (byte ∷ end)) last
    unfolding tag_bytes
    tag_read byte end last named isnt ends =
        let whole = name_read tag_open tag_name (λ byte is. rw is refl) (λ done byte is. rw is refl) name
        named in
        read_on (literal (at tag_open) (codes "<") refl refl)
        (read_on whole (attributes_read (tag_name name) name [] attributes byte end last
        (λ byte isnt. rw isnt refl) labeled isnt ends))

    pub start_read : is_tag name ≡ true
        → Reads (at data_state) (tag_bytes name attributes (codes ">"))
        (begun name (names_in attributes) page)
    start_read is =
        let tag = new_tag name (names_in attributes) in
        let both = and_parts (is_name name) _ is in
        tag_read 62 [] _ both.0 refl (literal _ (codes ">") refl
        (ap (λ (s : State). reader s (name ∷ page.opened) (start_tag tag ∷ page.tags))
        (none_of (is_style name) (is_title name) (is_among (void_names ++ other_names) name) _ _ _ _
        both.1)))

    pub void_read : is_void name ≡ true → Reads (at data_state) (tag_bytes name attributes (codes "/>"))
        (with_void name (names_in attributes) page)
    void_read is =
        let both = and_parts (is_name name) (is_among void_names name) is in
        tag_read 47 (62 ∷ []) _ both.0 refl (literal _ (codes "/>") refl (rw both.1 refl))

  css_read : (css : List ℕ) → is_css css ≡ true → run (at rawtext_state) css ≡ at rawtext_state
  css_read [] are = refl
  css_read (byte ∷ css) are =
      let both = and_parts (is_safe_byte byte && not (byte == 60)) _ are in
      let isnt = not-true (byte == 60) (and_parts (is_safe_byte byte) _ both.0).1 in
      rw isnt (css_read css both.1)

-- what a page has become within an element, of which only the start tag has been read
abbrev within : List ℕ → State → Reader → Reader
within name state page = reader state (name ∷ page.opened) (start_tag (new_tag name []) ∷ page.tags)

pub style_read : (page : Reader) (css : List ℕ) → is_css css ≡ true
    → Reads (reader data_state page.opened page.tags) (style_bytes css) (with_text (codes "style") page)
unfolding style_bytes
style_read page css are =
    let inside = within (codes "style") rawtext_state page in
    let content : Reads inside css inside = record {
      safe = ascii_safe css (are_all is_safe_byte (λ byte. not (byte == 60)) css are).0;
      leads = css_read inside css are;
    } in
    read_on (literal inside (codes "<style>") refl refl)
    (read_on content (literal _ (codes "</style>") refl refl))

pub title_read : (page : Reader) (text : List ℕ) → IsPrintableIn false text
    → Reads (reader data_state page.opened page.tags) (title_bytes text) (with_text (codes "title") page)
unfolding title_bytes
title_read page text is =
    let inside = within (codes "title") rcdata_state page in
    let content = text_read inside rcdata_state refl (λ byte amp lt quot. rw (lt, amp) refl) text
    (line_printable text is) in
    read_on (literal inside (codes "<title>") refl refl)
    (read_on content (literal _ (codes "</title>") refl refl))

pub end_read : (outer : List (List ℕ)) (tags : List Token) (name : List ℕ) → is_name name ≡ true
    → Reads (reader data_state (name ∷ outer) tags) (end_bytes name)
    (reader data_state outer (end_tag name ∷ tags))
unfolding end_bytes
end_read outer tags name named =
    let page = reader data_state (name ∷ outer) tags in
    let whole = name_read page end_tag_open end_tag_name (λ byte is. rw is refl)
    (λ done byte is. rw is refl) name named in
    read_on (literal (reader end_tag_open (name ∷ outer) tags) (codes "</") refl refl)
    (read_on whole (literal _ (codes ">") refl (rw ((bytes_eq-Decides name name).1 refl) refl)))

-- ---- What is displayed as it is.

-- a text without `[` has no start of a command
bracketless_quiet : (bytes : List ℕ) → list_all is_no_bracket bytes ≡ true → has_command bytes ≡ false
bracketless_quiet [] are = refl
bracketless_quiet (a ∷ []) are = grind arith
bracketless_quiet (a ∷ b ∷ []) are = grind (arith, and_parts, bracketless_quiet (b ∷ []))
bracketless_quiet (a ∷ b ∷ c ∷ rest) are =
    grind (arith, nat_tests, and_parts, bracketless_quiet (b ∷ c ∷ rest))

one_same : (byte : ℕ) → is_unchanged byte ≡ true
    → (escaped_byte byte ≡ byte ∷ []) × (is_no_bracket byte ≡ true)
one_same byte is = grind (arith, nat_tests)

plain_same : (bytes : List ℕ) → list_all is_unchanged bytes ≡ true
    → (escaped bytes ≡ bytes) × (list_all is_no_bracket bytes ≡ true)
plain_same [] are = (refl, refl)
plain_same (byte ∷ bytes) are =
    let both = and_parts (is_unchanged byte) (list_all is_unchanged bytes) are in
    let one = one_same byte both.0 in
    let rest = plain_same bytes both.1 in
    (rw (one.0, rest.0) refl, rw one.1 rest.1)

pub unchanged_same : (bytes : List ℕ) → list_all is_unchanged bytes ≡ true → escaped bytes ≡ bytes
unchanged_same bytes are = (plain_same bytes are).0

pub plain_shown : (bytes : List ℕ) → list_all is_plain bytes ≡ true → escaped (sanitized bytes) ≡ bytes
unfolding without_commands
plain_shown bytes are =
    let both = are_all (is_printable_byte false) is_unchanged bytes are in
    let kept = printable_kept false bytes (ascii_printable false bytes both.0) in
    let same = plain_same bytes both.1 in
    let quiet = bracketless_quiet bytes same.1 in
    let shown : sanitized bytes ≡ bytes = ap without_commands kept ∙ rw quiet refl in
    ap escaped shown ∙ same.0

-- ---- A piece is appended.

pub nothing_open : (opened : List (Bor (List ℕ))) (bytes : List ℕ) → opened ≡ [] → bytes ≡ []
    → IsOpen opened bytes
nothing_open opened bytes none empty = rw (none, empty)
    (record { safe = ascii_safe [] refl; are_names = refl; state = refl; opened = refl })

abbrev in_data : List ℕ → Reader
in_data bytes = reader data_state (so_far bytes).opened (so_far bytes).tags

pub data_now : {names : List (Bor (List ℕ))} {bytes : List ℕ} → IsOpen names bytes
    → so_far bytes ≡ in_data bytes
data_now {names} {bytes} is = ap (λ (s : State). reader s (so_far bytes).opened (so_far bytes).tags) is.state

module _ {names : List (Bor (List ℕ))} {old new piece : List ℕ} {last : Reader} (is : IsOpen names old)
    (reads : Reads (in_data old) piece last) (added : new ≡ old ++ piece) where
  appended : so_far new ≡ last
  appended =
      ap so_far added ∙ run_append old piece (reader data_state [] [])
      ∙ ap (λ (r : Reader). run r piece) (data_now is) ∙ reads.leads

  becomes : (after : List (Bor (List ℕ))) → last.state ≡ data_state
      → list_all is_name (names_of after) ≡ true → last.opened ≡ reverse (names_of after) → IsOpen after new
  becomes after state named opened = record {
    safe = subst IsSafe (sym added) (both_safe is.safe reads.safe);
    are_names = named;
    state = ap (λ (r : Reader). r.state) appended ∙ state;
    opened = ap (λ (r : Reader). r.opened) appended ∙ opened;
  }

-- any page becomes another one by the piece
module _ {names : List (Bor (List ℕ))} {old new piece : List ℕ} {becoming : Reader → Reader}
    (is : IsOpen names old) (reads : (page : Reader) → Reads (reader data_state page.opened page.tags) piece
    (becoming page)) (added : new ≡ old ++ piece) where
  pub piece_is : so_far new ≡ becoming (so_far old)
  piece_is = appended is (reads (so_far old)) added

  pub stays_open : (becoming (so_far old)).state ≡ data_state
      → (becoming (so_far old)).opened ≡ (so_far old).opened → IsOpen names new
  stays_open state opened =
      becomes is (reads (so_far old)) added names state is.are_names (opened ∙ is.opened)

names_with : (names after : List (Bor (List ℕ))) (name : Bor (List ℕ)) → after ≡ names ++ name ∷ []
    → names_of after ≡ names_of names ++ name.now ∷ []
names_with names after name added =
    ap names_of added ∙ map-append (λ (n : Bor (List ℕ)). n.now) names (name ∷ [])

pub start_open : (names after : List (Bor (List ℕ))) (name : Bor (List ℕ))
    (attributes : List (Bor (List ℕ) × Bor (List ℕ))) (old new : List ℕ) → IsOpen names old
    → is_tag name.now ≡ true → are_names [] (names_in attributes) ≡ true
    → new ≡ old ++ tag_bytes name.now attributes (codes ">") → after ≡ names ++ name ∷ [] → IsOpen after new
start_open names after name attributes old new is tag labeled added pushed =
    let named = (and_parts (is_name name.now) _ tag).0 in
    let same = names_with names after name pushed in
    becomes is (start_read (so_far old) name.now attributes labeled tag) added after refl
    (rw (same, list_all-append, is.are_names, named) refl)
    (rw (same, reverse-append (names_of names) (name.now ∷ []), is.opened) refl)

module _ (names after : List (Bor (List ℕ))) (name : Bor (List ℕ)) (old new : List ℕ) (is : IsOpen names old)
    (popped : names ≡ after ++ name ∷ []) (added : new ≡ old ++ end_bytes name.now) where
  innermost : (so_far old).opened ≡ name.now ∷ reverse (names_of after)
  innermost = grind (arith, is.opened, map-append, reverse-append)

  both_named : (list_all is_name (names_of after) ≡ true) × (is_name name.now ≡ true)
  both_named = grind (arith, is.are_names, and_parts, list_all-append, map-append)

  abbrev outside : Reader
  outside = reader data_state (reverse (names_of after)) (end_tag name.now ∷ (so_far old).tags)

  end_reads : Reads (in_data old) (end_bytes name.now) outside
  end_reads =
      subst (λ (opened : List (List ℕ)). Reads (reader data_state opened (so_far old).tags)
      (end_bytes name.now) outside) (sym innermost)
      (end_read (reverse (names_of after)) (so_far old).tags name.now both_named.1)

  pub ended_is : so_far new ≡ closed (so_far old)
  ended_is =
      appended is end_reads added
      ∙ ap (λ (opened : List (List ℕ)). ended opened (so_far old).tags) (sym innermost)

  pub ended_open : IsOpen after new
  ended_open = becomes is end_reads added after refl both_named.0 refl

  pub tags_kept : (tags : List Token) → all_closed (so_far old) ≡ tags
      → all_closed (so_far new) ≡ tags
  tags_kept tags same =
      ap all_closed (appended is end_reads added)
      ∙ ap (λ (opened : List (List ℕ)). all_ended opened (so_far old).tags) (sym innermost) ∙ same

-- ---- No element is open.

module _ (names : List (Bor (List ℕ))) (old : List ℕ) (is : IsOpen names old) (none : names ≡ []) where
  none_opened : so_far old ≡ reader data_state [] (so_far old).tags
  none_opened =
      data_now is ∙ ap (λ (o : List (List ℕ)). reader data_state o (so_far old).tags)
      (is.opened ∙ ap (λ (ns : List (Bor (List ℕ))). reverse (names_of ns)) none)

  pub none_ended : so_far old ≡ closed (so_far old)
  none_ended = none_opened ∙ sym (ap closed none_opened)

  pub page_finished : (page : List ℕ) (tags : List Token) → page ≡ codes "<!DOCTYPE html>" ++ old
      → all_closed (so_far old) ≡ tags → IsPage tags page
  page_finished page tags added same =
      let safe : IsSafe page = subst IsSafe (sym added)
      (both_safe (ascii_safe (codes "<!DOCTYPE html>") refl) is.safe) in
      let all : (so_far old).tags ≡ tags =
      sym (ap all_closed none_opened) ∙ same in
      record {
        content = old;
        printable = safe.0;
        quiet = bracketless_quiet page safe.1;
        begins = added;
        read = none_opened ∙ ap (λ (tags : List Token). reader data_state [] tags) all;
      }
