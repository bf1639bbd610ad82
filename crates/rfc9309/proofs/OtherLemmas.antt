-- Empty lines, comments, and records that the library ignores; and what all lines have in common.
use Rattle.std.proofs.Common.{◌≡◌, ◌⊎◌, inl, inr, ℕ, true, false, List, [], ◌∷◌, ◌++◌, Option, Some, ap}
use Rattle.std.proofs.Common.{None, append-nil, append_assoc, arith, bytes_eq, drop, filter, refl}
use Rattle.std.proofs.Common.{subst, sym, ◌∙◌, ◌≢◌}
use Rattle.std.specs.List.{AllByRecursion as Each, Contains, list_all, list_any}
use Rattle.std.proofs.lemmas.Bool.{and_from, false_from_ne_true, Decides.nat_tests}
use Rattle.std.proofs.lemmas.List.{map-append, append_cancel_right}
use Rattle.std.proofs.{lemmas.Map.Views.Contains-from_any, lemmas.Slice.Eq.bytes_eq-Decides}
use Rattle.texting_robots.specs.{Cut.IsBodyByte, Cut.cr, Cut.lf, declared.parser.statement.Kind.Kind}
use Rattle.texting_robots.specs.Statement.{IsAfterBlanks, IsAfterColon, IsStatement}
use Rattle.texting_robots.specs.Internal.Statement.{IsOptionalComment, kind_by, skip_blanks, statement_of}
use Rattle.texting_robots.proofs.Shared.{line_raw, line_without_kind, each_append, NoBlank, statement_sound}
use Rattle.texting_robots.proofs.Shared.{skips_nothing, skip_front}
use Rattle.rfc9309.proofs.KeyedLemmas.{IsLineOf, IsNamed, IsValueByte, blank_passes, blanks_low, named}
use Rattle.rfc9309.proofs.KeyedLemmas.{blanks_value, comment_text, identifier_name, parts_comment}
use Rattle.rfc9309.proofs.KeyedLemmas.{passes, remark, values_bare}
use Rattle.rfc9309.proofs.MemberLemmas.{delay_line, name_passes, rule_line, sitemap_line, token_line}
use Rattle.rfc9309.proofs.ReadLemmas.{IsBare, low_append}
use Rattle.rfc9309.proofs.ValueLemmas.{IsWritten, Stops, blank_no_letter, identifier_bounds, same_word}
use Rattle.rfc9309.proofs.ValueLemmas.{written as expressed}
use Rattle.rfc9309.proofs.Sources.{Source, is_not_raw, written}
use Rattle.safe_output.specs.Bytes.{has, is_blank}
use Rattle.rfc9309.specs.LineTest.{colon, has_form, hash, is_comment_text, is_other_name, lower}
use Rattle.rfc9309.specs.LineForms.{Form, HasForm, IsFormOf, Empty, Agent, Rule, Delay, Sitemap, Other}
use Rattle.std.specs.{Char.to_ascii_lowercase}
use Rattle.rfc9309.proofs.SyntaxLemmas.{each_back, each_weaker}
use Rattle.rfc9309.specs.Rfc9309 as rfc

comment_no_key : (comment : List ℕ) → IsOptionalComment comment → kind_by (skip_blanks comment) ≡ None
comment_no_key comment h = grind arith

pub empty_line : (text : List ℕ) → rfc.IsEol text → IsLineOf Empty [] text
empty_line text eol =
    let body : List ℕ = eol.blanks ++ eol.comment in
    let comment = remark eol.comment eol.is_comment in
    let none : kind_by (skip_blanks body) ≡ None =
    ap kind_by (skip_front eol.blanks eol.comment eol.are_blanks) ∙ comment_no_key eol.comment comment.is in
    let values = blanks_value eol.blanks eol.are_blanks in
    let parts =
    parts_comment eol.blanks eol.comment
    (each_weaker IsValueByte (λ b. b ≢ hash) (λ b is. is.1) eol.blanks values) comment.is in
    record {
      body = body;
      nl = eol.nl;
      whole = eol.whole ∙ sym (append_assoc eol.blanks eol.comment eol.nl);
      is_nl = eol.is_nl;
      tested =
          and_from _ _
          (ap (list_all is_blank) parts.before
          ∙ passes rfc.IsWs is_blank blank_passes eol.blanks eol.are_blanks)
          (ap (λ t. is_comment_text (drop 1 t)) parts.from ∙ comment.passes);
      bare = each_append IsBare eol.blanks eol.comment (values_bare eol.blanks values) comment.bare;
      low = low_append eol.blanks eol.comment (blanks_low eol.blanks eol.are_blanks) comment.low;
      sourced =
          ap (λ line. filter is_not_raw ((line, written body) ∷ [])) (line_without_kind body _ refl none);
      read = tt;
    }

low_byte : (b : ℕ) → rfc.IsIdentifierByte b → rfc.IsIdentifierByte (to_ascii_lowercase b)
low_byte b is = grind (arith, nat_tests)

low_letters : (word : List ℕ) → Each rfc.IsIdentifierByte word → Each rfc.IsIdentifierByte (lower word)
low_letters [] all = tt
low_letters (b ∷ word) all = (low_byte b all.0, low_letters word all.1)

pub letters : (word : List ℕ) → rfc.IsIdentifier word → Each rfc.IsIdentifierByte word
letters [] is = absurd is
letters (b ∷ word) is = is

abbrev Begins : List ℕ → Type 0
Begins [] = ⊥
Begins (b ∷ text) = rfc.IsIdentifierByte b

word_begins : (word rest : List ℕ) → rfc.IsIdentifier word → Begins (word ++ rest)
word_begins word rest h = grind arith

written_begins : (spelling : List ℕ) → IsWritten spelling → Begins spelling
written_begins spelling h = grind (arith, append-nil, word_begins)

word_plain : (word rest : List ℕ) → Begins (lower word) → NoBlank (word ++ rest)
word_plain [] rest is = absurd is
word_plain (b ∷ word) rest is = λ blank. blank_no_letter b blank is

colon_stops : (blanks text : List ℕ) → Each rfc.IsWs blanks → Stops (lower (blanks ++ 58 ∷ text))
colon_stops [] text all = λ letter. (identifier_bounds 58 letter).2 refl
colon_stops (b ∷ blanks) text all = blank_no_letter b all.0

tail_stops : (tail rest : List ℕ) → IsAfterColon tail rest ⊎ IsAfterBlanks tail rest → Stops (lower rest)
tail_stops tail rest (inl (blanks, all, whole)) = grind (arith, colon_stops)
tail_stops tail rest (inr ([], all, some, whole, plain)) = absurd (some refl)
tail_stops tail rest (inr (b ∷ blanks, all, some, whole, plain)) = grind (arith, blank_no_letter)

-- spaces or tabs and a colon aren't a space and an identifier byte
no_letter : (blanks text more : List ℕ) (b : ℕ) → Each rfc.IsWs blanks → rfc.IsIdentifierByte b
    → lower (blanks ++ 58 ∷ text) ≡ 32 ∷ b ∷ more → ⊥
no_letter [] text more b all letter e = grind arith
no_letter (c ∷ []) text more b all letter e = grind (arith, identifier_bounds)
no_letter (c ∷ d ∷ blanks) text more b all letter e = grind (arith, blank_no_letter)

unlisted : (name : List ℕ) → (Contains rfc.names_read name → ⊥)
    → list_any (bytes_eq name) rfc.names_read ≡ false
unlisted name none =
    false_from_ne_true _ (λ some. none
    (Contains-from_any (λ xs ys. (bytes_eq-Decides xs ys).0) name rfc.names_read some))

module _ (text : List ℕ) (o : rfc.IsOtherLine text) where
  abbrev after_name : List ℕ
  after_name = o.blanks ++ 58 ∷ o.value

  abbrev body : List ℕ
  body = o.margin ++ (o.name ++ after_name)

  low_name : Each rfc.IsIdentifierByte (lower o.name)
  low_name = low_letters _ (letters _ o.is_name)

  -- after the leading spaces and tabs, the line begins with the record's name, and with the field name if it
  -- is a directive
  same_text : (kind : Kind) (value : List ℕ) (s : IsStatement kind value body)
      → lower o.name ++ lower after_name ≡ lower s.key ++ lower s.rest
  same_text kind value s =
      let name = word_plain o.name after_name (at o.name o.is_name) in
      let key =
      word_plain s.key s.rest (written_begins (lower s.key) (expressed kind (lower s.key) s.is_key)) in
      sym (map-append to_ascii_lowercase o.name after_name)
      ∙ ap lower (
      sym (skip_front o.margin (o.name ++ after_name) o.margin_blank
      ∙ skips_nothing (o.name ++ after_name) name)
      ∙ ap skip_blanks s.whole
      ∙ skip_front s.margin (s.key ++ s.rest) s.margin_blank
      ∙ skips_nothing (s.key ++ s.rest) key)
      ∙ map-append to_ascii_lowercase s.key s.rest
    where
      at : (name : List ℕ) → rfc.IsIdentifier name → Begins (lower name)
      at [] is = is
      at (b ∷ name) is = low_byte b is.0

  unstated : (kind : Kind) (value : List ℕ) → IsStatement kind value body → ⊥
  unstated kind value s =
      let same = same_text kind value s in
      let stops = colon_stops o.blanks o.value o.blanks_blank in
      elim (expressed kind (lower s.key) s.is_key) [
        | inl (is, has) ↦
            let words =
            same_word (lower o.name) (lower s.key) (lower after_name) (lower s.rest) (low_name, stops)
            (letters (lower s.key) is, tail_stops s.tail s.rest s.separated) same in
            o.is_other (subst (Contains rfc.names_read) (sym words.0) has)
        | inr two ↦
            let more : List ℕ = two.back ++ lower s.rest in
            let rest : List ℕ = 32 ∷ two.letter ∷ more in
            let whole : lower s.key ++ lower s.rest ≡ two.word ++ rest = rw (two.whole, append_assoc) in
            let words =
            same_word (lower o.name) two.word (lower after_name) rest (low_name, stops)
            (letters two.word two.is_word, blank_no_letter 32 (inl refl)) (same ∙ whole) in
            no_letter o.blanks o.value more two.letter o.blanks_blank two.is_letter words.1
      ]

  no_statement : (found : Option (Kind × List ℕ)) → statement_of body ≡ found → statement_of body ≡ None
  no_statement None e = e
  no_statement (Some (kind, value)) e = absurd (unstated kind value (statement_sound kind value body e))

  other_passes : is_other_name o.name ≡ true
  other_passes = grind (arith, and_from, name_passes, unlisted)

  pub other_line : IsLineOf Other [] text
  other_line =
      let whole : body ≡ (o.margin ++ (o.name ++ o.blanks)) ++ colon ∷ o.value = simp append_assoc in
      let raw = line_raw body (no_statement (statement_of body) refl) in
      let name =
      named o.margin o.name o.blanks o.value o.margin_blank
      (identifier_name o.name (letters o.name o.is_name)) o.blanks_blank in
      let line : IsNamed o.name o.value body = rw whole name in
      let value = comment_text o.value o.is_value in
      record {
        body = body;
        nl = o.nl;
        whole = o.whole ∙ simp append_assoc;
        is_nl = o.is_nl;
        tested =
            and_from _ _
            (and_from (has colon body) _ line.has (ap is_other_name line.name ∙ other_passes))
            (ap is_comment_text line.after ∙ value.1);
        bare = line.bare value.0;
        low = line.low;
        sourced = ap (λ line. filter is_not_raw ((line, written body) ∷ [])) raw;
        read = tt;
      }

pub line_of : (form : Form) (text : List ℕ) → IsFormOf form text
    → (sources : List Source) × IsLineOf form sources text
line_of Empty text is = ([], empty_line text is)
line_of Agent text (token, is) = (_, token_line token text is)
line_of Rule text (rfc.Allow pattern, is) = (_, (rule_line (rfc.Allow pattern) text is).is_line)
line_of Rule text (rfc.Disallow pattern, is) = (_, (rule_line (rfc.Disallow pattern) text is).is_line)
line_of Rule text (rfc.Delay number, is) = elim is [ inl none ↦ absurd none | inr none ↦ absurd none ]
line_of Delay text (rfc.Delay number, is) = (_, (delay_line (rfc.Delay number) text is).is_line)
line_of Delay text (rfc.Allow pattern, is) = absurd is
line_of Delay text (rfc.Disallow pattern, is) = absurd is
line_of Sitemap text (address, is) = (_, sitemap_line address text is)
line_of Other text is = ([], other_line text is)

pub before_end : (body front nl : List ℕ) → Each IsBodyByte body → rfc.IsNl nl
    → body ++ lf ∷ [] ≡ front ++ nl → front ≡ body
before_end body front nl bytes is e =
    let no_cr = each_append (λ b. b ≢ cr) body (lf ∷ [])
    (each_weaker IsBodyByte (λ b. b ≢ cr) (λ b byte. byte.0) body bytes) ((λ e. cc), tt) in
    let last = each_back (λ b. b ≢ cr) front nl (subst (Each (λ b. b ≢ cr)) e no_cr) in
    elim is [
      | inl return ↦ absurd ((rw return at last).0 refl)
      | inr (inl feed) ↦
          sym (append_cancel_right body front (lf ∷ []) (e ∙ ap (λ end. front ++ end) feed))
      | inr (inr two) ↦ absurd ((rw two at last).0 refl)
    ]

module _ (body : List ℕ) (bytes : Each IsBodyByte body) (form : Form) (is : HasForm form body) where
  abbrev line : (sources : List Source) × IsLineOf form sources (body ++ lf ∷ [])
  line = line_of form (body ++ lf ∷ []) is

  content : line.1.body ≡ body
  content = grind (arith, before_end)

  pub form_tested : has_form form body ≡ true
  form_tested = grind (arith, content)

pub only_empty : (form : Form) → HasForm form [] → form ≡ Empty
only_empty form is = at form (form_tested [] tt form is)
  where
    at : (form : Form) → has_form form [] ≡ true → form ≡ Empty
    at Empty is = refl
    at _ is = cc
