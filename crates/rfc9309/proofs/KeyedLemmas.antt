-- A line of the grammar is content with a terminator, passes the test of its form, and is read as its source
-- line.
use Rattle.std.proofs.Common.{◌≡◌, ◌≢◌, ◌⊎◌, inl, inr, ℕ, ◌<◌, Bool, true, false, List, [], ◌∷◌, ◌++◌}
use Rattle.std.proofs.Common.{append-nil, ap, arith, drop, map, refl, subst, sym, ◌∙◌, append_assoc, codes}
use Rattle.std.proofs.Common.{filter, get_or, reverse}
use Rattle.std.proofs.lemmas.List.{reverse-append, reverse-reverse}
use Rattle.std.specs.{List.AllByRecursion as Each, List.list_all, List.Contains, Char.to_ascii_lowercase}
use Rattle.std.proofs.lemmas.Bool.{and_from, eq-eqb, false_from_ne_true, ne_eqb, or_left, or_right}
use Rattle.std.proofs.lemmas.Str.{IsUtf8-append, IsUtf8-encode, IsUtf8-nil, encode_ascii, is_utf8-from_IsUtf8}
use lib.Utf8.{low_scalar}
use Rattle.texting_robots.specs.Statement.{IsBlank, IsStatement, field_names}
use Rattle.texting_robots.specs.{Line.LineValue, Trim.IsTrimOf, declared.parser.statement.Kind.Kind}
use Rattle.texting_robots.specs.{Internal.Statement.IsOptionalComment, Internal.Line.line_with}
use Rattle.texting_robots.proofs.Shared.{each_append, trim_skips_blanks, trim_if_same, line_stated}
use Rattle.texting_robots.proofs.Shared.{statement_complete}
use Rattle.rfc9309.proofs.HasFormLemmas.{IsCharByte, IsCharText, char_text, each_reversed, blank, next_place}
use Rattle.rfc9309.proofs.ValueLemmas.{blank_no_letter, identifier_bounds, blanks_after, identifier}
use Rattle.rfc9309.proofs.Sources.{IsRead, Source, is_not_raw, source_of, written}
use Rattle.rfc9309.proofs.SyntaxLemmas.{each_weaker, many}
use Rattle.rfc9309.proofs.ReadLemmas.{BeginsLow, IsBare}
use Rattle.safe_output.specs.Bytes.{after_byte, before_byte, from_byte, has, is_blank, trim_blanks}
use Rattle.safe_output.specs.Bytes.{trim_blanks_end, trim_blanks_start}
use Rattle.rfc9309.specs.LineTest.{colon, hash, is_comment_byte, is_comment_text, is_value_byte}
use Rattle.rfc9309.specs.LineTest.{is_value_text, name_in, has_form, value_in, is_identifier_byte, is_keyed}
use Rattle.rfc9309.specs.LineTest.{is_number, is_pattern, is_product_token}
use Rattle.rfc9309.specs.LineForms.{Form, Agent, Delay, Rule, Sitemap}
use Rattle.std.specs.{Str.IsUtf8}
use Rattle.std.proofs.{lemmas.Bool.Decides.nat_tests, lemmas.Slice.Eq.bytes_eq-Decides}
use Rattle.rfc9309.specs.Rfc9309 as rfc
use Rattle.texting_robots.specs.declared.parser.statement.Kind.TheVariants as kind

abbrev pub IsValueByte : ℕ → Type 0
IsValueByte byte = IsBare byte × (byte ≢ hash)

blank_value : (b : ℕ) → IsBlank b → IsValueByte b
blank_value b is = grind arith

pub char_value : (b : ℕ) → IsCharByte b → IsValueByte b
char_value b is = (inr (omega arith), is.1)

pub blanks_value : (blanks : List ℕ) → Each IsBlank blanks → Each IsValueByte blanks
blanks_value = each_weaker IsBlank IsValueByte blank_value

pub values_bare : (bytes : List ℕ) → Each IsValueByte bytes → Each IsBare bytes
values_bare = each_weaker _ _ (λ b is. is.0)

abbrev pub IsFrontByte : ℕ → Type 0
IsFrontByte byte = IsBare byte × (byte < 128) × (byte ≢ colon)

blank_front : (b : ℕ) → IsBlank b → IsFrontByte b
blank_front b is = grind arith

pub blanks_low : (blanks : List ℕ) → Each IsBlank blanks → BeginsLow blanks
blanks_low blanks h = grind arith

pub passes : (P : ℕ → Type 0) (test : ℕ → Bool) → ((b : ℕ) → P b → test b ≡ true) → (text : List ℕ)
    → Each P text → list_all test text ≡ true
passes P test is [] all = refl
passes P test is (b ∷ text) all = and_from _ _ (is b all.0) (passes P _ is text all.1)

pub record ArePartsAt (stop : ℕ) (front rest text : List ℕ) : Type 0 where
  pub before : before_byte stop text ≡ front
  pub from : from_byte stop text ≡ rest

parts : (stop : ℕ) (front rest : List ℕ) → Each (λ b. b ≢ stop) front
    → ArePartsAt stop [] rest rest → ArePartsAt stop front rest (front ++ rest)
parts stop [] rest all is = is
parts stop (b ∷ front) rest all is = grind (arith, ne_eqb, next_place, parts stop front rest all.1 is)

pub parts_at : (stop : ℕ) (front rest : List ℕ) → Each (λ b. b ≢ stop) front
    → ArePartsAt stop front (stop ∷ rest) (front ++ stop ∷ rest)
parts_at stop front rest all =
    let is = eq-eqb stop stop refl in
    parts stop front (stop ∷ rest) all (record { before = rw is; from = rw is refl })

pub has_at : (stop : ℕ) (front rest : List ℕ) → has stop (front ++ stop ∷ rest) ≡ true
has_at stop [] rest = rw (eq-eqb stop stop refl)
has_at stop (b ∷ front) rest = or_right _ _ (has_at stop front _)

pub blank_passes : (b : ℕ) → rfc.IsWs b → is_blank b ≡ true
blank_passes b is = grind (arith, nat_tests)

abbrev pub IsSolid : ℕ → Type 0
IsSolid b = is_blank b ≡ false

pub leading_gone : (front text : List ℕ) → Each rfc.IsWs front
    → trim_blanks_start (front ++ text) ≡ trim_blanks_start text
leading_gone [] text all = refl
leading_gone (b ∷ front) text all = rw (blank_passes b all.0) (leading_gone front text all.1)

solid_stays : (text : List ℕ) → Each IsSolid text → trim_blanks_start text ≡ text
solid_stays [] all = refl
solid_stays (b ∷ text) all = rw all.0 refl

trailing_gone : (kept back : List ℕ) → Each IsSolid kept → Each rfc.IsWs back
    → trim_blanks_end (kept ++ back) ≡ kept
trailing_gone kept back all after =
    ap (λ t. reverse (trim_blanks_start t)) (reverse-append kept back)
    ∙ ap reverse (leading_gone (reverse back) (reverse kept) (each_reversed rfc.IsWs back after)
    ∙ solid_stays (reverse kept) (each_reversed IsSolid kept all)) ∙ reverse-reverse kept

pub stripped_is : (front kept back : List ℕ) → Each rfc.IsWs front → Each IsSolid kept
    → Each rfc.IsWs back → trim_blanks (front ++ (kept ++ back)) ≡ kept
stripped_is front [] back before all after =
    ap trim_blanks_end (leading_gone front back before
    ∙ rw append-nil at (leading_gone back [] after))
stripped_is front (b ∷ kept) back before all after =
    let solid : trim_blanks_start (b ∷ (kept ++ back)) ≡ b ∷ (kept ++ back) = rw all.0 refl in
    ap trim_blanks_end (leading_gone front (b ∷ (kept ++ back)) before ∙ solid)
    ∙ trailing_gone (b ∷ kept) back all after

pub solid_char : (b : ℕ) → IsCharByte b → IsSolid b
solid_char b is = grind (arith, nat_tests)

abbrev pub IsNameByte : ℕ → Type 0
IsNameByte b = IsFrontByte b × IsSolid b

pub identifier_name : (word : List ℕ) → Each rfc.IsIdentifierByte word → Each IsNameByte word
identifier_name = grind (arith, each_weaker, identifier_bounds)

-- a byte whose lower case is an identifier byte may occur in a name
name_letter : (b : ℕ) → rfc.IsIdentifierByte (to_ascii_lowercase b) → IsNameByte b
name_letter b is = grind (arith, blank, blank_no_letter, false_from_ne_true, identifier_bounds)

pub name_letters : (key word : List ℕ) → map to_ascii_lowercase key ≡ word → Each rfc.IsIdentifierByte word
    → Each IsNameByte key
name_letters [] word e all = tt
name_letters (b ∷ key) [] e all = cc
name_letters (b ∷ key) (c ∷ word) e all = grind (arith, name_letter, name_letters key word)

-- the line has this name before its first colon, and this text after it
pub record IsNamed (key rest body : List ℕ) : Type 0 where
  pub has : has colon body ≡ true
  pub name : name_in body ≡ key
  pub after : after_byte colon body ≡ rest
  pub low : BeginsLow body
  pub bare : Each IsBare rest → Each IsBare body

pub named : (margin name blanks rest : List ℕ) → Each rfc.IsWs margin → Each IsNameByte name
    → Each rfc.IsWs blanks → IsNamed name rest ((margin ++ (name ++ blanks)) ++ colon ∷ rest)
named margin name blanks rest before is following =
    let front : List ℕ = margin ++ (name ++ blanks) in
    let fronts = each_weaker rfc.IsWs IsFrontByte blank_front in
    let all : Each IsFrontByte front =
    each_append _ _ _ (fronts margin before)
    (each_append _ _ _ (each_weaker IsNameByte _ (λ b byte. byte.0) name is) (fronts blanks following)) in
    let parts = parts_at colon front rest (each_weaker IsFrontByte _ (λ b byte. byte.2) front all) in
    record {
      has = has_at colon front rest;
      name =
          ap trim_blanks parts.before
          ∙ stripped_is margin name blanks before (each_weaker IsNameByte _ (λ b byte. byte.1) name is)
          following;
      after = ap (drop 1) parts.from;
      low = low_body front all;
      bare = λ bare.
          each_append _ front _ (each_weaker IsFrontByte _ (λ b byte. byte.0) front all)
          (inr (omega arith), bare);
    }
  where
    low_body : (front : List ℕ) → Each IsFrontByte front → BeginsLow (front ++ colon ∷ rest)
    low_body [] all = omega arith
    low_body (b ∷ front) all = all.0.1

pub char_passes : (b : ℕ) → IsCharByte b → is_value_byte b ≡ true
char_passes b is = grind (arith, nat_tests)

pub value_passes : (text : List ℕ) → IsCharText text → is_value_text text ≡ true
value_passes text is = grind (arith, and_from, char_passes, is_utf8-from_IsUtf8, passes)

ascii_utf8 : (b : ℕ) → b < 128 → IsUtf8 (b ∷ [])
ascii_utf8 b small = subst IsUtf8 (encode_ascii b small) (IsUtf8-encode b (low_scalar b (omega arith)))

bare_passes : (b : ℕ) → IsBare b → is_comment_byte b ≡ true
bare_passes b is = grind (arith, nat_tests)

comment_unit : (bytes : List ℕ) → rfc.IsCommentUnit bytes → Each IsBare bytes × IsUtf8 bytes
comment_unit bytes (inl is) =
    let text = char_text bytes is in
    (each_weaker IsCharByte _ (λ b is. (char_value b is).0) _ text.bytes, text.utf8)
comment_unit bytes (inr (inl (b, is, whole))) =
    rw whole (((blank_value b is).0, tt), ascii_utf8 b (omega arith))
comment_unit bytes (inr (inr is)) = rw is (grind arith, ascii_utf8 hash (omega arith))

pub comment_text : (text : List ℕ) → rfc.IsMany rfc.IsCommentUnit text
    → Each IsBare text × (is_comment_text text ≡ true)
comment_text text is =
    let (bare, utf8) =
    many {Q = λ t. Each IsBare t × IsUtf8 t} (tt, IsUtf8-nil)
    (λ xs ys is also. (each_append IsBare xs ys is.0 also.0, IsUtf8-append xs ys is.1 also.1)) comment_unit
    text is in (
      bare,
      and_from _ _ (is_utf8-from_IsUtf8 text utf8)
          (passes IsBare is_comment_byte bare_passes text bare),
    )

pub record IsRemark (comment : List ℕ) : Type 0 where
  pub is : IsOptionalComment comment
  pub bare : Each IsBare comment
  pub low : BeginsLow comment
  pub passes : is_comment_text (drop 1 comment) ≡ true

pub remark : (comment : List ℕ) → (comment ≡ []) ⊎ rfc.IsComment comment → IsRemark comment
remark comment (inl none) =
    let text = comment_text [] (record { units = []; each = tt; whole = refl }) in
    rw none (record { is = inl refl; bare = tt; low = tt; passes = text.1 })
remark comment (inr is) =
    let text = comment_text is.text is.is_text in
    rw is.whole (record {
      is = inr (is.text, refl);
      bare = (inr (omega arith), text.0);
      low = omega arith;
      passes = text.1;
    })

pub parts_comment : (region comment : List ℕ) → Each (λ b. b ≢ hash) region → IsOptionalComment comment
    → ArePartsAt hash region comment (region ++ comment)
parts_comment region comment all (inl none) =
    parts hash region comment all (rw none (record { before = refl; from = refl }))
parts_comment region comment all (inr (text, is)) = rw is (parts_at hash region text all)

-- a line of this form with these source lines, one or none
pub record IsLineOf (form : Form) (sources : List Source) (text : List ℕ) : Type 0 where
  pub body : List ℕ
  pub nl : List ℕ
  pub whole : text ≡ body ++ nl
  pub is_nl : rfc.IsNl nl
  pub tested : has_form form body ≡ true
  pub bare : Each IsBare body
  pub low : BeginsLow body
  pub sourced : filter is_not_raw (source_of body ∷ []) ≡ sources
  pub read : Each IsRead sources

abbrev pub word_of : Kind → List ℕ
word_of kind = get_or (field_names kind) 0 []

word_letters : (kind : Kind) → list_all is_identifier_byte (word_of kind) ≡ true
word_letters kind = grind arith

word_written : (kind : Kind) → Contains (field_names kind) (word_of kind)
word_written kind = grind arith

abbrev pub form_of : Kind → Form × (List ℕ → Bool)
form_of kind.UserAgent = (Agent, is_product_token)
form_of kind.CrawlDelay = (Delay, is_number)
form_of kind.Sitemap = (Sitemap, is_value_text)
form_of _ = (Rule, is_pattern)

form_passes : (kind : Kind) (body : List ℕ) → is_keyed (word_of kind) body ≡ true
    → (form_of kind).1 (value_in body) ≡ true → has_form (form_of kind).0 body ≡ true
form_passes kind body h h2 = grind (arith, and_from, or_left, or_right)

-- a line with the kind's field name and a value of characters, whose trimmed value is `read`
module _ (kind : Kind) (value read text : List ℕ) (line : rfc.IsKeyed (word_of kind) value text)
    (chars : IsCharText value) (trim : IsTrimOf read value) where
  abbrev eol : rfc.IsEol line.eol
  eol = line.is_eol

  abbrev front : List ℕ
  front = line.margin ++ (line.key ++ line.blanks)

  abbrev region : List ℕ
  region = line.gap ++ (value ++ eol.blanks)

  abbrev body : List ℕ
  body = front ++ colon ∷ (region ++ eol.comment)

  named_key : IsNamed line.key (region ++ eol.comment) body
  named_key =
      named line.margin line.key line.blanks _ line.margin_blank
      (name_letters _ _ line.is_key (identifier _ (word_letters kind))) line.blanks_blank

  are_values : Each IsValueByte region
  are_values =
      each_append _ _ _ (blanks_value _ line.gap_blank)
      (each_append _ _ _ (each_weaker IsCharByte _ char_value _ chars.bytes) (blanks_value _ eol.are_blanks))

  no_hash : Each (λ b. b ≢ hash) region
  no_hash = each_weaker _ (λ b. b ≢ hash) (λ b is. is.1) region are_values

  comment : IsRemark eol.comment
  comment = remark eol.comment eol.is_comment

  at_hash : ArePartsAt hash region eol.comment (after_byte colon body)
  at_hash = rw named_key.after (parts_comment _ _ no_hash comment.is)

  value_is : value_in body ≡ value
  value_is = grind (arith, at_hash, each_weaker, solid_char, stripped_is)

  value_written : written body ≡ value
  unfolding written
  value_written = value_is

  keyed_passes : is_keyed (word_of kind) body ≡ true
  keyed_passes = grind (arith, and_from, at_hash, bytes_eq-Decides, comment, named_key)

  states : IsStatement kind read body
  states = record {
    margin = line.margin;
    key = line.key;
    rest = line.blanks ++ colon ∷ (region ++ eol.comment);
    tail = region ++ eol.comment;
    region = region;
    comment = eol.comment;
    whole = simp append_assoc;
    margin_blank = line.margin_blank;
    is_key = subst (Contains (field_names kind)) (sym line.is_key) (word_written kind);
    separated = inl (line.blanks, line.blanks_blank, refl);
    parted = refl;
    no_hash = no_hash;
    is_comment = comment.is;
    trimmed =
        trim_if_same region (value ++ eol.blanks) read
        (trim_skips_blanks line.gap _ line.gap_blank)
        (blanks_after eol.blanks value read eol.are_blanks chars.utf8 trim);
  }

  pub keyed_line : (found : LineValue) → ((body : List ℕ) → line_with kind read body ≡ found)
      → Each IsRead (filter is_not_raw ((found, value) ∷ []))
      → (form_of kind).1 value ≡ true
      → IsLineOf (form_of kind).0 (filter is_not_raw ((found, value) ∷ [])) text
  keyed_line found is is_read passes =
      let source : ◌≡◌ {A = Source} (source_of body) (found, value) =
      ap (λ found. (found, written body))
      (line_stated body kind read (statement_complete kind read body states) ∙ is body)
      ∙ ap (λ v. (found, v)) value_written in
      record {
        body = body;
        nl = eol.nl;
        whole =
            line.whole
            ∙ ap
            (λ e. line.margin ++ (line.key ++ (line.blanks ++ (codes ":" ++ (line.gap ++ (value ++ e))))))
            eol.whole
            ∙ simp append_assoc;
        is_nl = eol.is_nl;
        tested = form_passes kind body keyed_passes (ap (form_of kind).1 value_is ∙ passes);
        bare =
            named_key.bare
            (each_append _ region _ (values_bare region are_values) comment.bare);
        low = named_key.low;
        sourced = ap (λ (source : Source). filter is_not_raw (source ∷ [])) source;
        read = is_read;
      }
