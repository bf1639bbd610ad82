-- Identifiers, the accepted field names, and trimming a value between spaces and tabs.
use Rattle.std.proofs.Common.{◌≡◌, ◌≢◌, ◌⊎◌, inl, inr, ℕ, ◌<◌, Bool, true, false, ◌&&◌, ◌||◌, List, [], ◌∷◌}
use Rattle.std.proofs.Common.{◌++◌, bytes_eq, codes, refl, subst, arith, length, IsTrue, sym, ap, ◌∙◌}
use Rattle.std.proofs.Common.{append_assoc, append-nil}
use Rattle.std.specs.List.{AllByRecursion as Each, Contains, list_all, list_any}
use Rattle.std.specs.Char.{to_ascii_lowercase, is_ascii_graphic, is_whitespace, encode_utf8}
use Rattle.std.proofs.lemmas.Bool.{and_parts, or_cases, Decides.nat_tests}
use Rattle.std.proofs.lemmas.{List.Sums.AllPass-from_list_all, Map.Views.Contains-from_any}
use Rattle.std.proofs.lemmas.Slice.{Eq.bytes_eq-Decides}
use Rattle.std.proofs.lemmas.List.{take_at, Elements.All-contains, Elements.All-from_recursion}
use Rattle.std.proofs.lemmas.Str.{Ascii.IsAscii-from_all, IsCharBoundary-at_seam, IsUtf8-from_ascii}
use Rattle.std.proofs.lemmas.Str.{IsUtf8-past_char, IsUtf8-take, char_from_byte}
use Rattle.texting_robots.specs.{Statement.field_names, Statement.IsBlank, Trim.IsSpaces, Trim.IsTrimOf}
use Rattle.std.specs.Str.{IsUtf8, encode_utf8_all}
use Rattle.std.proofs.Math.{Seq.drop-nil, Seq.take-nil, Utf8.scalars}
use Rattle.texting_robots.proofs.Shared.{trim_drops_blanks, graphic_trimmed, trim_if_same, trimmed_is_trim}
use Rattle.texting_robots.proofs.Shared.{white_is_scalar}
use Rattle.rfc9309.proofs.{SyntaxLemmas.each_if_all}
use Rattle.texting_robots.specs.declared.parser.statement.{Kind.Kind}
use Rattle.rfc9309.specs.{LineTest.is_identifier_byte}
use Rattle.texting_robots.specs.declared.parser.statement.Kind.TheVariants as kind
use Rattle.rfc9309.specs.Rfc9309 as rfc

abbrev pub Stops : List ℕ → Type 0
Stops [] = Unit {0}
Stops (b ∷ text) = rfc.IsIdentifierByte b → ⊥

abbrev pub IsWordBefore : List ℕ → List ℕ → Type 0
IsWordBefore word rest = Each rfc.IsIdentifierByte word × Stops rest

pub same_word : (word other rest more : List ℕ) → IsWordBefore word rest → IsWordBefore other more
    → word ++ rest ≡ other ++ more → (word ≡ other) × (rest ≡ more)
same_word [] [] rest more is also e = (refl, e)
same_word (b ∷ word) (c ∷ other) rest more is also e = grind (arith, same_word word)
same_word [] (c ∷ other) [] more is also e = cc
same_word [] (c ∷ other) (d ∷ rest) more is also e = grind arith
same_word (b ∷ word) [] rest [] is also e = cc
same_word (b ∷ word) [] rest (d ∷ more) is also e = grind arith

pub identifier_bounds : (b : ℕ) → rfc.IsIdentifierByte b → (44 < b) × (b < 123) × (b ≢ 58)
identifier_bounds b is = grind arith

pub blank_no_letter : (b : ℕ) → rfc.IsWs b → rfc.IsIdentifierByte (to_ascii_lowercase b) → ⊥
blank_no_letter b is letter = grind (arith, identifier_bounds)

pub identifier_byte : (b : ℕ) → is_identifier_byte b ≡ true → rfc.IsIdentifierByte b
identifier_byte b is = grind (arith, nat_tests)

pub identifier : (word : List ℕ) → list_all is_identifier_byte word ≡ true → Each rfc.IsIdentifierByte word
identifier = each_if_all _ is_identifier_byte identifier_byte

-- an identifier, a space and an identifier byte, and any bytes after them
pub record IsTwoWords (spelling : List ℕ) : Type 0 where
  pub word : List ℕ
  pub letter : ℕ
  pub back : List ℕ
  pub whole : spelling ≡ word ++ 32 ∷ letter ∷ back
  pub is_word : rfc.IsIdentifier word
  pub is_letter : rfc.IsIdentifierByte letter

-- an identifier among those that the library reads, or two words
abbrev pub IsWritten : List ℕ → Type 0
IsWritten spelling = (rfc.IsIdentifier spelling × Contains rfc.names_read spelling) ⊎ IsTwoWords spelling

abbrev is_one_word : List ℕ → Bool
is_one_word [] = false
is_one_word (b ∷ word) =
    list_all is_identifier_byte (b ∷ word) && list_any (bytes_eq (b ∷ word)) rfc.names_read

abbrev two_words : List (List ℕ)
two_words = codes "user agent" ∷ codes "site map" ∷ codes "crawl delay" ∷ []

abbrev is_written : List ℕ → Bool
is_written spelling = is_one_word spelling || list_any (bytes_eq spelling) two_words

listed : (names : List (List ℕ)) (name : List ℕ) → list_any (bytes_eq name) names ≡ true → Contains names name
listed names name is = Contains-from_any (λ xs ys. (bytes_eq-Decides xs ys).0) name _ is

one_word : (word : List ℕ) → is_one_word word ≡ true → rfc.IsIdentifier word × Contains rfc.names_read word
one_word [] is = cc
one_word (b ∷ word) is =
    let (letters, has) = and_parts _ _ is in
    (identifier (b ∷ word) letters, listed rfc.names_read (b ∷ word) has)

two : (b : ℕ) (word : List ℕ) (c : ℕ) (back : List ℕ) → list_all is_identifier_byte (b ∷ c ∷ word) ≡ true
    → IsTwoWords (b ∷ word ++ 32 ∷ c ∷ back)
two b word c back is =
    let letters = identifier (b ∷ c ∷ word) is in
    record {
      word = b ∷ word;
      letter = c;
      back = back;
      whole = refl;
      is_word = (letters.0, letters.1.1);
      is_letter = letters.1.0;
    }

are_two : Each IsTwoWords two_words
are_two = (
  two 117 (codes "ser") 97 _ refl,
  (two 115 (codes "ite") 109 _ refl, (two 99 (codes "rawl") 100 _ refl, tt)),
)

all_written : (kind : Kind) → list_all is_written (field_names kind) ≡ true
all_written kind.UserAgent = refl
all_written _ = refl

pub written : (kind : Kind) (s : List ℕ) → Contains (field_names kind) s → IsWritten s
written kind s has =
    let all = AllPass-from_list_all is_written (field_names kind) (all_written kind) in
    let is = All-contains (λ s. is_written s ≡ true) (field_names kind) s all has in
    elim (or_cases _ _ is) [
      | inl one ↦ inl (one_word s one)
      | inr other ↦ inr (All-contains IsTwoWords two_words s
          (All-from_recursion IsTwoWords two_words are_two) (listed two_words s other))
    ]

abbrev pub IsVisible : ℕ → Type 0
IsVisible byte = (32 < byte) × (byte < 127)

abbrev IsWhite : ℕ → Type 0
IsWhite char = IsTrue (is_whitespace char)

visible_graphic : (b : ℕ) → IsVisible b → is_ascii_graphic b ≡ true
visible_graphic b is = grind (arith, nat_tests)

spaces_begin : (s rest text : List ℕ) (b : ℕ) → IsVisible b → IsSpaces s → b ∷ text ≡ s ++ rest → s ≡ []
spaces_begin s rest text b visible ([], all, is) e = is
spaces_begin s rest text b visible (c ∷ cs, all, is) e =
    let whole : b ∷ text ≡ encode_utf8 c ++ (encode_utf8_all cs ++ rest) =
    e ∙ ap (λ t. t ++ rest) is ∙ append_assoc _ _ rest in
    let same : c ≡ b =
    char_from_byte _ _ c whole (omega arith) (omega arith) in
    let clash : true ≡ false = sym all.0 ∙ ap is_whitespace same ∙ (grind (arith, nat_tests)) in
    cc

scalar_spaces : (chars : List ℕ) → Each IsWhite chars → scalars chars ≡ true
scalar_spaces [] all = refl
scalar_spaces (c ∷ cs) all = rw (white_is_scalar c all.0) (scalar_spaces cs all.1)

spaces_utf8 : (s : List ℕ) → IsSpaces s → IsUtf8 s
spaces_utf8 s (chars, all, is) = (chars, (scalar_spaces _ all, sym is))

pub blanks_after : (blanks region value : List ℕ) → Each IsBlank blanks → IsUtf8 region
    → IsTrimOf value region
    → IsTrimOf value (region ++ blanks)
blanks_after blanks region value all utf8 = trim_if_same _ _ _ (trim_drops_blanks _ _ utf8 all)

pub visible_trim : (bytes : List ℕ) → Each IsVisible bytes → IsTrimOf bytes bytes
visible_trim [] all = rw (drop-nil, take-nil) at (trimmed_is_trim [])
visible_trim (b ∷ bytes) all =
    let last = All-from_recursion IsVisible (b ∷ bytes) all (length bytes) 0 (omega arith) in
    subst (λ v. IsTrimOf v (b ∷ bytes))
    (graphic_trimmed b bytes (visible_graphic b all.0) (visible_graphic _ last)) (trimmed_is_trim _)

pub visible_utf8 : (bytes : List ℕ) → Each IsVisible bytes → IsUtf8 bytes
visible_utf8 bytes all =
    let each = All-from_recursion _ _ all in
    IsUtf8-from_ascii _
    (IsAscii-from_all _ (λ i d within. let visible = each i d within in omega arith))

after_spaces : (chars text rest : List ℕ) → IsUtf8 text → text ≡ encode_utf8_all chars ++ rest → IsUtf8 rest
after_spaces [] text rest utf8 e = subst IsUtf8 e utf8
after_spaces (c ∷ cs) text rest utf8 e =
    let whole = e ∙ append_assoc _ _ rest in
    after_spaces cs _ rest
    (IsUtf8-past_char text _ c utf8 whole) refl

pub trim_utf8 : (region value : List ℕ) → IsUtf8 region → IsTrimOf value region → IsUtf8 value
trim_utf8 region value utf8 t =
    let rest = value ++ t.back in
    let whole = t.whole ∙ ap (λ f. f ++ rest) t.front_spaces.2 in
    subst IsUtf8 (take_at value t.back _ refl)
    (IsUtf8-take rest _ (after_spaces _ region rest utf8 whole)
    (IsCharBoundary-at_seam rest value t.back refl (spaces_utf8 t.back t.back_spaces)))

pub trim_some : (x : ℕ) (region value : List ℕ) → IsVisible x → IsTrimOf value (x ∷ region) → value ≢ []
trim_some x region value visible t e =
    let front : t.front ≡ [] =
    spaces_begin _ _ region x visible t.front_spaces t.whole in
    let whole : x ∷ region ≡ t.back ++ [] =
    t.whole ∙ ap (λ f. f ++ (value ++ t.back)) front ∙ ap (λ v. v ++ t.back) e
    ∙ sym (append-nil t.back) in
    let back : t.back ≡ [] = spaces_begin t.back [] region x visible t.back_spaces whole in
    let none : x ∷ region ≡ [] = whole ∙ append-nil t.back ∙ back in
    cc
