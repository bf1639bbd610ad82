-- Field names and directives.
use Rattle.std.proofs.Common.{◌≡◌, ℕ, ◌+◌, ◌≤◌, true, List, [], ◌∷◌, Some, arith, drop, get_or, length, map}
use Rattle.std.proofs.Common.{refl, take, false, sym, ap, ◌∙◌, ◌⊎◌, ◌≢◌, ◌==◌, not, ◌||◌, inl, inr, ◌++◌}
use Rattle.std.proofs.Common.{rules, cond, if◌then◌else◌, Option, None, length-append, nat_lt}
use Rattle.std.proofs.lemmas.List.{drop_more, length-map, map-append, take-append-drop, take-map, drop_at}
use Rattle.std.proofs.lemmas.{List.Sums.take_while-cons, Slice.Eq.bytes_eq-Decides}
use Rattle.std.specs.{Char.to_ascii_lowercase, Str.bytes_eq, Bool.Decides}
use Rattle.texting_robots.specs.Internal.Statement.{skip_blanks, after_blanks, after_separator, statement_of}
use Rattle.texting_robots.specs.Internal.Statement.{after_any, space, kind_by, region_of, value_of, begins}
use Rattle.texting_robots.specs.Internal.Statement.{tab, hash, tail_of, tail_as, trimmed, IsOptionalComment}
use Rattle.std.proofs.lemmas.Bool.{false_from_ne_true, cases_Bool, cond-true, cond-false, eqb-true, eqb-false}
use Rattle.std.proofs.lemmas.Bool.{ne_eqb, ltb-true, lt-ltb}
use Rattle.std.specs.List.{AllByRecursion as Each, Contains}
use Rattle.std.proofs.lemmas.Option.{option_and_then_some, same_Some, some_pair_parts}
use Rattle.std.proofs.lemmas.Str.Ascii.{lowercase-lowercase}
use Rattle.std.proofs.lemmas.List.Elements.{All-contains, Contains-append_right}
use Rattle.texting_robots.specs.declared.parser.statement.Kind.{Kind}
use Rattle.texting_robots.specs.Statement.{field_names, IsBlank, StartsValue, IsAfterBlanks, IsAfterColon}
use Rattle.texting_robots.specs.Statement.{IsStatement}
use Rattle.texting_robots.proofs.TrimLemmas.{trimmed_is_trim, trim_unique, trim_skips_blanks}

-- ---- A text that has the bytes of a usual field name begins with it.

abbrev pub HasAt : List ℕ → ℕ → List ℕ → Type 0
HasAt text k [] = Unit {0}
HasAt text k (b ∷ name) = (get_or text k 0 ≡ b) × HasAt text (k + 1) name

front_of : (text name : List ℕ) (k : ℕ) → k + length name ≤ length text → HasAt text k name
    → take (length name) (drop k text) ≡ name
front_of text [] k within has = refl
front_of text (b ∷ name) k within (here, more) = grind (arith, drop_more, front_of text name (k + 1))

pub usual_is : (text name small : List ℕ) (others : List (List ℕ)) → length name ≤ length text
    → HasAt text 0 name → length small ≡ length name → bytes_eq (map to_ascii_lowercase name) small ≡ true
    → after_any (small ∷ others) text ≡ Some (drop (length name) text)
usual_is text name small others within has sizes same = grind (arith, front_of)

module _ (name text key : List ℕ) (front : key ≡ take (length name) text) where
  here : map to_ascii_lowercase (take (length (map to_ascii_lowercase name)) text)
      ≡ map to_ascii_lowercase key
  here = grind (arith, length-map)

  pub written_same : map to_ascii_lowercase key ≡ map to_ascii_lowercase name
      → begins (map to_ascii_lowercase name) text ≡ true
  written_same same = (bytes_eq-Decides _ _).1 (here ∙ same)

  pub written_other : ¬ (map to_ascii_lowercase key ≡ map to_ascii_lowercase name)
      → begins (map to_ascii_lowercase name) text ≡ false
  written_other other = false_from_ne_true _ (λ same. other (sym here ∙ (bytes_eq-Decides _ _).0 same))

-- ---- A line is a directive of at most one kind with at most one value: those that `statement_of` computes.

blank_decides : (b : ℕ) → Decides (b == space || b == tab) (IsBlank b)
blank_decides b = grind arith

pub skip_front : (blanks left : List ℕ) → Each IsBlank blanks
    → skip_blanks (blanks ++ left) ≡ skip_blanks left
skip_front [] left all = refl
skip_front (b ∷ blanks) left all = cond-true _ _ _ ((blank_decides b).1 all.0)
    ∙ skip_front blanks left all.1

abbrev pub NoBlank : List ℕ → Type 0
NoBlank [] = Unit {0}
NoBlank (b ∷ text) = ¬ IsBlank b

pub skips_nothing : (text : List ℕ) → NoBlank text → skip_blanks text ≡ text
skips_nothing text plain = grind (arith, blank_decides, cond-false, false_from_ne_true)

abbrev Skipped : List ℕ → List ℕ → Type 0
Skipped left text = (blanks : List ℕ) × Each IsBlank blanks × (text ≡ blanks ++ left) × NoBlank left

skipped : (text : List ℕ) → Skipped (skip_blanks text) text
skipped [] = ([], tt, refl, tt)
skipped (b ∷ text) = elim (cases_Bool (b == space || b == tab)) [
  | inl is ↦
      let (blanks, all, whole, plain) = skipped text in
      rw is (b ∷ blanks, ((blank_decides b).0 is, all), cc, plain)
  | inr isnt ↦
      grind (arith, blank_decides)
]

plain_by : (kind : Kind) (text : List ℕ) → kind_by text ≡ Some kind → NoBlank text
plain_by kind text is = grind arith

-- `after_any`, given the text in lower case
abbrev after_small : List (List ℕ) → List ℕ → List ℕ → Option (List ℕ)
after_small [] small text = None
after_small (s ∷ list) small text =
    if bytes_eq (take (length s) small) s then Some (drop (length s) text) else after_small list small text

any_small : (list : List (List ℕ)) (text : List ℕ)
    → after_any list text ≡ after_small list (map to_ascii_lowercase text) text
any_small [] text = refl
any_small (s ∷ list) text = rw (take-map, any_small list text) refl

abbrev IsRead : Kind → List ℕ → Type 0
IsRead kind s = (more text : List ℕ) → (kind_by (s ++ more) ≡ Some kind)
    × (after_small (field_names kind) (s ++ more) text ≡ Some (drop (length s) text))

each_read : (kind : Kind) → Each (IsRead kind) (field_names kind)
each_read kind = grind arith

kind_small : (text : List ℕ) → kind_by text ≡ kind_by (map to_ascii_lowercase text)
kind_small text = grind (arith, lowercase-lowercase)

key_found : (kind : Kind) (key rest : List ℕ) → Contains (field_names kind) (map to_ascii_lowercase key)
    → (kind_by (key ++ rest) ≡ Some kind) × (after_any (field_names kind) (key ++ rest) ≡ Some rest)
key_found kind key rest is =
    let small = map to_ascii_lowercase key in
    let reads = All-contains (IsRead kind) (field_names kind) small
    (grind (arith, each_read)) is
    (map to_ascii_lowercase rest) (key ++ rest) in
    grind (arith, any_small, drop_at, kind_small, length-map, map-append)

found_key : (list : List (List ℕ)) (text rest : List ℕ) → after_any list text ≡ Some rest
    → (key : List ℕ) × Contains list (map to_ascii_lowercase key) × (text ≡ key ++ rest)
found_key [] text rest is = grind arith
found_key (s ∷ list) text rest is = elim (cases_Bool (begins s text)) [
  | inl test ↦
      grind (arith, bytes_eq-Decides, same_Some, take-append-drop)
  | inr other ↦
      let (key, among, whole) = found_key list text rest (rw other at is) in
      (key, Contains-append_right (s ∷ []) list _ among, whole)
]

spaced : (rest tail : List ℕ) → StartsValue tail
    → (skip_blanks tail ≡ tail) × (after_separator rest tail ≡ after_blanks rest tail)
spaced rest tail plain = grind (arith, cond-false, skips_nothing, ne_eqb)

tail_found : (tail rest : List ℕ) → IsAfterColon tail rest ⊎ IsAfterBlanks tail rest
    → tail_of rest ≡ Some (skip_blanks tail)
tail_found tail rest (inl (blanks, all, whole)) = grind (arith, skip_front)
tail_found tail rest (inr ([], all, some, whole, plain)) = absurd (some refl)
tail_found tail rest (inr (b ∷ blanks, all, some, whole, plain)) =
    search (rules, length-append, lt-ltb, skip_front, spaced)

-- the code found the tail without its leading spaces and tabs
abbrev Tailed : List ℕ → List ℕ → Type 0
Tailed rest found =
    (tail : List ℕ) × (IsAfterColon tail rest ⊎ IsAfterBlanks tail rest)
    × (found ≡ skip_blanks tail)

blanks_found : (rest left found : List ℕ) → Skipped left rest → StartsValue left
    → after_blanks rest left ≡ Some found → Tailed rest found
blanks_found rest left found (blanks, all, whole, _) plain is =
    elim (cases_Bool (nat_lt (length left) (length rest))) [
      | inr short ↦ grind arith
      | inl more ↦
          let less = ltb-true (length left) (length rest) more in
          let some : blanks ≢ []
          = grind arith in
          let same : left ≡ found = same_Some _ _ (rw more at is) in
          (left, inr (blanks, all, some, whole, plain), sym same ∙ sym (spaced rest left plain).0)
    ]

found_tail : (rest left found : List ℕ) → Skipped left rest → after_separator rest left ≡ Some found
    → Tailed rest found
found_tail rest left found h is = grind (arith, blanks_found, eqb-false, eqb-true, same_Some)

region_step : (b : ℕ) (tail : List ℕ) → region_of (b ∷ tail)
    ≡ cond (not (b == hash)) (b ∷ region_of tail) []
region_step b tail = take_while-cons (λ byte. not (byte == hash)) b tail

abbrev Parted : List ℕ → List ℕ → Type 0
Parted region tail = (comment : List ℕ) × (tail ≡ region ++ comment)
    × Each (λ byte. byte ≢ hash) region × IsOptionalComment comment

parted : (tail : List ℕ) → Parted (region_of tail) tail
parted [] = ([], refl, tt, inl refl)
parted (b ∷ tail) = rw (region_step b tail) (elim (cases_Bool (b == hash)) [
  | inl is ↦ rw is (b ∷ tail, refl, tt, grind (arith, eqb-true))
  | inr isnt ↦
      grind (arith, eqb-false, parted tail)
])

pub region_is : (region comment : List ℕ) → Each (λ byte. byte ≢ hash) region
    → IsOptionalComment comment → region_of (region ++ comment) ≡ region
region_is [] comment plain (inl empty) = ap region_of empty
region_is [] comment plain (inr (text, is)) = ap region_of is ∙ region_step hash text
region_is (b ∷ region) comment plain is =
    grind (arith, ne_eqb, region_step, region_is region comment plain.1 is)

value_skipped : (tail : List ℕ) → value_of (skip_blanks tail) ≡ value_of tail
value_skipped tail =
    let (blanks, all, whole, _) = skipped tail in
    grind (arith, trim_skips_blanks, at)
  where
    first : (b : ℕ) (text : List ℕ) → IsBlank b → region_of (b ∷ text) ≡ b ∷ region_of text
    first b text (inl is) = rw is (region_step 32 text)
    first b text (inr is) = rw is (region_step 9 text)

    at : (blanks : List ℕ) → Each IsBlank blanks
        → region_of (blanks ++ skip_blanks tail) ≡ blanks ++ region_of (skip_blanks tail)
    at [] all = refl
    at (b ∷ blanks) all =
        first b (blanks ++ skip_blanks tail) all.0 ∙ ap (λ t. b ∷ t) (at blanks all.1)

pub statement_complete : (kind : Kind) (value body : List ℕ) → IsStatement kind value body
    → statement_of body ≡ Some (kind, value)
unfolding statement_of
statement_complete kind value body s =
    let text = s.key ++ s.rest in
    let key = key_found kind s.key s.rest s.is_key in
    let reads : skip_blanks body ≡ text
    = cc (skip_front s.margin text s.margin_blank, skips_nothing text (plain_by kind text key.0)) in
    let region : region_of s.tail ≡ s.region
    = cc (region_is s.region s.comment s.no_hash s.is_comment) in
    let is : value_of (skip_blanks s.tail) ≡ value
    = cc (value_skipped s.tail, trim_unique s.region value s.trimmed) in
    grind (arith, tail_found)

stated : (kind : Kind) (body rest found : List ℕ)
    → after_any (field_names kind) (skip_blanks body) ≡ Some rest → tail_of rest ≡ Some found
    → IsStatement kind (value_of found) body
stated kind body rest found keyed is =
    let (margin, blank, before, _) = skipped body in
    let (key, is_key, whole) = found_key (field_names kind) (skip_blanks body) rest keyed in
    let (tail, separated, same) = found_tail rest (skip_blanks rest) found (skipped rest) is in
    let (comment, parts, no_hash, is_comment) = parted tail in
    grind (arith, trimmed_is_trim, value_skipped)

pub statement_sound : (kind : Kind) (value body : List ℕ) → statement_of body ≡ Some (kind, value)
    → IsStatement kind value body
unfolding statement_of
statement_sound kind value body found =
    let text = skip_blanks body in
    option_and_then_some _ (kind_by text) (kind, value) found (λ k by is.
    option_and_then_some _ (tail_as k text) (kind, value) is (λ tail is same.
    option_and_then_some tail_of (after_any (field_names k) text) tail is (grind (
      arith,
      same_Some,
      stated,
      tail,
    ))))

pub one_statement : (kind kind' : Kind) (value value' body : List ℕ) → IsStatement kind value body
    → IsStatement kind' value' body → (kind ≡ kind') × (value ≡ value')
one_statement kind kind' value value' body s t =
    some_pair_parts kind kind' value value'
    (sym (statement_complete kind value body s) ∙ statement_complete kind' value' body t)

pub no_statement : (body : List ℕ) → statement_of body ≡ None → (kind : Kind) (value : List ℕ)
    → ¬ IsStatement kind value body
no_statement body none kind value is = let found = statement_complete kind value body is in cc
