-- Crawlers with the same rules.
use Rattle.std.proofs.lemmas.{Grind.common_steps, Bool.cases_Bool, Bool.and_parts, Bool.cases_lt}
use Rattle.std.proofs.Common.{◌≡◌, inl, inr, List, ℕ, ap, codes, false, refl, sym, ◌<◌, ◌≤◌, [], Bool, ◌+◌}
use Rattle.std.proofs.Common.{◌∙◌, suc, true, ◌∷◌, ◌++◌, Contains, IsAscii, IsUtf8, ap₂, subst, arith, get_or}
use Rattle.std.proofs.Common.{encode_utf8, encode_utf8_all, filter_map, length, map, append-nil}
use Rattle.std.specs.{List.filter_map, List.list_any, Str.str_to_ascii_lowercase, Char.to_ascii_lowercase}
use Rattle.texting_robots.specs.Callers.{IsRejected, delay_for, is_named, placed_rules}
use Rattle.texting_robots.specs.{Group.group_name, Line.LineValue}
use Rattle.texting_robots.proofs.Shared.{rejection_is_computed}
use Rattle.robots_rules.specs.Blocks.{left_from}
use Rattle.robots_rules.specs.Needless.{AreDeletable, MeanTheSame, lines_without}
use Rattle.robots_rules.proofs.BlockLemmas.{among, left_are}
use lib.Utf8.{scalar as is_scalar, scalars}
use Rattle.std.proofs.lemmas.List.{map-append, Folds.Any-from_list_any, Folds.list_any-append}
use Rattle.std.proofs.lemmas.Str.{IsUtf8-append, IsUtf8-encode, IsUtf8-from_ascii, IsUtf8-nil, encode_ascii}
use Rattle.std.proofs.lemmas.Str.{inside_one, is_utf8-from_IsUtf8, Ascii.lowercase_ascii, Ascii.lowercase_is}
use Rattle.std.proofs.lemmas.Slice.Eq.{bytes_eq-Decides}
use Rattle.texting_robots.specs.Agents.{agent_in, agents_in, each_once, is_among}
use Rattle.robots_rules.proofs.TogetherLemmas.{in_cons, to_filter}

rules_of_group : (agent other : List ℕ) (lines : List LineValue)
    → group_name agent lines ≡ group_name other lines
    → placed_rules agent lines ≡ placed_rules other lines
rules_of_group agent other lines same = grind arith

group_of_star : (agent : List ℕ) (lines : List LineValue) → is_named agent lines ≡ false
    → group_name agent lines ≡ group_name (codes "*") lines
group_of_star agent lines isnt = grind arith

group_in_any_case : (agent other : List ℕ) (lines : List LineValue)
    → str_to_ascii_lowercase agent ≡ str_to_ascii_lowercase other
    → group_name agent lines ≡ group_name other lines
group_in_any_case agent other lines same = grind arith

delays_of_group : (agent other : List ℕ) (lines : List LineValue)
    → group_name agent lines ≡ group_name other lines → delay_for agent lines ≡ delay_for other lines
delays_of_group agent other lines same = grind arith

rejected_alike : (agent other : List ℕ) (lines : List LineValue)
    → placed_rules agent lines ≡ placed_rules other lines → IsRejected agent lines → IsRejected other lines
rejected_alike agent other lines same rejected =
    (rejection_is_computed other lines).1 (rw same at ((rejection_is_computed agent lines).0 rejected))

pub rules_of_star : (agent : List ℕ) (lines : List LineValue) → is_named agent lines ≡ false
    → placed_rules agent lines ≡ placed_rules (codes "*") lines
rules_of_star agent lines isnt = rules_of_group agent (codes "*") lines (group_of_star agent lines isnt)

high_byte : (a b : ℕ) → to_ascii_lowercase a ≡ to_ascii_lowercase b → 128 ≤ b → a ≡ b
high_byte a b same high = grind (arith, lowercase_is, lowercase_ascii)

high_bytes : (one other : List ℕ) → map to_ascii_lowercase one ≡ map to_ascii_lowercase other
    → ((k : ℕ) → k < length other → 128 ≤ get_or other k 0) → one ≡ other
high_bytes [] [] same high = refl
high_bytes [] (b ∷ other) same high = cc
high_bytes (a ∷ one) [] same high = cc
high_bytes (a ∷ one) (b ∷ other) same high =
    let first : to_ascii_lowercase a ≡ to_ascii_lowercase b = cc in
    let later : map to_ascii_lowercase one ≡ map to_ascii_lowercase other = cc in
    ap₂ (λ x t. x ∷ t) (high_byte a b first (high 0 (omega arith)))
    (high_bytes one other later (λ k below. high (suc k) (omega arith)))

ascii_byte : (b : ℕ) → b < 128 → IsAscii (b ∷ [])
ascii_byte b h = grind arith

one_ascii : (one : List ℕ) (c : ℕ) → c < 128 → map to_ascii_lowercase one ≡ to_ascii_lowercase c ∷ []
    → IsUtf8 one
one_ascii one c low same =
    grind (arith, common_steps, IsUtf8-from_ascii, ascii_byte, lowercase_is, lowercase_ascii)

one_char : (one : List ℕ) (c : ℕ) → is_scalar c ≡ true
    → map to_ascii_lowercase one ≡ map to_ascii_lowercase (encode_utf8 c) → IsUtf8 one
one_char one c scalar same = elim (cases_lt c 128) [
  | inl low ↦ (grind (arith, one_ascii, encode_ascii))
  | inr high ↦
      let bytes = encode_utf8 c in
      let is = high_bytes one bytes same (λ k below. elim (cases_lt (get_or bytes k 0) 128) [
        | inl less ↦
            let is = inside_one c [] (encode_utf8 c) k (sym (append-nil (encode_utf8 c))) below less in
            absurd (omega (arith, is))
        | inr most ↦ most
      ]) in
      subst IsUtf8 (sym is) (IsUtf8-encode c scalar)
]

-- a text of which a function of its bytes has two parts
pub split_read : (f : ℕ → ℕ) (text front back : List ℕ) → map f text ≡ front ++ back
    → (one : List ℕ) × (two : List ℕ) × (text ≡ one ++ two) × (map f one ≡ front) × (map f two ≡ back)
split_read f text [] back is = ([], text, refl, refl, is)
split_read f [] (b ∷ front) back is = cc
split_read f (a ∷ text) (b ∷ front) back is =
    let first : f a ≡ b = cc in
    let rest : map f text ≡ front ++ back = cc in
    let (one, two, whole, fits, left) = split_read f text front back rest in
    (a ∷ one, two, ap (λ t. a ∷ t) whole, ap₂ (λ x t. x ∷ t) first fits, left)

lowered_utf8 : (chars one : List ℕ) → scalars chars ≡ true
    → map to_ascii_lowercase one ≡ map to_ascii_lowercase (encode_utf8_all chars) → IsUtf8 one
lowered_utf8 [] [] valid same = IsUtf8-nil
lowered_utf8 [] (b ∷ one) valid same = cc
lowered_utf8 (c ∷ chars) one valid same =
    let (scalar, later) = and_parts (is_scalar c) (scalars chars) valid in
    let (left, right, is, first, rest) = split_read to_ascii_lowercase one _ _
    (grind (arith, map-append)) in
    subst IsUtf8 (sym is)
    (IsUtf8-append left right (one_char left c scalar first) (lowered_utf8 chars right later rest))

utf8_in_any_case : (name agent : List ℕ) → IsUtf8 agent
    → str_to_ascii_lowercase name ≡ str_to_ascii_lowercase agent → IsUtf8 name
utf8_in_any_case name agent (chars, (valid, is)) same = grind (arith, lowered_utf8)

-- one of these names, in letters of some case, is among them once
listed_once : (name : List ℕ) (earlier names : List (List ℕ)) → is_among name earlier ≡ false
    → is_among name names ≡ true → is_among name (each_once earlier names) ≡ true
listed_once name earlier [] new is = is
listed_once name earlier (first ∷ names) new is =
    grind (arith, list_any-append, bytes_eq-Decides, listed_once name (earlier ++ first ∷ []) names)

name_in : (agent : List ℕ) (lines : List LineValue) → is_named agent lines ≡ true
    → is_among agent (filter_map agent_in lines) ≡ true
name_in agent [] is = is
name_in agent (line ∷ lines) is = grind (arith, name_in agent lines)

name_of : (agent : List ℕ) (lines : List LineValue) → IsUtf8 agent → is_named agent lines ≡ true
    → (name : List ℕ) × Contains (codes "*" ∷ agents_in lines) name
    × (str_to_ascii_lowercase agent ≡ str_to_ascii_lowercase name)
name_of agent lines utf8 is =
    let once = listed_once agent [] (filter_map agent_in lines) refl (name_in agent lines is) in
    let (k, one, below, at, passes) = Any-from_list_any _ (each_once [] (filter_map agent_in lines)) once in
    let alike = (bytes_eq-Decides _ (str_to_ascii_lowercase agent)).0 passes in
    let utf8 = is_utf8-from_IsUtf8 one (utf8_in_any_case one agent utf8 alike) in
    grind (arith, in_cons, to_filter)

-- ---- Lines that mean the same for `*` and the crawlers that they name do so for each crawler.

same_group : (agent name : List ℕ) (lines left : List LineValue)
    → group_name agent lines ≡ group_name name lines → group_name agent left ≡ group_name name left
    → MeanTheSame name lines left → MeanTheSame agent lines left
same_group agent name lines left same others alike = record {
  accepted = λ rejected.
      alike.accepted (rejected_alike agent name lines (rules_of_group agent name lines same) rejected);
  left_accepted = λ rejected.
      alike.left_accepted (rejected_alike agent name left (rules_of_group agent name left others) rejected);
  delay = delays_of_group agent name left others ∙ alike.delay ∙ sym (delays_of_group agent name lines same);
  verdicts = λ text answer. rw (rules_of_group agent name lines same, rules_of_group agent name left others)
      (alike.verdicts text answer);
}

any_left : (test : LineValue → Bool) (gone : ℕ → Bool) (position : ℕ) (lines : List LineValue)
    → list_any test lines ≡ false → list_any test (left_from gone position lines) ≡ false
any_left test gone position [] none = none
any_left test gone position (line ∷ lines) none = grind (arith, any_left test gone (position + 1) lines)

module _ (numbers : List ℕ) (lines : List LineValue) (are : AreDeletable numbers lines) (agent : List ℕ) where
  abbrev left : List LineValue
  left = lines_without numbers lines

  unnamed_left : is_named agent lines ≡ false → is_named agent left ≡ false
  unnamed_left isnt = rw (left_are numbers 0 lines) (any_left _ (among numbers) 0 lines isnt)

  pub unnamed_alike : is_named agent lines ≡ false → MeanTheSame agent lines left
  unnamed_alike isnt =
      same_group agent (codes "*") lines left (group_of_star agent lines isnt)
      (group_of_star agent left (unnamed_left isnt)) (are.alike (codes "*") (0, omega arith, refl))

  pub named_alike : (name : List ℕ) → Contains (codes "*" ∷ agents_in lines) name
      → str_to_ascii_lowercase agent ≡ str_to_ascii_lowercase name → MeanTheSame agent lines left
  named_alike name has same =
      same_group agent name lines left (group_in_any_case agent name lines same)
      (group_in_any_case agent name left same) (are.alike name has)

  pub each_alike : IsUtf8 agent → MeanTheSame agent lines left
  each_alike utf8 = elim (cases_Bool (is_named agent lines)) [
    | inr isnt ↦ unnamed_alike isnt
    | inl is ↦ let (name, has, same) = name_of agent lines utf8 is in named_alike name has same
  ]
