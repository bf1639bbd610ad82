-- Pairs of adjacent bytes show where no user-agent line can begin, so that the code may skip those bytes.
use Rattle.std.proofs.Common.{◌≡◌, ◌⊎◌, ℕ, zero, suc, ◌+◌, ◌<◌, ◌≤◌, Bool, true, false, List, [], ◌∷◌, length}
use Rattle.std.proofs.Common.{map, slice_index, take, drop, sym, refl, ◌∙◌, arith, Some, ◌==◌, ◌||◌, inl, inr}
use Rattle.std.specs.{List.list_any, Char.to_ascii_lowercase}
use Rattle.std.proofs.lemmas.{Grind.common_steps, Bool.eqb-true, Bool.ne_eqb}
use Rattle.texting_robots.specs.{Cut.Pair, Cut.cr, Cut.lf, Internal.Line.line_of, Internal.Line.lines_of}
use Rattle.texting_robots.specs.{Group.is_agent, Group.is_agent_named, Line.LineValue, Line.UserAgent}
use Rattle.texting_robots.specs.Internal.Agents.{NoneBegins, is_named_later, may_begin, may_end}
use Rattle.texting_robots.specs.Internal.Cut.{before_byte, body_len, end_len, read_as, read_byte}
use Rattle.texting_robots.specs.Internal.Statement.{kind_by, kind_with, skip_blanks, space, tab}
use Rattle.texting_robots.proofs.CutLemmas.{byte_cases, cut_cons, pair_of}
use Rattle.texting_robots.proofs.CutFromFront.{bodies_nil, cut_first_line, next_body}
use Rattle.texting_robots.proofs.LineLemmas.{agent_or_other, kind_is}
use Rattle.texting_robots.specs.declared.parser.statement.Kind.TheVariants as kind

abbrev IsOther : List ℕ → Type 0
IsOther [] = Unit {0}
IsOther (b ∷ body) = may_begin b ≡ false

letter_is : (letter : ℕ) → kind_with letter ≡ Some kind.UserAgent → letter ≡ 117
letter_is letter is = grind (arith, common_steps)

pub no_agent : (line : LineValue) (name : List ℕ) → is_agent line ≡ false
    → is_agent_named name line ≡ false
no_agent line name other = grind arith

begins_no : (b : ℕ) → may_begin b ≡ false
    → ((b == space) ≡ false) × ((b == tab) ≡ false) × ((b == 85) ≡ false) × ((b == 117) ≡ false)
begins_no b other = grind arith

no_letter : (b : ℕ) → ((b == 85) ≡ false) × ((b == 117) ≡ false)
    → ¬ (to_ascii_lowercase b ≡ 117)
no_letter b other is = grind (arith, common_steps)

other_kind : (body : List ℕ) → IsOther body → ¬ (kind_by (skip_blanks body) ≡ Some kind.UserAgent)
other_kind body other = grind (arith, begins_no, letter_is, no_letter)

names_none : (name body : List ℕ) → IsOther body → is_agent_named name (line_of body) ≡ false
names_none name body other = elim (agent_or_other _ _ (kind_is body)) [
  | inl is ↦ absurd (other_kind body other is)
  | inr none ↦ no_agent _ name none
]

abbrev names_in : List ℕ → List Pair → Bool
names_in name pairs = list_any (is_agent_named name) (map line_of (map (λ (p : Pair). p.body) pairs))

abbrev names_after : List ℕ → List Pair → Bool
names_after name pairs =
    list_any (is_agent_named name) (drop 1 (map line_of (map (λ (p : Pair). p.body) pairs)))

-- adding a byte at the start of a pair adds no later line that names the crawler, unless the byte is CR or LF
-- and the pair may begin a user-agent line
module _ (name : List ℕ) (body ending : List ℕ) (more : List Pair) where
  first_none : IsOther body → names_in name (pair_of body ending ∷ more) ≡ names_in name more
  first_none other = grind (arith, names_none)

  after_byte : (b : ℕ) → ((b ≡ lf) ⊎ (b ≡ cr) → IsOther body)
      → names_after name (before_byte b (pair_of body ending ∷ more)) ≡ names_in name more
  after_byte b other = grind (arith, byte_cases, first_none, names_none, ne_eqb, pair_of)

read_other : (n : Bool) (b : ℕ) → may_begin b ≡ false → may_begin (read_byte n b) ≡ false
read_other n b other = grind arith

ends_is : (b : ℕ) → (b ≡ lf) ⊎ (b ≡ cr) → may_end b ≡ true
ends_is b h = grind arith

ends_read : (n : Bool) (b : ℕ) → (read_byte n b ≡ lf) ⊎ (read_byte n b ≡ cr) → may_end b ≡ true
ends_read n b end = grind (arith, ends_is, eqb-true)

front_other : (k b : ℕ) (text : List ℕ) → may_begin b ≡ false → IsOther (take k (b ∷ text))
front_other k b text other = grind arith

one_more : (name : List ℕ) (n : Bool) (b c : ℕ) (text : List ℕ)
    → (may_end b ≡ true → may_begin c ≡ false)
    → is_named_later name n (c ∷ text) ≡ is_named_later name n (b ∷ c ∷ text)
one_more name n b c text apart =
    let next = read_byte n c in
    let read = read_as n text in
    rw (cut_cons (read_byte n b) (next ∷ read), cut_first_line next read)
    (sym (after_byte name _ _ _ (read_byte n b)
    (λ end. front_other _ next read (read_other n c (apart (ends_read n b end))))))

pub passed_over : (name : List ℕ) (n : Bool) (k : ℕ) (text : List ℕ) → k < length text
    → NoneBegins text k
    → is_named_later name n (drop k text) ≡ is_named_later name n text
passed_over name n zero text within none = refl
passed_over name n (suc k) [] within none = absurd (omega (arith, within))
passed_over name n (suc k) (b ∷ []) within none = absurd (omega (arith, within))
passed_over name n (suc k) (b ∷ c ∷ text) within none =
    passed_over name n k (c ∷ text) (omega (arith, within))
    (λ at next below is. none (suc at) (suc next) (omega arith) (omega arith))
    ∙ one_more name n b c text (none 0 1 (omega arith) (omega arith))

pub first_or_later : (name : List ℕ) (n : Bool) (rest : List ℕ) → 0 < length rest
    → list_any (is_agent_named name) (lines_of (read_as n rest))
    ≡ (is_agent_named name (line_of (take (body_len (read_as n rest)) rest)) || is_named_later name n rest)
first_or_later name n rest some = rw (next_body n rest some) refl

pub later_lines : (name : List ℕ) (n : Bool) (rest : List ℕ) → 0 < length rest
    → (let after = drop (body_len (read_as n rest)) rest in
    list_any (is_agent_named name) (lines_of (read_as n (drop (end_len (read_as n after)) after)))
    ≡ is_named_later name n rest)
later_lines name n rest some = rw (next_body n rest some) refl

-- a first line that begins as no user-agent line does names no crawler
pub other_first : (name : List ℕ) (n : Bool) (text : List ℕ) → 1 ≤ length text
    → may_begin (slice_index text 0) ≡ false
    → is_named_later name n text ≡ list_any (is_agent_named name) (lines_of (read_as n text))
other_first name n [] some other = absurd (omega (arith, some))
other_first name n (b ∷ text) some other =
    cc (
      first_or_later name n (b ∷ text) (omega arith),
      names_none name _ (front_other (body_len (read_as n (b ∷ text))) b text other),
    )

pub line_advances : (n : Bool) (rest : List ℕ) → 0 < length rest
    → (let k = body_len (read_as n rest) in 0 < k + end_len (read_as n (drop k rest)))
line_advances n [] some = absurd (omega (arith, some))
line_advances n (b ∷ rest) some = grind (arith, byte_cases, ne_eqb)

pub none_named : (name : List ℕ) → list_any (is_agent_named name) (lines_of []) ≡ false
none_named name = grind (arith, bodies_nil)
