-- The lines of what is left of a file are those that stay, but for some empty ones: a line end without LF and
-- an empty line with LF after it become one line end.
use Rattle.std.proofs.Common.{◌≡◌, ◌≢◌, inl, inr, ℕ, zero, suc, ◌+◌, Bool, not, List, ◌∷◌, ◌++◌, All, ap, []}
use Rattle.std.proofs.Common.{sym, refl, ◌∙◌, append_assoc, append-nil, filter, map, replicate, ◌⊎◌, ◌==◌}
use Rattle.std.proofs.Common.{arith}
use Rattle.std.specs.{List.AllByRecursion as Each}
use Rattle.std.proofs.lemmas.Bool.{cases_Bool, ne_eqb, eqb-true, Decides.Decides-eqb}
use Rattle.std.proofs.lemmas.List.{append_cancel_right, map-append}
use Rattle.std.proofs.lemmas.List.Elements.{All-head, All-tail, recursion_from_All}
use Rattle.texting_robots.specs.Cut.{IsBodyByte, IsCut, IsLineEnd, Pair, cr, joined, lf}
use Rattle.texting_robots.specs.Line.{LineValue, Raw, is_raw, nul_as_lf, without, without_bom}
use Rattle.texting_robots.specs.Internal.{Cut.bodies_of, Line.line_of, Statement.statement_of}
use Rattle.texting_robots.proofs.Shared.{body_byte, body_return, body_step, bodies_cons, cut_nil}
use Rattle.robots_rules.specs.{Blocks.left_from}

abbrev pub pair_body : Pair → List ℕ
pair_body pair = pair.body

abbrev pub meant : List (List ℕ) → List LineValue
meant bodies = filter (λ (line : LineValue). not (is_raw line)) (map line_of bodies)

meant_next : (first : List ℕ) (bodies others : List (List ℕ)) → meant bodies ≡ meant others
    → meant (first ∷ bodies) ≡ meant (first ∷ others)
meant_next first bodies others same = grind arith

empty_line : line_of [] ≡ Raw []
unfolding line_of statement_of
empty_line = refl

meant_empty : (bodies : List (List ℕ)) → meant ([] ∷ bodies) ≡ meant bodies
meant_empty bodies = rw empty_line refl

-- an empty content, and those of the rest, perhaps without an empty one
record IsEnded (text rest : List ℕ) : Type 0 where
  later : List (List ℕ)
  bodies : bodies_of text ≡ [] ∷ later
  same : meant later ≡ meant (bodies_of rest)

after_return : (bodies : List (List ℕ)) → (later : List (List ℕ)) × (body_return bodies ≡ [] ∷ later)
    × (meant later ≡ meant bodies)
after_return [] = ([], refl, refl)
after_return ([] ∷ bodies) = (bodies, refl, sym (meant_empty bodies))
after_return ((b ∷ first) ∷ bodies) = ((b ∷ first) ∷ bodies, refl, refl)

one_return : (rest : List ℕ) → IsEnded (cr ∷ rest) rest
one_return rest =
    let (later, is, same) = after_return (bodies_of rest) in
    record { later = later; bodies = bodies_cons cr rest ∙ is; same = same }

more_return : (text rest : List ℕ) → IsEnded text rest → IsEnded (cr ∷ text) rest
more_return text rest is = grind (arith, bodies_cons, body_return)

returns_end : (k : ℕ) (rest : List ℕ) → IsEnded (replicate (suc k) cr ++ rest) rest
returns_end zero rest = one_return rest
returns_end (suc k) rest = grind (arith, more_return, returns_end k rest)

feed_end : (k : ℕ) (rest : List ℕ) → IsEnded ((replicate k cr ++ lf ∷ []) ++ rest) rest
feed_end zero rest = record { later = bodies_of rest; bodies = bodies_cons lf rest; same = refl }
feed_end (suc k) rest = grind (arith, more_return, feed_end k rest)

at_body : (b : ℕ) (bodies : List (List ℕ)) → IsBodyByte b → body_step b bodies ≡ body_byte b bodies
at_body b bodies other = grind (arith, ne_eqb)

body_first : (bytes text : List ℕ) (later : List (List ℕ)) → Each IsBodyByte bytes
    → bodies_of text ≡ [] ∷ later → bodies_of (bytes ++ text) ≡ bytes ∷ later
body_first [] text later all is = is
body_first (b ∷ bytes) text later all is =
    grind (arith, bodies_cons, at_body, body_byte, body_first bytes text later all.1 is)

body_last : (b : ℕ) (bytes : List ℕ) → Each IsBodyByte (b ∷ bytes) → bodies_of (b ∷ bytes) ≡ (b ∷ bytes) ∷ []
body_last b [] all = grind (arith, bodies_cons, at_body, body_byte, cut_nil)
body_last b (c ∷ bytes) all = grind (arith, bodies_cons, at_body, body_byte, body_last c bytes all.1)

pub record IsPair (pair : Pair) (later : List Pair) : Type 0 where
  pub body : Each IsBodyByte pair.body
  pub ending : IsLineEnd pair.ending
  pub last : pair.ending ≡ [] → (later ≡ []) × (pair.body ≢ [])

abbrev pub ArePairs : List Pair → Type 0
ArePairs [] = Unit {0}
ArePairs (pair ∷ later) = IsPair pair later × ArePairs later

pub cut_pairs : (pairs : List Pair) (text : List ℕ) → IsCut pairs text → ArePairs pairs
cut_pairs [] text is = tt
cut_pairs (pair ∷ later) text is = (
  record {
    body = (grind (arith, recursion_from_All, All-head));
    ending = All-head (λ p. IsLineEnd p.ending) pair later is.endings;
    last = is.empty_ending [] later pair refl;
  },
  cut_pairs later (joined later) (record {
    whole = refl;
    bodies = All-tail (λ p. All IsBodyByte p.body) pair later is.bodies;
    endings = All-tail (λ p. IsLineEnd p.ending) pair later is.endings;
    empty_ending = λ front back p e. is.empty_ending (pair ∷ front) back p (ap (λ l. pair ∷ l) e);
    open_ending =
        λ front back p next e. is.open_ending (pair ∷ front) back p next (ap (λ l. pair ∷ l) e);
  }),
)

pub pairs_left : (gone : ℕ → Bool) (position : ℕ) (pairs : List Pair) → ArePairs pairs
    → ArePairs (left_from gone position pairs)
pairs_left gone position [] are = tt
pairs_left gone position (pair ∷ later) (is, are) = grind (arith, pairs_left gone (position + 1) later are)

first_pair : (bytes ending rest : List ℕ) (later : List (List ℕ)) → Each IsBodyByte bytes → IsLineEnd ending
    → (ending ≡ [] → (rest ≡ []) × (bytes ≢ [])) → meant (bodies_of rest) ≡ meant later
    → (ending ≡ [] → later ≡ [])
    → meant (bodies_of ((bytes ++ ending) ++ rest)) ≡ meant (bytes ∷ later)
first_pair bytes ending rest later all end last same none = at bytes ending all end last none
  where
    ended : (bytes ending : List ℕ) → Each IsBodyByte bytes → IsEnded (ending ++ rest) rest
        → meant (bodies_of ((bytes ++ ending) ++ rest)) ≡ meant (bytes ∷ later)
    ended bytes ending all is =
        ap (λ text. meant (bodies_of text)) (append_assoc bytes ending rest)
        ∙ ap meant (body_first bytes (ending ++ rest) is.later all is.bodies)
        ∙ meant_next bytes is.later later (is.same ∙ same)

    at : (bytes ending : List ℕ) → Each IsBodyByte bytes → IsLineEnd ending
        → (ending ≡ [] → (rest ≡ []) × (bytes ≢ [])) → (ending ≡ [] → later ≡ [])
        → meant (bodies_of ((bytes ++ ending) ++ rest)) ≡ meant (bytes ∷ later)
    at [] ending all (zero, inl e) last none = absurd ((last e).1 refl)
    at (b ∷ bytes) ending all (zero, inl e) last none =
        rw (e, (last e).0, none e, append-nil bytes, append-nil bytes)
        (ap meant (body_last b bytes all))
    at bytes ending all (suc k, inl e) last none =
        rw e (ended bytes (replicate (suc k) cr) all (returns_end k rest))
    at bytes ending all (k, inr e) last none =
        rw e (ended bytes (replicate k cr ++ lf ∷ []) all (feed_end k rest))

pub meant_joined : (pairs : List Pair) → ArePairs pairs
    → meant (bodies_of (joined pairs)) ≡ meant (map pair_body pairs)
meant_joined [] are = grind (arith, cut_nil)
meant_joined (pair ∷ later) (is, are) = grind (arith, first_pair, meant_joined later are)

abbrev pub IsTaken : ℕ → List ℕ → Type 0
IsTaken byte taken = (taken ≡ []) ⊎ (taken ≡ byte ∷ [])

taken : (byte : ℕ) (text : List ℕ)
    → (front : List ℕ) × IsTaken byte front × (text ≡ front ++ without byte text)
taken byte [] = ([], inl refl, refl)
taken byte (b ∷ text) = elim (cases_Bool (b == byte)) [
  | inl same ↦ rw same (byte ∷ [], inr refl, ap (λ x. x ∷ text) (eqb-true b byte same))
  | inr other ↦ rw other ([], inl refl, refl)
]

abbrev pub IsNotFirst : ℕ → List ℕ → Type 0
IsNotFirst byte text = without byte text ≡ text

-- no byte of the byte order mark is the first
pub record IsUnmarked (text : List ℕ) : Type 0 where
  pub first : IsNotFirst 0xEF text
  pub second : IsNotFirst 0xBB text
  pub third : IsNotFirst 0xBF text

-- a front that is that of a file, or empty
abbrev pub IsFrontOf : List ℕ → List ℕ → Type 0
IsFrontOf file mark = (mark ≡ []) ⊎ (mark ++ without_bom file ≡ file)

pub record IsMark (mark : List ℕ) : Type 0 where
  pub one : List ℕ
  pub two : List ℕ
  pub three : List ℕ
  pub whole : mark ≡ one ++ (two ++ three)
  pub is_one : IsTaken 0xEF one
  pub is_two : IsTaken 0xBB two
  pub is_three : IsTaken 0xBF three

pub mark_of : (file mark : List ℕ) → IsFrontOf file mark → IsMark mark
mark_of file mark (inl none) = record {
  one = [];
  two = [];
  three = [];
  whole = none;
  is_one = inl refl;
  is_two = inl refl;
  is_three = inl refl;
}
mark_of file mark (inr is) =
    let (one, is_one, at) = taken 0xEF file in
    let (two, is_two, then) = taken 0xBB (without 0xEF file) in
    let (three, is_three, last) = taken 0xBF (without 0xBB (without 0xEF file)) in
    let whole : file ≡ (one ++ (two ++ three)) ++ without_bom file =
    (grind (arith, append_assoc)) in
    (grind (arith, append_cancel_right))

pub mark_read : (mark : List ℕ) → IsMark mark → map nul_as_lf mark ≡ mark
mark_read mark is = grind (arith, map-append)

pub mark_off : (mark text : List ℕ) → IsMark mark → IsUnmarked text → without_bom (mark ++ text) ≡ text
mark_off mark text is isnt = grind (arith, ne_eqb, append_assoc, Decides-eqb)
