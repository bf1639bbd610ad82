-- Each text has exactly one cut, which `cut` computes.
use Rattle.std.proofs.Common.{◌≡◌, ◌≢◌, ◌⊎◌, ℕ, zero, suc, ◌+◌, ◌<◌, inl, inr, List, [], ◌∷◌, ◌++◌, All, take}
use Rattle.std.proofs.Common.{replicate, length, get_or, drop, append_assoc, sym, refl, ap, ◌∙◌, arith}
use Rattle.std.specs.List.{AllByRecursion as Each}
use Rattle.std.proofs.lemmas.Bool.{cases_eq, ne_eqb}
use Rattle.std.proofs.lemmas.List.{append-nil, drop_more, get_or_at, length-append, length-replicate}
use Rattle.std.proofs.lemmas.List.{take-append-drop, Elements.All-from_recursion, Elements.All-head}
use Rattle.std.proofs.lemmas.List.{Elements.All-replicate, Elements.All-tail, Elements.recursion_from_All}
use Rattle.texting_robots.specs.Cut.{IsBodyByte, IsCut, IsLineEnd, Pair, cr, joined, lf}
use Rattle.texting_robots.specs.Internal.Cut.{before_body, before_byte, before_end, cut}

abbrev pub pair_of : List ℕ → List ℕ → Pair
pair_of body ending = record { body = body; ending = ending }

pub cut_nil : cut [] ≡ []
unfolding cut
cut_nil = refl

pub cut_cons : (b : ℕ) (text : List ℕ) → cut (b ∷ text) ≡ before_byte b (cut text)
unfolding cut
cut_cons b text = refl

pub byte_cases : (b : ℕ) → (b ≡ lf) ⊎ ((b ≡ cr) ⊎ IsBodyByte b)
byte_cases b = grind (arith, cases_eq)

pub before_body_byte : (b : ℕ) (pairs : List Pair) → IsBodyByte b → before_byte b pairs ≡ before_body b pairs
before_body_byte b pairs other = grind (arith, ne_eqb)

abbrev BeginWithBody : List Pair → Type 0
BeginWithBody [] = Unit {0}
BeginWithBody (next ∷ more) = next.body ≢ []

-- how a line ends: without a terminator, as the last one, by CRs, or by an LF
data EndsBy : List ℕ → List ℕ → List Pair → Type 0 where
  nothing : {b : ℕ} {body : List ℕ} → EndsBy (b ∷ body) [] []
  returns : {body : List ℕ} {later : List Pair} (k : ℕ) → BeginWithBody later
      → EndsBy body (replicate (suc k) cr) later
  feed : {body : List ℕ} {later : List Pair} (k : ℕ) → EndsBy body (replicate k cr ++ lf ∷ []) later

record IsPairBefore (pair : Pair) (later : List Pair) : Type 0 where
  body : Each IsBodyByte pair.body
  ends : EndsBy pair.body pair.ending later

abbrev ArePairs : List Pair → Type 0
ArePairs [] = Unit {0}
ArePairs (pair ∷ later) = IsPairBefore pair later × ArePairs later

pair_at : (pairs : List Pair) → ArePairs pairs
    → (front back : List Pair) (pair : Pair) → pairs ≡ front ++ pair ∷ back → IsPairBefore pair back
pair_at [] are [] back pair e = cc
pair_at [] are (x ∷ front) back pair e = cc
pair_at (first ∷ later) are [] back pair e = grind arith
pair_at (first ∷ later) are (x ∷ front) back pair e = pair_at later are.1 front back pair cc

is_line_end : {body ending : List ℕ} {later : List Pair} → EndsBy body ending later → IsLineEnd ending
is_line_end nothing = (0, inl refl)
is_line_end (returns k begin) = (suc k, inl refl)
is_line_end (feed k) = (k, inr refl)

is_last : {body ending : List ℕ} {later : List Pair} → EndsBy body ending later → ending ≡ []
    → (later ≡ []) × (body ≢ [])
is_last nothing none = (refl, λ e. cc)
is_last (returns k begin) none = cc
is_last (feed zero) none = cc
is_last (feed (suc k)) none = cc

goes_on : {body ending : List ℕ} {next : Pair} {back : List Pair} → EndsBy body ending (next ∷ back)
    → All (λ byte. byte ≢ lf) ending → next.body ≢ []
goes_on h none = grind (arith, get_or_at, length-append, length-replicate)

joined_is_cut : (pairs : List Pair) → ArePairs pairs → IsCut pairs (joined pairs)
joined_is_cut pairs are =
    let at = λ (k : ℕ) (d : Pair) (below : k < length pairs).
    pair_at pairs are (take k pairs) (drop (k + 1) pairs) (get_or pairs k d)
    (grind (arith, drop_more, take-append-drop, d)) in
    record {
      whole = refl;
      bodies = λ k d below. All-from_recursion IsBodyByte (get_or pairs k d).body (at k d below).body;
      endings = λ k d below. is_line_end (at k d below).ends;
      empty_ending = λ front back pair e. is_last (pair_at pairs are front back pair e).ends;
      open_ending =
          λ front back pair next e. goes_on (pair_at pairs are front (next ∷ back) pair e).ends;
    }

ends_by : (body ending : List ℕ) (later : List Pair) → IsLineEnd ending
    → (ending ≡ [] → (later ≡ []) × (body ≢ []))
    → ((next : Pair) (more : List Pair) → later ≡ next ∷ more → All (λ byte. byte ≢ lf) ending
    → next.body ≢ [])
    → EndsBy body ending later
ends_by [] ending later (zero, inl e) last begin = absurd ((last e).1 refl)
ends_by (b ∷ body) ending later (zero, inl e) last begin = rw (e, (last e).0) nothing
ends_by body ending [] (suc k, inl e) last begin = rw e (returns k tt)
ends_by body ending (next ∷ more) (suc k, inl e) last begin = rw e (returns k (begin next more refl
    (rw e (All-replicate (λ byte. byte ≢ lf) (suc k) cr (λ is. omega arith)))))
ends_by body ending later (k, inr e) last begin = rw e (feed k)

cut_occurs : (pairs : List Pair) (text : List ℕ) → IsCut pairs text → ArePairs pairs
cut_occurs [] text is = tt
cut_occurs (pair ∷ later) text is = (
  record {
    body = recursion_from_All IsBodyByte pair.body
        (All-head (λ p. All IsBodyByte p.body) pair later is.bodies);
    ends = ends_by pair.body pair.ending later (All-head (λ p. IsLineEnd p.ending) pair later is.endings)
        (is.empty_ending [] later pair refl)
        (λ next more e. is.open_ending [] more pair next (cc));
  },
  cut_occurs later (joined later) (record {
    whole = refl;
    bodies = All-tail (λ p. All IsBodyByte p.body) pair later is.bodies;
    endings = All-tail (λ p. IsLineEnd p.ending) pair later is.endings;
    empty_ending = λ front back p e. is.empty_ending (pair ∷ front) back p (cc);
    open_ending =
        λ front back p next e. is.open_ending (pair ∷ front) back p next (cc);
  }),
)

abbrev Adds : ℕ → List Pair → List Pair → Type 0
Adds b pairs more = ArePairs more × (joined more ≡ b ∷ joined pairs)

return_adds : (pairs : List Pair) → ArePairs pairs → Adds cr pairs (before_end pairs)
return_adds [] are = ((record { body = tt; ends = returns 0 tt }, tt), refl)
return_adds (pair ∷ later) are = at pair.body pair.ending are
  where
    longer : {ending : List ℕ} → EndsBy [] ending later → EndsBy [] (cr ∷ ending) later
    longer (returns k begin) = returns (suc k) begin
    longer (feed k) = feed (suc k)

    at : (body ending : List ℕ) → ArePairs (pair_of body ending ∷ later)
        → Adds cr (pair_of body ending ∷ later) (before_end (pair_of body ending ∷ later))
    at [] ending are = ((record { body = tt; ends = longer are.0.ends }, are.1), refl)
    at (b ∷ body) ending are = ((record { body = tt; ends = returns 0 (λ e. cc) }, are), refl)

longer : {b : ℕ} {body ending : List ℕ} {later : List Pair} → EndsBy body ending later
    → EndsBy (b ∷ body) ending later
longer nothing = nothing
longer (returns k begin) = returns k begin
longer (feed k) = feed k

body_adds : (b : ℕ) (pairs : List Pair) → IsBodyByte b → ArePairs pairs
    → Adds b pairs (before_body b pairs)
body_adds b [] other are = ((record { body = (other, tt); ends = nothing }, tt), refl)
body_adds b (pair ∷ later) other are = grind (arith, longer)

byte_adds : (b : ℕ) (pairs : List Pair) → ArePairs pairs → Adds b pairs (before_byte b pairs)
byte_adds b pairs are = elim (byte_cases b) [
  | inl is ↦ rw is ((record { body = tt; ends = feed 0 }, are), refl)
  | inr (inl return) ↦ rw return (return_adds pairs are)
  | inr (inr other) ↦ rw (before_body_byte b pairs other) (body_adds b pairs other are)
]

walked : (text : List ℕ) → ArePairs (cut text) × (joined (cut text) ≡ text)
walked [] = rw cut_nil (tt, refl)
walked (b ∷ text) = grind (arith, byte_adds, cut_cons, walked text)

pub is_cut : (text : List ℕ) → IsCut (cut text) text
is_cut text = grind (arith, joined_is_cut, walked)

lone_return : (pairs : List Pair) → BeginWithBody pairs
    → before_end pairs ≡ pair_of [] (cr ∷ []) ∷ pairs
lone_return pairs begin = grind arith

returns_cut : (k : ℕ) (text : List ℕ) → BeginWithBody (cut text)
    → cut (replicate (suc k) cr ++ text) ≡ pair_of [] (replicate (suc k) cr) ∷ cut text
returns_cut zero text begin = cut_cons cr text ∙ lone_return (cut text) begin
returns_cut (suc k) text begin = cut_cons cr _ ∙ ap before_end (returns_cut k text begin)

feed_cut : (k : ℕ) (text : List ℕ)
    → cut ((replicate k cr ++ lf ∷ []) ++ text) ≡ pair_of [] (replicate k cr ++ lf ∷ []) ∷ cut text
feed_cut zero text = cut_cons lf text
feed_cut (suc k) text = cut_cons cr _ ∙ ap before_end (feed_cut k text)

body_cut : {ending : List ℕ} {later : List Pair} (body text : List ℕ) → Each IsBodyByte body
    → cut text ≡ pair_of [] ending ∷ later → cut (body ++ text) ≡ pair_of body ending ∷ later
body_cut [] text all e = e
body_cut (b ∷ body) text all e = grind (arith, before_body_byte, cut_cons, body_cut body text all.1 e)

last_cut : (b : ℕ) (body : List ℕ) → Each IsBodyByte (b ∷ body)
    → cut (b ∷ body) ≡ pair_of (b ∷ body) [] ∷ []
last_cut b [] all = cut_cons b [] ∙ before_body_byte b _ all.0 ∙ ap (before_body b) cut_nil
last_cut b (c ∷ body) all = grind (arith, before_body_byte, cut_cons, last_cut c body all.1)

pair_cut : {body ending : List ℕ} {later : List Pair} (text : List ℕ) → Each IsBodyByte body
    → EndsBy body ending later → joined later ≡ text → cut text ≡ later
    → cut (body ++ (ending ++ text)) ≡ pair_of body ending ∷ later
pair_cut text all (nothing {b} {body}) none same = grind (arith, append-nil, last_cut)
pair_cut {body} text all (returns k begin) whole same =
    rw (sym same) (body_cut body _ all (returns_cut k text (rw same begin)))
pair_cut {body} text all (feed k) whole same = rw (sym same) (body_cut body _ all (feed_cut k text))

joined_cut : (pairs : List Pair) → ArePairs pairs → cut (joined pairs) ≡ pairs
joined_cut [] are = cut_nil
joined_cut (pair ∷ later) are = grind (arith, append_assoc, pair_cut, joined_cut later are.1)

pub cut_unique : (text : List ℕ) (pairs : List Pair) → IsCut pairs text → pairs ≡ cut text
cut_unique text pairs is = grind (arith, cut_occurs, joined_cut)

pub each_text_has_one_cut : (text : List ℕ)
    → IsCut (cut text) text × ((pairs : List Pair) → IsCut pairs text → pairs ≡ cut text)
each_text_has_one_cut text = (is_cut text, cut_unique text)
