-- Properties of each item of a list, and concatenating texts that repeat a production.
use Rattle.std.proofs.Common.{arith, ◌≡◌, Bool, true, List, [], ◌∷◌, ◌++◌, ℕ, flat_map, sym, append-nil}
use Rattle.std.specs.List.{AllByRecursion as Each, list_all}
use Rattle.rfc9309.specs.Rfc9309.{IsMany, Repeats}
use Rattle.std.proofs.lemmas.{Bool.and_parts, Grind.flat_map-append}
use Rattle.texting_robots.proofs.Shared.{each_append}

pub each_weaker : {X : Type 0} (P Q : X → Type 0) → ((x : X) → P x → Q x) → (xs : List X)
    → Each P xs → Each Q xs
each_weaker P Q weaker [] all = tt
each_weaker P Q weaker (x ∷ xs) all = (weaker x all.0, each_weaker P Q weaker xs all.1)

pub each_front : {X : Type 0} (P : X → Type 0) (xs ys : List X) → Each P (xs ++ ys) → Each P xs
each_front P [] ys all = tt
each_front P (x ∷ xs) ys all = (all.0, each_front P xs ys all.1)

pub each_back : {X : Type 0} (P : X → Type 0) (xs ys : List X) → Each P (xs ++ ys) → Each P ys
each_back P [] ys all = all
each_back P (x ∷ xs) ys all = each_back P xs ys all.1

pub each_if_all : {X : Type 0} (P : X → Type 0) (test : X → Bool) → ((x : X) → test x ≡ true → P x)
    → (xs : List X) → list_all test xs ≡ true
    → Each P xs
each_if_all P test is [] all = tt
each_if_all P test is (x ∷ xs) all = grind (arith, and_parts, each_if_all P test is xs)

module _ {X : Type 0} (P : List X → List ℕ → Type 0) where
  pub repeats_none : Repeats P [] []
  repeats_none = grind arith

  pub repeats_one : (items : List X) (text : List ℕ) → P items text → Repeats P items text
  repeats_one items text is = record {
    units = record { items = items; bytes = text } ∷ [];
    each = (is, tt);
    written = sym (append-nil _);
    whole = sym (append-nil _);
  }

pub repeats_both : {X : Type 0} {P : List X → List ℕ → Type 0} {items more : List X}
    {text later : List ℕ}
    → Repeats P items text → Repeats P more later
    → Repeats P (items ++ more) (text ++ later)
repeats_both {X} is also = grind (arith, each_append, flat_map-append)

-- a property of the parts that concatenation preserves
pub many : {P Q : List ℕ → Type 0} → Q [] → ((text later : List ℕ) → Q text → Q later → Q (text ++ later))
    → ((unit : List ℕ) → P unit → Q unit) → (text : List ℕ) → IsMany P text
    → Q text
many {P} {Q} none both one text is = rw is.whole (joined _ is.each)
  where
    joined : (units : List (List ℕ)) → Each P units → Q (flat_map (λ (unit : List ℕ). unit) units)
    joined [] all = none
    joined (unit ∷ units) all = both unit _ (one unit all.0) (joined units all.1)
