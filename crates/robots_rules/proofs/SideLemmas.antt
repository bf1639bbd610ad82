-- What one more item does to a side, and a step by a byte.
use Rattle.std.proofs.Common.{◌≡◌, ℕ, zero, suc, ◌+◌, ◌<◌, ◌≤◌, cond, Bool, true, false, List, [], ◌∷◌, ◌++◌}
use Rattle.std.proofs.Common.{Contains, append_assoc, take, get_or, length, refl, sym, ap, ◌∙◌, arith}
use Rattle.std.proofs.lemmas.List.{take_all, take_more}
use Rattle.texting_robots.specs.Rules.{Rule}
use Rattle.texting_robots.proofs.Shared.{matches}
use Rattle.robots_rules.specs.Internal.{Adds, AreAlike, IsAfter, StateValue, last_kind, verdict}

pub last_kind_append : (items more : List Rule) (start : Bool) (t : List ℕ)
    → last_kind start (items ++ more) t ≡ last_kind (last_kind start items t) more t
last_kind_append [] more start t = refl
last_kind_append (item ∷ items) more start t = last_kind_append items more _ t

pub last_kind_snoc : (start : Bool) (items : List Rule) (item : Rule) (t : List ℕ)
    → last_kind start (items ++ item ∷ []) t ≡ cond (matches true item.0 t) item.1 (last_kind start items t)
last_kind_snoc start items item t = last_kind_append items (item ∷ []) start t

pub cond_same : (b a : Bool) → cond b a a ≡ a
cond_same true a = refl
cond_same false a = refl

-- the item changes nothing
pub cond_kept : (b kind a : Bool) → (b ≡ true → a ≡ kind) → a ≡ cond b kind a
cond_kept b kind a h = grind arith

-- one more item of a loop over items: `t` is the text of the items, `more` the verdict that was made of them
pub one_more : (start : Bool) (items : List Rule) (i : ℕ) (item : Rule) (t : List ℕ) (made more : Bool)
    → i < length items → item ≡ get_or items i item → made ≡ last_kind start (take i items) t
    → more ≡ cond (matches true item.0 t) item.1 made → more ≡ last_kind start (take (i + 1) items) t
one_more start items i item t made more below at kept is =
    cc (take_more items i item below, last_kind_snoc start (take i items) (get_or items i item) t)

pub last_fits : (items : List Rule) (k : ℕ) (x item : Rule) (start : Bool) (t : List ℕ)
    → length items ≡ k + 1
    → x ≡ get_or items k x → x ≡ item → matches true item.0 t ≡ true → last_kind start items t ≡ item.1
last_fits [] k x item start t len at same fits = absurd (omega arith)
last_fits (a ∷ []) zero x item start t len at same fits = grind arith
last_fits (a ∷ []) (suc k) x item start t len at same fits = absurd (omega arith)
last_fits (a ∷ b ∷ items) zero x item start t len at same fits = absurd (omega arith)
last_fits (a ∷ b ∷ items) (suc k) x item start t len at same fits =
    last_fits (b ∷ items) k x item (cond (matches true a.0 t) a.1 start) t (omega arith) at same fits

pub all_same : (xs ys : List Rule) (i : ℕ) → length xs ≡ length ys → length xs ≤ i
    → take i xs ≡ take i ys → xs ≡ ys
all_same xs ys i lengths most same = grind (arith, take_all)

pub alike_kept : (old new : List ℕ) (items : List Rule) → Adds old new → AreAlike old items
    → AreAlike new items
alike_kept old new items adds kept = λ b c start t no_b no_c.
    kept b c start t (λ has. no_b (adds b has)) (λ has. no_c (adds c has))

-- bytes that aren't listed are alike to one more item, too
pub alike_more : (old new : List ℕ) (items : List Rule) (i : ℕ) (item : Rule) → i < length items
    → item ≡ get_or items i item → Adds old new → AreAlike old (take i items)
    → ((b c : ℕ) (t : List ℕ) → ¬ Contains new b → ¬ Contains new c
    → matches true item.0 (b ∷ t) ≡ matches true item.0 (c ∷ t)) → AreAlike new (take (i + 1) items)
alike_more old new items i item below at adds kept here = λ b c start t no_b no_c.
    sym (one_more start items i item (b ∷ t) _ _ below at refl refl)
    ∙ rw (here b c t no_b no_c, kept b c start t (λ has. no_b (adds b has)) (λ has. no_c (adds c has)))
    (one_more start items i item (c ∷ t) _ _ below at refl refl)

-- one more byte of a text
pub after_more : (text : List ℕ) (i d : ℕ) (state made more : StateValue) → i < length text
    → IsAfter (take i text) state made → IsAfter (get_or text i d ∷ []) made more
    → IsAfter (take (i + 1) text) state more
after_more text i d state made more below kept next = λ rest.
    let b = get_or text i d in
    let e : take (i + 1) text ++ rest ≡ take i text ++ b ∷ rest =
    rw (take_more text i d) (append_assoc (take i text) (b ∷ []) rest) in (
      (next rest).0 ∙ (kept (b ∷ rest)).0 ∙ ap (λ (l : List ℕ). verdict state.old l) (sym e),
      (next rest).1 ∙ (kept (b ∷ rest)).1 ∙ ap (λ (l : List ℕ). verdict state.new l) (sym e),
    )
