-- Rules that are chosen from a pool.
use Rattle.std.proofs.Common.{◌≡◌, ℕ, ◌+◌, ◌<◌, ◌≤◌, Bool, true, false, List, [], ◌∷◌, ◌++◌, add-one, drop}
use Rattle.std.proofs.Common.{arith, take, get_or, length, refl, ap, ◌∙◌}
use Rattle.std.specs.Prelude.{if◌then◌else◌}
use Rattle.std.proofs.Math.Seq.{drop-cons}
use Rattle.std.proofs.lemmas.{Bool.cases_Bool, List.append-nil, List.take_all, List.take_more}
use Rattle.texting_robots.specs.Rules.{Rule}
use Rattle.robots_rules.specs.declared.pool.Entry.{Entry}
use Rattle.robots_rules.specs.declared.compare.Comparison.TheVariants.{Differ, Same, Undecided}
use Rattle.robots_rules.specs.Internal.{IsAnswer, Leads, LeavesAgree, StartsAgree, chosen, is_in, is_shared}
use Rattle.robots_rules.specs.Internal.{last_kind}
use Rattle.robots_rules.proofs.SideLemmas.{last_kind_append}

pub chosen_append : (all new : Bool) (pool more : List Entry)
    → chosen all new (pool ++ more) ≡ chosen all new pool ++ chosen all new more
chosen_append all new [] more = refl
chosen_append all new (entry ∷ pool) more = grind (arith, cases_Bool, chosen_append all new pool more)

chosen_more : (all new : Bool) (pool : List Entry) (i : ℕ) (entry : Entry) → i < length pool
    → entry ≡ get_or pool i entry
    → chosen all new (take (i + 1) pool) ≡ chosen all new (take i pool) ++ chosen all new (entry ∷ [])
chosen_more all new pool i entry below at =
    rw (take_more pool i entry below, ← at) (chosen_append all new (take i pool) (entry ∷ []))

-- one more entry of a loop that makes a side
pub side_more : (all new start : Bool) (pool : List Entry) (i : ℕ) (entry : Entry) (t : List ℕ)
    (made more : Bool) → i < length pool → entry ≡ get_or pool i entry
    → made ≡ last_kind start (chosen all new (take i pool)) t
    → more ≡ last_kind made (chosen all new (entry ∷ [])) t
    → more ≡ last_kind start (chosen all new (take (i + 1) pool)) t
side_more all new start pool i entry t made more below at kept is =
    rw (chosen_more all new pool i entry below at, last_kind_append, ← kept) is

-- one more entry of two lists of entries
pub extended : (x y : Bool) (made more : List Entry) (one : Entry) (other others : List Entry) (two : Entry)
    → more ≡ made ++ one ∷ [] → others ≡ other ++ two ∷ [] → one.item ≡ two.item
    → is_in x one ≡ is_in y two → chosen true x made ≡ chosen true y other
    → chosen true x more ≡ chosen true y others
extended x y made more one other others two added added_too item flag kept =
    let same : chosen true x (one ∷ []) ≡ chosen true y (two ∷ []) = rw (item, flag) refl in
    cc (chosen_append true x made (one ∷ []), chosen_append true y other (two ∷ []))

-- one more entry of a loop that copies them
pub copy_more : (new : Bool) (pool made more : List Entry) (i : ℕ) (entry copy : Entry) → i < length pool
    → entry ≡ get_or pool i entry → copy.item ≡ entry.item → is_in new copy ≡ is_in new entry
    → more ≡ made ++ copy ∷ [] → chosen true new made ≡ chosen true new (take i pool)
    → chosen true new more ≡ chosen true new (take (i + 1) pool)
copy_more new pool made more i entry copy below at item flag added kept =
    extended new new made more copy (take i pool) (take (i + 1) pool) entry added
    (rw (take_more pool i entry below, ← at) refl) item flag kept

-- one more entry of a loop that merges two lists
module _ (new : Bool) (pool more : List Entry) (entry : Entry) (added : more ≡ pool ++ entry ∷ []) where
  pub appended : chosen true new more ≡ chosen true new pool ++ chosen true new (entry ∷ [])
  appended = grind (arith, chosen_append)

  pub one_taken : (list : List Rule) (i : ℕ)
      → (is_in new entry ≡ true → (i < length list) × (entry.item ≡ get_or list i entry.item))
      → chosen true new pool ≡ take i list
      → chosen true new more ≡ take (i + (if is_in new entry then 1 else 0)) list
  one_taken list i at kept = grind (arith, append-nil, appended, cases_Bool, take_more)

module _ (front : List ℕ) (pool first second : List Entry)
    (old : chosen true false first ≡ chosen true false pool)
    (between : chosen true true first ≡ chosen true false second)
    (new : chosen true true second ≡ chosen true true pool) where
  -- a step of the old list changes no verdict
  pub old_leads : IsAnswer front first Same → Leads front second pool
  old_leads is Same = λ agree t. cc (is t, agree t)
  old_leads is (Differ text) = λ (t, begins, differ). (t, begins, λ same. differ (cc (is t)))
  old_leads is Undecided = λ _. tt

  -- a step of the new one
  pub new_leads : IsAnswer front second Same → Leads front first pool
  new_leads is Same = λ agree t. cc (is t, agree t)
  new_leads is (Differ text) = λ (t, begins, differ). (t, begins, λ same. differ (cc (is t)))
  new_leads is Undecided = λ _. tt

-- ---- States above shared rules

pub shared_next : (pool : List Entry) (i : ℕ) (entry : Entry) (kind : Bool) (t : List ℕ) → i < length pool
    → entry ≡ get_or pool i entry → is_shared entry ≡ true → LeavesAgree t (drop i pool)
    → (StartsAgree kind t (drop (i + 1) pool) → StartsAgree kind t (drop i pool))
    × LeavesAgree t (drop (i + 1) pool)
shared_next pool i entry kind t below at is leaves =
    let next : drop i pool ≡ entry ∷ drop (i + 1) pool =
    rw (add-one, drop-cons pool i entry below, ← at) refl in
    let has : LeavesAgree t (entry ∷ drop (i + 1) pool) = rw next at leaves in
    (λ starts. rw (next, is) starts, has.1)

pub one_room : (b : Bool) (i n : ℕ) → i ≤ n → (b ≡ true → i < n) → i + (if b then 1 else 0) ≤ n
one_room b i n h h2 = grind arith

-- the last entry of a pool
pub last_added : (new : Bool) (pool more : List Entry) (last : Entry) → more ≡ pool ++ last ∷ []
    → (list : List Rule) (i : ℕ) (rule : Rule) → is_in new last ≡ true → last.item ≡ rule → length list ≤ i
    → chosen true new pool ≡ take i list → chosen true new more ≡ list ++ rule ∷ []
last_added new pool more last added list i rule is item most kept =
    appended new pool more last added
    ∙ rw is (ap (λ (l : List Rule). l ++ last.item ∷ []) (kept ∙ take_all i list most)
    ∙ ap (λ (r : Rule). list ++ r ∷ []) item)
