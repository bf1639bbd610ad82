-- States of the search. In a state, each rule has what is left of its pattern, as another rule.
use Rattle.std.specs.Prelude.{◌≡◌, ℕ, zero, suc, ◌+◌, ◌*◌, ◌<◌, ◌≤◌, Bool, true, false, List, [], ◌∷◌}
use Rattle.std.specs.Prelude.{◌++◌, ◌&&◌, ◌||◌, All}
use Rattle.std.specs.Prelude.{Contains, codes, cond, drop, if◌then◌else◌, length, not, slice_index_or}
use Rattle.texting_robots.specs.{Pattern.star, Rules.Rule, Verdict.IsVerdict}
use Rattle.texting_robots.proofs.Shared.{matches}
use Rattle.robots_rules.specs.declared.compare.Comparison.{Comparison}
use Rattle.robots_rules.specs.declared.compare.Comparison.TheVariants.{Differ, Same, Undecided}
use Rattle.robots_rules.specs.declared.pool.Entry.{Entry}

-- ---- Lists of rules, the lowest first

-- the last rule that matches decides
abbrev pub last_kind : Bool → List Rule → List ℕ → Bool
last_kind start [] text = start
last_kind start (rule ∷ rules) text = last_kind (cond (matches true rule.0 text) rule.1 start) rules text

-- of two rules that match, the one with the higher rank decides
abbrev pub rank_of : Rule → ℕ
rank_of rule = 2 * length rule.0 + (if rule.1 then 1 else 0)

-- no rule ranks below the one before it
abbrev pub AreAscending : List Rule → Type 0
AreAscending rules = (k : ℕ) (d : Rule) → k + 1 < length rules
    → rank_of (slice_index_or rules k d) ≤ rank_of (slice_index_or rules (k + 1) d)

-- the rule that `/robots.txt` is allowed, which is above all others
abbrev pub robots_rule : Rule
robots_rule = (codes "/robots.txt$", true)

-- the last of the sorted rules that matches gives the verdict of the rules
abbrev pub Decide : List Rule → List Rule → Type 0
Decide rules sorted = (text : List ℕ) → IsVerdict rules text (last_kind true (sorted ++ robots_rule ∷ [])
    text)

-- ---- A step by a byte

-- one star in place of so many at the front
abbrev pub passed : ℕ → List ℕ → List ℕ
passed zero pattern = pattern
passed (suc k) pattern = star ∷ drop (suc k) pattern

abbrev pub Adds : List ℕ → List ℕ → Type 0
Adds old new = (b : ℕ) → Contains old b → Contains new b

pub record SideValue : Type 0 where
  pub items : List Rule
  pub start : Bool

pub record StateValue : Type 0 where
  pub old : SideValue
  pub new : SideValue

abbrev pub verdict : SideValue → List ℕ → Bool
verdict side text = last_kind side.start side.items text

-- as the next byte of the text, all bytes that aren't listed are alike
abbrev pub AreAlike : List ℕ → List Rule → Type 0
AreAlike bytes items = (b c : ℕ) (start : Bool) (text : List ℕ) → ¬ Contains bytes b → ¬ Contains bytes c
    → last_kind start items (b ∷ text) ≡ last_kind start items (c ∷ text)

-- what the text leaves of a state
abbrev pub IsAfter : List ℕ → StateValue → StateValue → Type 0
IsAfter text state made = (rest : List ℕ) → (verdict made.old rest ≡ verdict state.old (text ++ rest))
    × (verdict made.new rest ≡ verdict state.new (text ++ rest))

-- ---- States

-- the two sides have the same verdict on the text
abbrev pub Agrees : List ℕ → StateValue → Type 0
Agrees text state = verdict state.old text ≡ verdict state.new text

-- if all states agree on a text, so does this one
abbrev pub IsSettled : List StateValue → StateValue → Type 0
IsSettled states state = (text : List ℕ) → All (Agrees text) states → Agrees text state

-- if all states agree on a text, this one agrees on the byte and the text
abbrev pub IsFollowed : List StateValue → StateValue → ℕ → Type 0
IsFollowed states state byte = (text : List ℕ) → All (Agrees text) states → Agrees (byte ∷ text) state

pub record IsChecked (states : List StateValue) (state : StateValue) : Type 0 where
  pub ends : Agrees [] state
  pub followed : (byte : ℕ) → IsFollowed states state byte

-- ---- The rules of both lists

-- no state has it
abbrev pub is_shared : Entry → Bool
is_shared entry = not entry.tracked && (entry.old && entry.new)

abbrev pub is_in : Bool → Entry → Bool
is_in new entry = if new then entry.new else entry.old

-- all rules of one list, or those that aren't shared
abbrev pub chosen : Bool → Bool → List Entry → List Rule
chosen all new [] = []
chosen all new (entry ∷ pool) =
    if (all || not (is_shared entry)) && is_in new entry then entry.item ∷ chosen all new pool
    else chosen all new pool

abbrev pub IsSameOn : List ℕ → List Entry → Type 0
IsSameOn text pool =
    last_kind true (chosen true false pool) text ≡ last_kind true (chosen true true pool) text

-- both lists have the same verdict on every text that begins with `front`
abbrev pub AgreeFrom : List ℕ → List Entry → Type 0
AgreeFrom front pool = (text : List ℕ) → IsSameOn (front ++ text) pool

-- the text begins with `front`, and the lists have opposite verdicts on it
abbrev pub Disagree : List ℕ → List ℕ → List Entry → Type 0
Disagree front text pool = (rest : List ℕ) × (text ≡ front ++ rest) × (¬ IsSameOn text pool)

abbrev pub IsAnswer : List ℕ → List Entry → Comparison → Type 0
IsAnswer front pool Same = AgreeFrom front pool
IsAnswer front pool (Differ text) = Disagree front text.items pool
IsAnswer front pool Undecided = Unit {0}

-- an answer about the first rules is one about the others
abbrev pub Leads : List ℕ → List Entry → List Entry → Type 0
Leads front made pool = (answer : Comparison) → IsAnswer front made answer → IsAnswer front pool answer

abbrev pub StartsAgree : Bool → List ℕ → List Entry → Type 0
StartsAgree start text pool =
    last_kind start (chosen false false pool) text ≡ last_kind start (chosen false true pool) text

-- above each shared rule, both lists agree if that rule matches
abbrev pub LeavesAgree : List ℕ → List Entry → Type 0
LeavesAgree text [] = Unit {0}
LeavesAgree text (entry ∷ pool) =
    (is_shared entry ≡ true → StartsAgree entry.item.1 text pool) × LeavesAgree text pool
