-- What the loops of the code preserve.
use Rattle.std.proofs.Common.{◌≡◌, ◌⊎◌, ℕ, Bool, true, false, not, cond, List, [], ◌∷◌, ◌++◌, Option, Some}
use Rattle.std.proofs.Common.{None, length, append_assoc, length-append, subst, sym, refl, ap, ◌∙◌, arith}
use Rattle.std.proofs.Common.{inl, inr, slice_get}
use Rattle.std.proofs.lemmas.{Bool.cases_Bool, List.Sums.take_while-cons, List.Elements.All-push}
use Rattle.std.proofs.lemmas.List.{append-nil, get_or-map, get_or_at, length-map}
use Rattle.std.specs.List.{All, Any, before_first, cons_option, filter_map, last_or, list_any}
use Rattle.std.specs.Option.{option_to_list, option_or, IfSome, IsSomeAnd}
use Rattle.texting_robots.specs.{declared.error.Error.Error, Error.IsMemoryErrorOr, Internal.Group.placed}
use Rattle.texting_robots.specs.{Executable.rule_in, Executable.sitemap_in, Group.is_agent, Group.is_member}
use Rattle.texting_robots.{proofs.BestLemmas.placed_of, specs.Pattern.IsOverlong}
use Rattle.texting_robots.specs.Line.{LineValue, delay_in, is_raw, is_sitemap}
use Rattle.texting_robots.specs.Rules.{IsFirstOverlong, PlacedRule, Rule, unplaced}
use Rattle.texting_robots.specs.declared.error.Error.TheVariants as mine

pub no_sitemap : (line : LineValue) → is_sitemap line ≡ false → sitemap_in line ≡ None
no_sitemap line h = grind arith

-- a user-agent line gives nothing, and neither does a line that isn't a directive
pub nothing_in : (line : LineValue) → (is_agent line ≡ true) ⊎ (is_raw line ≡ true)
    → (rule_in line ≡ None) × (sitemap_in line ≡ None) × (delay_in line ≡ None) × (is_member line ≡ false)
nothing_in line is = grind arith

pub rejected_wider : (P Q : Type 0) (e : Error) → (P → Q) → IsMemoryErrorOr P e → IsMemoryErrorOr Q e
rejected_wider P Q e wider is = grind arith

abbrev pub before_agent : List LineValue → List LineValue
before_agent [] = []
before_agent (line ∷ lines) = cond (is_agent line) [] (line ∷ before_agent lines)

pub before_agents : (lines : List LineValue) → before_first is_agent lines ≡ before_agent lines
before_agents [] = refl
before_agents (line ∷ lines) =
    take_while-cons (λ l. not (is_agent l)) line lines ∙ elim (cases_Bool (is_agent line)) [
      | inl agent ↦ rw agent refl
      | inr other ↦ rw other (ap (λ t. line ∷ t) (before_agents lines))
    ]

-- the last delay before the first user-agent line among the remaining lines, starting from `last`
abbrev pub delay_from : Option ℕ → List LineValue → Option ℕ
delay_from last lines =
    cond (list_any is_agent lines) (last_or last (filter_map delay_in (before_agent lines))) None

pub last_or_cons : {X : Type 0} (last o : Option X) (xs : List X)
    → last_or last (cons_option o xs) ≡ last_or (option_or o last) xs
last_or_cons last o xs = grind arith

cons_is : {X : Type 0} (o : Option X) (xs : List X) → cons_option o xs ≡ option_to_list o ++ xs
cons_is None xs = refl
cons_is (Some x) xs = refl

-- loop step: the result of one more item was appended, and the later ones give `xs`
pub append_option : {X : Type 0} (o : Option X) (xs old new : List X) → new ≡ old ++ option_to_list o
    → new ++ xs ≡ old ++ cons_option o xs
append_option o xs old new added = rw (added, append_assoc, cons_is o xs) refl

-- loop step for the first result
pub first_or_cons : {X : Type 0} (o old new : Option X) (xs : List X) → new ≡ option_or old o
    → option_or new (slice_get xs 0) ≡ option_or old (slice_get (cons_option o xs) 0)
first_or_cons o old new xs added = grind arith

pub none_if_empty : {X : Type 0} (o : Option X) (xs old : List X) → old ++ cons_option o xs ≡ []
    → o ≡ None
none_if_empty None xs old none = refl
none_if_empty (Some x) xs [] none = cc
none_if_empty (Some x) xs (z ∷ old) none = cc

pub all_added : {X : Type 0} (P : X → Type 0) (old new : List X) (o : Option X)
    → new ≡ old ++ option_to_list o → IfSome o P → All P old → All P new
all_added P old new None added here before = rw (added, append-nil) before
all_added P old new (Some x) added here before = rw added (All-push P old x before here)

pub option_or_none : {X : Type 0} (o : Option X) → option_or o None ≡ o
option_or_none o = grind arith

pub any_unplaced : (P : Rule → Type 0) (rules : List PlacedRule) → Any (λ placed. P placed.rule) rules
    → Any P (unplaced rules)
any_unplaced P rules (k, placed, below, at, is) =
    let rule = λ (p : PlacedRule). p.rule in (
      k,
      placed.rule,
      rw (length-map rules rule) below,
      grind (arith, get_or-map),
      is,
    )

pub none_unplaced : (P : Rule → Type 0) (rules : List PlacedRule)
    → All (λ placed. ¬ (P placed.rule)) rules
    → ¬ (Any P (unplaced rules))
none_unplaced P rules none (k, rule, below, at, is) =
    let (placed, (n, less, here), same) = placed_of rules rule (k, below, at) in
    none n placed less (subst P (sym (rw here same)) is)

-- the rule of this captured line is the first that is too long
pub first_overlong : (number : ℕ) (captured : Bool) (rule : Option Rule) (taken left all : List PlacedRule)
    → taken ++ cons_option (cond captured (placed number rule) None) left ≡ all
    → All (λ (other : PlacedRule). ¬ IsOverlong other.rule.0) taken
    → IsSomeAnd (cond captured (placed number rule) None) (λ (here : PlacedRule). IsOverlong here.rule.0)
    → IsFirstOverlong all number
first_overlong number captured rule taken left all whole accepted is = grind arith

pub some_overlong : (rules : List PlacedRule) (number : ℕ) → IsFirstOverlong rules number
    → Any (λ (rule : Rule). IsOverlong rule.0) (unplaced rules)
some_overlong rules number is =
    any_unplaced (λ (rule : Rule). IsOverlong rule.0) rules (
      length is.front,
      is.placed,
      rw is.whole (simp length-append (omega arith)),
      rw is.whole (get_or_at is.front is.placed is.back is.placed (length is.front) refl),
      is.overlong,
    )
