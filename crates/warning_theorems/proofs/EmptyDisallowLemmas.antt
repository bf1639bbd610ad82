-- Which lines are empty Disallows, what `empty-disallow` says of rules, and what it means if no line has it.
use Rattle.std.specs.{Prelude.option_map, Option.IsSomeAnd, List.AllZip, List.list_any}
use Rattle.std.proofs.lemmas.Bool.{and_parts, cases_lt, false≢true, cases_Bool, eq-eqb, eqb-true, not-true}
use Rattle.std.proofs.lemmas.Option.{same_Some, slice_get-map, slice_get_read}
use Rattle.std.proofs.lemmas.{Map.Keys.any_passes_from_place}
use Rattle.std.proofs.lemmas.List.Folds.{Any-from_list_any, list_any-from_Any}
use Rattle.std.proofs.Common.{◌≡◌, ◌↔◌, ℕ, Bool, true, false, List, [], ◌∷◌, Some, ap, arith}
use Rattle.std.proofs.Common.{codes, inl, inr, refl, slice_get, subst, suc, sym, zero, ◌∙◌, ◌<◌, Contains}
use Rattle.std.proofs.Common.{Option, length, not}
use Rattle.std.proofs.lemmas.Slice.Zip.{AllZip-left}
use Rattle.texting_robots.specs.Callers.{AreLabelsOf, Disallow, IsLineOf, Label, lines_read, bodies_in}
use Rattle.texting_robots.specs.Callers.{bodies_read, escaped, placed_rules, unplaced, AreRulesFor, IsDenied}
use Rattle.texting_robots.specs.Callers.{IsVerdict, Matches, PlacedRule, Rule}
use Rattle.texting_robots.specs.Pattern.{MatchesWith}
use Rattle.texting_robots.specs.Internal.Line.{line_of}
use Rattle.texting_robots.proofs.Shared.{placed_are_rules, lines_of_file_bodies, placed_of}
use Rattle.rfc9309.specs.{EmptyDisallow.is_empty_disallow}
use Rattle.robots_warnings.specs.Conflicts.{IsEmptyDisallow, closes_all, is_empty_at, is_empty_rule}
use Rattle.robots_warnings.specs.Conflicts.{is_of_all, is_overruling, opens_all, stated_rules}
use Rattle.audit_core.proofs.EmptyLemmas.{empty_allows, empty_stated, stated_empty}
use Rattle.audit_core.proofs.ReachLemmas.{whole_site_matches}
use Rattle.robots_rules.proofs.TogetherLemmas.{in_filter, to_filter, unplaced_of}
use Rattle.warning_theorems.proofs.ConflictLemmas.{also_listed}

label_at : (labels : List Label) (i : ℕ) (body : List ℕ) → slice_get (bodies_in labels) i ≡ Some body
    → (label : Label) × (slice_get labels i ≡ Some label) × (label.body ≡ body)
label_at [] i body at = cc
label_at (first ∷ labels) zero body at = (first, refl, cc)
label_at (first ∷ labels) (suc i) body at = label_at labels i body at

-- the line of each content
line_at : (file : List ℕ) (i : ℕ) (body : List ℕ) → slice_get (bodies_read file) i ≡ Some body
    → slice_get (lines_read file) i ≡ Some (line_of body)
line_at file i body at = slice_get-map line_of (bodies_read file) i ∙ ap (option_map line_of) at

pub empty_disallows : (name file : List ℕ) (labels : List Label) (number : ℕ)
    → AreLabelsOf name (lines_read file) labels → bodies_in labels ≡ bodies_read file
    → (is_empty_at labels number ≡ true) ↔ IsEmptyDisallow (bodies_read file) number
empty_disallows name file labels number are hold = (
  λ is.
      let (i, label, below, found, both) = Any-from_list_any _ labels is in
      let at = slice_get_read labels _ i label refl below (sym found) in
      let (empty, same) = and_parts (is_empty_disallow label.line label.body) _ both in (
        i,
        label.body,
        sym (eqb-true label.number number same) ∙ (are.each i label at).0,
        there i label at,
        empty_stated label.body (rw (line i label at) at empty),
      ),
  λ (i, body, is, beside, stated).
      let (label, at, same) = label_at labels i body (rw hold beside) in
      let empty = stated_empty label.body (rw same stated) in
      any_passes_from_place _ labels i label at
      (rw (line i label at, empty, eq-eqb label.number number ((are.each i label at).0 ∙ sym is)) refl),
)
  where
    there : (i : ℕ) (label : Label) → slice_get labels i ≡ Some label
        → slice_get (bodies_read file) i ≡ Some label.body
    there i label at = rw (← hold) (slice_get-map (λ (label : Label). label.body) labels i
        ∙ ap (option_map (λ (label : Label). label.body)) at)

    line : (i : ℕ) (label : Label) → slice_get labels i ≡ Some label → label.line ≡ line_of label.body
    line i label at =
        let own = slice_get-map (λ (label : Label). label.line) labels i
        ∙ ap (option_map (λ (label : Label). label.line)) at in
        same_Some _ _ (sym own ∙ ap (λ lines. slice_get lines i) are.lines_are
        ∙ line_at file i label.body (there i label at))

abbrev pub root : List ℕ
root = codes "/"

one_byte : (pattern text : List ℕ) → length pattern ≡ 1 → Matches pattern text → Matches root text
    → is_of_all pattern ≡ true
unfolding MatchesWith
one_byte [] text long matches path = absurd (omega arith)
one_byte (b ∷ c ∷ pattern) text long matches path = absurd (omega arith)
one_byte (b ∷ []) text long (s, takes, end) (rest, begins, more) = grind arith

root_wins : (pattern text : List ℕ) → is_of_all pattern ≡ true → Matches root text
    → Matches pattern text × (length pattern ≡ 1)
unfolding MatchesWith
root_wins pattern text all (rest, begins, more) =
    let (whole, one) = and_parts _ _ all in
    let matches = whole_site_matches pattern rest whole in
    let long = eqb-true (length pattern) 1 one in
    grind arith

module _ (agent file : List ℕ) (rules : List PlacedRule)
    (are : AreRulesFor agent (lines_read file) rules) where
  abbrev bodies : List (List ℕ)
  bodies = bodies_read file

  pub rule_there : (placed : PlacedRule) → Contains rules placed → IsEmptyDisallow bodies placed.line
      → placed.rule ≡ (root, true)
  rule_there placed has (position, body, is, at, stated) =
      let (here, on, holds) = (are.held placed).0 has in
      let line = line_at file position body at ∙ ap Some (empty_allows body stated) in
      let same : here ≡ position = omega arith in
      grind arith

  some_escaped : (b : ℕ) (value : List ℕ) → 0 < length (escaped (b ∷ value))
  some_escaped b value = grind arith

  some_bytes : (pattern : List ℕ) (line : ℕ)
      → Contains rules (record { rule = (pattern, false); line = line }) → 0 < length pattern
  some_bytes pattern line has =
      let (here, on, holds) = (are.held _).0 has in
      let (body, beside, of_body) = some_there (slice_get bodies here) (IsLineOf (Disallow holds.value))
      (rw (holds.line.0) at (AllZip-left IsLineOf (lines_read file) bodies lines_zip here)) in
      rw holds.pattern (by holds.value body of_body)
    where
      some_there : {Y : Type 0} (o : Option Y) (P : Y → Type 0) → IsSomeAnd o P
          → (y : Y) × (o ≡ Some y) × P y
      some_there o P h = grind arith

      lines_zip : AllZip IsLineOf (lines_read file) bodies
      lines_zip = search lines_of_file_bodies

      by : (value body : List ℕ) → IsLineOf (Disallow value) body → 0 < length (escaped value)
      by [] body is = grind arith
      by (b ∷ value) body is = some_escaped b value

  module _ (is_empty : ℕ → Bool)
      (right : (number : ℕ) → is_empty number ≡ true → IsEmptyDisallow bodies number)
      (silent : (placed : PlacedRule) → Contains rules placed
      → is_overruling is_empty placed.line (placed_rules agent (lines_read file)) ≡ false) where
    abbrev stated : List PlacedRule
    stated = stated_rules is_empty rules

    abbrev all : List PlacedRule
    all = placed_rules agent (lines_read file)

    kept : (placed : PlacedRule) → Contains rules placed → is_empty placed.line ≡ false
        → Contains (unplaced stated) placed.rule
    kept placed has isnt = grind (arith, unplaced_of, to_filter)

    from : (rule : Rule) → Contains (unplaced stated) rule
        → (placed : PlacedRule) × Contains rules placed × (is_empty placed.line ≡ false)
        × (placed.rule ≡ rule)
    from rule has =
        let (placed, listed, is) = placed_of stated rule has in
        let (own, passes) = in_filter (λ (one : PlacedRule). not (is_empty one.line)) rules placed listed in
        grind arith

    denies_stated : (placed : PlacedRule) (p : List ℕ) → Contains rules placed → placed.rule ≡ (p, false)
        → is_empty placed.line ≡ false
    denies_stated placed p has is = elim (cases_Bool (is_empty placed.line)) [
      | inl empty ↦
          let there = rule_there placed has (right placed.line empty) in
          grind arith
      | inr isnt ↦ isnt
    ]

    denied_stated : (text : List ℕ) → IsDenied (unplaced rules) text → IsDenied (unplaced stated) text
    denied_stated text (differs, p, has, fits, longest) =
        let (placed, own, is) = placed_of rules (p, false) has in (
          differs,
          p,
          subst (Contains (unplaced stated)) is (kept placed own (denies_stated placed p own is)),
          fits,
          λ q listed.
              let (allow, there, isnt, same) = from (q, true) listed in
              longest q (subst (Contains (unplaced rules)) same (unplaced_of rules allow there)),
        )

    allow_beside : (allow deny : PlacedRule) → Contains rules allow → is_empty allow.line ≡ true
        → Contains rules deny → deny.rule.1 ≡ false → is_of_all deny.rule.0 ≡ true
        → (one : PlacedRule) × Contains rules one × (one.rule.1 ≡ true) × (is_of_all one.rule.0 ≡ true)
        × (is_empty one.line ≡ false)
    allow_beside allow deny there empty own denies short =
        let are_all = placed_are_rules agent (lines_read file) in
        elim (cases_Bool (list_any (opens_all is_empty) all)) [
          | inl some ↦
              let (k, one, below, at, opens) = Any-from_list_any (opens_all is_empty) all some in
              let (stated_too, like) = and_parts _ _ opens in
              let (allows, isnt) = and_parts _ _ stated_too in
              (one, also_listed are_all are one (k, below, at), allows, like, not-true _ isnt)
          | inr lacking ↦
              let (k, below, at) = also_listed are are_all deny own in
              let closing = list_any-from_Any closes_all all (k, deny, below, at, rw (denies, short) refl) in
              let (j, under, found) = also_listed are are_all allow there in
              let has = list_any-from_Any (is_empty_rule is_empty allow.line) all
              (j, allow, under, found, rw (empty, eq-eqb allow.line allow.line refl) refl) in
              absurd (false≢true (sym (silent allow there) ∙ rw (closing, lacking, has) refl))
        ]

    module _ (text p : List ℕ) (denied : Contains (unplaced stated) (p, false)) (fits : Matches p text)
        (longest : (q : List ℕ) → Contains (unplaced stated) (q, true) → Matches q text → length q < length p)
        (allow : PlacedRule) (there : Contains rules allow) (empty : is_empty allow.line ≡ true)
        (path : Matches root text) where
      -- no Disallow of one byte decides where an empty Disallow matches
      never_short : ¬ (length p ≡ 1)
      never_short short =
          let (deny, own, isnt, is) = from (p, false) denied in
          let alike = ap (λ (rule : Rule). is_of_all rule.0) is ∙ one_byte p text short fits path in
          let (one, there_too, allows, like, stated_too) =
          allow_beside allow deny there empty own (cc) alike in
          let (matches, long) = root_wins one.rule.0 text like path in
          grind (arith, kept)

      longer : 1 < length p
      longer = elim (cases_lt 1 (length p)) [
        | inl less ↦ less
        | inr short ↦
            let (deny, own, isnt, is) = from (p, false) denied in
            let some = some_bytes p deny.line
            (grind arith) in
            absurd (never_short (omega arith))
      ]

    denied_all : (text : List ℕ) → IsDenied (unplaced stated) text → IsDenied (unplaced rules) text
    denied_all text (differs, p, has, fits, longest) =
        let (deny, own, isnt, is) = from (p, false) has in (
          differs,
          p,
          subst (Contains (unplaced rules)) is (unplaced_of rules deny own),
          fits,
          λ q listed matches.
              let (allow, there, same) = placed_of rules (q, true) listed in
              elim (cases_Bool (is_empty allow.line)) [
                | inl empty ↦
                    let at_root = rule_there allow there (right allow.line empty) in
                    let q_is : q ≡ root = grind arith in
                    subst (λ q. length q < length p) (sym q_is)
                    (longer text p has fits longest allow there empty
                    (subst (λ q. Matches q text) q_is matches))
                | inr stays ↦
                    grind (arith, kept)
              ],
        )

    pub same_without : (text : List ℕ) (answer : Bool)
        → IsVerdict (unplaced rules) text answer ↔ IsVerdict (unplaced stated) text answer
    same_without text true = grind (arith, denied_all, denied_stated)
    same_without text false = (denied_stated text, denied_all text)
