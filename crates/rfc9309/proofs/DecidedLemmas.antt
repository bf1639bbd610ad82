-- The tests of lines find the first line that isn't in the extended grammar, and only then one.
use Rattle.std.proofs.Common.{◌≡◌, ◌≢◌, ◌≤◌, ◌↔◌, ℕ, ◌+◌, ◌==◌, ◌&&◌, Bool, true, false, not, inl, inr, List}
use Rattle.std.proofs.Common.{[], ◌∷◌, ◌++◌, All, Option, None, Some, ap, arith, if◌then◌else◌, length, map}
use Rattle.std.proofs.Common.{nat_eq, nat_le, refl, ◌⊎◌, subst, sym}
use Rattle.std.specs.List.{AllByRecursion as Each, AllZip, list_any, starts_with}
use Rattle.std.proofs.lemmas.Bool.{and_from, and_parts, both_ways, eqb-true, false≢true, le-leb, leb-true}
use Rattle.std.proofs.lemmas.Bool.{not-true, or_cases, or_left, or_right}
use Rattle.std.proofs.lemmas.{Grind.common_steps}
use Rattle.std.proofs.lemmas.List.Elements.{recursion_from_All}
use Rattle.texting_robots.specs.Line.{nul_as_lf, without, without_bom}
use Rattle.texting_robots.specs.{Callers.file_limit, Cut.IsBodyByte, Cut.lf, Executable.file_bodies}
use Rattle.rfc9309.specs.LineTest.{has_form}
use Rattle.rfc9309.specs.LineForms.{AreRulesBelowAgents as AreFree, Form, HasForm, Agent, Delay, Empty, Other}
use Rattle.rfc9309.specs.LineForms.{Rule, Sitemap}
use Rattle.rfc9309.specs.Conformance.{by_lines, conformance_of, first_other, has_mark_or_none, has_syntax}
use Rattle.rfc9309.specs.Conformance.{is_line_below, is_read_whole, mark}
use Rattle.rfc9309.proofs.LineFormLemmas.{bodies_bytes, file_has_forms, forms_make_file}
use Rattle.rfc9309.proofs.{HasFormLemmas.form_passes, OtherLemmas.form_tested}
use Rattle.rfc9309.specs.declared.conformance.Conformance.TheVariants.{OtherFile}
use Rattle.rfc9309.specs.Rfc9309 as rfc

-- ---- lines

-- the lines have these forms; if no user-agent line is above them, none is a rule above the first one
abbrev AreFormed : Bool → List (List ℕ) → Type 0
AreFormed below bodies =
    (forms : List Form) × AllZip HasForm forms bodies × (below ≡ false → AreFree forms)

form_if_true : (form : Form) (body : List ℕ) → has_form form body ≡ true → HasForm form body
form_if_true form body = form_passes (lf ∷ []) (inr (inl refl)) form body

module _ (below : Bool) (body : List ℕ) (bodies : List (List ℕ)) (rest : AreFormed below bodies) where
  formed_with : (form : Form) → has_form form body ≡ true
      → (below ≡ false → (forms : List Form) → AreFree forms → AreFree (form ∷ forms))
      → AreFormed below (body ∷ bodies)
  formed_with form tested free =
      let (forms, each, rest_free) = rest in
      (form ∷ forms, (form_if_true form body tested, each), λ none. free none forms (rest_free none))

  other_formed : is_line_below below body ≡ true → AreFormed below (body ∷ bodies)
  unfolding is_line_below
  other_formed is = elim (or_cases _ (has_form Other body) is) [
    | inr other ↦ formed_with Other other (λ none forms free. free)
    | inl more ↦ elim (or_cases _ (has_form Delay body) more) [
      | inr delay ↦ formed_with Delay delay (λ none forms free. free)
      | inl more ↦ elim (or_cases _ (has_form Sitemap body) more) [
        | inr sitemap ↦ formed_with Sitemap sitemap (λ none forms free. free)
        | inl more ↦ elim (or_cases (below && has_form Rule body) (has_form Empty body) more) [
          | inr empty ↦ formed_with Empty empty (λ none forms free. free)
          | inl both ↦
              let (is_below, rule) = and_parts below (has_form Rule body) both in
              formed_with Rule rule (λ none. absurd (both_ways below none is_below))
        ]
      ]
    ]
  ]

-- how the first line is tested
step_none : (agent other : Bool) (number : ℕ) (below above : Option ℕ)
    → (if agent then below else if other then above else Some number) ≡ None
    → ((agent ≡ true) × (below ≡ None)) ⊎ ((agent ≡ false) × (other ≡ true) × (above ≡ None))
step_none agent other number below above h = grind arith

none_step : (agent other : Bool) (number : ℕ) (below above : Option ℕ) → (agent ≡ true → below ≡ None)
    → (agent ≡ false → (other ≡ true) × (above ≡ None))
    → (if agent then below else if other then above else Some number) ≡ None
none_step agent other number below above h h2 = grind arith

lines_formed : (below : Bool) (number : ℕ) (bodies : List (List ℕ)) → first_other below number bodies ≡ None
    → AreFormed below bodies
lines_formed below number [] none = ([], tt, λ e. tt)
lines_formed below number (body ∷ bodies) none =
    elim (step_none (has_form Agent body) (is_line_below below body) number
    (first_other true (number + 1) bodies) (first_other below (number + 1) bodies) none) [
      | inl (agent, more) ↦
          let (forms, each, free) = lines_formed true (number + 1) bodies more in
          (Agent ∷ forms, (form_if_true Agent body agent, each), λ e. tt)
      | inr (isnt, is, more) ↦ other_formed below body bodies (lines_formed below (number + 1) bodies more) is
    ]

-- a line other than a user-agent line passes
other_tested : (below : Bool) (form : Form) (body : List ℕ) → has_form form body ≡ true
    → has_form Agent body ≡ false → (form ≡ Rule → below ≡ true) → is_line_below below body ≡ true
unfolding is_line_below
other_tested below form body h h2 h3 = grind (arith, and_from, both_ways, or_left, or_right)

later_free : (form : Form) (forms : List Form) → form ≢ Agent → AreFree (form ∷ forms) → AreFree forms
later_free form forms h h2 = grind arith

rule_below : (below : Bool) (form : Form) (forms : List Form) → (below ≡ false → AreFree (form ∷ forms))
    → form ≡ Rule → below ≡ true
rule_below below form forms h h2 = grind arith

none_other : (below : Bool) (number : ℕ) (forms : List Form) (bodies : List (List ℕ))
    → Each (Each IsBodyByte) bodies → AllZip HasForm forms bodies → (below ≡ false → AreFree forms)
    → first_other below number bodies ≡ None
none_other below number [] [] bytes each free = refl
none_other below number [] (body ∷ bodies) bytes each free = absurd each
none_other below number (form ∷ forms) [] bytes each free = absurd each
none_other below number (form ∷ forms) (body ∷ bodies) (here, bytes) (is, each) free =
    let tested = form_tested body here form is in
    none_step (has_form Agent body) (is_line_below below body) number (first_other true (number + 1) bodies)
    (first_other below (number + 1) bodies)
    (λ agent. none_other true (number + 1) forms bodies bytes each (λ e. absurd (false≢true (sym e))))
    (λ isnt.
    let other : form ≢ Agent =
    λ e. both_ways (has_form Agent body) isnt (subst (λ f. has_form f body ≡ true) e tested) in (
      other_tested below form body tested isnt (rule_below below form forms free),
      none_other below (number + 1) forms bodies bytes each (λ e. later_free form forms other (free e)),
    ))

-- ---- the start of a file

-- what is skipped at the start is a complete byte order mark, or nothing
abbrev HasMark : List ℕ → Type 0
HasMark text = (bom : List ℕ) × rfc.IsBom bom × (text ≡ bom ++ without_bom text)

whole_mark : (text : List ℕ) → starts_with nat_eq text mark ≡ true → HasMark text
whole_mark [] is = absurd (false≢true is)
whole_mark (a ∷ []) is = grind (arith, common_steps)
whole_mark (a ∷ b ∷ []) is = grind (arith, common_steps)
whole_mark (a ∷ b ∷ c ∷ text) is =
    let first = and_parts (0xEF == a) _ is in
    let second = and_parts (0xBB == b) _ first.1 in
    let third = and_parts (0xBF == c) _ second.1 in
    rw (
      sym (eqb-true 0xEF a first.0),
      sym (eqb-true 0xBB b second.0),
      sym (eqb-true 0xBF c third.0),
    ) (mark, inr refl, refl)

no_mark : (text : List ℕ) → list_any (λ b. starts_with nat_eq text (b ∷ [])) mark ≡ false
    → without_bom text ≡ text
no_mark text h = grind arith

marked : (text : List ℕ) → has_mark_or_none text ≡ true → HasMark text
marked text is = grind (arith, no_mark, not-true, or_cases, whole_mark)

shorter : (b : ℕ) (text : List ℕ) → length (without b text) ≤ length text
shorter b text = grind arith

none_skipped : (text : List ℕ) → text ≡ without_bom text
    → not (list_any (λ b. starts_with nat_eq text (b ∷ [])) mark) ≡ true
none_skipped [] same = refl
none_skipped (a ∷ text) same =
    let size : length (a ∷ text) ≡ length (without_bom (a ∷ text)) = ap (λ (t : List ℕ). length t) same in
    grind (arith, common_steps, shorter)

test_passed : (text : List ℕ) → HasMark text → has_mark_or_none text ≡ true
test_passed text h = grind (arith, none_skipped, or_right)

no_nul : (text : List ℕ) → list_any (λ b. b == 0) text ≡ false → All (λ b. b ≢ 0) text
no_nul text none = grind (arith, common_steps)

nul_not_found : (text : List ℕ) → Each (λ b. b ≢ 0) text → list_any (λ b. b == 0) text ≡ false
nul_not_found [] all = refl
nul_not_found (b ∷ text) all = grind (arith, common_steps, nul_not_found text all.1)

-- ---- a file

abbrev IsInGrammar : List ℕ → Type 0
IsInGrammar file = (length file ≤ file_limit) × ((groups : List rfc.Group) × rfc.IsFile groups file)

decided : (whole : Bool) (other : Option ℕ)
    → (has_syntax (if whole then by_lines other else OtherFile) ≡ true) ↔ ((whole ≡ true) × (other ≡ None))
decided whole other = grind arith

module _ (file : List ℕ) where
  abbrev other : Option ℕ
  other = first_other false 1 (file_bodies file)

  only : is_read_whole file ≡ true → other ≡ None → IsInGrammar file
  only whole none =
      let (read, start) = and_parts _ (has_mark_or_none file) whole in
      let (size, nul) = and_parts (nat_le (length file) file_limit) _ read in
      let (forms, each, free) = lines_formed false 1 (file_bodies file) none in (
        leb-true (length file) file_limit size,
        forms_make_file file forms (record {
          no_nul = no_nul file (not-true _ nul);
          bom = marked file start;
          each = each;
          below = free refl;
        }),
      )

  every : IsInGrammar file → (is_read_whole file ≡ true) × (other ≡ None)
  every (fits, (groups, is)) =
      let (forms, are) = file_has_forms file groups is in (
        and_from _ _ (and_from _ _ (le-leb (length file) file_limit fits)
            (ap not (nul_not_found file (recursion_from_All (λ b. b ≢ 0) file are.no_nul))))
            (test_passed file are.bom),
        none_other false 1 forms (file_bodies file) (bodies_bytes (without_bom (map nul_as_lf file)))
            are.each (λ e. are.below),
      )

  pub files_decided : (has_syntax (conformance_of file) ≡ true) ↔ IsInGrammar file
  files_decided = (
    λ is. let (whole, none) = (decided (is_read_whole file) other).0 is in only whole none,
    λ is. (decided (is_read_whole file) other).1 (every is),
  )
