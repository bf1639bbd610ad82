-- Which changes of the lines have no effect.
use Rattle.std.proofs.Common.{◌≡◌, ◌↔◌, ℕ, ◌+◌, Bool, false, not, ◌||◌, List, [], ◌∷◌, ◌++◌, Option, None}
use Rattle.std.proofs.Common.{length, drop, filter, cond, codes, zero-add, add-zero, arith, sym, refl, ap}
use Rattle.std.proofs.Common.{◌∙◌, subst}
use Rattle.std.specs.{List.filter_map, List.list_any, Str.str_to_ascii_lowercase}
use Rattle.std.proofs.lemmas.Bool.{cases_Bool, false_from_ne_true}
use Rattle.std.proofs.lemmas.List.{Elements.filter_map-append, Folds.list_any-append}
use Rattle.texting_robots.specs.declared.groups.GroupTracker.{GroupTracker}
use Rattle.texting_robots.specs.Theorems.{IsSameKind, Same, SameButSitemaps}
use Rattle.texting_robots.specs.Line.{LineValue, delay_in, is_raw, is_sitemap}
use Rattle.texting_robots.specs.Group.{group_name, is_agent, is_agent_named, is_member, IsCaptured}
use Rattle.texting_robots.specs.Executable.{delay_for, rule_in, rules_for, sitemap_in}
use Rattle.texting_robots.specs.Internal.Group.{start_of, step}
use Rattle.texting_robots.proofs.CapturedLemmas.{IsWalkAt, drop_cons, cond_same, delays_walked}
use Rattle.texting_robots.proofs.CapturedLemmas.{given_captured, named_is_agent, is_captured_decides}
use Rattle.texting_robots.proofs.CapturedLemmas.{rules_walked, walk_first, walk_next}
use Rattle.texting_robots.proofs.MainTheoremLemmas.{rejection_is_computed}
use Rattle.texting_robots.proofs.RulesLemmas.{before_agent, before_agents}

along : {X : Type 0} (P : X → Type 0) (x y : X) → x ≡ y → P x ↔ P y
along P x y e = (subst P e, subst P (sym e))

same_from : (agent : List ℕ) (lines : List LineValue) (other : List ℕ) (others : List LineValue)
    → rules_for agent lines ≡ rules_for other others → delay_for agent lines ≡ delay_for other others
    → SameButSitemaps agent lines other others
same_from agent lines other others rules delay = record {
  rules = rules;
  verdict = grind (arith, along);
  delay = delay;
  rejection =
      let one = rejection_is_computed agent lines in
      let two = rejection_is_computed other others in
      grind (arith, along, two.1, one.0, one.1, two.0);
}

-- the same crawlers are named, and the captured lines give the same
record AreAlike (agent : List ℕ) (lines others : List LineValue) : Type 0 where
  agents : list_any is_agent lines ≡ list_any is_agent others
  named : (name : List ℕ) → list_any (is_agent_named name) lines ≡ list_any (is_agent_named name) others
  rules : given_captured rule_in (group_name agent lines) (start_of lines) lines
      ≡ given_captured rule_in (group_name agent lines) (start_of lines) others
  delays : given_captured delay_in (group_name agent lines) (start_of lines) lines
      ≡ given_captured delay_in (group_name agent lines) (start_of lines) others
  before : filter_map delay_in (before_agent lines) ≡ filter_map delay_in (before_agent others)

same_alike : (agent : List ℕ) (lines others : List LineValue) → AreAlike agent lines others
    → SameButSitemaps agent lines agent others
same_alike agent lines others are = same_from agent lines agent others
    (rules_walked agent lines ∙ found rule_in are.rules ∙ sym (rules_walked agent others))
    (rw (
      delays_walked agent lines,
      delays_walked agent others,
      found delay_in are.delays,
      before_agents lines,
      before_agents others,
      are.before,
      are.agents,
    ) refl)
  where
    found : {X : Type 0} (given : LineValue → Option X)
        → given_captured given (group_name agent lines) (start_of lines) lines
        ≡ given_captured given (group_name agent lines) (start_of lines) others
        → given_captured given (group_name agent lines) (start_of lines) lines
        ≡ given_captured given (group_name agent others) (start_of others) others
    found given same =
        let low = str_to_ascii_lowercase agent in
        let name : group_name agent lines ≡ group_name agent others =
        ap (λ b. cond b low (codes "*")) (are.named low) in
        let start : start_of lines ≡ start_of others =
        ap (λ b. let tracker : GroupTracker = record { captured = not b; named = false } in tracker)
        are.agents in
        same ∙ rw (name, start) refl

-- ---- Lines that change nothing.

pub record IsNeutral (line : LineValue) : Type 0 where
  pub agent : is_agent line ≡ false
  pub group : is_member line ≡ false

no_rule : (line : LineValue) → is_member line ≡ false → rule_in line ≡ None
no_rule line h = grind arith

no_delay : (line : LineValue) → is_member line ≡ false → delay_in line ≡ None
no_delay line h = grind arith

found_kept : {X : Type 0} (given : LineValue → Option X) (keep : LineValue → Bool)
    → ((line : LineValue) → keep line ≡ false → given line ≡ None) → (lines : List LineValue)
    → filter_map given lines ≡ filter_map given (filter keep lines)
found_kept given keep drops [] = refl
found_kept given keep drops (line ∷ lines) = grind (arith, cases_Bool, found_kept given keep drops lines)

module _ (keep : LineValue → Bool)
    (neutral : (line : LineValue) → keep line ≡ false → IsNeutral line) where
  any_kept : (test : LineValue → Bool)
      → ((line : LineValue) → is_agent line ≡ false → test line ≡ false)
      → (lines : List LineValue) → list_any test lines ≡ list_any test (filter keep lines)
  any_kept test drops [] = refl
  any_kept test drops (line ∷ lines) = grind (arith, cases_Bool, any_kept test drops lines)

  captured_kept : {X : Type 0} (given : LineValue → Option X)
      → ((line : LineValue) → is_member line ≡ false → given line ≡ None)
      → (name : List ℕ) (tracker : GroupTracker) (lines : List LineValue)
      → given_captured given name tracker lines ≡ given_captured given name tracker (filter keep lines)
  captured_kept given drops name tracker [] = refl
  captured_kept {X} given drops name tracker (line ∷ lines) =
      grind (
        arith,
        cases_Bool,
        cond_same,
        named_is_agent,
        captured_kept given drops name (step name tracker line) lines,
        captured_kept given drops name tracker lines,
      )

  before_kept : (lines : List LineValue)
      → filter_map delay_in (before_agent lines) ≡ filter_map delay_in (before_agent (filter keep lines))
  before_kept [] = refl
  before_kept (line ∷ lines) = grind (arith, cases_Bool, no_delay, before_kept lines)

  pub same_filtered : (agent : List ℕ) (lines : List LineValue)
      → SameButSitemaps agent lines agent (filter keep lines)
  same_filtered agent lines = same_alike agent lines (filter keep lines) (grind (
    arith,
    any_kept,
    before_kept,
    captured_kept,
    no_delay,
    no_rule,
    named_is_agent,
  ))

  same_kept : (agent : List ℕ) (lines others : List LineValue) → filter keep lines ≡ filter keep others
      → SameButSitemaps agent lines agent others
  same_kept agent lines others same =
      let one = same_filtered agent lines in
      let two = same_filtered agent others in
      grind (arith, same_from)

raw_neutral : (line : LineValue) → not (is_raw line) ≡ false → IsNeutral line
raw_neutral line h = grind arith

raw_no_sitemap : (line : LineValue) → not (is_raw line) ≡ false → sitemap_in line ≡ None
raw_no_sitemap line h = grind arith

sitemap_neutral : (line : LineValue) → not (is_sitemap line) ≡ false → IsNeutral line
sitemap_neutral line h = grind arith

pub raw_changes_nothing : (agent : List ℕ) (lines others : List LineValue)
    → filter (λ line. not (is_raw line)) lines ≡ filter (λ line. not (is_raw line)) others
    → Same agent lines agent others
raw_changes_nothing agent lines others same =
    let found = found_kept sitemap_in (λ line. not (is_raw line)) raw_no_sitemap in (
      same_kept (λ line. not (is_raw line)) raw_neutral agent lines others same,
      grind (arith, found),
    )

pub sitemaps_change_nothing_else : (agent : List ℕ) (lines others : List LineValue)
    → filter (λ line. not (is_sitemap line)) lines ≡ filter (λ line. not (is_sitemap line)) others
    → SameButSitemaps agent lines agent others
sitemaps_change_nothing_else = same_kept (λ line. not (is_sitemap line)) sitemap_neutral

pub agent_case : (agent other : List ℕ) (lines : List LineValue)
    → str_to_ascii_lowercase agent ≡ str_to_ascii_lowercase other → Same agent lines other lines
agent_case agent other lines same = (same_from agent lines other lines (rw same refl) (rw same refl), refl)

-- ---- Another line of the same kind.

record IsAlike (line other : LineValue) : Type 0 where
  agent : is_agent line ≡ is_agent other
  named : (name : List ℕ) → is_agent_named name line ≡ is_agent_named name other
  group : is_member line ≡ is_member other
  delay : delay_in line ≡ delay_in other
  sitemap : sitemap_in line ≡ sitemap_in other

same_kind : (line other : LineValue) → IsSameKind line other → IsAlike line other
same_kind line other same = grind arith

abbrev walked : List ℕ → GroupTracker → List LineValue → GroupTracker
walked name tracker [] = tracker
walked name tracker (line ∷ lines) = walked name (step name tracker line) lines

occurs_walked : (name : List ℕ) (all : List LineValue) (tracker : GroupTracker) (position : ℕ)
    (front back : List LineValue)
    → IsWalkAt name all position tracker → drop position all ≡ front ++ back
    → IsWalkAt name all (position + length front) (walked name tracker front)
occurs_walked name all tracker position [] back splits left = rw (add-zero position) splits
occurs_walked name all tracker position (line ∷ front) back splits left =
    let (at, next) = drop_cons all position line (front ++ back) left in
    let here = walk_next name all position tracker line at splits in
    grind (arith, occurs_walked name all (step name tracker line) (position + 1) front back here next)

captured_after : {X : Type 0} (given : LineValue → Option X) (name : List ℕ) (tracker : GroupTracker)
    (front back others : List LineValue)
    → given_captured given name (walked name tracker front) back
    ≡ given_captured given name (walked name tracker front) others
    → given_captured given name tracker (front ++ back) ≡ given_captured given name tracker (front ++ others)
captured_after given name tracker [] back others same = same
captured_after given name tracker (line ∷ front) back others same =
    grind (arith, captured_after given name (step name tracker line) front back others same)

before_after : (front back others : List LineValue)
    → filter_map delay_in (before_agent back) ≡ filter_map delay_in (before_agent others)
    → filter_map delay_in (before_agent (front ++ back))
    ≡ filter_map delay_in (before_agent (front ++ others))
before_after [] back others same = same
before_after (line ∷ front) back others same =
    grind (arith, cases_Bool, before_after front back others same)

pub uncaptured_reaches_nothing : (agent : List ℕ) (front back : List LineValue) (line other : LineValue)
    → IsSameKind line other
    → ¬ IsCaptured (group_name agent (front ++ line ∷ back)) (front ++ line ∷ back) (length front)
    → Same agent (front ++ line ∷ back) agent (front ++ other ∷ back)
uncaptured_reaches_nothing agent front back line other kind uncaptured =
    let lines : List LineValue = front ++ line ∷ back in
    let name = group_name agent lines in
    let alike = same_kind line other kind in
    let splits = occurs_walked name lines (start_of lines) 0 front (line ∷ back)
    (walk_first name lines) refl in
    let here : IsWalkAt name lines (length front) (walked name (start_of lines) front) =
    rw (zero-add (length front)) at splits in
    let free =
    false_from_ne_true _ (λ h. uncaptured ((is_captured_decides _ _ _).0 (here.captured ∙ h))) in (
      same_alike agent lines (front ++ other ∷ back) (record {
        agents = any is_agent alike.agent;
        named = λ n. any (is_agent_named n) (alike.named n);
        rules = captured_after rule_in _ _ front _ _ (apart rule_in _ _ alike free);
        delays = captured_after delay_in _ _ front _ _ (apart delay_in _ _ alike free);
        before = grind (arith, before_after, cases_Bool);
      }),
      grind (arith, filter_map-append),
    )
  where
    any : (test : LineValue → Bool) → test line ≡ test other
        → list_any test (front ++ line ∷ back) ≡ list_any test (front ++ other ∷ back)
    any test same = list_any-append test front (line ∷ back)
        ∙ ap (λ b. list_any test front || (b || list_any test back)) same
        ∙ sym (list_any-append test front (other ∷ back))

    apart : {X : Type 0} (given : LineValue → Option X) (name : List ℕ) (tracker : GroupTracker)
        → IsAlike line other
        → tracker.captured ≡ false
        → given_captured given name tracker (line ∷ back) ≡ given_captured given name tracker (other ∷ back)
    apart given name tracker alike free = rw (free, alike.agent, alike.named name, alike.group) refl
