-- What this library reads in the text of a file is what the standard reads in the file.
use Rattle.std.proofs.Common.{◌≡◌, ◌≢◌, ◌↔◌, ◌⊎◌, ℕ, ◌<◌, Bool, true, false, List, [], ◌∷◌, None, Some}
use Rattle.std.proofs.Common.{ap, arith, codes, cond, filter, inl, inr, length, map, not, refl, subst, sym}
use Rattle.std.proofs.Common.{Option, ◌∙◌}
use Rattle.std.specs.List.{AllByRecursion as Each, AllZip, Contains, cons_option, list_any}
use Rattle.std.proofs.lemmas.{Bool.false≢true, Str.is_utf8-from_IsUtf8}
use Rattle.std.proofs.lemmas.List.{get_or-map, length-map}
use Rattle.texting_robots.specs.Callers.{IsDecidingLine, IsDenied, IsVerdict, Matches, RobotValue, Rule}
use Rattle.texting_robots.specs.Callers.{file_lines, rules_for, unplaced}
use Rattle.texting_robots.specs.Executable.{placed_rules, rule_in, rule_with}
use Rattle.texting_robots.specs.{Group.group_name, Group.is_agent, Group.is_agent_named, Robot.IsRobotOf}
use Rattle.texting_robots.specs.{declared.decision.Decision.Decision}
use Rattle.texting_robots.specs.{Escape.is_escaped, Internal.Group.start_of, Pattern.MatchesWith}
use Rattle.texting_robots.specs.{declared.groups.GroupTracker.GroupTracker}
use Rattle.texting_robots.proofs.Shared.{cond_same, each_text_has_its_lines, given_captured, lines_satisfy}
use Rattle.texting_robots.proofs.Shared.{escaped_plain, rules_walked, rules_are_computed, permuted_verdicts}
use Rattle.rfc9309.specs.Matching.{IsDisallowed, IsMatch, IsRfcVerdict, all_stay, is_ended, normal_from}
use Rattle.rfc9309.specs.Matching.{normal_uri, octets, without_end}
use Rattle.rfc9309.specs.StandardReading.{IsStandardDecision, IsStandardVerdict, entries_in}
use Rattle.rfc9309.specs.StandardReading.{from_first_token, standard_members, standard_text, written_pattern}
use Rattle.rfc9309.specs.StandardReading.{written_rule}
use Rattle.rfc9309.proofs.GroupLemmas.{any_put, captured, captured_after, captured_closed, closed, has}
use Rattle.rfc9309.proofs.GroupLemmas.{named_groups, naming}
use Rattle.rfc9309.proofs.PatternLemmas.{none_any, pattern_matches, pattern_octets, pattern_some}
use Rattle.rfc9309.proofs.PatternLemmas.{written_unescaped, written_visible}
use Rattle.rfc9309.proofs.TextLemmas.{IsFit, file_fits, text_read, value_for}
use Rattle.rfc9309.proofs.{ValueLemmas.visible_utf8}
use Rattle.rfc9309.proofs.VerdictLemmas.{kind_of, pattern_of, zip_has}
use Rattle.rfc9309.specs.Rfc9309 as rfc

-- ---- the rules that are read

pattern_read : (path : List ℕ) (is_allow : Bool)
    → rule_with (written_pattern path) is_allow ≡ Some (written_pattern path, is_allow)
pattern_read path is_allow =
    let pattern = written_pattern path in
    rw (
      is_utf8-from_IsUtf8 pattern (visible_utf8 pattern (written_visible path)),
      escaped_plain pattern (none_any is_escaped pattern (written_unescaped path)),
    )

rule_read : (member : rfc.Member) → rfc.is_rule member ≡ true
    → rule_in (value_for (rfc.InGroup member)) ≡ Some (written_rule member)
rule_read (rfc.Allow path) is = pattern_read path true
rule_read (rfc.Disallow path) is = pattern_read path false
rule_read (rfc.Delay number) is = absurd (false≢true is)

module _ (name : List ℕ) where
  abbrev given : GroupTracker → List rfc.Entry → List Rule
  given walk entries = given_captured rule_in name walk (map value_for entries)

  -- the rules of members before any token, if the state captures them, and of groups
  abbrev wanted : GroupTracker → List rfc.Member → List rfc.Group → List Rule
  wanted walk members groups = map written_rule (filter rfc.is_rule (captured name walk members groups))

  rule_given : (walk : GroupTracker) (member : rfc.Member) (members : List rfc.Member)
      (groups : List rfc.Group) (rest : List Rule) → rfc.is_rule member ≡ true
      → rest ≡ wanted (closed walk.captured) members groups
      → cons_option (cond walk.captured (rule_in (value_for (rfc.InGroup member))) None) rest
      ≡ wanted walk (member ∷ members) groups
  rule_given walk member members groups rest is later =
      rw (rule_read member is, later, captured_closed name walk.captured members groups)
      (grind (arith, captured_closed))

  walk_given : (walk : GroupTracker) (entries : List rfc.Entry) → Each IsFit entries
      → given walk entries ≡ wanted walk (rfc.above_groups entries) (rfc.groups_of entries)
  walk_given walk [] fit = refl
  walk_given walk (rfc.Agent token ∷ entries) fit =
      rw (cond_same {X = Option Rule} walk.captured None, captured_after name walk token _ _)
      (walk_given (naming _) entries fit.1)
  walk_given walk (rfc.InGroup (rfc.Allow path) ∷ entries) fit =
      rule_given walk (rfc.Allow path) _ _ _ refl (walk_given (closed walk.captured) entries fit.1)
  walk_given walk (rfc.InGroup (rfc.Disallow path) ∷ entries) fit =
      rule_given walk (rfc.Disallow path) _ _ _ refl (walk_given (closed walk.captured) entries fit.1)
  walk_given walk (rfc.InGroup (rfc.Delay number) ∷ entries) fit = absurd fit.0
  walk_given walk (_ ∷ entries) fit =
      rw (cond_same {X = Option Rule} walk.captured None) (walk_given walk entries fit.1)

  any_named : (entries : List rfc.Entry) → list_any (is_agent_named name) (map value_for entries)
      ≡ list_any (has name) (rfc.groups_of entries)
  any_named [] = refl
  any_named (rfc.Agent token ∷ entries) = grind (arith, any_put, any_named entries)
  any_named (rfc.InGroup (rfc.Allow path) ∷ entries) = any_named entries
  any_named (_ ∷ entries) = any_named entries

-- what is above the first token is in no group
same_groups : (entries : List rfc.Entry) → let stated = from_first_token entries in
    (rfc.above_groups stated ≡ []) × (rfc.groups_of stated ≡ rfc.groups_of entries)
same_groups [] = (refl, refl)
same_groups (rfc.Agent token ∷ entries) = (refl, refl)
same_groups (_ ∷ entries) = same_groups entries

pub text_rules : (agent file : List ℕ)
    → rules_for agent (file_lines (standard_text file)) ≡ map written_rule (standard_members agent file)
text_rules agent file =
    let entries = from_first_token (entries_in file) in
    let lines = map value_for entries in
    let groups = rfc.groups_of entries in
    let (none, same) = same_groups (entries_in file) in
    let own = named_groups agent groups lines _ (any_named _ entries) refl in
    let name = group_name agent lines in
    let start = not (list_any is_agent lines) in
    ap (λ lines. rules_for agent lines) (text_read file) ∙ rules_walked agent lines
    ∙ walk_given name (start_of lines) entries (file_fits file)
    ∙ rw (none, captured_closed name start [] groups, cond_same {X = List rfc.Member} start [], own, same)
    refl

-- ---- verdicts

abbrev IsOf : rfc.Member → Rule → Type 0
IsOf member rule = ◌≡◌ {A = Rule} rule (written_rule member)

all_of : (members : List rfc.Member) → AllZip IsOf members (map written_rule members)
all_of [] = tt
all_of (member ∷ members) = (refl, all_of members)

to_map : {A B : Type 0} (f : A → B) (xs : List A) (x : A) → Contains xs x → Contains (map f xs) (f x)
to_map f xs x (k, below, at) = (k, rw (length-map xs f) below, get_or-map f xs k x (f x) below ∙ ap f at)

no_match : (text : List ℕ) → Matches (codes "$/") text → ⊥
unfolding MatchesWith
no_match text (rest, first, (other, second, more)) = cc (first.1, second)

robots_normal : normal_uri all_stay (codes "/robots.txt") ≡ codes "/robots.txt"
unfolding normal_from
robots_normal = refl

no_octets : octets all_stay [] ≡ 0
unfolding normal_from without_end is_ended
no_octets = refl

-- a path matches as its pattern does, and has as many octets, if it isn't empty
written_matches : (path uri : List ℕ) → Matches (written_pattern path) (normal_uri all_stay uri)
    ↔ ((path ≢ []) × IsMatch all_stay path uri)
written_matches [] uri = (λ m. absurd (no_match _ m), λ is. absurd (is.0 refl))
written_matches (b ∷ path) uri =
    let same = pattern_matches all_stay (b ∷ path) uri in
    (λ m. ((λ e. cc), same.0 m), λ is. same.1 is.1)

written_octets : (path : List ℕ) → path ≢ [] → (length (written_pattern path) ≡ octets all_stay path)
    × (0 < octets all_stay path)
written_octets [] some = absurd (some refl)
written_octets (b ∷ path) some =
    let same = pattern_octets all_stay (b ∷ path) in
    (same, subst (λ n. 0 < n) same (pattern_some all_stay b path))

empty_or_not : (path : List ℕ) → (path ≡ []) ⊎ (path ≢ [])
empty_or_not [] = inl refl
empty_or_not (b ∷ path) = inr (λ e. cc)

module _ (members : List rfc.Member) (uri : List ℕ) where
  abbrev rules : List Rule
  rules = map written_rule members

  abbrev target : List ℕ
  target = normal_uri all_stay uri

  denying : (pattern : List ℕ) (member : rfc.Member) → Contains members member
      → ◌≡◌ {A = Rule} (pattern, false) (written_rule member) → Matches pattern target
      → (path : List ℕ) × Contains members (rfc.Disallow path) × (path ≢ []) × IsMatch all_stay path uri
      × (pattern ≡ written_pattern path)
  denying pattern (rfc.Allow path) has same m = let wrong = kind_of _ _ same in cc
  denying pattern (rfc.Disallow path) has same m =
      let e = pattern_of _ _ same in
      let (some, is) = (written_matches path uri).0 (subst (λ p. Matches p target) e m) in
      (path, has, some, is, e)
  denying pattern (rfc.Delay number) has same m =
      absurd (no_match _ (subst (λ p. Matches p target) (pattern_of _ _ same) m))

  allowing : (pattern : List ℕ) (member : rfc.Member) → Contains members member
      → ◌≡◌ {A = Rule} (pattern, true) (written_rule member)
      → (path : List ℕ) × Contains members (rfc.Allow path) × (pattern ≡ written_pattern path)
  allowing pattern member has same = grind (arith, kind_of, pattern_of)

  to_disallowed : IsDenied rules target → IsDisallowed all_stay (octets all_stay) members uri
  to_disallowed (differs, pattern, has, matches, longest) =
      let (member, among, same) = zip_has IsOf members rules (pattern, false) (all_of members) has in
      let (path, listed, some, is, e) = denying pattern member among same matches in
      let (size, more) = written_octets path some in
      record {
        other = λ e. differs (e ∙ robots_normal);
        path = path;
        listed = listed;
        some = some;
        is_match = is;
        most = λ allowed also allows. elim (empty_or_not allowed) [
          | inl none ↦ rw (none, no_octets) more
          | inr any ↦ omega (
            arith,
            longest (written_pattern allowed) (to_map written_rule members (rfc.Allow allowed) also)
                ((written_matches allowed uri).1 (any, allows)),
            ap length e,
            size,
            (written_octets allowed any).0,
          )
        ];
      }

  to_denied : IsDisallowed all_stay (octets all_stay) members uri → IsDenied rules target
  to_denied is = (
    λ e. is.other (e ∙ sym robots_normal),
    written_pattern is.path,
    to_map written_rule members (rfc.Disallow is.path) is.listed,
    (written_matches is.path uri).1 (is.some, is.is_match),
    λ q has matches.
        let (member, among, same) = zip_has IsOf members rules (q, true) (all_of members) has in
        let (path, listed, e) = allowing q member among same in
        let (any, matched) = (written_matches path uri).0 (subst (λ p. Matches p target) e matches) in
        omega (
          arith,
          is.most path listed matched,
          ap length e,
          (written_octets path any).0,
          (written_octets is.path is.some).0,
        ),
  )

  same_verdict : (answer : Bool)
      → IsVerdict rules target answer ↔ IsRfcVerdict all_stay (octets all_stay) members uri answer
  same_verdict answer = grind (arith, to_denied, to_disallowed)

pub text_verdict : (agent file uri : List ℕ) (answer : Bool)
    → IsVerdict (rules_for agent (file_lines (standard_text file))) (normal_uri all_stay uri) answer
    ↔ IsStandardVerdict agent file uri answer
text_verdict agent file uri answer =
    rw (text_rules agent file) (same_verdict (standard_members agent file) uri answer)

pub decides : (robot : RobotValue) (target : List ℕ) (decision : Decision)
    → IsVerdict (unplaced robot.rules) target decision.allowed
    → IsDecidingLine robot.rules target decision.line → IsStandardDecision robot target decision
decides robot _ decision verdict line = record {
  verdict = λ agent file uri (none, sitemaps, is) same.
      let text = standard_text file in
      let lines = file_lines text in
      let has =
      lines_satisfy text (λ lines. IsRobotOf agent lines _) is lines ((each_text_has_its_lines _ _).1 refl) in
      let placed = (rules_are_computed agent lines robot.rules).0 has.rules in
      let alike =
      permuted_verdicts (placed_rules agent lines) robot.rules placed (normal_uri all_stay uri)
      decision.allowed in
      (text_verdict agent file uri decision.allowed).0 (alike.0
      (subst (λ t. IsVerdict (unplaced robot.rules) t decision.allowed) same verdict));
  line = line;
}
