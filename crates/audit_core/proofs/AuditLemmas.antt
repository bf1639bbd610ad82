-- How an audit is built: crawlers, rows and lists of lines.
use Rattle.std.proofs.Common.{◌≡◌, ◌∙◌, ◌<◌, ◌+◌, ◌==◌, ◌||◌, ℕ, Any, Bool, true, false, List, [], ◌∷◌}
use Rattle.std.proofs.Common.{◌++◌, None, Option, Some, ap, arith, bytes_eq, codes, drop, if◌then◌else◌}
use Rattle.std.proofs.Common.{length, map, not, refl, slice_index_or, subst, sym, take, ⊎_elim}
use Rattle.std.specs.{BTreeSet.BTreeSet, List.AllZip, Str.is_utf8, Str.str_to_ascii_lowercase}
use Rattle.std.proofs.Math.Bool.{or-false}
use Rattle.std.proofs.lemmas.Bool.{cases_Bool}
use Rattle.std.proofs.lemmas.List.{append-nil, drop_more, map-append, take_more}
use Rattle.std.proofs.lemmas.Bool.Decides.{Decides-eqb}
use Rattle.std.proofs.lemmas.Slice.Eq.{bytes_eq-Decides}
use Rattle.std.proofs.lemmas.List.Elements.{filter_map-append}
use Rattle.texting_robots.specs.Callers.{AnswerAlike, HasLines, IsDelayFor, IsRejected}
use Rattle.texting_robots.specs.Callers.{IsRobotWithoutSitemaps, LineValue, PlacedRule, RobotValue, Rule}
use Rattle.texting_robots.specs.Callers.{UserAgent, by_value, delay_for, file_limit, file_lines}
use Rattle.texting_robots.specs.Callers.{label_by_value, lines_read, placed_rules, rules_for, sitemaps_in}
use Rattle.texting_robots.specs.Callers.{unplaced}
use Rattle.texting_robots.specs.{Agents.is_among, Decision.IsDecisionOn, Executable.sitemap_in}
use Rattle.texting_robots.specs.{Pattern.IsOverlong, Robot.IsRobotOf}
use Rattle.texting_robots.specs.declared.{decision.Decision.Decision, labels.LabeledLine.LabeledLine}
use Rattle.texting_robots.proofs.Shared.{answer_as_placed, delay_is_computed, each_text_has_its_lines}
use Rattle.texting_robots.proofs.Shared.{lines_are_read, lines_satisfy, rejection_is_computed}
use Rattle.rfc9309.specs.Matching.{all_stay, normal_from, normal_uri}
use Rattle.rfc9309.proofs.StandardLemmas.{text_verdict}
use Rattle.robots_rules.specs.Same.{HaveSameVerdicts}
use Rattle.robots_warnings.specs.Internal.Names.{AddsName, Key}
use Rattle.robots_warnings.proofs.ClosedLemmas.{any_last}
use Rattle.robots_warnings.specs.{File.lines_of, Read.IsRead, declared.read.FileRead.FileRead}
use Rattle.audit_core.specs.Audit.{AreReadAlike, IsDecidedBy, IsRejectedAt, IsRuling, IsVerdictOn}
use Rattle.audit_core.specs.Audit.{VerdictValue, is_crawler_name, unless}
use Rattle.audit_core.specs.Internal.{Agents.AddsAgent, Agents.HasAgents, Agents.has_lowered}
use Rattle.audit_core.specs.Internal.{IsCrawlerIn, IsReading, rejected_line, rules_by}
use Rattle.audit_core.specs.{Standard.text_lines, Target.asked_target}
use Rattle.audit_core.specs.declared.audit.Crawler.{Crawler}
use Rattle.audit_core.specs.declared.audit.Reading.{Reading, TheVariants.Accepted, TheVariants.Rejected}

absorbed : (names : List (List ℕ)) (name key : List ℕ) → is_among name names ≡ true
    → (has_lowered key names || bytes_eq (str_to_ascii_lowercase name) key) ≡ has_lowered key names
absorbed names name key is =
    let lowered = str_to_ascii_lowercase name in
    ⊎_elim
    (λ same.
    let has : has_lowered key names ≡ true =
    subst (λ (k : List ℕ). has_lowered k names ≡ true) ((bytes_eq-Decides lowered key).0 same) is in
    rw has refl)
    (λ other. rw other (or-false (has_lowered key names)))
    (cases_Bool (bytes_eq lowered key))

one_more : (names : List (List ℕ)) (name key : List ℕ) (among : Bool) → among ≡ is_among name names
    → (has_lowered key names || bytes_eq (str_to_ascii_lowercase name) key)
    ≡ has_lowered key (if among then names else names ++ name ∷ [])
one_more names name key true is = absorbed names name key (sym is)
one_more names name key false is =
    sym (any_last (λ other. bytes_eq (str_to_ascii_lowercase other) key) names name)

kept : (names : List (List ℕ)) (name : List ℕ) (among : Bool)
    → names ++ (if not among then name ∷ [] else []) ≡ (if among then names else names ++ name ∷ [])
kept names name true = append-nil names
kept names name false = refl

pub agent_added : {old_met new_met : BTreeSet Key} {old new : List (List ℕ)} {name : List ℕ}
    {is_new : Bool} → is_utf8 name ≡ true → is_crawler_name name ≡ true
    → AddsName old_met new_met name is_new
    → new ≡ old ++ (if is_new then name ∷ [] else [])
    → AddsAgent old_met new_met old new (UserAgent name)
agent_added {old_met} {new_met} {old} {new} {name} {is_new} utf8 can adds added =
    let grown : HasAgents old_met old → new ≡ (if is_among name old then old else old ++ name ∷ []) =
    λ has.
    let is : is_new ≡ not (is_among name old) =
    adds.new_if ∙ ap not (has.each adds.lowered)
    ∙ ap (λ (lowered : List ℕ). not (has_lowered lowered old)) adds.in_lower_case in
    added ∙ ap (λ is. old ++ (if is then name ∷ [] else [])) is ∙ kept old name (is_among name old) in
    record {
      names = λ has. rw (utf8, can) (grown has);
      met = λ has. record {
        each = λ key.
            adds.each key
            ∙ ap (λ is. is || bytes_eq (str_to_ascii_lowercase name) key.items) (has.each key)
            ∙ one_more old name key.items (is_among name old) refl
            ∙ ap (λ names. has_lowered key.items names) (sym (grown has));
      };
    }

pub sitemaps_next : (labels : List LabeledLine) (at : ℕ) (labeled : LabeledLine) → at < length labels
    → sitemaps_in (lines_of (map label_by_value (drop at labels)))
    ≡ sitemaps_in (by_value (slice_index_or labels at labeled).line ∷ [])
    ++ sitemaps_in (lines_of (map label_by_value (drop (at + 1) labels)))
sitemaps_next labels at labeled below =
    let here = by_value (slice_index_or labels at labeled).line ∷ [] in
    let later = lines_of (map label_by_value (drop (at + 1) labels)) in
    ap (λ labels. sitemaps_in (lines_of (map label_by_value labels))) (drop_more labels at labeled below)
    ∙ filter_map-append sitemap_in here later

zips_joined : {A B : Type 0} (R : A → B → Type 0) (xs : List A) (ys : List B) (more : List A)
    (others : List B) → AllZip R xs ys → AllZip R more others → AllZip R (xs ++ more) (ys ++ others)
zips_joined R [] [] more others are too = too
zips_joined R [] (y ∷ ys) more others are too = absurd are
zips_joined R (x ∷ xs) [] more others are too = absurd are
zips_joined R (x ∷ xs) (y ∷ ys) more others are too = (are.0, zips_joined R xs ys more others are.1 too)

pub nil_if_empty : {X : Type 0} (xs : List X) → (length xs == 0) ≡ true → xs ≡ []
nil_if_empty [] is = refl
nil_if_empty (x ∷ xs) is =
    let none : length (x ∷ xs) ≡ 0 = (Decides-eqb (length (x ∷ xs)) 0).0 is in absurd (omega arith)

pub zip_next : {A B V : Type 0} (R : B → V → Type 0) (f : A → B) (items : List A) (place : ℕ) (item : A)
    (found : List V) (next : V) → place < length items → AllZip R (map f (take place items)) found
    → R (f (slice_index_or items place item)) next
    → AllZip R (map f (take (place + 1) items)) (found ++ next ∷ [])
zip_next R f items place item found next below are is =
    rw (take_more items place item below, map-append)
    (zips_joined R (map f (take place items)) found (f (slice_index_or items place item) ∷ []) (next ∷ [])
    are (is, tt))

decided_like : (rules others : List PlacedRule) → AnswerAlike rules others → (text : List ℕ)
    (decision : Decision) → IsDecisionOn rules text decision → IsDecisionOn others text decision
decided_like rules others alike text decision is = record {
  verdict = (alike.verdicts text decision.allowed).0 is.verdict;
  deciding = (alike.deciding text decision.line).0 is.deciding;
}

verdicts_like : (rules others : List PlacedRule) (found as_placed : Option (List PlacedRule))
    → AnswerAlike rules others
    → ((url : List ℕ) (decision : Option Decision) → IsDecidedBy found url decision
    → IsDecidedBy as_placed url decision)
    → (urls : List (List ℕ)) (verdicts : List VerdictValue) → AllZip (IsVerdictOn rules found) urls verdicts
    → AllZip (IsVerdictOn others as_placed) urls verdicts
verdicts_like rules others found as_placed alike too [] [] are = tt
verdicts_like rules others found as_placed alike too [] (_ ∷ _) are = absurd are
verdicts_like rules others found as_placed alike too (_ ∷ _) [] are = absurd are
verdicts_like rules others found as_placed alike too (url ∷ urls) (verdict ∷ verdicts) (first, later) = (
  record {
    url_is = first.url_is;
    decided = decided_like rules others alike (asked_target url) verdict.decision first.decided;
    standard = too url verdict.standard first.standard;
  },
  verdicts_like rules others found as_placed alike too urls verdicts later,
)

module _ (agent : List ℕ) where
  by_standard : (lines : List LineValue) (reading : Reading) → IsReading agent lines reading
      → (url : List ℕ) (decision : Option Decision) → IsDecidedBy (rules_by reading) url decision
      → IsDecidedBy (unless (rejected_line reading) (placed_rules agent lines)) url decision
  by_standard lines (Rejected line) is url decision by = by
  by_standard lines (Accepted robot) is url None by = by
  by_standard lines (Accepted robot) (accepted, alike) url (Some decision) by =
      decided_like robot.rules (placed_rules agent lines) alike _ decision by

  pub ruling_made : (lines text : List LineValue) (here standard : Reading) → IsReading agent lines here
      → IsReading agent text standard → (urls : List (List ℕ)) (verdicts : List VerdictValue)
      → IsRuling urls (rules_by here) (rules_by standard) verdicts
      → IsRuling urls (unless (rejected_line here) (placed_rules agent lines))
      (unless (rejected_line standard) (placed_rules agent text)) verdicts
  ruling_made lines text (Rejected line) standard is too urls verdicts by = by
  ruling_made lines text (Accepted robot) standard (accepted, alike) too urls verdicts by =
      verdicts_like robot.rules (placed_rules agent lines) _ _ alike (by_standard text standard too) urls
      verdicts by

  pub rejection_is : (lines : List LineValue) (reading : Reading) → IsReading agent lines reading
      → IsRejectedAt agent lines (rejected_line reading)
  rejection_is lines (Accepted robot) (accepted, alike) = accepted
  rejection_is lines (Rejected line) is = is

  same_reading : (lines others : List LineValue) (reading : Reading)
      → placed_rules agent others ≡ placed_rules agent lines → IsReading agent lines reading
      → IsReading agent others reading
  same_reading lines others (Rejected line) same is = rw same is
  same_reading lines others (Accepted robot) same (accepted, alike) = (
    λ rejected. accepted ((rejection_is_computed agent lines).1
        (subst (λ (rules : List PlacedRule). Any (λ (rule : Rule). IsOverlong rule.0) (unplaced rules)) same
        ((rejection_is_computed agent others).0 rejected))),
    rw same alike,
  )

  pub robot_read : (text : List ℕ) (robot : RobotValue) → IsRobotWithoutSitemaps agent text robot
      → (¬ IsRejected agent (file_lines text))
      × AnswerAlike robot.rules (placed_rules agent (file_lines text))
  robot_read text robot (none, sitemaps, is) =
      let of =
      lines_satisfy text (λ lines. IsRobotOf agent lines _) is (file_lines text)
      ((each_text_has_its_lines _ _).1 refl) in
      (of.accepted, answer_as_placed agent (file_lines text) robot.rules of.rules)

pub same_crawler : (crawler : Crawler) (lines others : List LineValue)
    → placed_rules crawler.agent.now others ≡ crawler.rules.items → IsCrawlerIn lines crawler
    → IsCrawlerIn others crawler
same_crawler crawler lines others same is = record {
  rules_are = sym same;
  reading_is =
      same_reading crawler.agent.now lines others crawler.reading (same ∙ is.rules_are) is.reading_is;
}

slash_stays : (uri : List ℕ) → (rest : List ℕ) × (normal_uri all_stay (codes "/" ++ uri) ≡ codes "/" ++ rest)
unfolding normal_from
slash_stays [] = ([], refl)
slash_stays (b ∷ []) = (_, refl)
slash_stays (b ∷ c ∷ uri) = (_, refl)

pub read_alike : (file agent : List ℕ)
    → HaveSameVerdicts (codes "/") (rules_for agent (lines_read file)) (rules_for agent (text_lines file))
    → AreReadAlike file agent
read_alike file agent same uri answer =
    let (rest, is) = slash_stays uri in
    let (read, written) = text_verdict agent (take file_limit file) (codes "/" ++ uri) answer in
    let (there, back) = same rest answer in (
      λ here. read (rw is (there (rw is at here))),
      λ standard. rw is (back (rw is at (written standard))),
    )

pub delay_read : (agent file : List ℕ) (delay : Option ℕ)
    → HasLines (take file_limit file) (λ lines. IsDelayFor agent lines delay)
    → delay ≡ delay_for agent (lines_read file)
delay_read agent file delay has =
    (delay_is_computed agent (lines_read file) delay).0
    (lines_satisfy _ (λ lines. IsDelayFor agent lines delay) has (lines_read file) (lines_are_read file))

pub labeled_lines : (read : FileRead) (labels : List LabeledLine) → IsRead read → labels ≡ read.labels.items
    → lines_of (map label_by_value labels) ≡ file_lines read.site
labeled_lines read labels is same = rw (same, is.site_is) is.lines_are
