-- If the found lines are deleted from a file, each crawler's robot stays the same.
use mathlib.Core.Logic.Iff
use Rattle.std.proofs.Common.{◌≡◌, ◌≢◌, ◌≤◌, ◌↔◌, inl, inr, ℕ, zero, suc, ◌+◌, Bool, false, not, [], Option}
use Rattle.std.proofs.Common.{List, ◌∷◌, ◌++◌, IsUtf8, ap, ap₂, sym, refl, ◌∙◌, arith, filter, length}
use Rattle.std.proofs.Common.{length-append, map}
use Rattle.std.specs.{List.concat}
use Rattle.std.proofs.lemmas.{Bool.or_parts, List.map-append}
use Rattle.texting_robots.specs.Callers.{HasLines, IsRejected, IsRobotOf, IsVerdict, LineValue, RobotValue}
use Rattle.texting_robots.specs.Callers.{AreSitemapsOf, sitemaps_in}
use Rattle.texting_robots.specs.Callers.{IsDelayFor, delay_for, file_bodies, file_lines, nul_as_lf, rules_for}
use Rattle.texting_robots.specs.Cut.{IsLineEnd, Pair, joined}
use Rattle.texting_robots.specs.{Theorems.Same, Line.is_raw, Line.without_bom}
use Rattle.texting_robots.specs.Internal.{Cut.bodies_of, Cut.cut, Line.line_of}
use Rattle.texting_robots.proofs.Shared.{delay_is_computed, sitemaps_are_computed, answer_as_placed}
use Rattle.texting_robots.proofs.Shared.{lines_satisfy, each_text_has_its_lines, without_bom_suffix}
use Rattle.texting_robots.proofs.Shared.{without_bom_map, raw_changes_nothing, is_cut, cut_unique}
use Rattle.robots_rules.specs.Blocks.{left_from, AreAlike, AreWholeLines, CanBeDeleted, HaveSameRobot}
use Rattle.robots_rules.specs.Blocks.{IsLeftOf, begin_with_mark}
use Rattle.robots_rules.specs.Needless.{MeanTheSame, lines_without}
use Rattle.robots_rules.proofs.DeletedLemmas.{ArePairs, cut_pairs, meant, meant_joined, pair_body, mark_of}
use Rattle.robots_rules.proofs.DeletedLemmas.{pairs_left, IsUnmarked, mark_off, mark_read}
use Rattle.robots_rules.proofs.CrawlerLemmas.{each_alike, split_read}
use Rattle.robots_rules.proofs.BlockLemmas.{among, left_are}

unmarked : (pairs : List Pair) → ArePairs pairs → begin_with_mark (map pair_body pairs) ≡ false
    → IsUnmarked (joined pairs)
unmarked [] are none = grind arith
unmarked (pair ∷ later) (is, are) none = at pair.body pair.ending is.ending is.last none
  where
    at : (bytes ending : List ℕ) → IsLineEnd ending → (ending ≡ [] → (later ≡ []) × (bytes ≢ []))
        → begin_with_mark (bytes ∷ map pair_body later) ≡ false
        → IsUnmarked ((bytes ++ ending) ++ joined later)
    at (b ∷ bytes) ending end last none = grind (arith, or_parts)
    at [] ending (zero, inl e) last none = grind arith
    at [] ending (suc k, inl e) last none = grind arith
    at [] ending (zero, inr e) last none = grind arith
    at [] ending (suc k, inr e) last none = grind arith

pub map_left : {A B : Type 0} (f : A → B) (gone : ℕ → Bool) (position : ℕ) (lines : List A)
    → map f (left_from gone position lines) ≡ left_from gone position (map f lines)
map_left f gone position [] = refl
map_left f gone position (line ∷ lines) = grind (arith, map_left f gone (position + 1) lines)

map_concat : (f : ℕ → ℕ) (texts : List (List ℕ)) → map f (concat texts) ≡ concat (map (map f) texts)
map_concat f [] = refl
map_concat f (text ∷ texts) = grind (arith, map-append, map_concat f texts)

abbrev bytes_of : Pair → List ℕ
bytes_of pair = pair.body ++ pair.ending

joined_bytes : (pairs : List Pair) → concat (map bytes_of pairs) ≡ joined pairs
joined_bytes [] = refl
joined_bytes (pair ∷ later) = grind (arith, joined_bytes later)

module _ (numbers file left : List ℕ) (is : IsLeftOf numbers file left)
    (front : begin_with_mark (lines_without numbers (file_bodies file)) ≡ false) where
  abbrev gone : ℕ → Bool
  gone = among numbers

  abbrev kept : List Pair
  kept = left_from gone 0 is.lines.pairs

  kept_pairs : ArePairs kept
  kept_pairs = grind (arith, pairs_left, cut_pairs)

  bodies_kept : lines_without numbers (file_bodies file) ≡ map pair_body kept
  bodies_kept =
      left_are numbers 0 (file_bodies file)
      ∙ ap (λ pairs. left_from gone 0 (map pair_body pairs))
      (sym (cut_unique _ is.lines.pairs is.lines.is_cut))
      ∙ sym (map_left pair_body gone 0 is.lines.pairs)

  text_left : map nul_as_lf (concat (lines_without numbers is.whole)) ≡ joined kept
  text_left =
      map_concat nul_as_lf (lines_without numbers is.whole)
      ∙ ap concat (ap (map (map nul_as_lf)) (left_are numbers 0 is.whole)
      ∙ map_left (map nul_as_lf) gone 0 is.whole ∙ ap (left_from gone 0) is.lines.read
      ∙ sym (map_left bytes_of gone 0 is.lines.pairs))
      ∙ joined_bytes kept

  without_mark : without_bom (map nul_as_lf left) ≡ joined kept
  without_mark =
      grind (arith, mark_of, map-append, mark_read, text_left, mark_off, unmarked, kept_pairs, bodies_kept)

  -- the lines that aren't ignored are the same
  same_lines : filter (λ (line : LineValue). not (is_raw line)) (file_lines left)
      ≡ filter (λ (line : LineValue). not (is_raw line)) (lines_without numbers (file_lines file))
  same_lines =
      ap (λ text. meant (bodies_of text)) without_mark ∙ meant_joined kept kept_pairs
      ∙ sym (ap (filter (λ (line : LineValue). not (is_raw line))) (left_are numbers 0 (file_lines file)
      ∙ sym (map_left line_of gone 0 (file_bodies file))
      ∙ ap (map line_of) (sym (left_are numbers 0 (file_bodies file)) ∙ bodies_kept)))

  pub same_result : (agent : List ℕ)
      → Same agent (file_lines left) agent (lines_without numbers (file_lines file))
  same_result agent = raw_changes_nothing agent _ _ same_lines

whole_of : (pairs : List Pair) (text : List ℕ) → map nul_as_lf text ≡ joined pairs
    → (whole : List (List ℕ)) × (map (λ line. map nul_as_lf line) whole ≡ map bytes_of pairs)
    × (concat whole ≡ text)
whole_of [] [] is = ([], refl, refl)
whole_of [] (b ∷ text) is = cc
whole_of (pair ∷ later) text is =
    let (one, two, whole, fits, left) = split_read nul_as_lf text (bytes_of pair) (joined later) is in
    let (lines, read, all) = whole_of later two left in (
      one ∷ lines,
      ap₂ (λ line rest. line ∷ rest) fits read,
      ap (λ t. one ++ t) all ∙ sym whole,
    )

pub has_whole_lines : (file : List ℕ) → (whole : List (List ℕ)) × AreWholeLines whole file
has_whole_lines file =
    let text = without_bom (map nul_as_lf file) in
    let (whole, read, all) = whole_of (cut text) (without_bom file)
    (without_bom_map file ∙ sym (is_cut text).whole) in
    (whole, record { pairs = cut text; is_cut = is_cut text; read = read; joined = all })

concat_within : (gone : ℕ → Bool) (position : ℕ) (lines : List (List ℕ))
    → length (concat (left_from gone position lines)) ≤ length (concat lines)
concat_within gone position [] = omega arith
concat_within gone position (line ∷ lines) =
    grind (arith, length-append, concat_within gone (position + 1) lines)

pub left_within : (numbers file left : List ℕ) → IsLeftOf numbers file left → length left ≤ length file
left_within numbers file left is =
    let rest = concat (lines_without numbers is.whole) in
    let less : length rest ≤ length (without_bom file) =
    rw (left_are numbers 0 is.whole, ← is.lines.joined) (concat_within (among numbers) 0 is.whole) in
    let (mark, whole) = without_bom_suffix file in
    let all = ap length whole ∙ length-append mark (without_bom file) in
    let both = ap length is.rest ∙ length-append is.mark rest in
    (grind (arith, length-append))

pub of_file : (file : List ℕ) (P : List LineValue → Type 0)
    → HasLines file P → P (file_lines file)
of_file file P is =
    lines_satisfy file P is (file_lines file) ((each_text_has_its_lines (map nul_as_lf file) _).1 refl)

pub same_delay : (agent file other : List ℕ) (one two : Option ℕ)
    → HasLines file (λ lines. IsDelayFor agent lines one)
    → HasLines other (λ lines. IsDelayFor agent lines two)
    → ◌≡◌ {A = Option ℕ} one two → delay_for agent (file_lines other) ≡ delay_for agent (file_lines file)
same_delay agent file other one two first second same =
    sym ((delay_is_computed agent _ two).0 (of_file other (λ ls. IsDelayFor agent ls two) second)) ∙ sym same
    ∙ (delay_is_computed agent _ one).0 (of_file file (λ ls. IsDelayFor agent ls one) first)

pub same_sitemaps : (file other : List ℕ) (texts others : List (List ℕ))
    → HasLines file (λ lines. AreSitemapsOf lines texts)
    → HasLines other (λ lines. AreSitemapsOf lines others)
    → texts ≡ others → sitemaps_in (file_lines file) ≡ sitemaps_in (file_lines other)
same_sitemaps file other texts others first second same =
    sym ((sitemaps_are_computed _ texts).0 (of_file file (λ ls. AreSitemapsOf ls texts) first)) ∙ same
    ∙ (sitemaps_are_computed _ others).0 (of_file other (λ ls. AreSitemapsOf ls others) second)

module _ (file left : List ℕ) (numbers : List ℕ) (are : CanBeDeleted numbers file)
    (is : IsLeftOf numbers file left) (agent : List ℕ) (utf8 : IsUtf8 agent) where
  abbrev lines : List LineValue
  lines = file_lines file

  same_as_less : Same agent (file_lines left) agent (lines_without numbers lines)
  same_as_less = same_result numbers file left is are.front agent

  alike : MeanTheSame agent lines (lines_without numbers lines)
  alike = each_alike numbers lines are.lines agent utf8

  verdicts_stay : (text : List ℕ) (answer : Bool)
      → IsVerdict (rules_for agent lines) text answer
      ↔ IsVerdict (rules_for agent (file_lines left)) text answer
  verdicts_stay text answer =
      Iff.trans (alike.verdicts text answer)
      ((same_as_less.0.verdict text answer).1, (same_as_less.0.verdict text answer).0)

  robots_alike : (one two : RobotValue) → IsRobotOf agent lines one → IsRobotOf agent (file_lines left) two
      → AreAlike one two
  robots_alike one two is_one is_two = record {
    delay = (delay_is_computed agent lines one.delay).0 is_one.delay ∙ sym alike.delay
        ∙ sym same_as_less.0.delay ∙ sym ((delay_is_computed agent _ two.delay).0 is_two.delay);
    sitemaps = (grind (arith, sitemaps_are_computed, same_as_less, are));
    verdicts = λ text answer.
        let first = (answer_as_placed agent lines one.rules is_one.rules).verdicts text answer in
        let second = (answer_as_placed agent _ two.rules is_two.rules).verdicts text answer in
        Iff.trans first (Iff.trans (verdicts_stay text answer) (second.1, second.0));
  }

  pub same_robot : HaveSameRobot agent file left
  same_robot = record {
    rejection = (
      λ rejected. absurd (alike.accepted (of_file file (IsRejected agent) rejected)),
      λ rejected.
          absurd
          (alike.left_accepted (same_as_less.0.rejection.0 (of_file left (IsRejected agent) rejected))),
    );
    robots = λ one two is_one is_two.
        robots_alike one two (of_file file (λ ls. IsRobotOf agent ls one) is_one)
        (of_file left (λ ls. IsRobotOf agent ls two) is_two);
  }
