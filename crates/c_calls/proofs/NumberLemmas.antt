-- The numbers that C gets: one, those of a batch, and those of many crawlers.
use Rattle.std.proofs.Common.{◌≡◌, ℕ, zero, suc, ◌+◌, ◌<◌, ◌≤◌, ◌^◌, Bool, true, false, List, [], ◌∷◌, ◌++◌}
use Rattle.std.proofs.Common.{Option, Some, None, IfSome, arith, length, map, refl, slice_index_or, subst, ℤ}
use Rattle.std.proofs.Common.{SFits, of_z, take, to_z, w64, ◌-◌, ◌∙◌, IsUtf8, ap, append-nil, drop, sym, ◌*◌}
use Rattle.std.proofs.Common.{Err, IfErr, Ok, Result, codes, cond, inl, inr}
use Rattle.std.specs.{Result.IsErrAnd, List.AllZip, List.All, List.list_any, Str.str_to_ascii_lowercase}
use Rattle.std.proofs.lemmas.{Int.to_z-of_z, Option.slice_get_within, Slice.Zip.AllZip-long}
use Rattle.std.proofs.lemmas.List.{length-map, length-take, take_more, append_assoc, length-append}
use Rattle.std.proofs.lemmas.List.{length-replicate, map_push}
use Rattle.texting_robots.specs.Callers.{HasLines, IsCaptured, IsDecidingLine, IsRejected, IsRejectionOf}
use Rattle.texting_robots.specs.Callers.{IsRobotOf, IsRobotWithoutSitemaps, IsVerdict, LineValue, PlacedRule}
use Rattle.texting_robots.specs.Callers.{RobotValue, file_bodies, file_limit, file_lines, group_name}
use Rattle.texting_robots.specs.Callers.{is_agent_named, is_named, nul_as_lf, unplaced}
use Rattle.texting_robots.specs.{Internal.Line.line_of}
use Rattle.texting_robots.specs.declared.error.RobotError.{RobotError}
use Rattle.texting_robots.specs.declared.error.RobotError.TheVariants as rejection
use Rattle.texting_robots.proofs.Shared.{deciding_line_holds_its_rule, each_text_has_its_lines, has_lines}
use Rattle.texting_robots.proofs.Shared.{lines_satisfy, no_line_allows, parsed_within, same_group_robot}
use Rattle.rfc9309.specs.StandardReading.{entries_in, entry_of, from_first_token}
use Rattle.rfc9309.proofs.TextLemmas.{text_read, value_for}
use Rattle.rfc9309.specs.Rfc9309 as rfc
use Rattle.c_calls.specs.File.{HasFewLines, IsRobotOfSomeFile, bytes_read, read_text, site_of}
use Rattle.c_calls.specs.{Batch.Ascend, Batch.pieces, Verdicts.IsRow, Verdicts.LinesFit}
use Rattle.c_calls.specs.{declared.reading.OpenRobot.OpenRobot}
use Rattle.c_calls.specs.Status.{IsWhyNoRobot, IsWhyNoVerdict, error_of}
use Rattle.c_calls.specs.Verdicts.{IsVerdictOn, number_of, HasVerdict, AreRows, items_in, no_verdict}
use Rattle.std.proofs.lemmas.List.Elements.{All-cons, All-head, All-tail}
use Rattle.c_calls.specs.declared.error.Error.{Error, TheVariants.Memory, TheVariants.NotUtf8}

-- ---- A number encodes a verdict and its deciding line, and it fits in an `i64`.

pub zip_append : {A B : Type 0} (R : A → B → Type 0) (xs more : List A) (ys others : List B)
    → AllZip R xs ys → AllZip R more others → AllZip R (xs ++ more) (ys ++ others)
zip_append R [] more [] others are too = too
zip_append R [] more (y ∷ ys) others are too = absurd are
zip_append R (x ∷ xs) more [] others are too = absurd are
zip_append R (x ∷ xs) more (y ∷ ys) others (first, later) too =
    (first, zip_append R xs more ys others later too)

pub by_lines : (site : List ℕ) (P : List LineValue → Type 0) → HasLines site P → P (file_lines site)
by_lines site P is =
    lines_satisfy site P is (file_lines site) ((each_text_has_its_lines (map nul_as_lf site) _).1 refl)

pub why_rejected : {X : Type 0} (r : Result X Error) (agent site : List ℕ) (why : RobotError)
    → IsErrAnd r (λ error. error ≡ error_of why) → IsUtf8 agent → IsRejectionOf agent site why
    → IfErr r (IsWhyNoRobot agent site)
why_rejected (Ok x) agent site why same utf8 is = absurd same
why_rejected (Err error) agent site (rejection.Overlong line) same utf8 is = rw same (utf8, is.1)
why_rejected (Err error) agent site rejection.Memory same utf8 is = rw same utf8

lines_counted : (text : List ℕ) → length (file_lines text) ≤ length text
lines_counted text = omega (arith, parsed_within (map nul_as_lf text), length-map text nul_as_lf)

as_many_entries : (entries : List rfc.Entry) → length (from_first_token entries) ≡ length entries
as_many_entries [] = refl
as_many_entries (rfc.Agent token ∷ entries) = refl
as_many_entries (_ ∷ entries) = omega (arith, as_many_entries entries)

few_of_file : (file : List ℕ) → HasFewLines (bytes_read file)
few_of_file file = omega (arith, lines_counted (bytes_read file), length-take file_limit file)

pub few_lines : (by_rfc9309 : Bool) (file : List ℕ) → HasFewLines (read_text (site_of by_rfc9309 file))
few_lines false file = few_of_file file
few_lines true file =
    -- the text has one line for each line of the file
    let read = bytes_read file in
    omega (
      arith,
      ap length (text_read read) ∙ length-map (from_first_token (entries_in read)) value_for,
      as_many_entries (entries_in read) ∙ length-map (file_bodies read) entry_of,
      length-map (file_bodies read) line_of,
      few_of_file file,
    )

pub text_lines_fit : (text agent : List ℕ) (robot : RobotValue) → HasFewLines text
    → IsRobotWithoutSitemaps agent text robot → LinesFit robot.rules
text_lines_fit text agent robot few (none, sitemaps, of) target line decides =
    let lines = file_lines text in
    let is = by_lines text (λ lines. IsRobotOf agent lines _) of in
    let (placed, deciding, at, place, number, held) =
    deciding_line_holds_its_rule agent lines robot.rules target line is.rules decides in
    let below : place < length lines = slice_get_within lines place _ held.line.0 in
    (omega (arith, number), omega (arith, number, below, few))

pub lines_fit : (robot : OpenRobot) → IsRobotOfSomeFile robot → LinesFit robot.robot.rules
lines_fit robot (agent, site, (by_rfc9309, file, same), is) =
    text_lines_fit (read_text site) agent robot.robot (rw same (few_lines by_rfc9309 file)) is.rules

-- ---- The number encodes the decision.

line_says : (rules : List PlacedRule) (target : List ℕ) (allowed : Bool) (line : ℕ) → 0 < line
    → IsVerdict (unplaced rules) target allowed
    → IsDecidingLine rules target (Some line) → IsVerdictOn rules target (number_of allowed (Some line))
line_says rules target allowed zero some verdict decides = absurd (omega (arith, some))
line_says rules target true (suc line) some verdict decides = record { verdict = verdict; deciding = decides }
line_says rules target false (suc line) some verdict decides =
    record { verdict = verdict; deciding = decides }

pub number_says : (rules : List PlacedRule) (target : List ℕ) (allowed : Bool) (line : Option ℕ)
    → LinesFit rules → IsVerdict (unplaced rules) target allowed
    → IsDecidingLine rules target line → IsVerdictOn rules target (number_of allowed line)
number_says rules target allowed None fit verdict decides =
    record { verdict = no_line_allows rules target decides; deciding = decides }
number_says rules target allowed (Some line) fit verdict decides =
    line_says rules target allowed line (fit target line decides).0 verdict decides

pub written_says : (rules : List PlacedRule) (target : List ℕ) (allowed : Bool) (line : Option ℕ)
    → LinesFit rules → IsVerdict (unplaced rules) target allowed → IsDecidingLine rules target line
    → (number : ℤ) → number ≡ number_of allowed line → SFits w64 number
    → IsVerdictOn rules target (to_z w64 (of_z w64 number))
written_says rules target allowed line fit verdict decides number is fits =
    rw (to_z-of_z w64 number fits, is) (number_says rules target allowed line fit verdict decides)

pub line_below : (rules : List PlacedRule) (text : List ℕ) (line : Option ℕ) → LinesFit rules
    → IsDecidingLine rules text line → IfSome line (λ line. line < 2 ^ 63)
line_below rules text None fit decides = tt
line_below rules text (Some line) fit decides = (fit text line decides).1

-- ---- URLs in one text, each with the place where it ends: what a loop over these places keeps.

-- these places ascend if and only if all do
pub record SameAscent (ends : List ℕ) (limit least : ℕ) (left : List ℕ) : Type 0 where
  pub all : Ascend least left limit → Ascend 0 ends limit
  pub these : Ascend 0 ends limit → Ascend least left limit

pub record SameUtf8 (text ends : List ℕ) (start : ℕ) (left : List ℕ) : Type 0 where
  pub ascend : Ascend start left (length text)
  pub all : All IsUtf8 (pieces text start left) → All IsUtf8 (pieces text 0 ends)
  pub these : All IsUtf8 (pieces text 0 ends) → All IsUtf8 (pieces text start left)

pub next_utf8 : (text ends : List ℕ) (start end : ℕ) (left : List ℕ) → SameUtf8 text ends start (end ∷ left)
    → IsUtf8 (take (end - start) (drop start text)) → SameUtf8 text ends end left
next_utf8 text ends start end left same is = record {
  ascend = same.ascend.2;
  all = λ later. same.all (All-cons IsUtf8 _ _ is later);
  these = λ whole. All-tail IsUtf8 _ _ (same.these whole);
}

pub not_utf8 : (text ends : List ℕ) (start end : ℕ) (left : List ℕ) → SameUtf8 text ends start (end ∷ left)
    → ¬ IsUtf8 (take (end - start) (drop start text)) → ¬ All IsUtf8 (pieces text 0 ends)
not_utf8 text ends start end left same refused whole = refused (All-head IsUtf8 _ _ (same.these whole))

-- with the verdicts for the URLs that are left, they are the verdicts for all URLs
pub record SoFar (robot : OpenRobot) (text ends : List ℕ) (start : ℕ) (left : List ℕ)
    (numbers : List ℤ) : Type 0 where
  pub ascend : Ascend start left (length text)
  pub utf8 : All IsUtf8 (pieces text start left)
  pub verdicts : (later : List ℤ) → AllZip (HasVerdict robot) (pieces text start left) later
      → AllZip (HasVerdict robot) (pieces text 0 ends) (numbers ++ later)

pub one_more_end : (robot : OpenRobot) (text ends : List ℕ) (start end : ℕ) (left : List ℕ)
    (numbers : List ℤ) (number : ℤ) → SoFar robot text ends start (end ∷ left) numbers
    → HasVerdict robot (take (end - start) (drop start text)) number
    → SoFar robot text ends end left (numbers ++ number ∷ [])
one_more_end robot text ends start end left numbers number so has = record {
  ascend = so.ascend.2;
  utf8 = All-tail IsUtf8 _ _ so.utf8;
  verdicts = λ later are. subst (AllZip (HasVerdict robot) (pieces text 0 ends))
      (sym (append_assoc numbers (number ∷ []) later)) (so.verdicts (number ∷ later) (has, are));
}

pub all_so_far : (robot : OpenRobot) (text ends : List ℕ) (start : ℕ) (numbers : List ℤ)
    → SoFar robot text ends start [] numbers → AllZip (HasVerdict robot) (pieces text 0 ends) numbers
all_so_far robot text ends start numbers so =
    subst (AllZip (HasVerdict robot) (pieces text 0 ends)) (append-nil numbers) (so.verdicts [] tt)

pub count_pieces : (text : List ℕ) (start : ℕ) (ends : List ℕ) → length (pieces text start ends) ≡ length ends
count_pieces text start [] = refl
count_pieces text start (end ∷ ends) = omega (arith, count_pieces text end ends)

pub only_memory : (url : List ℕ) (error : Error) → IsUtf8 url → IsWhyNoVerdict url error → error ≡ Memory
only_memory url NotUtf8 is why = absurd (why is)
only_memory url Memory is why = refl
only_memory url _ is why = absurd why

-- ---- The rows of the verdicts of many crawlers.

pub one_more_mapped : {A B C : Type 0} (f : A → C) (g : B → C) (xs : List A) (at : ℕ) (x : A) (ys : List B)
    (y : B) → at < length xs → map g ys ≡ map f (take at xs) → g y ≡ f (slice_index_or xs at x)
    → map g (ys ++ y ∷ []) ≡ map f (take (at + 1) xs)
one_more_mapped f g xs at x ys y below are is =
    map_push g ys y
    ∙ ap (λ zs. zs ++ g y ∷ []) are ∙ ap (λ z. map f (take at xs) ++ z ∷ []) is
    ∙ sym (ap (map f) (take_more xs at x below) ∙ map_push f (take at xs) (slice_index_or xs at x))

pub one_more_target : {A B C : Type 0} (R : C → B → Type 0) (f : A → C) (xs : List A) (at : ℕ) (x : A)
    (ys : List B) (y : B) → at < length xs → AllZip R (map f (take at xs)) ys
    → R (f (slice_index_or xs at x)) y → AllZip R (map f (take (at + 1) xs)) (ys ++ y ∷ [])
one_more_target R f xs at x ys y below are is =
    rw (take_more xs at x below, map_push f (take at xs) (slice_index_or xs at x))
    (zip_append R _ _ ys (y ∷ []) are (is, tt))

rows_append : (site : List ℕ) (targets : List (List ℕ)) (agents more : List (List ℕ)) (rows others : List ℤ)
    → AreRows site targets agents rows → AreRows site targets more others
    → AreRows site targets (agents ++ more) (rows ++ others)
rows_append site targets [] more rows others are too = rw are too
rows_append site targets (agent ∷ agents) more rows others (row, later, is, are, whole) too = (
  row,
  later ++ others,
  is,
  rows_append site targets agents more later others are too,
  rw whole (append_assoc row later others),
)

pub one_more_row : {X : Type 0} (site : List ℕ) (targets : List (List ℕ)) (f : X → List ℕ) (agents : List X)
    (at : ℕ) (agent : X) (rows row : List ℤ) → at < length agents
    → AreRows site targets (map f (take at agents)) rows
    → IsRow site targets (f (slice_index_or agents at agent)) row
    → AreRows site targets (map f (take (at + 1) agents)) (rows ++ row)
one_more_row site targets f agents at agent rows row below are is =
    rw (take_more agents at agent below, map_push f (take at agents) (slice_index_or agents at agent))
    (rows_append site targets _ _ rows row are (row, [], is, refl, sym (append-nil row)))

row_length : (site : List ℕ) (targets : List (List ℕ)) (agent : List ℕ) (row : List ℤ)
    → IsRow site targets agent row → length row ≡ length targets
row_length site targets agent row (inl (robot, of, are)) =
    AllZip-long (IsVerdictOn robot.rules) targets row are
row_length site targets agent row (inr (rejected, is)) = ap length is
    ∙ length-replicate (length targets) no_verdict

pub rows_length : (site : List ℕ) (targets agents : List (List ℕ)) (numbers : List ℤ)
    → AreRows site targets agents numbers → length numbers ≡ length agents * length targets
rows_length site targets [] numbers are = omega (arith, ap length are)
rows_length site targets (agent ∷ agents) numbers (row, later, is, are, whole) =
    omega (
      arith,
      ap length whole ∙ length-append row later,
      row_length site targets agent row is,
      rows_length site targets agents later are,
    )

pub as_many_rows : (site : List ℕ) (target : List ℕ → List ℕ) (targets : List (List ℕ)) (agents urls : List ℕ)
    (numbers : List ℤ) → AreRows site targets (items_in agents) numbers
    → targets ≡ map target (items_in urls)
    → length numbers ≡ length (items_in agents) * length (items_in urls)
as_many_rows site target targets agents urls numbers are targets_are =
    rows_length site targets (items_in agents) numbers are
    ∙ ap (λ n. length (items_in agents) * n) (ap length targets_are ∙ length-map (items_in urls) target)

abbrev star : List ℕ
star = codes "*"

same_if : (b : Bool) (name : List ℕ) → cond b name name ≡ name
same_if true name = refl
same_if false name = refl

starred : (agent : List ℕ) (lines : List LineValue) → is_named agent lines ≡ false
    → group_name star lines ≡ group_name agent lines
starred agent lines unnamed =
    same_if (list_any (is_agent_named star) lines) star
    ∙ sym (ap (λ b. cond b (str_to_ascii_lowercase agent) star) unnamed)

same_rejected : (agent other : List ℕ) (lines : List LineValue)
    → group_name agent lines ≡ group_name other lines → IsRejected agent lines → IsRejected other lines
same_rejected agent other lines same (place, rule, holds, overlong) = (
  place,
  rule,
  record {
    value = holds.value;
    line = (holds.line.0, subst (λ name. IsCaptured name lines place) same holds.line.1);
    utf8 = holds.utf8;
    pattern = holds.pattern;
  },
  overlong,
)

pub shared_row : (site : List ℕ) (targets : List (List ℕ)) (agent : List ℕ) (row : List ℤ)
    → is_named agent (file_lines site) ≡ false → IsRow site targets star row → IsRow site targets agent row
shared_row site targets agent row unnamed (inl (robot, of, are)) =
    inl (
      robot,
      has_lines site (λ lines. IsRobotOf agent lines robot)
          (same_group_robot star agent (file_lines site) robot (starred agent (file_lines site) unnamed)
          (by_lines site (λ lines. IsRobotOf star lines robot) of)),
      are,
    )
shared_row site targets agent row unnamed (inr (rejected, is)) =
    inr (
      has_lines site (IsRejected agent)
          (same_rejected star agent (file_lines site) (starred agent (file_lines site) unnamed)
          (by_lines site (IsRejected star) rejected)),
      is,
    )
