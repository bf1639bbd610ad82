-- The robot of a file in the standard's grammar has the rules, the delay and the sitemaps that the file
-- states. A file in the standard's own grammar is also one in the extended grammar.
use Rattle.std.specs.{Prelude.take, List.AllZip}
use Rattle.std.proofs.Common.{inl, ℕ, List, [], refl, sym, subst, append-nil, ◌≡◌, ◌∷◌, filter, map, ◌∙◌}
use Rattle.texting_robots.specs.Executable.{delay_for, file_lines, placed_rules, rules_for}
use Rattle.texting_robots.specs.Robot.{IsFileRejected, IsRobotOf, IsRobotOfFile, RobotValue, file_limit}
use Rattle.texting_robots.specs.{Line.AreFileLinesOf, Trim.IsTrimOf}
use Rattle.texting_robots.proofs.Shared.{delay_is_computed, sitemaps_are_computed, rejection_is_computed}
use Rattle.texting_robots.proofs.Shared.{rules_are_computed, lines_satisfy, each_text_has_its_lines}
use Rattle.rfc9309.proofs.ReadLemmas.{file_same, file_sources, lines_in}
use Rattle.rfc9309.proofs.FileLemmas.{FileRead, file_read, file_with, sitemaps_are_read}
use Rattle.rfc9309.proofs.{GroupLemmas.delay_written, GroupLemmas.rules_written, EntryLemmas.robotstxt_lines}
use Rattle.rfc9309.proofs.{EntryLemmas.wide_lines, LineFormLemmas.forms_make_file, Sources.Parts}
use Rattle.rfc9309.specs.StandardRobot.{IsDelayAs, IsRejectedAs, IsRobotAs, delay_among, is_delay, IsReadAs}
use Rattle.rfc9309.specs.LineForms.{AreForms, Form}
use Rattle.rfc9309.specs.Rfc9309 as rfc

pub robotstxt_is_file : (text : List ℕ) (groups : List rfc.Group) → rfc.IsRobotstxt groups text
    → rfc.IsFile (rfc.merged groups) text
robotstxt_is_file text groups is =
    let by_lines = robotstxt_lines groups text is in (
      [],
      record {
        bom = [];
        rest = text;
        nl = [];
        whole = refl;
        is_bom = inl refl;
        is_nl = inl refl;
        is_content = subst (rfc.IsExtendedByLines [] (rfc.merged groups)) (sym (append-nil text)) (record {
          entries = by_lines.entries;
          are_lines = wide_lines by_lines.entries text by_lines.are_lines;
          above = by_lines.none_above;
          written = by_lines.written;
        });
      },
    )

pub rules_read : (text agent : List ℕ) (numbers : List (List ℕ)) (groups : List rfc.Group)
    → FileRead numbers groups text
    → AllZip IsReadAs (rfc.rules_for agent groups) (rules_for agent (file_lines text))
rules_read text agent numbers groups is =
    rw (← is.same, (file_same text agent).0.rules) (
    rules_written agent _ is.none is.read)

lines_are : (text : List ℕ) → AreFileLinesOf (file_lines text) text
lines_are text = (each_text_has_its_lines _ _).1 refl

all_delays : (numbers : List (List ℕ)) → filter is_delay (map rfc.Delay numbers) ≡ map rfc.Delay numbers
all_delays [] = refl
all_delays (number ∷ numbers) = rw (all_delays numbers)

pub robot_as : (agent text : List ℕ) (groups : List rfc.Group) (numbers addresses : List (List ℕ))
    (robot : RobotValue)
    → rfc.IsFileWith numbers groups text → rfc.ListsSitemaps addresses text → IsRobotOfFile agent text robot
    → IsRobotAs agent groups numbers addresses robot
robot_as agent text groups numbers addresses robot file lists is =
    let lines = file_lines text in
    let read = file_with text numbers groups file in
    let has = lines_satisfy text (λ lines. IsRobotOf agent lines robot) is lines (lines_are text) in
    let delay : robot.delay ≡ delay_for agent (lines_in (file_sources text)) =
    (delay_is_computed agent lines robot.delay).0 has.delay ∙ (file_same text agent).0.delay in
    let found = delay_for agent (lines_in (file_sources text)) in
    let among =
    subst (λ (p : Parts). IsDelayAs (delay_among agent p.groups (filter is_delay p.ungrouped)) found)
    read.parts
    (delay_written agent (file_sources text) read.read) in
    record {
      rules = (
        placed_rules agent lines,
        (rules_are_computed agent lines robot.rules).0 has.rules,
        rules_read text agent numbers groups read,
      );
      delay =
          rw delay (
          subst (λ above. IsDelayAs (delay_among agent groups above) found) (all_delays numbers) among);
      sitemaps =
          subst (λ sitemaps. AllZip IsTrimOf sitemaps addresses)
          (sym ((sitemaps_are_computed lines robot.sitemaps).0 has.sitemaps))
          (sitemaps_are_read text addresses lists);
    }

pub rejected_as : (agent text : List ℕ) (groups : List rfc.Group) → rfc.IsFile groups text
    → IsFileRejected agent text → IsRejectedAs agent groups
rejected_as agent text groups file rejected =
    let lines = file_lines text in
    let (numbers, read) = file_read text groups file in (
      rules_for agent lines,
      rules_read text agent numbers groups read,
      (rejection_is_computed agent lines).0
          (lines_satisfy text _ rejected lines (lines_are text)),
    )

pub forms_robot : (agent file : List ℕ) (forms : List Form) (robot : RobotValue)
    → AreForms forms (take file_limit file) → IsRobotOfFile agent (take file_limit file) robot
    → (groups : List rfc.Group) × (numbers : List (List ℕ)) × (addresses : List (List ℕ))
    × rfc.IsFileWith numbers groups (take file_limit file)
    × rfc.ListsSitemaps addresses (take file_limit file)
    × IsRobotAs agent groups numbers addresses robot
forms_robot agent file forms robot are is =
    let text = take file_limit file in
    let (groups, (numbers, made)) = forms_make_file text forms are in
    let (addresses, lists) = (file_with text numbers groups made).lists in (
      groups,
      numbers,
      addresses,
      made,
      lists,
      robot_as agent text groups numbers addresses robot made lists is,
    )
