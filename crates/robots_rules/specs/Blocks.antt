-- Files from which rules or lines are deleted.
use Rattle.std.specs.Prelude.{◌≡◌, ℕ, ◌+◌, Bool, true, false, not, ◌&&◌, ◌||◌, List, [], ◌∷◌, Option, Some}
use Rattle.std.specs.Prelude.{None, if◌then◌else◌, ◌≢◌, ◌⊎◌, ◌↔◌, ◌==◌, ◌++◌, map}
use Rattle.std.specs.{Option.option_map_or, List.concat, List.list_any}
use Rattle.texting_robots.specs.{Group.is_agent, Line.LineValue, Cut.IsCut, Cut.Pair, Line.without_bom}
use Rattle.robots_rules.specs.{declared.blocks.Block.Block}
use Rattle.texting_robots.specs.Callers.{IsFileRejected, IsRobotOfFile, IsVerdict, RobotValue, file_bodies}
use Rattle.texting_robots.specs.Callers.{file_lines, nul_as_lf, unplaced}
use Rattle.robots_rules.specs.declared.needless.{NeedlessRule.NeedlessRule}
use Rattle.robots_rules.specs.Needless.{AreDeletable, lines_without, numbers_of}
pub use Rattle.robots_rules.specs.Needless.{is_rule}

-- ---- Blocks of a file from which rules are removed: the members of a group. At crawlers that ignore delays,
-- user-agent lines above a delay alone would join the next group.

abbrev pub no_rule : Block
no_rule = record { is_lost = false; has_rule = false }

-- the rule is removed or stays
abbrev pub with_rule : Block → Bool → Block
with_rule block gone =
    record { is_lost = gone && not block.has_rule; has_rule = not gone || block.has_rule }

-- none if a line is removed that isn't a rule, or all rules above a user-agent line are
abbrev pub block_after : Block → Bool → LineValue → Option Block
block_after block gone line =
    if is_rule line then Some (with_rule block gone)
    else if gone then None
    else if is_agent line then (if block.is_lost then None else Some no_rule)
    else Some block

-- each block that has rules keeps one among the lines that are left
abbrev pub keep_blocks_from : (ℕ → Bool) → Block → ℕ → List LineValue → Bool
keep_blocks_from gone block position [] = not block.is_lost
keep_blocks_from gone block position (line ∷ lines) =
    option_map_or (λ (next : Block). keep_blocks_from gone next (position + 1) lines)
    (block_after block (gone (position + 1)) line) false

abbrev pub KeepBlocks : (ℕ → Bool) → List LineValue → Type 0
KeepBlocks gone lines = keep_blocks_from gone no_rule 0 lines ≡ true

-- the lines that are left of those from a position on
abbrev pub left_from : {A : Type 0} → (ℕ → Bool) → ℕ → List A → List A
left_from gone position [] = []
left_from gone position (line ∷ lines) =
    if gone (position + 1) then left_from gone (position + 1) lines
    else line ∷ left_from gone (position + 1) lines

-- ---- A file from which lines are deleted, each with its line end.

-- the lines of the file, each with its line end: they are cut where the file is that has LF in place of NUL,
-- and joined, they are the file without its byte order mark
pub record AreWholeLines (whole : List (List ℕ)) (file : List ℕ) : Type 0 where
  pub pairs : List Pair
  pub is_cut : IsCut pairs (without_bom (map nul_as_lf file))
  pub read : map (λ line. map nul_as_lf line) whole ≡ map (λ pair. pair.body ++ pair.ending) pairs
  pub joined : concat whole ≡ without_bom file

-- what is left of the file if the lines with these numbers are deleted; its byte order mark stays, or is
-- deleted too
pub record IsLeftOf (numbers : List ℕ) (file left : List ℕ) : Type 0 where
  pub whole : List (List ℕ)
  pub lines : AreWholeLines whole file
  pub mark : List ℕ
  pub front : (mark ≡ []) ⊎ (mark ++ without_bom file ≡ file)
  pub rest : left ≡ mark ++ concat (lines_without numbers whole)

-- both robots have the same delay, sitemaps and verdicts
pub record AreAlike (robot other : RobotValue) : Type 0 where
  pub delay : robot.delay ≡ other.delay
  pub sitemaps : robot.sitemaps ≡ other.sitemaps
  pub verdicts : (text : List ℕ) (answer : Bool)
      → IsVerdict (unplaced robot.rules) text answer ↔ IsVerdict (unplaced other.rules) text answer

-- for this crawler, both files are rejected or neither is, and their robots are alike
pub record HaveSameRobot (agent file other : List ℕ) : Type 0 where
  pub rejection : IsFileRejected agent file ↔ IsFileRejected agent other
  pub robots : (one two : RobotValue) → IsRobotOfFile agent file one → IsRobotOfFile agent other two
      → AreAlike one two

-- the first of these contents begins with a byte of the byte order mark
abbrev pub begin_with_mark : List (List ℕ) → Bool
begin_with_mark [] = false
begin_with_mark ([] ∷ bodies) = false
begin_with_mark ((b ∷ body) ∷ bodies) = (b == 0xEF) || ((b == 0xBB) || (b == 0xBF))

-- The lines of the file with these numbers can be deleted together. They are rules, and each block that has
-- rules keeps one, as other parsers may ignore delays. The first line that stays doesn't begin with a byte of
-- the byte order mark, which isn't read at the start of a file.
pub record CanBeDeleted (numbers : List ℕ) (file : List ℕ) : Type 0 where
  pub lines : AreDeletable numbers (file_lines file)
  pub blocks : KeepBlocks (λ n. list_any (λ number. number == n) numbers) (file_lines file)
  pub front : begin_with_mark (lines_without numbers (file_bodies file)) ≡ false

-- the lines of the found rules, if any, can be deleted together
pub record AreFoundIn (file : List ℕ) (found : List NeedlessRule) : Type 0 where
  pub deletable : found ≢ [] → CanBeDeleted (numbers_of found) file
