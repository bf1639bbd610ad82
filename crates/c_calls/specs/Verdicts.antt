-- The numbers that C gets for URLs.
use Rattle.std.specs.Prelude.{◌≡◌, ◌⊎◌, ℕ, suc, zero, ◌-◌, ◌<◌, ◌==◌, ◌^◌, Bool, true, false, ℤ, pos, negsuc}
use Rattle.std.specs.Prelude.{neg_ℤ, IsUtf8, List, [], ◌∷◌, ◌++◌, length, map, replicate, Option, Some, None}
use Rattle.std.specs.Prelude.{is_some}
use Rattle.std.specs.List.{AllZip, slice_split}
use Rattle.texting_robots.specs.Callers.{IsDecidingLine, IsFileRejected, IsRobotOfFile, IsVerdict, PlacedRule}
use Rattle.texting_robots.specs.Callers.{RobotValue, unplaced}
use Rattle.c_calls.specs.{File.read_text, File.target_in, Text.IsPutIn}
use Rattle.c_calls.specs.declared.reading.{OpenRobot.OpenRobot, OpenSite.OpenSite}

abbrev pub lf : ℕ
lf = 10

-- separated by LF: their number is that of the LFs plus 1
abbrev pub items_in : List ℕ → List (List ℕ)
items_in text = slice_split (λ byte. byte == lf) text

-- a number of 0 or more means "allowed"
abbrev pub is_allowed : ℤ → Bool
is_allowed (pos n) = true
is_allowed (negsuc n) = false

-- 0 means that no line decides, and n and -n mean line n
abbrev pub line_named : ℤ → Option ℕ
line_named (pos zero) = None
line_named (pos (suc n)) = Some (suc n)
line_named (negsuc n) = Some (suc n)

-- the rules' verdict on the match target, and the line that decides
pub record IsVerdictOn (rules : List PlacedRule) (target : List ℕ) (number : ℤ) : Type 0 where
  pub verdict : IsVerdict (unplaced rules) target (is_allowed number)
  pub deciding : IsDecidingLine rules target (line_named number)

abbrev pub IsVerdictFor : OpenRobot → List ℕ → ℤ → Type 0
IsVerdictFor robot url number = IsVerdictOn robot.robot.rules (target_in robot.by_rfc9309 url) number

abbrev pub HasVerdict : OpenRobot → List ℕ → ℤ → Type 0
HasVerdict robot url number = IsUtf8 url × IsVerdictFor robot url number

abbrev pub HasVerdicts : OpenRobot → List ℕ → List ℤ → Type 0
HasVerdicts robot text numbers = IsUtf8 text × AllZip (IsVerdictFor robot) (items_in text) numbers

-- numbers with the property P are written to the start of the buffer, in order
abbrev pub ArePutIn : (List ℤ → Type 0) → List ℤ → List ℤ → Type 0
ArePutIn P old new = (numbers : List ℤ) × P numbers × IsPutIn old new numbers

-- ---- The verdicts of many crawlers: a row for each crawler with a number for each URL

-- the number in the row of a crawler for which the text is rejected
abbrev pub no_verdict : ℤ
no_verdict = negsuc (2 ^ 63 - 1)

-- the crawler's verdicts for the match targets, in order; or the text is rejected for it, and there are none
abbrev pub IsRow : List ℕ → List (List ℕ) → List ℕ → List ℤ → Type 0
IsRow read targets agent row =
    ((robot : RobotValue) × IsRobotOfFile agent read robot × AllZip (IsVerdictOn robot.rules) targets row)
    ⊎ (IsFileRejected agent read × (row ≡ replicate (length targets) no_verdict))

abbrev pub AreRows : List ℕ → List (List ℕ) → List (List ℕ) → List ℤ → Type 0
AreRows read targets [] numbers = numbers ≡ []
AreRows read targets (agent ∷ agents) numbers =
    (row : List ℤ) × (later : List ℤ) × IsRow read targets agent row × AreRows read targets agents later
    × (numbers ≡ row ++ later)

-- the rows of the crawlers for the URLs, all in order
pub record HasMatrix (site : OpenSite) (agents urls : List ℕ) (numbers : List ℤ) : Type 0 where
  pub agents_utf8 : IsUtf8 agents
  pub urls_utf8 : IsUtf8 urls
  pub rows : AreRows (read_text site) (map (target_in (is_some site.text)) (items_in urls)) (items_in agents)
      numbers

abbrev pub number_of : Bool → Option ℕ → ℤ
number_of allowed None = pos 0
number_of true (Some line) = pos line
number_of false (Some line) = neg_ℤ (pos line)

-- the number of each deciding line is positive and fits in an `i64`
abbrev pub LinesFit : List PlacedRule → Type 0
LinesFit rules =
    (text : List ℕ) (line : ℕ) → IsDecidingLine rules text (Some line) → (0 < line) × (line < 2 ^ 63)
