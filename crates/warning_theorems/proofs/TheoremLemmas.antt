-- Needless rules can be deleted together.
use Rattle.std.proofs.Common.{ap, ◌≢◌, ℕ, ◌≤◌, ◌↔◌, Bool, List, [], ◌∷◌, IsUtf8}
use Rattle.std.proofs.Common.{arith, length, ltb-false, subst, subst₂, sym, take, take_all}
use Rattle.std.proofs.lemmas.Bool.{false_from_ne_true}
use Rattle.texting_robots.specs.Callers.{IsVerdict, LineValue}
use Rattle.texting_robots.specs.Callers.{file_limit, file_lines, rules_for}
use Rattle.robots_rules.specs.Blocks.{AreFoundIn, CanBeDeleted, HaveSameRobot, IsLeftOf}
use Rattle.robots_rules.specs.Needless.{AreDeletable, MeanTheSame, NeedlessValue, lines_without, numbers_of}
use Rattle.robots_rules.proofs.LeftLemmas.{left_within, same_robot}
use Rattle.robots_rules.proofs.{SettledLemmas.all_lines}
use Rattle.audit_core.specs.{Audit.AuditValue, Audit.IsAuditOf, Request.RequestValue}
use Rattle.robots_rules.specs.declared.needless.NeedlessRule.{NeedlessRule}
use Rattle.robots_warnings.specs.Facts.{is_too_large}

abbrev DecidesAlike : List LineValue → List NeedlessRule → List ℕ → Type 0
DecidesAlike lines found agent = (text : List ℕ) (answer : Bool)
    → IsVerdict (rules_for agent lines) text answer
    ↔ IsVerdict (rules_for agent (lines_without (numbers_of found) lines)) text answer

-- a crawler for which lines that can be deleted mean nothing
pub alike : (file : List ℕ) (found : List NeedlessRule) (agent : List ℕ) → AreFoundIn file found
    → ((numbers : List ℕ) → AreDeletable numbers (file_lines file)
    → MeanTheSame agent (file_lines file) (lines_without numbers (file_lines file)))
    → DecidesAlike (file_lines file) found agent
alike file [] agent are deleted text answer =
    let lines = file_lines file in
    subst (λ (left : List LineValue). IsVerdict (rules_for agent lines) text answer
    ↔ IsVerdict (rules_for agent left) text answer) (sym (all_lines 0 lines)) (λ is. is, λ is. is)
alike file (one ∷ more) agent are deleted text answer =
    (deleted (numbers_of (one ∷ more)) (are.deletable (λ none. cc)).lines).verdicts text answer

all_read : (requested : RequestValue) (file : List ℕ) (audit : AuditValue)
    (is : IsAuditOf requested file audit)
    → is.needless.rules ≢ [] → length file ≤ file_limit
all_read requested file audit is some =
    ltb-false file_limit (length file)
    (false_from_ne_true (is_too_large file)
    (λ large. some (ap (λ (needless : NeedlessValue). needless.rules) (is.too_large large))))

pub robot_stays : (requested : RequestValue) (file left : List ℕ) (audit : AuditValue) (agent : List ℕ)
    → (is : IsAuditOf requested file audit) → is.needless.rules ≢ []
    → IsLeftOf (numbers_of is.needless.rules) file left
    → IsUtf8 agent → HaveSameRobot agent (take file_limit file) (take file_limit left)
robot_stays requested file left audit agent is some deleted utf8 =
    let short = all_read requested file audit is some in
    let whole = take_all file_limit file short in
    let less = left_within (numbers_of is.needless.rules) file left deleted in
    let all_left = take_all file_limit left (omega arith) in
    subst₂ (HaveSameRobot agent) (sym whole) (sym all_left)
    (same_robot file left (numbers_of is.needless.rules)
    (subst (λ text. CanBeDeleted (numbers_of is.needless.rules) text) whole (is.needless_are.deletable some))
    deleted agent utf8)
