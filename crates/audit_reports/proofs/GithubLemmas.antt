-- Workflow commands are single lines without control or bidirectional-formatting characters, and without
-- `##[`.
use Rattle.std.specs.Prelude.{◌||◌, not}
use Rattle.std.proofs.Common.{◌≡◌, ℕ, ◌==◌, Bool, true, List, [], ◌∷◌, arith, flat_map, map, refl}
use Rattle.std.specs.List.{AllByRecursion as Each, list_all}
use Rattle.std.proofs.{lemmas.Bool.Decides.nat_tests, lemmas.List.Folds.list_all-append}
use Rattle.safe_output.specs.Sanitize.{IsPrintable, sanitized}
use Rattle.safe_output.proofs.SanitizeLemmas.{ended_printable, sanitized_printable}
use Rattle.audit_core.specs.{declared.findings.Finding.Finding}
use Rattle.audit_reports.specs.Github.{command, command_of, escaped_byte, github_text, is_in_property}
use Rattle.audit_reports.specs.Github.{property_text}

flat_all : (test : ℕ → Bool) (f : ℕ → List ℕ) → ((b : ℕ) → list_all test (f b) ≡ true) → (text : List ℕ)
    → list_all test (flat_map f text) ≡ true
flat_all test f are [] = refl
flat_all test f are (b ∷ text) = rw (list_all-append, are b) (flat_all test f are text)

pub property_inside : (text : List ℕ) → is_in_property (property_text text) ≡ true
property_inside =
    flat_all (λ b. not (b == 13 || b == 10 || b == 58 || b == 44)) (escaped_byte true)
    (λ b. grind (arith, nat_tests))

commands_printable : (file : List ℕ) (found : List Finding) → Each IsPrintable (map (command file) found)
commands_printable file [] = tt
commands_printable file (finding ∷ found) =
    (sanitized_printable (command_of file finding), commands_printable file found)

pub github_printable : (file : List ℕ) (found : List Finding) → IsPrintable (github_text file found)
github_printable file found =
    ended_printable (map (command (sanitized file)) found) (commands_printable (sanitized file) found)
