-- A text has no more lines than bytes.
use Rattle.std.proofs.Common.{ℕ, ◌+◌, ◌≤◌, List, [], ◌∷◌, arith, length, map}
use Rattle.std.proofs.lemmas.{Bool.cond_both, List.length-map}
use Rattle.texting_robots.specs.{Cut.Pair, Internal.Line.line_of, Executable.file_bodies, Executable.parsed}
use Rattle.texting_robots.specs.Line.{nul_as_lf, without, without_bom}
use Rattle.texting_robots.specs.Internal.Cut.{before_body, before_end, bodies_of, cut}
use Rattle.texting_robots.proofs.CutLemmas.{pair_of}

ended_at : (body ending : List ℕ) (later : List Pair)
    → length (before_end (pair_of body ending ∷ later)) ≤ length later + 2
ended_at body ending later = grind arith

end_adds : (pairs : List Pair) → length (before_end pairs) ≤ length pairs + 1
end_adds pairs = grind (arith, ended_at)

body_adds : (byte : ℕ) (pairs : List Pair) → length (before_body byte pairs) ≤ length pairs + 1
body_adds byte pairs = grind arith

cut_within : (text : List ℕ) → length (cut text) ≤ length text
unfolding cut
cut_within [] = omega arith
cut_within (byte ∷ text) = grind (arith, body_adds, cond_both, end_adds, cut_within text)

without_within : (byte : ℕ) (text : List ℕ) → length (without byte text) ≤ length text
without_within byte text = grind (arith, cond_both)

front_within : (text : List ℕ) → length (without_bom text) ≤ length text
front_within text = grind (arith, without_within)

pub bodies_within : (text : List ℕ) → length (bodies_of (without_bom text)) ≤ length text
bodies_within text = grind (arith, cut_within, front_within, length-map)

pub file_bodies_within : (text : List ℕ) → length (file_bodies text) ≤ length text
file_bodies_within text =
    omega (arith, bodies_within (map nul_as_lf text), length-map text nul_as_lf)

pub parsed_within : (text : List ℕ) → length (parsed text) ≤ length text
parsed_within text =
    omega (arith, length-map (bodies_of (without_bom text)) line_of, bodies_within text)
