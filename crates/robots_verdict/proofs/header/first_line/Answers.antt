use Rattle.std.proofs.Common.{◌+◌, ◌-◌, ◌≡◌, add-one, arith, drop, length, sym, take}
use Rattle.std.proofs.lemmas.List.{length-drop, take_all}
use Rattle.robots_verdict.proofs.InputLemmas.{line_found, line_none}
use Rattle.robots_verdict.proofs.header.first_line.Goals as goal

pub returns-in-Some-clause-line : goal.returns-in-Some-clause-line
returns-in-Some-clause-line c =
    let input = c.args.input.now in
    let from = c.in-Some.end + 1 in
    let all : take (length input - from) (drop from input) ≡ drop from input =
    grind (arith, length-drop, take_all) in
    rw (c.without_cr.ensures, all, add-one) (sym (line_found _ input c.in-Some.end c.in-Some.ensures))

pub returns-in-Some-clause-shorter : goal.returns-in-Some-clause-shorter
returns-in-Some-clause-shorter c = grind arith

pub returns-in-None-clause-line : goal.returns-in-None-clause-line
returns-in-None-clause-line c = line_none _ c.args.input.now c.in-None.ensures
