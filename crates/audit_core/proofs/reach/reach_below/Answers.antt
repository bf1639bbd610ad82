use Rattle.std.proofs.Common.{◌≡◌, [], arith, filter, length, map}
use Rattle.audit_core.specs.Reach.{is_long_allow}
use Rattle.audit_core.proofs.AuditLemmas.{nil_if_empty}
use Rattle.audit_core.proofs.ReachLemmas.{fetches_listed, fetches_nothing, line_of}
use Rattle.audit_core.proofs.reach.reach_below.Goals as goal

pub returns-then-is_empty : goal.returns-then-is_empty
returns-then-is_empty c =
    let lines = c.in_ok-lines.lines.items in
    let closing = c.args.closing.now in
    let rules = c.args.rules.now in
    let are : lines ≡ map line_of (filter (is_long_allow (length closing.rule.0)) rules) = grind (arith) in
    let none : lines ≡ [] = grind (arith, nil_if_empty) in
    fetches_nothing rules closing lines c.requires.listed c.requires.closing are none

pub returns : goal.returns
returns c =
    let lines = c.in_ok-lines.lines.items in
    let closing = c.args.closing.now in
    let rules = c.args.rules.now in
    let are : lines ≡ map line_of (filter (is_long_allow (length closing.rule.0)) rules) = grind (arith) in
    fetches_listed rules closing lines c.requires.listed c.requires.closing are
