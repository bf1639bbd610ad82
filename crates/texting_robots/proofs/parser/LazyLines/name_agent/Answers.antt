use Rattle.std.proofs.Common.{◌∙◌, ◌||◌, map, sym, ap, arith}
use Rattle.std.proofs.lemmas.{Bool.Decides.nat_tests, List.nil_from_length}
use Rattle.std.specs.{List.list_any, Str.str_to_ascii_lowercase}
use Rattle.texting_robots.{specs.Group.is_agent_named, proofs.AgentLemmas.none_named}
use Rattle.texting_robots.specs.Internal.{Cut.read_as, Line.line_of, Line.lines_of}
use Rattle.texting_robots.proofs.parser.LazyLines.name_agent.Goals as goal

pub returns-then-names : goal.returns-then-names
returns-then-names c = grind (arith, c.if-names.true)

pub loop-rest-preserved : goal.loop-rest-preserved
loop-rest-preserved c =
    let name = str_to_ascii_lowercase c.args.agent.now in
    let names = is_agent_named name in
    let after = read_as c.self-inside.inside.0.0.nul_ends c.split_line.result.1.now in
    let later = list_any names (lines_of after) in
    let first = ap names (sym c.new.ensures) ∙ sym c.names.ensures ∙ c.if-names.false in
    c.without_others-rest.ensures.named name ∙ ap (λ x. x || later) (sym first)
    ∙ sym (ap (λ bodies. list_any names (map line_of bodies)) c.split_line.ensures.lines)
    ∙ c.loop-rest.invariant

pub returns : goal.returns
returns c =
    let n = c.self-inside.inside.0.0.nul_ends in
    let name = str_to_ascii_lowercase c.args.agent.now in
    let none = nil_from_length c.loop-rest.rest.now
    (grind (arith, nat_tests, c.is_empty.ensures, c.loop-rest-test.false)) in
    sym (ap (λ text. list_any (is_agent_named name) (lines_of (read_as n text))) none ∙ none_named name)
    ∙ c.loop-rest.invariant
