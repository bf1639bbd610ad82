use Rattle.std.proofs.Common.{◌∙◌, length-drop, arith}
use Rattle.texting_robots.specs.Internal.Cut.{body_len}
use Rattle.texting_robots.proofs.AgentLemmas.{line_advances, later_lines, passed_over}
use Rattle.texting_robots.proofs.parser.agents.after_others.Goals as goal

pub loop-rest-preserved : goal.loop-rest-preserved
loop-rest-preserved c =
    let i = c.loop-rest.invariant in
    let rest = c.loop-rest.rest.now in
    let short = length-drop 32 rest in
    let none = c.none_begins.ensures c.if-none_begins.true in
    rw c.split_at.ensures.back (record {
      some = omega (arith, short);
      within = omega (arith, short, i.within);
      same = λ name. passed_over name c.args.nul_ends 32 rest (omega arith) none ∙ i.same name;
    })

pub returns : goal.returns
returns c = record {
  shorter = grind (arith, line_advances, length-drop, c.loop-rest.invariant, c.loop-rest.rest.now);
  named = λ name.
      let i = c.loop-rest.invariant in
      let rest = c.loop-rest.rest.now in
      rw (c.after_end.ensures, c.split_at-2.ensures.back, c.body_len.ensures.value)
      (later_lines name c.args.nul_ends rest i.some ∙ i.same name);
}
