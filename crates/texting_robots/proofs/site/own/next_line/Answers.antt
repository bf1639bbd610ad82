use Rattle.std.proofs.Common.{ap, arith, drop, length, map, sym, ◌∙◌}
use Rattle.std.proofs.lemmas.{List.length-map, Option.slice_get_past}
use Rattle.std.specs.{Str.str_to_ascii_lowercase}
use Rattle.texting_robots.specs.Internal.Site.{named_of, tag_at}
use Rattle.texting_robots.proofs.SiteNameLemmas.{agent_at}
use Rattle.texting_robots.proofs.SiteOwnLemmas.{at_end, first_kept, next_group, same_group}
use Rattle.texting_robots.proofs.site.own.next_line.Goals as goal

pub loop-line-init : goal.loop-line-init
loop-line-init c = grind arith

pub returns-in-Some : goal.returns-in-Some
returns-in-Some c = grind (arith, c.in-Some.ensures)

pub returns-in_err-named : goal.returns-in_err-named
returns-in_err-named c =
    let name = str_to_ascii_lowercase c.args.name.now in
    let tags = map (tag_at c.args.text.now) c.args.lines.now in
    let (_, _, _, past, _) = c.in_err-named.ensures.lookup in
    let none = slice_get_past c.args.names.now c.loop-line.name_index
    (omega (arith, past, length-map c.lines.result.now named_of, ap length c.lines.ensures)) in
    rw c.from_residual.ensures (sym c.loop-line.invariant.left
    ∙ at_end name c.loop-line.group c.loop-line.name_index c.args.names.now tags (drop c.loop-line.at tags)
    none
    c.in_default.ensures)

pub after-name_index-requires-clause-here : goal.after-name_index-requires-clause-here
after-name_index-requires-clause-here c = c.loop-line.invariant.first

pub loop-line-preserved-then-named-group : goal.loop-line-preserved-then-named-group
loop-line-preserved-then-named-group c =
    let name = str_to_ascii_lowercase c.args.name.now in
    let tags = map (tag_at c.args.text.now) c.args.lines.now in
    let (_, is, _, (within, _), _) = c.in_ok-named.ensures.lookup in
    let at = agent_at c.lines.result.now c.args.names.now c.loop-line.name_index _ c.lines.ensures within
    is in
    record {
      left = next_group name c.loop-line.group c.loop-line.name_index c.after-name_index.result
          c.args.names.now tags
          (drop c.loop-line.at tags) _ at c.loop-line.invariant.first c.requires.1 c.if-named-group.true
          c.in_default.ensures c.after-name_index.ensures ∙ c.loop-line.invariant.left;
      first = first_kept name c.loop-line.name_index c.after-name_index.result c.args.names.now
          c.after-name_index.ensures;
    }

pub loop-line-preserved : goal.loop-line-preserved
loop-line-preserved c =
    let name = str_to_ascii_lowercase c.args.name.now in
    let tags = map (tag_at c.args.text.now) c.args.lines.now in
    let (_, is, _, (within, _), _) = c.in_ok-named.ensures.lookup in
    let at = agent_at c.lines.result.now c.args.names.now c.loop-line.name_index _ c.lines.ensures within
    is in
    record {
      left = same_group name c.loop-line.group c.loop-line.name_index c.after-name_index.result
          c.args.names.now tags
          (drop c.loop-line.at tags) _ at c.if-named-group.false c.after-name_index.ensures
          ∙ c.loop-line.invariant.left;
      first = first_kept name c.loop-line.name_index c.after-name_index.result c.args.names.now
          c.after-name_index.ensures;
    }
