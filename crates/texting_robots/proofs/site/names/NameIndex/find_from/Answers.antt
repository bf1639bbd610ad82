use Rattle.std.proofs.Common.{◌-◌, arith, sym, ◌∙◌}
use Rattle.std.{proofs.lemmas.Option.slice_get_within, specs.Str.str_to_ascii_lowercase}
use Rattle.texting_robots.proofs.{NameLemmas.tested_names, SiteNameLemmas.walk_on}
use Rattle.texting_robots.proofs.SiteNameLemmas.{agent_at, first_named_zero, next_is_after, first_named_next}
use Rattle.texting_robots.proofs.site.names.NameIndex.find_from.Goals as goal

pub loop-position-preserved : goal.loop-position-preserved
loop-position-preserved c =
    let linked = rw c.self.view_is at c.self.invariant in
    let name = str_to_ascii_lowercase c.args.name.now in
    let at = agent_at c.self.inside.lines.items c.args.self.now c.loop-position.position c.index.result.now
    c.self.view_is
    (omega arith) c.index.ensures in
    let test = rw c.deref.ensures.value at c.eq_ignore_ascii_case.ensures.test in
    let isnt = sym (tested_names c.eq_ignore_ascii_case.result _ name test)
    ∙ c.if-eq_ignore_ascii_case.false in
    let next = walk_on name c.args.self.now _ _ c.loop-position.position c.index-position.result.now _
    linked at
    c.index-position.ensures c.loop-position.invariant.here in record {
      here = next.here;
      rest = cc (first_named_next name c.args.self.now c.loop-position.position _ at isnt);
    }

pub returns-then-eq_ignore_ascii_case : goal.returns-then-eq_ignore_ascii_case
returns-then-eq_ignore_ascii_case c =
    let name = str_to_ascii_lowercase c.args.name.now in
    let at = agent_at c.self.inside.lines.items c.args.self.now c.loop-position.position c.index.result.now
    c.self.view_is
    (omega arith) c.index.ensures in
    let test = rw c.deref.ensures.value at c.eq_ignore_ascii_case.ensures.test in
    let is = sym (tested_names c.eq_ignore_ascii_case.result _ name test)
    ∙ c.if-eq_ignore_ascii_case.true in
    let here = first_named_zero name c.args.self.now c.loop-position.position _ at is in
    omega (arith, here, c.loop-position.invariant.rest)

pub loop-position-smaller : goal.loop-position-smaller
loop-position-smaller c =
    let linked = rw c.self.view_is at c.self.invariant in
    let at = agent_at c.self.inside.lines.items c.args.self.now c.loop-position.position c.index.result.now
    c.self.view_is
    (omega arith) c.index.ensures in
    grind (arith, next_is_after, slice_get_within)
