use Rattle.std.proofs.{Common.sym, Common.◌∙◌, lemmas.List.Elements.All-nil}
use Rattle.robots_warnings.proofs.SeenLemmas.{found_more}
use Rattle.robots_warnings.proofs.names_past_limit.names_past_limit.Goals as goal

pub loop-index-init : goal.loop-index-init
loop-index-init c =
    let items = c.enumerate-index-items.ensures in
    rw (
      c.into_iter-index-iterator.ensures.into_iter_gives,
      items.count,
      c.new-found.ensures.items,
    ) (record {
      left = sym (items.source ∙ c.file_lines.ensures.value);
      has = c.in_ok-names.ensures;
      are = All-nil _;
    })

pub loop-index-preserved : goal.loop-index-preserved
loop-index-preserved c =
    let (next, here, further, _) = c.in-Some.ensures.steps in
    let added = rw here at c.in_ok-push_if.ensures in
    let was = c.loop-index.invariant in
    rw further (found_more _ c.args.file.now _ _ _ (rw next at was.left) was.has was.are
    c.in_ok-insert_name.ensures added)
