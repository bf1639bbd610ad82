use Rattle.std.proofs.{Common.string_bytes, Common.arith, lemmas.Grind.common_steps}
use Rattle.std.proofs.lemmas.List.Sorted.{All-permutation, IsPermutation-map, length_permutation}
use Rattle.texting_robots.specs.Internal.Segments.{IsEntry, placed_at}
use Rattle.texting_robots.proofs.rules.Rules.sorted.Goals as goal

pub put_masks-requires : goal.put_masks-requires
put_masks-requires c =
    let all = c.make_masks.new.self in
    let made = c.make_masks.ensures.known in
    let order = c.sort_entries.ensures.permutation in
    let is = IsEntry (string_bytes all.text) all.segments.items all.borders.items in
    let known = All-permutation is _ _ order made.known in
    let size = length_permutation _ _ order in
    rw (c.deref.ensures.value, c.as_bytes.ensures.value) (record {
      within = grind (arith, common_steps, made.masks, size);
      spans = λ k d below. (known k d below).pattern;
      firsts = λ k d below. (known k d below).is_cut.first;
    })

pub invariant_of-result : goal.invariant_of-result
invariant_of-result c =
    let all = c.make_masks.new.self in
    let order = c.sort_entries.ensures in
    let is = IsEntry (string_bytes all.text) all.segments.items all.borders.items in
    let known = All-permutation is _ _ order.permutation c.make_masks.ensures.known.known in
    let put = rw (c.deref.ensures.value, c.as_bytes.ensures.value) at c.put_masks.ensures in
    (record { known = known; masks = put.as_many }, order.sorted, put.masked)

pub returns : goal.returns
returns c =
    let rule = placed_at (string_bytes c.make_masks.new.self.text) in
    rw c.make_masks.ensures.same at (IsPermutation-map rule _ _ c.sort_entries.ensures.permutation)
