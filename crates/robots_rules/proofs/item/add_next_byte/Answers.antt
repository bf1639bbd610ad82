use Rattle.std.proofs.Common.{Contains, slice_index}
use Rattle.robots_rules.proofs.item.add_next_byte.Goals as goal
use Rattle.robots_rules.proofs.MatchLemmas.{listed_at, listed_last, other_than, passed_alike}

pub returns-then-contains-clause-alike : goal.returns-then-contains-clause-alike
returns-then-contains-clause-alike c = λ b x t no_b no_x.
    let bytes = c.args.bytes.now.items in
    let next = slice_index c.args.rest.now c.stars-k.result in
    let (i, below, at) = c.if-contains.ensures.cases in
    let has : Contains bytes next =
    listed_at bytes i next (rw c.deref.ensures.value at below) (rw c.deref.ensures.value at (at 0)) in
    passed_alike b x t c.args.rest.now c.stars-k.result c.stars-k.ensures.other c.stars-k.ensures.alike
    (λ _ _. other_than bytes b next has no_b) (λ _ _. other_than bytes x next has no_x)

pub returns-clause-alike : goal.returns-clause-alike
returns-clause-alike c = λ b x t no_b no_x.
    let bytes = c.push.new.self.items in
    let next = slice_index c.args.rest.now c.stars-k.result in
    let has : Contains bytes next = rw c.in_ok-push.ensures.items (listed_last c.args.bytes.now.items next)
    in
    passed_alike b x t c.args.rest.now c.stars-k.result c.stars-k.ensures.other c.stars-k.ensures.alike
    (λ _ _. other_than bytes b next has no_b) (λ _ _. other_than bytes x next has no_x)
