use Rattle.std.proofs.Common.{Contains, rules}
use Rattle.std.specs.{List.All}
use Rattle.robots_rules.specs.Internal.{IsFollowed}
use Rattle.robots_rules.proofs.closed.is_checked.Goals as goal
use Rattle.robots_rules.proofs.ClosureLemmas.{all_followed}

pub returns : goal.returns
returns c = λ is.
    let states = c.args.found.now.states.items in
    let state = c.args.state.now in
    let bytes = c.in_ok-bytes.bytes.items in
    let other : ¬ Contains bytes c.in-Some.other = rw c.as_slice.ensures.value at c.in-Some.ensures in
    let follows : IsFollowed states state c.in-Some.other = search rules in
    let all : All (IsFollowed states state) bytes = rw c.as_slice-2.ensures.value at (c.in_ok-all.ensures
    is) in
    record {
      ends = search rules;
      followed = all_followed states state bytes c.in-Some.other c.in_ok-bytes.ensures.old
          c.in_ok-bytes.ensures.new
          other follows all;
    }
