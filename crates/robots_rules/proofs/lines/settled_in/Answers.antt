use Rattle.std.proofs.Common.{Contains, List, sym, ℕ, subst}
use Rattle.robots_rules.proofs.lines.settled_in.Goals as goal

pub returns : goal.returns
returns c =
    let names = rw c.as_slice.ensures.value at c.in_ok-all.ensures.names in
    record {
      each = c.in_ok-all.ensures.settled;
      names = λ agent has.
          subst (λ (all : List (List ℕ)). Contains all agent) (sym names)
          (c.in_ok-crawlers.ensures agent has);
    }
