use Rattle.std.proofs.{Common.arith, Common.rules, lemmas.List.map-append}
use Rattle.robots_verdict.proofs.InputLemmas.{goes_first, goes_more, if_memory, no_split, not_empty}
use Rattle.robots_verdict.proofs.{InputLemmas.split_found, InputLemmas.some_url}
use Rattle.robots_verdict.proofs.header.split.Goals as goal

pub loop-url-init : goal.loop-url-init
loop-url-init c = rw c.new-urls.ensures.items (goes_first c.in-Some.rest.now)

pub returns-then-is_empty-clause-ok : goal.returns-then-is_empty-clause-ok
returns-then-is_empty-clause-ok c = grind (arith, split_found)

pub loop-url-preserved : goal.loop-url-preserved
loop-url-preserved c =
    rw (c.in_ok-push.ensures.items, map-append)
    (goes_more _ _ _ _ _ c.loop-url.invariant c.in-Some-first_line.ensures.line (search rules))

pub returns-in_default-clause-fault : goal.returns-in_default-clause-fault
returns-in_default-clause-fault c = grind arith

pub returns-clause-fault : goal.returns-clause-fault
returns-clause-fault c = grind (arith, no_split)

pub returns-in_err-push-clause-memory : goal.returns-in_err-push-clause-memory
returns-in_err-push-clause-memory c = if_memory _ (
  not_empty c.args.input.now c.in-Some.ensures.line,
  some_url c.args.input.now _ _ _ _ _ c.in-Some.ensures.line
      (goes_more _ _ _ _ _ c.loop-url.invariant c.in-Some-first_line.ensures.line (search rules)),
)
