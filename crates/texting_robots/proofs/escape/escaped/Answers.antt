use Rattle.std.proofs.Common.{arith}
use Rattle.texting_robots.proofs.NormalizedLemmas.{escaped_plain, encode_is_escaped, same_test}
use Rattle.texting_robots.proofs.escape.escaped.Goals as goal

pub returns-then-not-holds_escaped-clause-ok : goal.returns-then-not-holds_escaped-clause-ok
returns-then-not-holds_escaped-clause-ok c = grind (arith, escaped_plain)

pub returns : goal.returns
returns c = record {
  ok = grind (arith, encode_is_escaped);
  without_memory = λ plain.
      grind (arith, same_test, c.utf8_percent_encode.ensures.clean, plain, c.into_cow.ensures.borrows);
}
