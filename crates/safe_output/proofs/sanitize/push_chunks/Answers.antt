use Rattle.std.proofs.{Common.◌≡◌, Common.◌<◌, Common.arith, Common.length, lemmas.Bool.Decides.nat_tests}
use Rattle.bstr.proofs.lemmas.PieceLemmas.{piece-bounds, size-within}
use Rattle.safe_output.proofs.SanitizeLemmas.{starts_on, all_added, chunk_added}
use Rattle.safe_output.proofs.sanitize.push_chunks.Goals as goal

pub split_at-requires : goal.split_at-requires
split_at-requires c = omega (arith, size-within c.loop-rest.rest.now)

pub loop-rest-smaller : goal.loop-rest-smaller
loop-rest-smaller c =
    let some : 0 < length c.loop-rest.rest.now = grind (arith, nat_tests) in
    omega (arith, piece-bounds c.loop-rest.rest.now some)

pub loop-rest-preserved : goal.loop-rest-preserved
loop-rest-preserved c =
    let rest = c.loop-rest.rest.now in
    let some : 0 < length rest = grind (arith, nat_tests) in
    let added = rw (c.split_at.ensures.front, c.decode-char.ensures.size, c.decode-char.ensures.char) at
    c.in_ok-push_chunk.ensures.added in
    record {
      whole = rw (c.split_at.ensures.back, c.decode-char.ensures.size)
          (chunk_added c.args.has_lines rest _ _ _ some added c.loop-rest.invariant.whole);
      kept = starts_on _ _ _ c.loop-rest.invariant.kept c.push_chunk.ensures.kept;
    }

pub returns-clause-added : goal.returns-clause-added
returns-clause-added c =
    let none : length c.loop-rest.rest.now ≡ 0 = grind (arith, nat_tests) in
    all_added c.args.has_lines c.loop-rest.rest.now _ _ none c.loop-rest.invariant.whole
