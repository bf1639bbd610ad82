use Rattle.std.proofs.Common.{◌+◌, rules}
use Rattle.safe_output.proofs.StreamsLemmas.{appends_kept, appends_next, is_beginning}
use Rattle.safe_output.proofs.streams.write_out.Goals as goal

pub loop-at-preserved : goal.loop-at-preserved
loop-at-preserved g c =
    let contents = g.W.Write.contents in
    record {
      place = search rules;
      written = appends_next (contents c.args.writer.now) (contents c.loop-at.writer)
          (contents c.write.new.self) c.loop-at.at c.in-Ok.count c.args.text.now c.loop-at.invariant.written
          c.in-Ok.ensures.bytes;
    }

pub returns-in-Ok-eq0-clause-beginning : goal.returns-in-Ok-eq0-clause-beginning
returns-in-Ok-eq0-clause-beginning g c =
    let contents = g.W.Write.contents in
    is_beginning _ _ (c.loop-at.at + c.in-Ok-eq0.field-0) c.args.text.now
    (appends_next (contents c.args.writer.now) (contents c.loop-at.writer)
    (contents c.write.new.self) c.loop-at.at c.in-Ok-eq0.field-0 c.args.text.now
    c.loop-at.invariant.written c.in-Ok-eq0.ensures.bytes)

pub returns-in-Err-clause-beginning : goal.returns-in-Err-clause-beginning
returns-in-Err-clause-beginning g c =
    let contents = g.W.Write.contents in
    is_beginning _ _ c.loop-at.at c.args.text.now
    (appends_kept (contents c.args.writer.now) (contents c.loop-at.writer)
    (contents c.write.new.self) _ c.loop-at.invariant.written c.in-Err.ensures.bytes)
