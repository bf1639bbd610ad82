use Rattle.std.proofs.Common.{◌++◌, ap, arith, drop, length-drop, sym, take, ◌∙◌}
use Rattle.std.proofs.lemmas.List.{take-append-drop}
use Rattle.texting_robots.specs.Internal.Cut.{body_len, end_len, read_as}
use Rattle.texting_robots.proofs.{AgentLemmas.line_advances, CutFromFront.next_body}
use Rattle.texting_robots.proofs.parser.split_line.Goals as goal

pub returns : goal.returns
returns c = record {
  lines = grind (arith, next_body);
  parts =
      let text = c.args.text.now in
      let k = body_len (read_as c.args.nul_ends text) in
      let after = drop k text in
      let end = end_len (read_as c.args.nul_ends after) in
      rw (c.after_end.ensures, c.split_at.ensures.front, c.split_at.ensures.back, c.body_len.ensures.value) (
        take end after,
        sym (take-append-drop k text)
            ∙ ap (λ rest. take k text ++ rest) (sym (take-append-drop end after)),
      );
  shorter = grind (arith, line_advances, length-drop);
}
