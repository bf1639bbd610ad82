use Rattle.std.proofs.Common.{map, refl, sym, ◌∙◌}
use Rattle.texting_robots.specs.{Executable.file_lines, Line.nul_as_lf}
use Rattle.texting_robots.proofs.LineLemmas.{each_text_has_its_lines}
use Rattle.texting_robots.proofs.laws.each_file_has_its_lines.Goals as goal

pub returns : goal.returns
returns c = record {
  some = λ text. (file_lines text, (each_text_has_its_lines (map nul_as_lf text) _).1 refl);
  one =
      λ text lines others one two.
      let each = each_text_has_its_lines (map nul_as_lf text) in
      (each lines).0 one ∙ sym ((each others).0 two);
  computed = λ text lines. each_text_has_its_lines (map nul_as_lf text) lines;
}
