use Rattle.std.proofs.{Common.inl, Common.inr, Common.refl, lemmas.List.Elements.recursion_from_All}
use Rattle.rfc9309.proofs.{OtherLemmas.form_tested, HasFormLemmas.form_passes}
use Rattle.rfc9309.proofs.LineFormLemmas.{file_has_forms, forms_make_file}
use Rattle.rfc9309.proofs.line_forms_make_files.Goals as goal

pub returns : goal.returns
returns c = record {
  file = forms_make_file;
  only = file_has_forms;
  test = form_passes _ (inr (inl refl));
  exact = λ form body bytes. form_tested body (recursion_from_All _ body bytes) form;
}
