use Rattle.std.proofs.Common.{◌++◌, take}
use Rattle.audit_compare.proofs.SitemapLemmas.{AreFound, AreMet}
use Rattle.audit_compare.proofs.sitemaps.texts_only_in.Given as goal

abbrev pub invariant-loop-other : goal.invariant-loop-other
invariant-loop-other l = AreMet l.met (take l.other-index l.others)

abbrev pub invariant-loop-text : goal.invariant-loop-text
invariant-loop-text l = record {
  met : AreMet l.met (l.others ++ take l.text-index l.texts);
  found : AreFound l.others (take l.text-index l.texts) l.found.items;
}
