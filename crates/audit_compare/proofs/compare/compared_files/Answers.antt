use Rattle.std.proofs.Common.{ap, Bor, List, map, ◌∙◌, ℕ}
use Rattle.audit_compare.proofs.compare.compared_files.Goals as goal

pub returns-clause-ok : goal.returns-clause-ok
returns-clause-ok c = record {
  all = rw (ap (map (λ (name : Bor (List ℕ)). name.now)) c.deref.ensures.value ∙ c.in_ok-agents.ensures)
      at c.in_ok-crawlers.ensures.ok;
  removed_are = rw (
    c.deref-2.ensures.value,
    c.deref-3.ensures.value,
    c.requires.older.here.lines_are,
    c.requires.newer.here.lines_are,
  ) at c.in_ok-removed.ensures;
  added_are = rw (
    c.deref-4.ensures.value,
    c.deref-5.ensures.value,
    c.requires.older.here.lines_are,
    c.requires.newer.here.lines_are,
  ) at c.in_ok-added.ensures;
}
