use Rattle.std.proofs.Common.{◌∙◌, All, ap, arith, flat_map, map, subst}
use Rattle.std.proofs.lemmas.List.{length-map}
use Rattle.texting_robots.specs.Callers.{lines_read}
use Rattle.audit_expect.specs.Expectations.{Holds, about_each, all_crawlers}
use Rattle.audit_expect.specs.Internal.Expectations.{expectation_value}
use Rattle.audit_expect.proofs.expectations.check_read.Goals as goal

pub returns : goal.returns
returns c =
    let file = c.args.file.now.here.bytes.now in
    record {
      expectations = map expectation_value c.in_ok-expectations.expectations.items;
      all = c.in_ok-expectations.ensures;
      some = grind (arith, length-map);
      hold = λ none.
          subst (All (Holds file)) (ap (map expectation_value) c.deref-4.ensures.value
          ∙ c.in_ok-all.ensures
          ∙ ap (λ items. flat_map (about_each (all_crawlers (lines_read file))) (map expectation_value items))
          c.deref-2.ensures.value) (c.in_ok-found.ensures none);
    }
