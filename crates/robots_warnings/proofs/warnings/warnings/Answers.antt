use Rattle.std.proofs.Common.{IsTrue, map, refl, sym, ◌∙◌}
use Rattle.std.proofs.lemmas.List.Elements.{All-nil, All-weaker}
use Rattle.std.specs.Prelude.{flat_map}
use Rattle.texting_robots.specs.Callers.{file_lines}
use Rattle.robots_warnings.specs.Conflicts.{is_empty_at, overrules_for_one}
use Rattle.robots_warnings.specs.Warnings.{ClosesToOne, is_closing_cause, is_empty_cause, url_warnings}
use Rattle.robots_warnings.specs.Internal.Tells.{IsSo, agents_in, labels_in, overruling_at}
use Rattle.robots_warnings.proofs.TellsLemmas.{all_added, each_at, each_stays, lines_are, overruling_means}
use Rattle.robots_warnings.proofs.TellsLemmas.{tells_added, tells_on, told_of, urls_mean}
use Rattle.robots_warnings.proofs.warnings.warnings.Goals as goal

pub returns : goal.returns
returns c =
    let known = c.in_ok-known.known in
    let is = c.in_ok-known.ensures in
    let agents = agents_in known in
    let labels = labels_in known in
    let lines = file_lines known.read.now.site in
    let file = known.read.now.bytes.now in
    let urls = map (λ url. url.now) c.args.urls.now in
    let closed = c.in_ok-warn_of_closed.ensures in
    let asked = c.in_ok-warn_of_urls.ensures in
    let found = c.in_ok-warn_of_overruling.ensures in
    let rest = tells_on c.in_ok-keep-2.ensures (tells_on (tells_added _ found.adds
    (overruling_means agents file labels known.rules.overruling.entries))
    c.in_ok-keep-3.ensures) in
    let after = tells_on (tells_added _ asked (urls_mean agents file labels urls)) rest in
    let all = tells_on (rw c.new-found.ensures.items at c.in_ok-keep.ensures) (tells_on closed.so after) in
    let noted = each_at is_empty_cause overruling_at (λ entry. (refl, refl)) _ _ known.rules.overruling
    found.ordered found.adds in
    let are = rw (sym (lines_are known.read.now (rw is.read c.requires))) at is.known.rules.overruling in
    let (so, shut, has) = told_of known _ is.agents is.read (
      all.so (All-nil (IsSo known)),
      each_stays is_closing_cause (ClosesToOne agents lines) _ _ (λ warning _. after.kept warning)
          closed.told,
      each_stays is_empty_cause
          (λ number. IsTrue (overrules_for_one (is_empty_at labels) agents lines number)) _ _
          (λ warning _. c.in_ok-keep-3.ensures.kept warning) (λ number is. noted number (are number ∙ is)),
    ) in
    record {
      so = so;
      given = All-weaker _ _ rest.kept (flat_map url_warnings urls) (all_added _ _ asked);
      closed = shut;
      overruling = has;
    }
