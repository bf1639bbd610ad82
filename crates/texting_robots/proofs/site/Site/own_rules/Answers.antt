use Rattle.std.proofs.{Common.Some, Common.append_assoc, Common.◌∙◌, lemmas.List.Elements.All-push}
use Rattle.texting_robots.specs.{Pattern.IsOverlong, Rules.PlacedRule}
use Rattle.texting_robots.proofs.{RulesLemmas.none_if_empty, SiteOwnLemmas.rejected_at}
use Rattle.texting_robots.proofs.site.Site.own_rules.Goals as goal

pub loop-rule-preserved : goal.loop-rule-preserved
loop-rule-preserved c =
    let next = c.in-Some.ensures.steps in
    let added = c.in_default.ensures in
    let so_far = c.loop-rule.invariant in record {
      can_next = tt;
      is_finite = tt;
      known = added.known;
      rules = rw (added.added, append_assoc) (rw (next, ← c.rule.view_is) at so_far.rules);
      accepted = rw added.added (All-push (λ (placed : PlacedRule). IsOverlong placed.rule.0 → ⊥) _ _
          so_far.accepted added.accepted);
    }

pub returns-in-Err-clause-rejected : goal.returns-in-Err-clause-rejected
returns-in-Err-clause-rejected c =
    rw c.rejection_at.ensures (rejected_at _ _ _ _ _ c.in-Err.error
    (rw (c.in-Some.ensures.steps, ← c.rule.view_is) at c.loop-rule.invariant.rules)
    c.loop-rule.invariant.accepted c.in-Err.ensures.rejected)

pub returns-in-Err-clause-without_memory : goal.returns-in-Err-clause-without_memory
returns-in-Err-clause-without_memory c = λ none.
    let next = c.in-Some.ensures.steps in
    let wrong = none_if_empty (Some c.in-Some.rule) _ _ (rw next at c.loop-rule.invariant.rules ∙ none) in cc
