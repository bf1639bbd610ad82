use Rattle.std.proofs.Common.{append-nil, arith, sym, ◌∙◌}
use Rattle.std.proofs.lemmas.{Grind.common_steps}
use Rattle.rfc9309.proofs.text.push_entry.Goals as goal

pub returns-in-UserAgent : goal.returns-in-UserAgent
returns-in-UserAgent c = rw c.in-UserAgent.is c.push_field.ensures

pub returns-in-Allow : goal.returns-in-Allow
returns-in-Allow c =
    let empty = rw c.in-Allow.is at (sym c.is_empty_disallow.ensures ∙ c.if-is_empty_disallow.true) in
    rw (c.in-Allow.is, empty) c.push_field-in-Allow.ensures

pub returns-in-Allow-2 : goal.returns-in-Allow-2
returns-in-Allow-2 c =
    let empty = rw c.in-Allow-2.is at (sym c.is_empty_disallow.ensures ∙ c.if-is_empty_disallow.false) in
    rw (c.in-Allow-2.is, empty) c.push_rule.ensures

pub returns-in-Disallow : goal.returns-in-Disallow
returns-in-Disallow c = rw c.in-Disallow.is c.push_rule-in-Disallow.ensures

pub returns-in-Sitemap : goal.returns-in-Sitemap
returns-in-Sitemap c = grind (arith, common_steps, append-nil)
