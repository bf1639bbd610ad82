use Rattle.std.proofs.Common.{◌≡◌, ◌∙◌, ℕ, List, ap, subst, sym}
use Rattle.texting_robots.specs.Callers.{lines_read}
use Rattle.audit_compare.specs.declared.every_url.{InBoth.InBoth}
use Rattle.audit_compare.specs.EveryUrl.{AreInBoth, RulesInBoth, file_of_group, name_at_vendor}
use Rattle.audit_compare.specs.EveryUrl.{rules_at_vendor, rules_in_both}
use Rattle.audit_compare.proofs.vendor.at_vendor.Goals as goal

there : (agent file name text : List ℕ) → name ≡ name_at_vendor (lines_read file) agent
    → text ≡ file_of_group file name → rules_in_both name text ≡ rules_at_vendor agent file
there agent file name text is of =
    ap (rules_in_both name) of ∙ ap (λ name. rules_in_both name (file_of_group file name)) is

by_same : (one other older newer : RulesInBoth) (verdicts : InBoth) → one ≡ older → other ≡ newer
    → AreInBoth one other verdicts → AreInBoth older newer verdicts
by_same one other older newer verdicts old new are =
    subst (λ rules. AreInBoth rules newer verdicts) old
    (subst (λ rules. AreInBoth one rules verdicts) new are)

pub returns-then-is_here-clause-ok : goal.returns-then-is_here-clause-ok
returns-then-is_here-clause-ok c =
    rw (c.requires.older.here.site_is, c.requires.newer.here.site_is)
    at (sym c.is_here.ensures ∙ c.if-is_here.true)

pub returns-clause-ok : goal.returns-clause-ok
returns-clause-ok c =
    let agent = c.args.agent.now in
    let older = c.args.older.now.here.bytes.now in
    let newer = c.args.newer.now.here.bytes.now in
    let old = rw c.requires.older.here.site_is at c.name_at_vendor-old_name.ensures in
    let new = rw c.requires.newer.here.site_is at c.name_at_vendor-new_name.ensures in
    let old_rules = there agent older _ _ old c.file_of_group-old_file.ensures.bytes in
    let new_rules = there agent newer _ _ new c.file_of_group-new_file.ensures.bytes in
    record {
      older_is = c.in_ok-from_str.ensures.ok ∙ old;
      newer_is = c.in_ok-from_str-2.ensures.ok ∙ new;
      verdicts_are = by_same _ _ _ _ _ old_rules new_rules c.in_ok-verdicts_in_both.ensures.ok;
    }
