use Rattle.std.proofs.Common.{◌≡◌, ◌∙◌, ℕ, ◌+◌, ◌<◌, Bool, List, String, ap, arith, bytes_eq, get_or, length}
use Rattle.std.proofs.Common.{refl, string_bytes, sym, take, true}
use Rattle.std.specs.BTreeSet.{BTreeSet, Updates, contains_text}
use Rattle.std.specs.{Global.Global, String.string_cmp}
use Rattle.std.proofs.Math.{Bool.beq}
use Rattle.std.proofs.lemmas.{Bool.not-false, Grind.common_steps, List.Folds.list_any_more}
use Rattle.std.proofs.lemmas.{Map.Text.btree_set_updates_text}
use Rattle.texting_robots.specs.{Callers.PlacedRule}
use Rattle.audit_compare.specs.Compare.{has_rule, is_same_rule}
use Rattle.audit_compare.proofs.rule_sets.patterns_of.Goals as goal

added : (old new : BTreeSet (String Global)) (key : String Global) (rules : List PlacedRule) (at : ℕ)
    (rule : PlacedRule) (is_allow : Bool) → at < length rules → rule ≡ get_or rules at rule
    → string_bytes key ≡ rule.rule.0 → beq rule.rule.1 is_allow ≡ true → Updates string_cmp old new key true
    → ((pattern : List ℕ) → contains_text old pattern ≡ has_rule (take at rules) (pattern, is_allow))
    → (pattern : List ℕ) → contains_text new pattern ≡ has_rule (take (at + 1) rules) (pattern, is_allow)
added old new key rules at rule is_allow below item is kind updates before pattern =
    let test = λ (placed : PlacedRule). is_same_rule placed.rule (pattern, is_allow) in
    let same : bytes_eq (string_bytes key) pattern ≡ test rule = rw (kind, is) refl in
    let more = btree_set_updates_text (string_bytes key) old new true updates pattern in
    let was = before pattern in
    rw (list_any_more test rules at rule below, ← item) (grind (arith, common_steps, more, was, same))

pub loop-rule-preserved : goal.loop-rule-preserved
loop-rule-preserved c =
    added c.loop-rule.patterns c.insert.new.self c.in_ok-from_str.field-0 c.args.rules.now
    c.loop-rule.rule-index c.rule-item.result c.args.is_allow c.loop-rule-test.true c.rule-item.is
    (c.in_ok-from_str.ensures.ok ∙ c.deref.ensures
    ∙ ap (λ (placed : PlacedRule). placed.rule.0) c.rule.view_is)
    (sym (ap (λ (placed : PlacedRule). beq placed.rule.1 c.args.is_allow) c.rule.view_is)
    ∙ not-false _ c.if-rule-is_allow.false)
    c.in_ok-insert.ensures.updates c.loop-rule.invariant
