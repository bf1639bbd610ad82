use Rattle.std.proofs.{Common.map, Common.rules, lemmas.Fn.filter_same}
use Rattle.robots_warnings.specs.{Table.name_of, Message.WarningValue}
use Rattle.audit_core.specs.{Chosen.is_chosen}
use Rattle.audit_core.proofs.chosen.choose.Goals as goal

pub returns : goal.returns
returns c =
    let only = map (λ name. name.now) c.args.only.now in
    let ignored = map (λ name. name.now) c.args.ignored.now in
    filter_same _ (λ (warning : WarningValue). is_chosen only ignored (name_of warning.cause)) _
    (λ x b f' k. search rules) _ _ c.retain.ensures.filtered
