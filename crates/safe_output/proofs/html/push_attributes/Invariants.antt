use Rattle.std.proofs.Common.{◌≡◌, ◌++◌, flat_map, take}
use Rattle.safe_output.specs.Html.{shown_attribute}
use Rattle.safe_output.proofs.html.push_attributes.Given as goal

abbrev pub invariant-loop-attribute : goal.invariant-loop-attribute
invariant-loop-attribute l =
    l.bytes.items ≡ l.fn.bytes.items ++ flat_map shown_attribute (take l.attribute-index l.attributes)
