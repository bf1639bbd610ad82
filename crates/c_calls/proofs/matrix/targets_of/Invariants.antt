use Rattle.std.proofs.Common.{◌≡◌, map, string_bytes, take}
use Rattle.c_calls.specs.File.{target_in}
use Rattle.c_calls.proofs.matrix.targets_of.Given as goal

abbrev pub invariant-loop-url : goal.invariant-loop-url
invariant-loop-url l =
    map string_bytes l.targets.items
    ≡ map (λ url. target_in l.fn.by_rfc9309 url.now) (take l.url-index l.url-items)
