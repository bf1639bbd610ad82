use Rattle.std.proofs.Common.{◌≡◌, ◌≢◌, ℕ, ◌++◌, List, Option, Some, None, MatchOption, rules}
use Rattle.std.specs.{Borrow.Bor, Option.IfNone, Option.IfSome}
use Rattle.std.proofs.lemmas.{Bool.Decides.Decides-eqb, Slice.Eq.strip_prefix_is}
use Rattle.texting_robots.proofs.haystack.UncountedHaystack.begins_with.Goals as goal

-- a statement by cases, as one statement for `None` and one for `Some`
parted : (text segment : List ℕ) (result : Option (Bor (List ℕ)))
    → MatchOption result ((rest : List ℕ) → text ≢ segment ++ rest)
    (λ rest. text ≡ segment ++ rest.now)
    → IfNone result ((rest : List ℕ) → text ≢ segment ++ rest)
    × IfSome result (λ rest. Unit {0} × (text ≡ segment ++ rest.now))
parted text segment None none = (none, tt)
parted text segment (Some rest) split = (tt, (tt, split))

pub returns : goal.returns
returns c =
    let split = strip_prefix_is Decides-eqb c.self.inside.text.now c.args.segment.now c.strip_prefix.result
    c.strip_prefix.ensures.cases in
    record {
      none = rw (← c.self.view_is) (parted _ _ _ split).0;
      some = rw (← c.self.view_is) (parted _ _ _ split).1;
      cost = search rules;
      looks = search rules;
      short = search rules;
    }
