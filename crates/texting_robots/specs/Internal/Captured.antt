-- Whether a line is captured, as a function; by the theorem `captured_agrees` it agrees with `IsCaptured`.
use Rattle.std.specs.Prelude.{ℕ, zero, suc, nat_lt, Bool, false, not, ◌&&◌, ◌||◌, List}
use Rattle.std.specs.List.{list_any}
use Rattle.texting_robots.specs.Group.{is_agent, is_agent_named, is_member, passes_at}
use Rattle.texting_robots.specs.Line.{LineValue}

abbrev pub some_below : (ℕ → Bool) → ℕ → Bool
some_below test zero = false
some_below test (suc n) = test n || some_below test n

abbrev pub has_new_group : List LineValue → ℕ → ℕ → Bool
has_new_group lines j i =
    let has_group = λ (l : ℕ). some_below (λ k. nat_lt j k && passes_at is_member lines k) l in
    some_below (λ l. passes_at is_agent lines l && has_group l) i

abbrev pub is_captured : List ℕ → List LineValue → ℕ → Bool
is_captured name lines i =
    not (list_any is_agent lines)
    || some_below (λ j. passes_at (is_agent_named name) lines j && not (has_new_group lines j i)) i
