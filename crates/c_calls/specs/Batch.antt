-- URLs in one text, each with the place where it ends.
use Rattle.std.specs.Prelude.{ℕ, ◌-◌, ◌<◌, ◌≤◌, ℤ, Bool, true, false, IsUtf8, List, [], ◌∷◌, drop}
use Rattle.std.specs.Prelude.{length, take}
use Rattle.std.specs.List.{All, AllZip}
use Rattle.c_calls.specs.{Verdicts.HasVerdict, Verdicts.HasVerdicts, Status.IsWhyNoVerdicts}
use Rattle.c_calls.specs.{declared.error.Error.Error, declared.reading.OpenRobot.OpenRobot}
use Rattle.c_calls.specs.declared.error.Error.TheVariants.{BufferTooSmall, InvalidEnds, Memory, NotUtf8}

-- the parts of the text that end at these places, the first from `start` on
abbrev pub pieces : List ℕ → ℕ → List ℕ → List (List ℕ)
pieces text start [] = []
pieces text start (end ∷ ends) = take (end - start) (drop start text) ∷ pieces text end ends

-- no place is below the one before it (the first: `least`), or above the limit
abbrev pub Ascend : ℕ → List ℕ → ℕ → Type 0
Ascend least [] limit = Unit {0}
Ascend least (end ∷ ends) limit = (least ≤ end) × (end ≤ limit) × Ascend end ends limit

-- the verdicts for the URLs that end at these places, or else for those that LFs separate
abbrev pub AreVerdicts : OpenRobot → List ℕ → List ℕ → Bool → List ℤ → Type 0
AreVerdicts robot text ends true numbers =
    Ascend 0 ends (length text) × AllZip (HasVerdict robot) (pieces text 0 ends) numbers
AreVerdicts robot text ends false numbers = HasVerdicts robot text numbers

-- the places are checked first, then the URLs, then the capacity, and then an allocation can fail
abbrev pub IsWhyNone : List ℕ → List ℕ → Bool → ℕ → Error → Type 0
IsWhyNone text ends false capacity error = IsWhyNoVerdicts text capacity error
IsWhyNone text ends true capacity InvalidEnds = ¬ Ascend 0 ends (length text)
IsWhyNone text ends true capacity NotUtf8 = Ascend 0 ends (length text) × ¬ All IsUtf8 (pieces text 0 ends)
IsWhyNone text ends true capacity BufferTooSmall =
    Ascend 0 ends (length text) × All IsUtf8 (pieces text 0 ends) × (capacity < length ends)
IsWhyNone text ends true capacity Memory =
    Ascend 0 ends (length text) × All IsUtf8 (pieces text 0 ends) × (length ends ≤ capacity)
IsWhyNone text ends true capacity _ = ⊥
