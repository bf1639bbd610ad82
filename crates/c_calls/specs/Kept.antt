-- Ownership of what C keeps between calls, at its pointers.
use Rattle.std.specs.Prelude.{◌≡◌, ℤ, pos, Option, Some, None}
use mir.Syntax.{Ty}
use base.Fml.{Fml, Lft, Share, ftrue, fall, fex, flft, fsep}
use denote.RattleType.{RattleType}
use denote.RawPtr.{Ptr}
use denote.Struct.Lending.{lent_at}
use Rattle.std.specs.{Ptr.if_non_null, declared.alloc.Global.Global}
use Rattle.std.specs.contracts.impls.GlobalAllocator.{TheImpl.ghosts}
use Rattle.std_alloc.specs.Box.{Ownership.box_owns}
use Rattle.c_calls.specs.contracts.reading.OpenRobot as Robot-type
use Rattle.c_calls.specs.contracts.reading.OpenSite as Site-type

abbrev pub Robots : RattleType
Robots = Robot-type.the_row

abbrev pub Sites : RattleType
Sites = Site-type.the_row

-- handles of the heap have no content, so all are equal to this one
abbrev pub heap : Global
heap = record { memory = record { seal = tt } }

abbrev pub frees : Ty → Ptr → Fml
frees = ghosts.dealloc_token heap

-- ownership of this value at the pointer, and the right to free its block
abbrev pub owned_at : (R : RattleType) → Ptr → R.Denot → Fml
owned_at R at value = box_owns frees R at value

abbrev pub kept_at : (R : RattleType) → Ptr → Option R.Denot → Fml
kept_at R at None = ftrue
kept_at R at (Some value) = owned_at R at value

-- ownership of this value, or of nothing if the pointer is null
abbrev pub owned_or_null : (R : RattleType) → Ptr → R.Denot → Fml
owned_or_null R at value = if_non_null at (owned_at R at value)

abbrev pub opened_at : (R : RattleType) → (R.Denot → Type 0) → Ptr → Fml
opened_at R P at = fex R.Denot (λ value. fex (P value) (λ _. owned_at R at value))

-- a status of 0 means that C owns a value with the property P
abbrev pub opens : (R : RattleType) → (R.Denot → Type 0) → ℤ → Ptr → Fml
opens R P status at = fall (status ≡ pos 0) (λ _. opened_at R P at)

-- the caller passes this share of the lifetime's token
unfoldable pub lends : (R : RattleType) → Ptr → Lft × Share × R.Denot → Fml
lends R at g = fsep (lent_at R at g.2 g.0) (flft g.0 g.1)
