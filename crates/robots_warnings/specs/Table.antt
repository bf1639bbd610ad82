-- Every warning, as in the table of src/table.rt.
use Rattle.std.specs.Prelude.{[], ℕ, List, map, slice_index_or}
use Rattle.robots_warnings.specs.contracts.table.{Cause.the_type}
use Rattle.safe_output.specs.declared.level.{Level.Level}
use Rattle.robots_warnings.specs.declared.table.{TheConstants.WARNINGS, Cause.Cause}
use Rattle.safe_output.specs.declared.level.Level.TheVariants as level
use denote.Enum.Declared.{tag_of}

-- the index of a warning in the table
abbrev pub number_of : Cause → ℕ
number_of cause = tag_of the_type cause

-- their levels, and their names, as in `[..]`
abbrev pub all_levels : List Level
all_levels = map (λ row. row.1) WARNINGS

abbrev pub all_names : List (List ℕ)
all_names = map (λ row. row.2.now) WARNINGS

unfoldable pub level_of : Cause → Level
level_of cause = slice_index_or all_levels (number_of cause) level.Warning

unfoldable pub name_of : Cause → List ℕ
name_of cause = slice_index_or all_names (number_of cause) []
