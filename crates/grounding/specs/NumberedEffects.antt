-- Changes by the numbers of their atoms: as the model has them, and which of them are made in a state.
use Rattle.std.specs.Prelude.{ℕ, Bool, true, ◌&&◌, List, [], slice_get, if◌then◌else◌, Option, None, Some, is_none}
use Rattle.std.specs.Bool.{beq}
use Rattle.std.specs.List.{filter_map}
use Rattle.std.specs.Option.{option_map_or}
use Rattle.model.specs.Task.{Atom, Task, Instance}
use Rattle.model.specs.Meaning.{State, holds}
use Rattle.model.specs.StaticallyFalse.{kept_instances}
use Rattle.model.specs.NumberedLiterals.{NumberedChange}
use Rattle.model.specs.Grounding.{state_of_bits}
pub use Rattle.grounding_instances.specs.NumberedEffects.{Guard, NumberedEffect, is_adding, guard_of, numbered_effect, counted_effect, counted_effects, effects_of_instance}

abbrev pub change_of_effect : NumberedEffect → NumberedChange
change_of_effect e = record { atom = e.atom; value = e.value; is_unconditional = is_none e.guard }

abbrev pub is_met : Task → State → Option Guard → Bool
is_met t s guard = option_map_or (λ (g : Guard). holds t g.formula g.binding s) guard true

-- the number of the effect's atom, if the effect sets it to this value
abbrev pub number_made : Task → State → Bool → NumberedEffect → Option ℕ
number_made t s value e = if beq e.value value && is_met t s e.guard then Some e.atom else None

abbrev pub numbers_made : Task → State → Bool → List NumberedEffect → List ℕ
numbers_made t s value effects = filter_map (number_made t s value) effects

-- the numbers of the atoms that the changes of the instance of this number that count and are made in the packed state
-- make true, or else false
abbrev pub numbers_set : Task → List Atom → List Bool → Bool → ℕ → List ℕ
numbers_set t atoms bits value number =
    option_map_or (λ (i : Instance). numbers_made t (state_of_bits t atoms bits) value (effects_of_instance t atoms i)) (slice_get (kept_instances t) number) []
