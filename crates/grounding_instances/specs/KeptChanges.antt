-- Kept changes of the code, in the model's terms. The statements hold whichever atoms are numbered later.
use Rattle.std.specs.Prelude.{◌≡◌, ℕ, true, List, [], ◌++◌, map, length, Option}
use Rattle.std.specs.Global.{Box}
use Rattle.std.specs.List.{flat_map}
use Rattle.std.specs.Option.{option_map}
use Rattle.task.specs.TaskParts.{object_of, formula_of}
use Rattle.grounding_instances.specs.declared.changes.Guard as code
use Rattle.grounding_instances.specs.declared.changes.NumberedChange.{NumberedChange}
use Rattle.grounding_instances.specs.declared.changes.KeptChanges.{KeptChanges}
use Rattle.grounding_instances.specs.NumberedEffects.{Guard, NumberedEffect, counted_effects, effects_of_instance}
use Rattle.model.specs.Task.{Task, Atom, Instance}
use Rattle.model.specs.Meaning.{Change}
use Rattle.model.specs.NumberedAtoms.{with_atoms}

abbrev pub guard_in : Option (Box code.Guard) → Option Guard
guard_in o = option_map (λ (g : Box code.Guard). record { formula = formula_of g.value.formula.now; binding = map object_of g.value.binding.items }) o

abbrev pub effect_of : NumberedChange → NumberedEffect
effect_of c = record { atom = c.atom; value = c.value; guard = guard_in c.guard }

-- nothing is kept yet
pub record IsEmpty (k : KeptChanges) : Type 0 where
  pub keeps : k.keeps ≡ true
  pub changes : k.changes.items ≡ []
  pub counts : k.counts.items ≡ []

-- the new changes are the counting ones of these changes
abbrev pub AddsEffects : Task → List Atom → List Change → List NumberedChange → List NumberedChange → Type 0
AddsEffects t atoms changes old new = (later : List Atom) → map effect_of new ≡ map effect_of old ++ counted_effects t (with_atoms atoms later) changes

-- the changes are those of these instances
pub record AreKept (t : Task) (atoms : List Atom) (instances : List Instance) (k : KeptChanges) : Type 0 where
  pub effects : (later : List Atom) → map effect_of k.changes.items ≡ flat_map (effects_of_instance t (with_atoms atoms later)) instances
  pub counts : (later : List Atom) → k.counts.items ≡ map (λ (i : Instance). length (effects_of_instance t (with_atoms atoms later) i)) instances
