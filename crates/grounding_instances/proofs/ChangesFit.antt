-- The objects of an instance's changes fit the variables in their conditions, index by index.
use Rattle.std.proofs.Common.{◌≡◌, List, subst}
use Rattle.std.specs.Prelude.{Contains, IsTrue}
use Rattle.formulas.proofs.ChangesFit.{instance-changes-fit}
use Rattle.model.specs.Task.{Task, Instance}
use Rattle.model.specs.Meaning.{Change, changes_of_instance, is_instance}
use Rattle.model.specs.WellTyped.{is_task}
use Rattle.model.proofs.ListLemmas.{Contains-got}
use Rattle.grounding_instances.specs.Atoms.{AllFit}

pub all-fit : (t : Task) → IsTrue (is_task t) → (i : Instance) → IsTrue (is_instance t i) → (changes : List Change) → changes ≡ changes_of_instance t i → AllFit t changes
all-fit t well i instance changes is place c got =
    instance-changes-fit t well i instance c (subst (λ l. Contains l c) is (Contains-got changes place c got))
