-- Partially bound instances, and when a limit is reported.
use Rattle.std.specs.Prelude.{◌≡◌, ℕ, ◌<◌, true, List, [], ◌++◌, length, slice_get, Some}
use Rattle.std.specs.Option.{option_map_or}
use Rattle.std.specs.Cmp.Lexicographic.{pointwise}
use Rattle.faults.specs.declared.refused.Refused.{Refused}
use Rattle.faults.specs.declared.refused.Refused.TheVariants.{At, NoMemory}
use Rattle.grounding_instances.specs.declared.fault.GroundLimit.{GroundLimit}
use Rattle.grounding_instances.specs.declared.fault.GroundLimit.TheVariants.{Instances, Atoms}
use Rattle.grounding_instances.specs.Literals.{decided_literals}
use Rattle.grounding_instances.specs.Parameters.{Choice, choices_from}
use Rattle.model.specs.Task as task
use Rattle.model.specs.Meaning.{is_of}
use Rattle.model.specs.Instances.{instances_of_schema}

abbrev pub GroundFault : Type 0
GroundFault = Refused GroundLimit

-- These objects are of the types of the first parameters of the schema with this number, these literals are decided by exactly
-- these objects, and these are the choices of the remaining parameters.
pub record IsBegun (t : task.Task) (schema : ℕ) (objects : List ℕ) (literals : List task.Formula) (left : List Choice) : Type 0 where
  pub found : task.Schema
  pub at : slice_get t.schemas schema ≡ Some found
  pub scope : List task.Union
  pub rest : List task.Union
  pub split : found.parameters ≡ scope ++ rest
  pub fits : pointwise (is_of t) scope objects ≡ true
  pub decided : literals ≡ decided_literals (length objects) found.precondition
  pub choices : left ≡ choices_from t found.precondition (length objects) rest

-- the limit of instances is reported if there are more; nothing is stated for running out of memory
abbrev pub ReportsInstances : ℕ → List task.Instance → GroundFault → Type 0
ReportsInstances max instances (At Instances) = max < length instances
ReportsInstances max instances (At Atoms) = ⊥
ReportsInstances max instances NoMemory = Unit {0}

-- the instances of the schema with this number
abbrev pub instances_of_number : task.Task → ℕ → List task.Instance
instances_of_number t number = option_map_or (instances_of_schema t number) (slice_get t.schemas number) []
