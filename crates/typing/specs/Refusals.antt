-- The faults that typing reports, in the model's terms.
use Rattle.std.specs.Prelude.{◌≡◌, List, map, take}
use Rattle.faults.specs.Fault.{number_of}
use Rattle.pddl_tree.specs.Tree.{file_of}
use Rattle.typing.specs.declared.fault.PairRefusal.{PairRefusal}
use Rattle.pddl_tree.specs.declared.tree.TaskFile.{TaskFile}
use Rattle.faults.specs.declared.refused.RefusalIn.{RefusalIn}
use Rattle.faults.specs.declared.refused.Refused.{Refused}
use Rattle.faults.specs.declared.refused.Refused.TheVariants.{At, NoMemory}
use Rattle.model.specs.Typing.{TypingFault, IsLeastOf}

abbrev pub TaskRefusal : Type 0
TaskRefusal = RefusalIn TaskFile

-- the fault that a refusal reports
abbrev pub refusal_of : TaskRefusal → TypingFault
refusal_of r = record {
  file = file_of r.file;
  fault = record { code = number_of r.code; span = record { start = r.span.start; end = r.span.end } };
}

abbrev pub TaskFault : Type 0
TaskFault = Refused TaskRefusal

abbrev pub PairFault : Type 0
PairFault = Refused PairRefusal

-- the least of these faults is the first, and they are listed, up to the limit
pub record AreReported (faults : List TypingFault) (r : PairRefusal) : Type 0 where
  pub first : IsLeastOf faults (refusal_of r.first)
  pub listed : map refusal_of r.listed.items ≡ take 1000 faults

-- these faults are reported; nothing is stated for running out of memory
abbrev pub ReportsAll : List TypingFault → PairFault → Type 0
ReportsAll faults NoMemory = Unit {0}
ReportsAll faults (At r) = AreReported faults r
