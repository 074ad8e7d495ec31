-- The faults that are reported for a pair, in the model's terms.
pub use Rattle.pddl_tree.specs.Tree.{file_of}
pub use Rattle.typing.specs.QuantifiedNames.{variable_names}
pub use Rattle.typing.specs.Refusals.{refusal_of, PairFault, TaskFault, ReportsAll}
use Rattle.faults.specs.declared.refused.Refused.TheVariants.{At, NoMemory}
use Rattle.model.specs.Trees as tree
use Rattle.model.specs.Typing.{IsLeastOf, TypingFault, faults_of}
use Rattle.std.specs.Prelude.{List}

-- the least of these faults is reported; nothing is stated for running out of memory
abbrev pub ReportsLeastOf : List TypingFault → TaskFault → Type 0
ReportsLeastOf faults NoMemory = Unit {0}
ReportsLeastOf faults (At r) = IsLeastOf faults (refusal_of r)

-- the fault is the one that is reported for the pair; nothing is stated for running out of memory
abbrev pub ReportsFault : tree.Domain → tree.Problem → TaskFault → Type 0
ReportsFault d p = ReportsLeastOf (faults_of d p)

-- the faults of the pair are reported; nothing is stated for running out of memory
abbrev pub ReportsFaults : tree.Domain → tree.Problem → PairFault → Type 0
ReportsFaults d p = ReportsAll (faults_of d p)
