-- That no fault is left out of an explanation, up to the number that is reported.
use Rattle.std.specs.Prelude.{◌≡◌, ℕ, ◌≤◌, List, ◌∷◌, Contains, length, map, take, ◌⊎◌}
use Rattle.faults.specs.Fault.{number_of}
use Rattle.faults.specs.declared.code.Code.{Code}
use Rattle.pddl_tree.specs.declared.tree.TaskFile.{TaskFile}
use Rattle.pddl_tree.specs.declared.tree.TaskFile.TheVariants as pair
use Rattle.typing.specs.Listed.{AreListed, faults_listed}
use Rattle.faults.specs.declared.refused.RefusalIn.{RefusalIn}
use Rattle.explain_hints.specs.Refusals.{FileRefusal}
use Rattle.explain_hints.specs.declared.texts.File.{File}
use Rattle.explain_hints.specs.declared.texts.File.TheVariants.{Domain, Problem}
use Rattle.explain_faults.specs.SameMistake.{AreOfOneMistake, Texts}
use Rattle.file_answers.specs.FurtherFaults.{IsReportedAt}
use Rattle.file_answers.specs.declared.explanation.FurtherFault.{FurtherFault}
use Rattle.model.specs.Trees as tree
use Rattle.model.specs.Resolution.{TypingFault}
use Rattle.model.specs.Files.{IsDomainText, IsProblemText}

abbrev pub TaskRefusal : Type 0
TaskRefusal = RefusalIn TaskFile

-- a fault of names and types, by its code
abbrev pub IsOfTyping : Code → Type 0
IsOfTyping code = (14 ≤ number_of code) × (number_of code ≤ 25)

-- a fault is among those reported, or comes from the same mistake as one of them
abbrev pub IsReportedAmong : Texts → List FileRefusal → FileRefusal → Type 0
IsReportedAmong text_of reported fault = (other : FileRefusal) × Contains reported other × ((fault ≡ other) ⊎ AreOfOneMistake text_of fault other)

abbrev pub fault_in : FurtherFault → FileRefusal
fault_in f = f.fault

-- it is so for the first fault and the further ones, or as many further ones are reported as may be
abbrev pub IsAccounted : Texts → (first : FileRefusal) → (further : List FurtherFault) → FileRefusal → Type 0
IsAccounted text_of first further fault = (20 ≤ length further) ⊎ IsReportedAmong text_of (first ∷ map fault_in further) fault

-- Of a pair whose first fault is one of names and types no fault is left out: this holds for each that is found together with it, of
-- which there are 1,000 at most.
abbrev pub IsComplete : Texts → (first : FileRefusal) → (further : List FurtherFault) → Type 0
IsComplete text_of first further =
    IsOfTyping first.code → (d : tree.Domain) (p : tree.Problem) → IsDomainText (text_of Domain) d → IsProblemText (text_of Problem) p
    → (typed : TypingFault) → Contains (take 1000 (faults_listed d p)) typed
    → (fault : FileRefusal) × IsReportedAt typed fault × IsAccounted text_of first further fault

-- ---- intermediate definitions

-- these are the faults of the pair that are found together, in some order, if the texts are a pair
abbrev pub AreListedOf : (domain problem : List ℕ) → List TaskRefusal → Type 0
AreListedOf domain problem found =
    (d : tree.Domain) (p : tree.Problem) → IsDomainText domain d → IsProblemText problem p → AreListed (faults_listed d p) found

-- one of the texts has no tree
abbrev pub AreUnread : (domain problem : List ℕ) → Type 0
AreUnread domain problem = (d : tree.Domain) (p : tree.Problem) → IsDomainText domain d → IsProblemText problem p → ⊥

abbrev pub one_of_files : TaskFile → File
one_of_files pair.Domain = Domain
one_of_files pair.Problem = Problem

-- a fault of a pair as a fault of a file
abbrev pub of_pair : TaskRefusal → FileRefusal
of_pair r = record { file = one_of_files r.file; code = r.code; span = r.span }
