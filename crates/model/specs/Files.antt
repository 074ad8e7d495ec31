-- From the bytes of files to their task, to the fault that is reported if they cannot be read, and to the verdict on a plan: the
-- definitions of words, trees, typing and plan texts, one after another. Files are examined in order: the domain, the problem and
-- then the plan; the pair is typed between the problem and the plan.
use Rattle.std.specs.Prelude.{◌≡◌, ℕ, List}
use Rattle.model.specs.Fault.{Fault}
use Rattle.model.specs.Words.{Word, ReadsAs, IsReported}
use Rattle.model.specs.Trees.{domain_file, problem_file, Domain, Problem}
use Rattle.model.specs.Trees as tree
use Rattle.model.specs.Grammar.{IsDomain, IsProblem}
use Rattle.model.specs.GrammarWords.{tokens_of}
use Rattle.model.specs.Refusals.{IsRefused}
use Rattle.model.specs.Task.{Task, Instance}
use Rattle.model.specs.Resolution.{TypingFault, task_of_trees}
use Rattle.model.specs.Typing as typing
use Rattle.model.specs.Typing.{IsWellTyped}
use Rattle.model.specs.Runs.{Verdict, IsVerdict}
use Rattle.model.specs.Meaning.{system_of}
use Rattle.model.specs.PlanText.{IsPlanText, IsPlanFault}

-- an input file: one of the task's two, or the plan
pub data File : Type 0 where
  of_task : tree.TaskFile → File
  the_plan : File

-- a fault with its file
pub record FileFault : Type 0 where
  pub file : File
  pub fault : Fault

-- the text is this domain: its words have this tree
pub record IsDomainText (text : List ℕ) (domain : Domain) : Type 0 where
  pub words : List Word
  pub reads : ReadsAs text words
  pub tree : IsDomain (tokens_of words) domain

-- the text is this problem: its words have this tree
pub record IsProblemText (text : List ℕ) (problem : Problem) : Type 0 where
  pub words : List Word
  pub reads : ReadsAs text words
  pub tree : IsProblem (tokens_of words) problem

-- the fault reported for a text that is not a file of this kind: why it does not read as words, or otherwise why its words have
-- no tree
pub data IsTextFault (kind : tree.TaskFile) (text : List ℕ) (fault : Fault) : Type 0 where
  of_words : IsReported text fault → IsTextFault kind text fault
  of_tree : (words : List Word) → ReadsAs text words → IsRefused kind words fault → IsTextFault kind text fault

-- The two texts are this task: they are a domain and a problem, the pair is well-typed, and each name is its number.
pub record IsTaskOf (domain problem : List ℕ) (task : Task) : Type 0 where
  pub domain_tree : Domain
  pub problem_tree : Problem
  pub domain_reads : IsDomainText domain domain_tree
  pub problem_reads : IsProblemText problem problem_tree
  pub well_typed : IsWellTyped domain_tree problem_tree
  pub resolved : task ≡ task_of_trees domain_tree problem_tree

-- a typing fault is reported for its file, with its number and span
pub record IsReportedTyping (typed : TypingFault) (reported : FileFault) : Type 0 where
  pub file : reported.file ≡ of_task typed.file
  pub fault : reported.fault ≡ typed.fault

-- the fault reported for two texts that are not a task: the first fault in the order of files
pub data IsTaskFault (domain problem : List ℕ) (reported : FileFault) : Type 0 where
  in_the_domain : IsTextFault domain_file domain reported.fault → reported.file ≡ of_task domain_file → IsTaskFault domain problem reported
  in_the_problem : (d : Domain) → IsDomainText domain d → IsTextFault problem_file problem reported.fault → reported.file ≡ of_task problem_file
      → IsTaskFault domain problem reported
  in_the_pair : (d : Domain) (p : Problem) (typed : TypingFault) → IsDomainText domain d → IsProblemText problem p
      → typing.IsReported d p typed → IsReportedTyping typed reported → IsTaskFault domain problem reported

-- the fault reported for three texts that are not a task and a plan for it: the first fault in the order of files
pub data IsFileFault (domain problem plan : List ℕ) (reported : FileFault) : Type 0 where
  in_the_task : IsTaskFault domain problem reported → IsFileFault domain problem plan reported
  in_the_plan : (task : Task) → IsTaskOf domain problem task → IsPlanFault task plan reported.fault → reported.file ≡ the_plan
      → IsFileFault domain problem plan reported

-- the three texts are this task and these steps
pub record AreRead (domain problem plan : List ℕ) (task : Task) (steps : List Instance) : Type 0 where
  pub is_task : IsTaskOf domain problem task
  pub is_plan : IsPlanText task plan steps

-- the true verdict for the three texts: on the plan, in the task
pub record IsVerdictOf (domain problem plan : List ℕ) (verdict : Verdict) : Type 0 where
  pub task : Task
  pub steps : List Instance
  pub are_read : AreRead domain problem plan task steps
  pub is_true : IsVerdict (system_of task) steps verdict
