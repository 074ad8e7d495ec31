-- From texts to their task: the fault of two texts, and that there is none for two texts that are a task.
use Rattle.std.proofs.Common.{◌≡◌, ℕ, List, Option, Some, None, IfSome, sym, refl, ap, ◌∙◌, subst}
use Rattle.std.specs.Prelude.{Result, Ok, Err, IfErr, Contains}
use Rattle.std.specs.Option.{option_map}
use Rattle.model.specs.Fault.{Fault}
use Rattle.model.specs.Words.{Word, ReadsAs, IsReported}
use Rattle.model.specs.Trees.{TaskFile, domain_file, problem_file, Domain, Problem}
use Rattle.model.specs.Grammar.{IsDomain, IsProblem}
use Rattle.model.specs.GrammarWords.{tokens_of}
use Rattle.model.specs.Refusals.{IsWhole, IsRefused}
use Rattle.model.specs.Grammar as tree
use Rattle.model.specs.Task.{Task, Instance}
use Rattle.model.specs.Typing.{IsWellTyped, task_of_trees}
use Rattle.model.proofs.ListLemmas.{Contains-none}
use Rattle.model.specs.PlanText.{IsPlanText, IsPlanFault}
use Rattle.model.specs.Files.{of_task, the_plan, FileFault, IsDomainText, IsProblemText, IsTextFault, of_words, of_tree, IsTaskOf, IsTaskFault, in_the_domain, in_the_problem, in_the_pair, IsFileFault, in_the_task, in_the_plan, AreRead}
use Rattle.model.proofs.GrammarMeaning.{one_domain, one_problem}
use Rattle.model.proofs.GrammarOneRefusal.{whole_not_refused}
use Rattle.tokens.specs.Reported as code
use Rattle.tokens.specs.Reported.{reported_by}
use Rattle.tokens.proofs.Words.{one_reading_lem}
use Rattle.tokens.proofs.Order.{read_is_reported_nothing}
use Rattle.faults.specs.declared.refused.Refused.TheVariants.{At, NoMemory}
use Rattle.typing.specs.Task.{TaskFault, ReportsFault, refusal_of}
use Rattle.file_answers.specs.declared.files.FileFault as file
use Rattle.file_answers.specs.Complete.{AreUnread}
use Rattle.file_answers.specs.Files.{reported_in, reported_of_pair}
use Rattle.file_answers.specs.Inputs.{IsInputFault}
use Rattle.plan_file.proofs.PlanSteps.{no_fault_of_plan}

-- what is reported, if it is known
pub reported_more_in : (P Q : FileFault → Type 0) (o : Option FileFault) → ((fault : FileFault) → P fault → Q fault) → IfSome o P → IfSome o Q
reported_more_in P Q None f h = tt
reported_more_in P Q (Some fault) f h = f fault h

reported_none_in : (P : FileFault → Type 0) (o : Option FileFault) → IfSome o P → ((fault : FileFault) → P fault → ⊥) → o ≡ None
reported_none_in P None h never = refl
reported_none_in P (Some fault) h never = absurd (never fault h)

-- running out of memory does not refuse a text
pub none_refused : {T : Type 0} (P : FileFault → Type 0) (r : Result T file.FileFault) → IfErr r (λ fault. reported_in fault ≡ None) → IfErr r (λ fault. IfSome (reported_in fault) P)
none_refused P (Ok found) h = tt
none_refused P (Err fault) h = subst (λ o. IfSome o P) (sym h) tt

-- The fault reported for one text.
pub words_refused : (kind : TaskFile) (text : List ℕ) (o : Option Fault) → IfSome o (IsReported text) → IfSome o (IsTextFault kind text)
words_refused kind text None h = tt
words_refused kind text (Some fault) h = of_words h

pub tree_refused : (kind : TaskFile) (text : List ℕ) (words : List Word) → ReadsAs text words → (o : Option Fault) → IfSome o (IsRefused kind words) → IfSome o (IsTextFault kind text)
tree_refused kind text words reads None h = tt
tree_refused kind text words reads (Some fault) h = of_tree words reads h

pub tree_refused_in : {T : Type 0} (kind : TaskFile) (text : List ℕ) (words : List Word) → ReadsAs text words → (r : Result T code.Fault) → IfErr r (λ fault. IfSome (reported_by fault) (IsRefused kind words)) → IfErr r (λ fault. IfSome (reported_by fault) (IsTextFault kind text))
tree_refused_in kind text words reads (Ok tree) h = tt
tree_refused_in kind text words reads (Err fault) h = tree_refused kind text words reads (reported_by fault) h

text_not_refused : (kind : TaskFile) (text : List ℕ) (words : List Word) (fault : Fault) → ReadsAs text words → IsWhole kind (tokens_of words) → IsTextFault kind text fault → ⊥
text_not_refused kind text words fault reads whole (of_words reported) = read_is_reported_nothing text words fault reads reported
text_not_refused kind text words fault reads whole (of_tree others other refused) =
    whole_not_refused kind others fault (subst (λ ws. IsWhole kind (tokens_of ws)) (one_reading_lem text words others reads other) whole) refused

-- A text is at most one domain, and at most one problem.
pub domain_of_text : (text : List ℕ) (d e : Domain) → IsDomainText text d → IsDomainText text e → d ≡ e
domain_of_text text d e h g =
    one_domain (tokens_of g.words) d e (subst (λ ws. IsDomain (tokens_of ws) d) (one_reading_lem text h.words g.words h.reads g.reads) h.tree) g.tree

pub problem_of_text : (text : List ℕ) (p q : Problem) → IsProblemText text p → IsProblemText text q → p ≡ q
problem_of_text text p q h g =
    one_problem (tokens_of g.words) p q (subst (λ ws. IsProblem (tokens_of ws) p) (one_reading_lem text h.words g.words h.reads g.reads) h.tree) g.tree

-- Two texts are at most one task, and no fault is reported for texts that are one.
module _ (domain problem : List ℕ) where
  pub one_task : (task other : Task) → IsTaskOf domain problem task → IsTaskOf domain problem other → task ≡ other
  one_task task other h g =
      h.resolved ∙ ap (λ d. task_of_trees d h.problem_tree) (domain_of_text domain h.domain_tree g.domain_tree h.domain_reads g.domain_reads)
      ∙ ap (task_of_trees g.domain_tree) (problem_of_text problem h.problem_tree g.problem_tree h.problem_reads g.problem_reads)
      ∙ sym g.resolved

  pub no_task_fault : (task : Task) (reported : FileFault) → IsTaskOf domain problem task → IsTaskFault domain problem reported → ⊥
  no_task_fault task reported h (in_the_domain fault file) =
      text_not_refused domain_file domain h.domain_reads.words reported.fault h.domain_reads.reads (tree.domain_tree h.domain_tree, h.domain_reads.tree) fault
  no_task_fault task reported h (in_the_problem d reads fault file) =
      text_not_refused problem_file problem h.problem_reads.words reported.fault h.problem_reads.reads (tree.problem_tree h.problem_tree, h.problem_reads.tree) fault
  no_task_fault task reported h (in_the_pair d p typed d_reads p_reads reports_first reports) =
      let same_domain = domain_of_text domain d h.domain_tree d_reads h.domain_reads in
      let same_problem = problem_of_text problem p h.problem_tree p_reads h.problem_reads in
      let well_typed = subst (λ e. IsWellTyped e p) (sym same_domain) (subst (IsWellTyped h.domain_tree) (sym same_problem) h.well_typed) in
      Contains-none typed (subst (λ faults. Contains faults typed) well_typed reports_first.is_fault)

  no_file_fault : (plan : List ℕ) (task : Task) (steps : List Instance) (reported : FileFault) → AreRead domain problem plan task steps → IsFileFault domain problem plan reported → ⊥
  no_file_fault plan task steps reported h (in_the_task fault) = no_task_fault task reported h.is_task fault
  no_file_fault plan task steps reported h (in_the_plan other is_other fault file) =
      no_fault_of_plan other plan steps reported.fault (subst (λ t. IsPlanText t plan steps) (one_task task other h.is_task is_other) h.is_plan) fault

  -- in the code's terms
  pub none_reported : (plan : List ℕ) (o : Option FileFault) → IfSome o (IsFileFault domain problem plan) → (task : Task) (steps : List Instance) → AreRead domain problem plan task steps → o ≡ None
  none_reported plan o h task steps are = reported_none_in (IsFileFault domain problem plan) o h (λ reported. no_file_fault plan task steps reported are)

  -- the same for the result of a call
  pub none_reported_in : {T : Type 0} (plan : List ℕ) (r : Result T file.FileFault) → IfErr r (λ fault. IfSome (reported_in fault) (IsFileFault domain problem plan)) → (task : Task) (steps : List Instance) → AreRead domain problem plan task steps → IfErr r (λ fault. reported_in fault ≡ None)
  none_reported_in plan (Ok verdict) h task steps are = tt
  none_reported_in plan (Err fault) h task steps are = none_reported plan (reported_in fault) h task steps are

  pub none_reported_of_task : (o : Option FileFault) → IfSome o (IsTaskFault domain problem) → (task : Task) → IsTaskOf domain problem task → o ≡ None
  none_reported_of_task o h task is = reported_none_in (IsTaskFault domain problem) o h (λ reported. no_task_fault task reported is)

  pub domain_reported : (o : Option Fault) → IfSome o (IsTextFault domain_file domain) → IfSome (option_map (λ (f : Fault). let t : FileFault = record { file = of_task domain_file; fault = f } in t) o) (IsTaskFault domain problem)
  domain_reported None h = tt
  domain_reported (Some fault) h = in_the_domain h refl

  pub problem_reported : (d : Domain) → IsDomainText domain d → (o : Option Fault) → IfSome o (IsTextFault problem_file problem) → IfSome (option_map (λ (f : Fault). let t : FileFault = record { file = of_task problem_file; fault = f } in t) o) (IsTaskFault domain problem)
  problem_reported d reads None h = tt
  problem_reported d reads (Some fault) h = in_the_problem d reads h refl

  pub pair_reported : (d : Domain) (p : Problem) → IsDomainText domain d → IsProblemText problem p → (fault : TaskFault) → ReportsFault d p fault → IfSome (reported_of_pair fault) (IsTaskFault domain problem)
  pair_reported d p d_reads p_reads (At r) least = in_the_pair d p (refusal_of r) d_reads p_reads least (record { file = refl; fault = refl })
  pair_reported d p d_reads p_reads NoMemory h = tt

  -- a text that is refused has no tree
  pub no_domain : (o : Option Fault) → IfSome o (IsTextFault domain_file domain) → IfSome (option_map (λ (f : Fault). let t : FileFault = record { file = of_task domain_file; fault = f } in t) o) (λ _. AreUnread domain problem)
  no_domain None h = tt
  no_domain (Some fault) h = λ d p d_reads p_reads. text_not_refused domain_file domain d_reads.words fault d_reads.reads (tree.domain_tree d, d_reads.tree) h

  pub no_problem : (o : Option Fault) → IfSome o (IsTextFault problem_file problem) → IfSome (option_map (λ (f : Fault). let t : FileFault = record { file = of_task problem_file; fault = f } in t) o) (λ _. AreUnread domain problem)
  no_problem None h = tt
  no_problem (Some fault) h = λ d p d_reads p_reads. text_not_refused problem_file problem p_reads.words fault p_reads.reads (tree.problem_tree p, p_reads.tree) h

  pub plan_reported : (plan : List ℕ) (task : Task) → IsTaskOf domain problem task → (o : Option Fault) → IfSome o (IsPlanFault task plan) → IfSome (option_map (λ (f : Fault). let t : FileFault = record { file = the_plan; fault = f } in t) o) (IsFileFault domain problem plan)
  plan_reported plan task is None h = tt
  plan_reported plan task is (Some fault) h = in_the_plan task is h refl

  pub task_reported : (plan : List ℕ) (o : Option FileFault) → IfSome o (IsTaskFault domain problem) → IfSome o (IsFileFault domain problem plan)
  task_reported plan o h = reported_more_in (IsTaskFault domain problem) (IsFileFault domain problem plan) o (λ reported fault. in_the_task fault) h

  pub task_input : (plan : Option (List ℕ)) (o : Option FileFault) → IfSome o (IsTaskFault domain problem) → IfSome o (IsInputFault domain problem plan)
  task_input None o h = h
  task_input (Some plan) o h = task_reported plan o h
