use Rattle.std.proofs.Common.{arith, subst, sym}
use Rattle.std.proofs.lemmas.Result.{IfOk-weaker}
use Rattle.std.specs.Prelude.{All, IfSome}
use Rattle.pddl_tree.specs.Tree.{domain_of, problem_of}
use Rattle.model.specs.Trees.{Domain, Problem}
use Rattle.typing.specs.Task.{refusal_of}
use Rattle.typing.specs.Listed.{AreListed, faults_listed}
use Rattle.file_answers.specs.Complete.{AreUnread}
use Rattle.file_answers.specs.Files.{reported_in}
use Rattle.file_answers.specs.FurtherFaults.{IsFaultOfTexts}
use Rattle.file_answers.specs.declared.files.FileFault.{FileFault}
use Rattle.file_answers.proofs.FilesRead.{domain_of_text, problem_of_text}
use Rattle.file_answers.proofs.files.faults_of_files.Goals as goal

pub returns-in-Ok-clause-each : goal.returns-in-Ok-clause-each
returns-in-Ok-clause-each c =
    IfOk-weaker c.listed_faults.result _ _
    (λ found are k r below. record {
      domain_tree = domain_of c.in-Ok.trees.domain;
      problem_tree = problem_of c.in-Ok.trees.problem;
      domain_reads = c.in-Ok.ensures.domain;
      problem_reads = c.in-Ok.ensures.problem;
      is_fault = are k r below;
    })
    c.listed_faults.ensures.each

pub returns-in-Ok-clause-all : goal.returns-in-Ok-clause-all
returns-in-Ok-clause-all c =
    IfOk-weaker c.listed_faults.result _ _
    (λ found are d p d_reads p_reads.
    subst (λ (e : Domain). AreListed (faults_listed e p) found.items) (domain_of_text c.args.domain.now (domain_of c.in-Ok.trees.domain) d c.in-Ok.ensures.domain d_reads)
    (subst (λ (q : Problem). AreListed (faults_listed (domain_of c.in-Ok.trees.domain) q) found.items) (problem_of_text c.args.problem.now (problem_of c.in-Ok.trees.problem) p c.in-Ok.ensures.problem p_reads) are))
    c.listed_faults.ensures.all

pub returns-in-Err-At-clause-each : goal.returns-in-Err-At-clause-each
returns-in-Err-At-clause-each c =
    subst (All (λ r. IsFaultOfTexts c.args.domain.now c.args.problem.now (refusal_of r))) (sym c.new.ensures.items) (λ k r below. absurd (omega (arith, below)))

pub returns-in-Err-At-clause-all : goal.returns-in-Err-At-clause-all
returns-in-Err-At-clause-all c = λ d p d_reads p_reads.
    let unread : AreUnread c.args.domain.now c.args.problem.now =
    subst (λ (f : FileFault). IfSome (reported_in f) (λ _. AreUnread c.args.domain.now c.args.problem.now)) c.in-Err-At.field-0-is c.in-Err-At.ensures.unread in
    absurd (unread d p d_reads p_reads)
