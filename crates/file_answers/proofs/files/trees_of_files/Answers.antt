use Rattle.std.proofs.Common.{IfSome, sym, subst}
use Rattle.tokens.specs.Reported.{reported_by}
use Rattle.pddl_tree.specs.Tree.{domain_of}
use Rattle.model.specs.Files.{IsTaskFault}
use Rattle.file_answers.specs.Complete.{AreUnread}
use Rattle.file_answers.proofs.FilesRead.{domain_reported, no_domain, no_problem, problem_reported}
use Rattle.file_answers.proofs.files.trees_of_files.Goals as goal

pub returns-in-Err-clause-refused : goal.returns-in-Err-clause-refused
returns-in-Err-clause-refused c =
    subst (λ o. IfSome o (IsTaskFault c.args.domain.now c.args.problem.now)) (sym c.of.ensures)
    (domain_reported c.args.domain.now c.args.problem.now (reported_by c.in-Err.fault) c.in-Err.ensures.refused)

pub returns-in-Err-read_problem-clause-refused : goal.returns-in-Err-read_problem-clause-refused
returns-in-Err-read_problem-clause-refused c =
    subst (λ o. IfSome o (IsTaskFault c.args.domain.now c.args.problem.now)) (sym c.of-in-Err-read_problem.ensures)
    (problem_reported c.args.domain.now c.args.problem.now (domain_of c.in-Ok.domain) c.in-Ok.ensures.domain (reported_by c.in-Err-read_problem.fault) c.in-Err-read_problem.ensures.refused)

pub returns-in-Err-clause-unread : goal.returns-in-Err-clause-unread
returns-in-Err-clause-unread c =
    subst (λ o. IfSome o (λ _. AreUnread c.args.domain.now c.args.problem.now)) (sym c.of.ensures)
    (no_domain c.args.domain.now c.args.problem.now (reported_by c.in-Err.fault) c.in-Err.ensures.refused)

pub returns-in-Err-read_problem-clause-unread : goal.returns-in-Err-read_problem-clause-unread
returns-in-Err-read_problem-clause-unread c =
    subst (λ o. IfSome o (λ _. AreUnread c.args.domain.now c.args.problem.now)) (sym c.of-in-Err-read_problem.ensures)
    (no_problem c.args.domain.now c.args.problem.now (reported_by c.in-Err-read_problem.fault) c.in-Err-read_problem.ensures.refused)
