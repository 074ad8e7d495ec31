use Rattle.std.proofs.Common.{IfSome, sym, subst}
use Rattle.std.proofs.lemmas.Result.{err_from_is_err_and}
use Rattle.pddl_tree.specs.Tree.{domain_of, problem_of}
use Rattle.model.specs.Files.{IsTaskFault}
use Rattle.file_answers.proofs.FilesRead.{pair_reported}
use Rattle.file_answers.proofs.files.task_of_files.Goals as goal

pub returns-in_err-domain-clause-refused : goal.returns-in_err-domain-clause-refused
returns-in_err-domain-clause-refused c =
    let p = err_from_is_err_and c.from_residual.result c.from_residual.ensures.1 in
    rw (p.1, p.2) c.in_err-domain.ensures.refused

pub returns-in_err-new-clause-refused : goal.returns-in_err-new-clause-refused
returns-in_err-new-clause-refused c =
    let p = err_from_is_err_and c.from_residual-in_err-new.result c.from_residual-in_err-new.ensures.1 in
    rw p.1
    (subst (λ o. IfSome o (IsTaskFault c.args.domain.now c.args.problem.now)) (sym p.2)
    (pair_reported c.args.domain.now c.args.problem.now (domain_of c.in_ok-domain.field-0.domain) (problem_of c.in_ok-domain.field-0.problem)
    c.in_ok-domain.ensures.domain c.in_ok-domain.ensures.problem _ c.in_err-new.ensures.least))

pub returns-clause-names : goal.returns-clause-names
returns-clause-names c = record {
  is_task = record {
    domain_tree = domain_of c.in_ok-domain.field-0.domain;
    problem_tree = problem_of c.in_ok-domain.field-0.problem;
    domain_reads = c.in_ok-domain.ensures.domain;
    problem_reads = c.in_ok-domain.ensures.problem;
    well_typed = c.in_ok-new.ensures.well_typed;
    resolved = c.in_ok-new.ensures.task;
  };
  are_names = c.in_ok-new.ensures.names;
}
