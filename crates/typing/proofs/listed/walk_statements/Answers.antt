use Rattle.std.proofs.Common.{◌∙◌, ap}
use Rattle.pddl_tree.specs.Tree.{file_of, problem_of}
use Rattle.typing.specs.Resolver.{file_in, known_to}
use Rattle.typing.specs.Walk.{found, found_by}
use Rattle.typing.proofs.Found.{found_after}
use Rattle.model.specs.Typing.{formula_faults, init_faults}
use Rattle.typing.proofs.listed.walk_statements.Goals as goal

pub returns : goal.returns
returns c =
    let r = c.args.resolver.now in let p = problem_of c.args.problem.now in let before = found_by r.walk in
    found_after before (found_by c.walked_init.new.walk) (found_by c.formula.new.resolver.walk) (init_faults (file_in r) (known_to r) p.init) (formula_faults (file_in r) (known_to r) p.goal)
    (c.in_ok-walked_init.ensures.finds ∙ (λ i. found before (init_faults (ap file_of c.with-scope.ensures.file i) (c.with-scope.ensures.known i) p.init)))
    c.in_ok-formula.ensures.finds
