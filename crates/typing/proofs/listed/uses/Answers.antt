use Rattle.std.proofs.Common.{◌≡◌, ◌∙◌, ◌++◌, ap}
use Rattle.pddl_tree.specs.Tree.{domain_of, file_of, problem_of}
use Rattle.typing.specs.declared.scope.Globals.{Globals}
use Rattle.typing.specs.Resolver.{file_in, known_to}
use Rattle.typing.specs.Scope.{known_outside, known_over}
use Rattle.typing.specs.Walk.{found, found_by, nothing}
use Rattle.typing.proofs.Found.{found_after}
use Rattle.typing.proofs.Reports as printing
use Rattle.typing.proofs.Tasks.{names_in_domain, names_in_problem}
use Rattle.typing.specs.Listed.{use_faults}
use Rattle.model.specs.Trees.{problem_file}
use Rattle.model.specs.Typing.{action_faults, formula_faults, init_faults, known_in_domain, known_in_problem}
use Rattle.typing.proofs.listed.uses.Goals as goal

pub returns : goal.returns
returns c =
    let d = domain_of c.args.domain.now in let p = problem_of c.args.problem.now in let names = c.args.names.now in
    let domain = names_in_domain d p names c.requires in
    let problem = names_in_problem d p names c.requires in
    let in_domain : known_outside c.new-resolver.result.globals.now ≡ known_in_domain d = ap known_outside c.new-resolver.ensures.globals ∙ c.in_domain-in_domain.ensures.known ∙ domain in
    let in_file : file_in c.new-resolver-2.result ≡ problem_file = ap (λ (g : Globals). file_of g.file) c.new-resolver-2.ensures.globals ∙ c.in_problem-in_problem.ensures.file in
    let in_problem : known_to c.new-resolver-2.result ≡ known_in_problem d p =
    (λ i. known_over (c.new-resolver-2.ensures.globals i) (c.new-resolver-2.ensures.outside i)) ∙ c.in_problem-in_problem.ensures.known ∙ problem in
    let actions = action_faults (known_in_domain d) d.actions in
    let start = c.new-resolver.ensures.found ∙ c.in_ok-walk.ensures in
    let next = c.new-resolver-2.ensures.found ∙ c.into_walk.ensures in
    let total : found_by c.walk_statements.new.resolver.walk ≡ found nothing (use_faults d p) =
    found_after nothing (found_by c.walked_actions.new.resolver.walk) (found_by c.walk_statements.new.resolver.walk) actions
    (init_faults problem_file (known_in_problem d p) p.init ++ formula_faults problem_file (known_in_problem d p) p.goal)
    (c.in_ok-walked_actions.ensures.finds ∙ (λ i. found (start i) (action_faults (in_domain i) d.actions)))
    (c.in_ok-walk_statements.ensures ∙ (λ i. found (next i) (init_faults (in_file i) (in_problem i) p.init ++ formula_faults (in_file i) (in_problem i) p.goal))) in
    record {
      none = printing.none_result tt (use_faults d p) _ total c.finish.result c.finish.ensures.none;
      reported = printing.reports_result (use_faults d p) _ total c.finish.result c.finish.ensures.some;
    }

pub walked_actions-requires : goal.walked_actions-requires
walked_actions-requires c = record {
  file = ap (λ (g : Globals). file_of g.file) c.new-resolver.ensures.globals ∙ c.in_domain-in_domain.ensures.file;
  outside = c.new-resolver.ensures.outside;
}
