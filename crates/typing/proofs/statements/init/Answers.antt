use Rattle.std.proofs.Common.{◌≡◌, ◌∙◌, [], map, ap}
use Rattle.std.specs.List.{flat_map}
use Rattle.typing.specs.Task.{file_of}
use Rattle.typing.specs.Scope.{known_over, narrow_atoms_in}
use Rattle.typing.specs.Walk.{found, found_by, nothing}
use Rattle.task.specs.TaskParts as parts
use Rattle.pddl_tree.specs.Tree as read
use Rattle.model.specs.Typing as typing
use Rattle.typing.proofs.Reports as printing
use Rattle.typing.proofs.statements.init.Goals as goal

pub returns : goal.returns
returns c =
    let known = known_over c.args.globals.now c.args.variables.now.entries in
    let file = file_of c.args.globals.now.file in
    let facts = (read.problem_of c.args.problem.now).init in
    let is_file = ap file_of c.with-scope.ensures.file in let is = c.with-scope.ensures.known in
    let all = typing.init_faults file known facts in
    let total : found_by c.walked_init.new.walk ≡ found nothing all =
    c.in_ok-init.ensures.finds ∙ (λ i. found (c.in_ok-walk.ensures i) (typing.init_faults (is_file i) (is i) facts)) in
    let atoms : map parts.atom_of c.in_ok-init.init.atoms.items ≡ flat_map (narrow_atoms_in known) facts = c.in_ok-init.ensures.atoms ∙ (λ i. flat_map (narrow_atoms_in (is i)) facts) in
    let values : map parts.value_of c.in_ok-init.init.values.entries ≡ typing.values_after known [] facts = c.in_ok-init.ensures.values ∙ (λ i. typing.values_after (is i) [] facts) in
    record {
      ok = printing.given (λ s. (map parts.atom_of s.atoms.items ≡ flat_map (narrow_atoms_in known) facts) × (map parts.value_of s.values.entries ≡ typing.values_after known [] facts))
          c.in_ok-init.init all _ total (λ _. (atoms, values)) c.finish.result c.finish.ensures.none;
      err = printing.reports_result all _ total c.finish.result c.finish.ensures.some;
    }
