use Rattle.std.proofs.Common.{◌∙◌, [], map, drop, ap}
use Rattle.std.specs.List.{flat_map}
use Rattle.typing.specs.Task.{file_of}
use Rattle.typing.specs.Scope.{known_of, narrow_atoms_in}
use Rattle.typing.specs.Walk.{found, found_by}
use Rattle.typing.proofs.Found.{found_after}
use Rattle.pddl_tree.specs.Tree as read
use Rattle.model.specs.Typing as typing
use Rattle.typing.proofs.statements.walked_init.Goals as goal

pub returns : goal.returns
returns c =
    let known = known_of c.args.scope.now in
    let file = file_of c.args.scope.now.globals.now.file in
    let ys = map read.fact_of c.args.problem.now.init.items in
    let facts = c.as_slice-facts.ensures.value in
    let own = typing.facts_faults file known [] ys in
    let again = typing.refused 23 (drop 1 (typing.equals_in file ys)) in
    record {
      atoms = c.in_ok-init.ensures.atoms ∙ ap (λ l. flat_map (narrow_atoms_in known) (map read.fact_of l)) facts;
      values = c.in_ok-init.ensures.values ∙ ap (λ l. typing.values_after known [] (map read.fact_of l)) facts;
      finds = found_after (found_by c.args.walk.now) (found_by c.stated.new.walk) (found_by c.check_all_equals.new.walk) own again
          (c.in_ok-init.ensures.finds ∙ ap (λ l. found (found_by c.args.walk.now) (typing.facts_faults file known [] (map read.fact_of l))) facts)
          (c.check_all_equals.ensures ∙ ap (λ l. found (found_by c.stated.new.walk) (typing.refused 23 (drop 1 (typing.equals_in file (map read.fact_of l))))) facts);
    }
