use Rattle.std.proofs.Common.{◌≡◌, ◌∙◌, None, Some, [], if◌then◌else◌, map, ap, sym}
use Rattle.std.specs.Option.{option_map}
use Rattle.typing.specs.Scope.{known_of}
use Rattle.typing.specs.Walk.{found, found_by}
use Rattle.task.specs.TaskParts as parts
use Rattle.pddl_tree.specs.Tree as read
use Rattle.model.specs.Trees as tree
use Rattle.model.specs.Typing as typing
use Rattle.typing.proofs.Found.{found_after}
use Rattle.typing.proofs.Values.{reported_of_named}
use Rattle.typing.proofs.statements.add_value.Goals as goal

pub returns-then-branch-clause-finds : goal.returns-then-branch-clause-finds
returns-then-branch-clause-finds c =
    let known = known_of c.args.scope.now in let file = read.file_of c.args.scope.now.globals.now.file in
    let v = read.initial_value_of c.args.given.now in
    let values = map parts.value_of c.args.values.now.entries in
    let is_known = c.in_function-functions.ensures.known in
    let other = typing.refused_word file 16 v.function.predicate in
    let named : Some (parts.atom_of c.in-Some.function) ≡ (if typing.is_named (typing.in_function known) v.function then Some (typing.atom_in (typing.in_function known) v.function) else None) =
    sym (ap (option_map parts.atom_of) c.in-Some.is) ∙ c.in_ok-function.ensures.value
    ∙ ap (λ k. if typing.is_named k v.function then Some (typing.atom_in k v.function) else None) is_known in
    let own = typing.ground_atom_faults file (typing.in_function known) v.function in
    let before = found_by c.args.walk.now in let middle = found_by c.named_atom.new.walk in
    let first : middle ≡ found before own =
    c.in_ok-function.ensures.finds ∙ (λ i. found before (typing.ground_atom_faults (ap read.file_of c.in_function-functions.ensures.file i) (is_known i) v.function)) in
    found_after before middle _ own (typing.value_faults file known values (tree.initial_value v)) first
    (c.refuse.ensures ∙ ap (λ b. found middle (if b then other else [])) (sym c.if-branch.true ∙ c.in_ok-put_value-in-Some.ensures.differs)
    ∙ ap (found middle) (reported_of_named known values v (parts.atom_of c.in-Some.function) named other))
