use Rattle.std.proofs.Common.{◌≡◌, ◌∙◌, List, ap, sym}
use Rattle.std.specs.List.{flat_map}
use Rattle.std.proofs.lemmas.List.Folds.{flat_map-map}
use Rattle.typing.specs.Task.{file_of}
use Rattle.typing.specs.Scope.{known_of}
use Rattle.typing.specs.Walk.{found, found_by}
use Rattle.pddl_tree.specs.declared.tree.Increase.{Increase}
use Rattle.pddl_tree.specs.Tree as read
use Rattle.model.specs.Trees as tree
use Rattle.model.specs.Typing as typing
use Rattle.typing.proofs.Found.{found_after}
use Rattle.typing.proofs.Reports.{on_ok_weaker}
use Rattle.typing.proofs.functions.increase.Goals as goal

pub returns-clause-finds : goal.returns-clause-finds
returns-clause-finds c =
    let a = read.action_of c.args.action.now in
    let file = file_of c.args.scope.now.globals.now.file in let known = known_of c.args.scope.now in
    let before = found_by c.args.walk.now in let middle = found_by c.check_increases.new.walk in
    let amounts = λ (i : tree.Increase). typing.amount_faults file known i.amount in
    let first : middle ≡ found before (typing.increase_faults file known a) =
    c.check_increases.ensures in
    on_ok_weaker c.first_amount.result
    (λ finds. found_after before middle _ (typing.increase_faults file known a) (flat_map amounts a.increases) first
    (finds ∙ ap (λ (xs : List Increase). found middle (flat_map (λ (i : Increase). amounts (read.increase_of i)) xs)) c.deref.ensures.value
    ∙ ap (found middle) (sym (flat_map-map amounts read.increase_of c.args.action.now.increases.items)))) c.first_amount.ensures.finds
