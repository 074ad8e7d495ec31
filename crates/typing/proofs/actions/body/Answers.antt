use Rattle.std.proofs.Common.{◌≡◌, ◌∙◌, ◌++◌, map, ap, sym}
use Rattle.std.specs.List.{flat_map}
use Rattle.std.proofs.lemmas.List.{append_assoc}
use Rattle.typing.specs.Task.{file_of}
use Rattle.task.specs.TaskParts as parts
use Rattle.typing.specs.Resolver.{file_in, known_to}
use Rattle.typing.specs.Scope.{known_of, known_over}
use Rattle.typing.specs.Walk.{found, found_by}
use Rattle.pddl_tree.specs.Tree as read
use Rattle.model.specs.Trees as tree
use Rattle.model.specs.Trees.{TaskFile}
use Rattle.model.specs.Typing as typing
use Rattle.typing.proofs.Found.{found_after}
use Rattle.typing.proofs.actions.body.Goals.{In_ok-precondition, After-with-scope}
use Rattle.typing.proofs.actions.body.Goals as goal

-- the same names are visible in the effect
same : (c : In_ok-precondition) → known_to c.condition.new.resolver ≡ known_to c.args.resolver.now
same c = λ i. known_over (c.in_ok-precondition.ensures.globals i).now (c.in_ok-precondition.ensures.variables i)

same_file : (c : In_ok-precondition) → file_in c.condition.new.resolver ≡ file_in c.args.resolver.now
same_file c = λ i. file_of (c.in_ok-precondition.ensures.globals i).now.file

-- and after it
same_after : (c : After-with-scope) → known_of c.with-scope.result ≡ known_to c.args.resolver.now
same_after c =
    c.with-scope.ensures.known ∙ (λ i. known_over (c.in_ok-effect.ensures.globals i).now (c.in_ok-effect.ensures.variables i))
    ∙ (λ i. known_over (c.in_ok-precondition.ensures.globals i).now (c.in_ok-precondition.ensures.variables i))

file_after : (c : After-with-scope) → file_of c.with-scope.result.globals.now.file ≡ file_in c.args.resolver.now
file_after c =
    ap file_of c.with-scope.ensures.file ∙ (λ i. file_of (c.in_ok-effect.ensures.globals i).now.file) ∙ (λ i. file_of (c.in_ok-precondition.ensures.globals i).now.file)

pub returns-clause-shape : goal.returns-clause-shape
returns-clause-shape c =
    let s = (goal.at.returns-clause-shape c).In_ok-precondition in let last = (goal.at.returns-clause-shape c).After-with-scope in
    let a = read.action_of c.args.action.now in
    let effect = c.in_ok-effect.ensures.value ∙ (λ i. typing.effect_in (same_file s i) (same s i) a.effect) in
    let increase = c.in_ok-increase.ensures.value ∙ ap (λ k. typing.increase_of k a) (same_after last) in
    λ i. (map parts.union_of c.args.parameters.items, c.in_ok-precondition.ensures.value i, effect i, increase i)

pub returns-clause-finds : goal.returns-clause-finds
returns-clause-finds c =
    let s = (goal.at.returns-clause-finds c).In_ok-precondition in let end = (goal.at.returns-clause-finds c).After-with-scope in
    let a = read.action_of c.args.action.now in
    let file = file_in c.args.resolver.now in let known = known_to c.args.resolver.now in
    let before = found_by c.args.resolver.now.walk in let middle = found_by c.condition.new.resolver.walk in let last = found_by c.effect.new.resolver.walk in
    let first = typing.formula_faults file known a.precondition in let second = typing.effect_faults file known a.effect in
    let increases = typing.increase_faults file known a in
    let amounts = λ (f : TaskFile) (k : typing.Known). flat_map (λ (i : tree.Increase). typing.amount_faults f k i.amount) a.increases in
    found_after before last _ (first ++ second) (increases ++ amounts file known)
    (found_after before middle _ first second c.in_ok-precondition.ensures.finds
    (c.in_ok-effect.ensures.finds ∙ (λ i. found middle (typing.effect_faults (same_file s i) (same s i) a.effect))))
    (c.in_ok-increase.ensures.finds ∙ (λ i. found last (typing.increase_faults (file_after end i) (same_after end i) a ++ amounts (file_after end i) (same_after end i))))
    ∙ ap (found before) (sym (append_assoc (first ++ second) increases (amounts file known)))
