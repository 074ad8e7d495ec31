use Rattle.std.proofs.Common.{◌≡◌, ◌∙◌, [], map, ap}
use Rattle.typing.specs.Task.{file_of}
use Rattle.typing.specs.Resolver.{file_in, known_to}
use Rattle.typing.specs.Scope.{known_outside, known_over, variable_entry_of}
use Rattle.typing.specs.Walk.{found, found_by}
use Rattle.pddl_tree.specs.Tree as read
use Rattle.model.specs.Trees.{domain_file}
use Rattle.model.specs.Typing as typing
use Rattle.typing.proofs.Found.{found_after}
use Rattle.typing.proofs.actions.schema.Goals.{In_ok-parameters}
use Rattle.typing.proofs.actions.schema.Goals as goal

-- the names visible before the action
outside : (c : In_ok-parameters) → known_to c.args.resolver.now ≡ known_outside c.args.resolver.now.globals.now
outside c = ap (known_over c.args.resolver.now.globals.now) c.requires.outside

-- the names visible in it
same : (c : In_ok-parameters) → known_to c.enter.new.resolver ≡ typing.known_in_action (known_outside c.args.resolver.now.globals.now) (read.action_of c.args.action.now)
same c = c.in_ok-parameters.ensures.known ∙ (λ i. typing.known_with (outside c i) (typing.declared (c.requires.file i) (read.action_of c.args.action.now).parameters))

same_file : (c : In_ok-parameters) → file_in c.enter.new.resolver ≡ domain_file
same_file c = (λ i. file_of (c.in_ok-parameters.ensures.globals i).now.file) ∙ c.requires.file

pub returns-clause-shape : goal.returns-clause-shape
returns-clause-shape c =
    let s = (goal.at.returns-clause-shape c).In_ok-parameters in
    let known = known_outside c.args.resolver.now.globals.now in let a = read.action_of c.args.action.now in
    let unions = c.in_ok-parameters.ensures.unions ∙ ap (λ f. typing.unions_in known.type_names (typing.declared f a.parameters)) c.requires.file in
    c.in_ok-schema.ensures.shape
    ∙ (λ j. (unions j, typing.formula_in (same_file s j) (same s j) a.precondition, typing.effect_in (same_file s j) (same s j) a.effect, typing.increase_of (same s j) a))

pub returns-clause-finds : goal.returns-clause-finds
returns-clause-finds c =
    let s = (goal.at.returns-clause-finds c).In_ok-parameters in
    let known = known_outside c.args.resolver.now.globals.now in let a = read.action_of c.args.action.now in
    let before = found_by c.args.resolver.now.walk in let middle = found_by c.enter.new.resolver.walk in
    found_after before middle _ (typing.variable_faults known.type_names [] (typing.declared domain_file a.parameters)) (typing.body_faults domain_file (typing.known_in_action known a) a)
    (c.in_ok-parameters.ensures.finds ∙ (λ i. found before (typing.variable_faults known.type_names (map variable_entry_of (c.requires.outside i)) (typing.declared (c.requires.file i) a.parameters))))
    (c.in_ok-schema.ensures.finds ∙ (λ i. found middle (typing.body_faults (same_file s i) (same s i) a)))
