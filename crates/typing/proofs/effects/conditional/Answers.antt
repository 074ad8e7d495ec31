use Rattle.std.proofs.Common.{◌≡◌, ◌∙◌, map, ap, sym}
use Rattle.std.specs.List.{flat_map}
use Rattle.std.proofs.lemmas.List.Folds.{flat_map-map}
use Rattle.typing.specs.Task.{file_of}
use Rattle.typing.specs.Resolver.{file_in, known_to}
use Rattle.typing.specs.Scope.{known_of, known_over}
use Rattle.typing.specs.Walk.{found, found_by}
use Rattle.pddl_tree.specs.Tree as read
use Rattle.model.specs.Task as task
use Rattle.model.specs.Typing as typing
use Rattle.typing.proofs.Found.{found_after, map-map}
use Rattle.typing.proofs.effects.conditional.Goals.{After-with-scope}
use Rattle.typing.proofs.effects.conditional.Goals as goal

-- the same names are visible in the literals
same : (c : After-with-scope) → known_of c.with-scope.result ≡ known_to c.args.resolver.now
same c = c.with-scope.ensures.known ∙ (λ i. known_over (c.in_ok-condition.ensures.globals i).now (c.in_ok-condition.ensures.variables i))

same_file : (c : After-with-scope) → file_of c.with-scope.result.globals.now.file ≡ file_in c.args.resolver.now
same_file c = ap file_of c.with-scope.ensures.file ∙ (λ i. file_of (c.in_ok-condition.ensures.globals i).now.file)

pub returns-clause-value : goal.returns-clause-value
returns-clause-value c =
    let known = known_to c.args.resolver.now in
    let is = same (goal.at.returns-clause-value c).After-with-scope in
    let literals = c.in_ok-literals.ensures.value ∙ (λ i. map (λ l. typing.effect_literal_in (is i) (read.effect_literal_of l)) (c.as_slice-given.ensures.value i))
    ∙ sym (map-map (typing.effect_literal_in known) read.effect_literal_of c.args.given.now.items) in
    λ i. task.when (c.in_ok-condition.ensures.value i) (literals i)

pub returns-clause-finds : goal.returns-clause-finds
returns-clause-finds c =
    let s = (goal.at.returns-clause-finds c).After-with-scope in
    let file = file_in c.args.resolver.now in let known = known_to c.args.resolver.now in
    let middle = found_by c.formula.new.resolver.walk in
    found_after (found_by c.args.resolver.now.walk) middle _ (typing.formula_faults file known (read.formula_of c.args.condition.now))
    (flat_map (typing.effect_literal_faults file known) (map read.effect_literal_of c.args.given.now.items)) c.in_ok-condition.ensures.finds
    (c.in_ok-literals.ensures.finds
    ∙ (λ i. found middle (flat_map (λ l. typing.effect_literal_faults (same_file s i) (same s i) (read.effect_literal_of l)) (c.as_slice-given.ensures.value i)))
    ∙ ap (found middle) (sym (flat_map-map (typing.effect_literal_faults file known) read.effect_literal_of c.args.given.now.items)))
