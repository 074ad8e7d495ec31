use Rattle.std.proofs.Common.{◌∙◌, map, ap, refl}
use Rattle.typing.specs.TypedLists.{declared_of}
use Rattle.typing.specs.Scope.{variable_entry_of}
use Rattle.typing.specs.Walk.{found, found_by}
use Rattle.typing.specs.declared.typed_lists.Declared.{Declared}
use Rattle.model.specs.Typing as typing
use Rattle.typing.proofs.Declared.{shadow_faults, among_one_by_one}
use Rattle.typing.proofs.Found.{found_at, found_walked}
use Rattle.typing.proofs.variables.check_shadows.Goals as goal

pub loop-one-preserved : goal.loop-one-preserved
loop-one-preserved c =
    found_at (λ (x : Declared). shadow_faults (typing.names_of_variables (map variable_entry_of c.args.variables.now.entries)) (declared_of x)) c.args.declared.now c.loop-one.one-index _
    c.loop-one-test.true (found_by c.loop-one.walk) _ _ c.in_ok-check_shadow.ensures c.loop-one.invariant

pub returns : goal.returns
returns c =
    let names = typing.names_of_variables (map variable_entry_of c.args.variables.now.entries) in
    found_walked (shadow_faults names) declared_of c.args.declared.now c.args.declared.now c.loop-one.one-index
    (found_by c.loop-one.walk) (found_by c.args.walk.now) c.loop-one.invariant c.loop-one-test.false refl
    ∙ ap (found (found_by c.args.walk.now)) (among_one_by_one names (map declared_of c.args.declared.now))
