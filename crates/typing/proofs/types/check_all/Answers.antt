use Rattle.std.proofs.Common.{refl}
use Rattle.typing.specs.Scope.{keys_in}
use Rattle.typing.specs.TypedLists.{declared_of}
use Rattle.typing.specs.Walk.{found_by}
use Rattle.typing.specs.declared.typed_lists.Declared.{Declared}
use Rattle.model.specs.Typing as typing
use Rattle.typing.proofs.Found.{found_at, found_walked}
use Rattle.typing.proofs.types.check_all.Goals as goal

pub loop-one-preserved : goal.loop-one-preserved
loop-one-preserved c =
    found_at (λ (x : Declared). typing.types_faults (keys_in c.args.names.now.entries) (declared_of x)) c.args.declared.now c.loop-one.one-index _
    c.loop-one-test.true (found_by c.loop-one.walk) _ _ c.in_ok-check_types.ensures c.loop-one.invariant

pub returns : goal.returns
returns c =
    found_walked (typing.types_faults (keys_in c.args.names.now.entries)) declared_of c.args.declared.now c.args.declared.now c.loop-one.one-index
    (found_by c.loop-one.walk) (found_by c.args.walk.now) c.loop-one.invariant c.loop-one-test.false refl
