use Rattle.std.proofs.Common.{refl}
use Rattle.typing.specs.Scope.{keys_in}
use Rattle.pddl_tree.specs.Tree.{file_of}
use Rattle.typing.specs.Walk.{found_by}
use Rattle.pddl_tree.specs.Tree as read
use Rattle.pddl_tree.specs.declared.terms.Name.{Name}
use Rattle.model.specs.Typing as typing
use Rattle.typing.proofs.Found.{found_at, found_walked}
use Rattle.typing.proofs.types.check_types.Goals as goal

pub loop-name-preserved : goal.loop-name-preserved
loop-name-preserved c =
    found_at (λ (n : Name). typing.unknown_faults (file_of c.args.file) 14 (keys_in c.args.names.now.entries) (read.name_of n)) c.args.types.now c.loop-name.name-index _
    c.loop-name-test.true (found_by c.loop-name.walk) _ _ c.in_ok-check_type.ensures c.loop-name.invariant

pub returns : goal.returns
returns c =
    found_walked (typing.unknown_faults (file_of c.args.file) 14 (keys_in c.args.names.now.entries)) read.name_of c.args.types.now c.args.types.now c.loop-name.name-index
    (found_by c.loop-name.walk) (found_by c.args.walk.now) c.loop-name.invariant c.loop-name-test.false refl
