use Rattle.std.proofs.Common.{◌∙◌, ap, map}
use Rattle.std.proofs.lemmas.List.{map_push}
use Rattle.typing.specs.TypedLists.{declared_by, declared_of}
use Rattle.pddl_tree.specs.Tree.{file_of}
use Rattle.pddl_tree.specs.Tree as read
use Rattle.typing.proofs.Found.{mapped_more, mapped_all}
use Rattle.typing.proofs.typed_lists.add_group.Goals as goal

pub loop-name-preserved : goal.loop-name-preserved
loop-name-preserved c =
    mapped_more (declared_by (file_of c.args.file) (map read.name_of c.args.types.now)) c.args.names.now c.loop-name.name-index _ c.loop-name-test.true
    _ c.one.ensures (map declared_of c.loop-name.declared.items) _ _ (ap (map declared_of) c.in_ok-push.ensures.items ∙ map_push declared_of c.loop-name.declared.items _) c.loop-name.invariant

pub returns : goal.returns
returns c =
    mapped_all (declared_by (file_of c.args.file) (map read.name_of c.args.types.now)) c.args.names.now c.loop-name.name-index c.loop-name-test.false
    (map declared_of c.loop-name.declared.items) _ c.loop-name.invariant
