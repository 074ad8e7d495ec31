use Rattle.std.proofs.Common.{◌∙◌, [], ◌∷◌, ◌++◌, map, refl, ap, sym}
use Rattle.std.proofs.lemmas.List.{map_push, map_more}
use Rattle.task.specs.TaskParts as parts
use Rattle.typing.specs.TypedLists.{declared_of}
use Rattle.typing.specs.Scope.{keys_in}
use Rattle.pddl_tree.specs.Tree as read
use Rattle.model.specs.Typing as typing
use Rattle.typing.specs.declared.typed_lists.Declared.{Declared}
use Rattle.typing.proofs.Found.{map_taken}
use Rattle.typing.proofs.type_names.TypeTable.unions.Goals as goal

pub loop-one-preserved : goal.loop-one-preserved
loop-one-preserved c =
    ap (map parts.union_of) c.in_ok-push.ensures.items ∙ map_push parts.union_of c.loop-one.unions.items _ ∙ (λ i. c.loop-one.invariant i ++ c.in_ok-union.ensures i ∷ [])
    ∙ sym (map_more (λ (x : Declared). typing.union_in (keys_in c.args.self.now.by_name.entries) (map read.name_of x.types.now)) c.args.declared.now c.loop-one.one-index _ c.loop-one-test.true)

pub returns : goal.returns
returns c =
    map_taken (λ (x : typing.Declared). typing.union_in (keys_in c.args.self.now.by_name.entries) x.types) declared_of c.args.declared.now c.args.declared.now c.loop-one.one-index _
    c.loop-one.invariant c.loop-one-test.false refl
