use Rattle.std.proofs.Common.{◌∙◌, [], ◌∷◌, ◌++◌, map, ap, sym}
use Rattle.std.proofs.lemmas.List.{map_push, map_more}
use Rattle.task.specs.TaskParts as parts
use Rattle.typing.specs.TypedLists.{declared_of}
use Rattle.typing.specs.Scope.{keys_in}
use Rattle.pddl_tree.specs.Tree as read
use Rattle.model.specs.Typing as typing
use Rattle.std.proofs.lemmas.List.{take_all}
use Rattle.typing.specs.declared.typed_lists.Declared.{Declared}
use Rattle.typing.proofs.Found.{map-map}
use Rattle.typing.proofs.type_names.TypeTable.parents.Goals as goal

pub loop-one-preserved : goal.loop-one-preserved
loop-one-preserved c =
    ap (map parts.type_of) c.in_ok-push.ensures.items ∙ map_push parts.type_of c.loop-one.parents.items _ ∙ (λ i. c.loop-one.invariant i ++ c.in_ok-declared_type.ensures i ∷ [])
    ∙ ap (λ ns. 0 ∷ ns) (sym (map_more (λ (x : Declared). typing.type_in (keys_in c.args.self.now.by_name.entries) (map read.name_of x.types.now)) c.args.declared.now c.loop-one.one-index _ c.loop-one-test.true))

pub returns : goal.returns
returns c =
    let parent = λ (x : typing.Declared). typing.type_in (keys_in c.args.self.now.by_name.entries) x.types in
    c.loop-one.invariant ∙ ap (λ xs. 0 ∷ map (λ (x : Declared). parent (declared_of x)) xs) (take_all c.loop-one.one-index c.args.declared.now c.loop-one-test.false)
    ∙ ap (λ ns. 0 ∷ ns) (sym (map-map parent declared_of c.args.declared.now))
