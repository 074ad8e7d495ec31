use Rattle.std.proofs.Common.{◌∙◌, [], ◌∷◌, ◌++◌, map, ap, sym}
use Rattle.std.proofs.lemmas.List.{map_push, map_more}
use Rattle.task.specs.TaskParts as parts
use Rattle.typing.specs.Scope.{keys_in}
use Rattle.pddl_tree.specs.Tree as read
use Rattle.model.specs.Typing as typing
use Rattle.pddl_tree.specs.declared.terms.Name.{Name}
use Rattle.typing.proofs.type_names.TypeTable.numbers.Goals as goal

pub loop-name-preserved : goal.loop-name-preserved
loop-name-preserved c =
    ap (map parts.type_of) c.in_ok-push.ensures.items ∙ map_push parts.type_of c.loop-name.numbers.items _ ∙ (λ i. c.loop-name.invariant i ++ c.in_ok-number.ensures i ∷ [])
    ∙ sym (map_more (λ (n : Name). typing.number_in (keys_in c.args.self.now.by_name.entries) (read.name_of n)) c.args.types.now c.loop-name.name-index _ c.loop-name-test.true)
