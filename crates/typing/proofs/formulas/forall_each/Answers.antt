use Rattle.std.proofs.Common.{◌∙◌, ◌++◌, map, ap, sym}
use Rattle.std.proofs.lemmas.List.{map_push}
use Rattle.std.specs.Option.{option_to_list}
use Rattle.task.specs.TaskParts as parts
use Rattle.model.specs.Task as task
use Rattle.model.specs.Typing as typing
use Rattle.typing.proofs.Trees.{forall_each-push}
use Rattle.typing.proofs.formulas.forall_each.Goals as goal

pub loop-types-preserved : goal.loop-types-preserved
loop-types-preserved c =
    let types = c.in-Some.types in let left = c.pop.new.self.items in
    let part = parts.formula_of c.loop-types.formula in
    let items = c.pop.ensures.items ∙ ap (λ o. left ++ option_to_list o) c.in-Some.is in
    ap (λ f. typing.forall_each (map parts.union_of left) (task.forall (parts.union_of types) f)) (ap parts.formula_of c.in_ok-new.ensures.ok)
    ∙ sym (forall_each-push (map parts.union_of left) (parts.union_of types) part)
    ∙ ap (λ us. typing.forall_each us part) (sym (ap (map parts.union_of) items ∙ map_push parts.union_of left types))
    ∙ c.loop-types.invariant
