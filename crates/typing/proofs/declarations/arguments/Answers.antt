use Rattle.std.proofs.Common.{◌≡◌, ◌∙◌, map, ap}
use Rattle.typing.specs.Scope.{keys_in}
use Rattle.typing.specs.TypedLists.{declared_of}
use Rattle.task.specs.TaskParts as parts
use Rattle.pddl_tree.specs.Tree as read
use Rattle.model.specs.Trees.{domain_file}
use Rattle.model.specs.Typing as typing
use Rattle.std.proofs.lemmas.Result.{IfOk-weaker}
use Rattle.typing.proofs.declarations.arguments.Goals as goal

pub returns : goal.returns
returns c =
    let names = keys_in c.args.types.now.by_name.entries in
    let same = ap (map declared_of) c.as_slice-declared.ensures.value ∙ c.in_ok-list.ensures ∙ ap (λ gs. typing.declared domain_file (map read.group_of gs)) c.as_slice-groups.ensures.value in
    IfOk-weaker c.unions.result _ (λ v. map parts.union_of v.items ≡ typing.unions_in names (typing.declared domain_file (read.groups_of c.args.declaration.now.parameters)))
    (λ v is. is ∙ ap (typing.unions_in names) same) c.unions.ensures
