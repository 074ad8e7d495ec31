use Rattle.std.proofs.Common.{◌∙◌, ◌++◌, List, ap, map}
use Rattle.typing.specs.TypedLists.{declared_of}
use Rattle.typing.specs.Walk.{found, found_by}
use Rattle.typing.specs.Scope.{keys_in}
use Rattle.pddl_tree.specs.Tree as read
use Rattle.model.specs.Trees.{domain_file}
use Rattle.model.specs.Typing as typing
use Rattle.typing.proofs.Found.{found_after}
use Rattle.typing.proofs.declarations.check_arguments.Goals as goal

pub returns : goal.returns
returns c =
    let faults = λ (xs : List typing.Declared). typing.type_faults (keys_in c.args.types.now.by_name.entries) xs in
    let many = λ (xs : List typing.Declared). typing.refused 25 (typing.one_after 8 (typing.words_of xs)) in
    let xs = map declared_of c.as_slice-declared.result.now in
    let same = ap (map declared_of) c.as_slice-declared.ensures.value ∙ c.in_ok-list.ensures ∙ ap (λ gs. typing.declared domain_file (map read.group_of gs)) c.as_slice-groups.ensures.value in
    found_after (found_by c.args.walk.now) _ _ (faults xs) (many xs) c.in_ok-check_all.ensures c.limit.ensures
    ∙ ap (λ ys. found (found_by c.args.walk.now) (faults ys ++ many ys)) same
