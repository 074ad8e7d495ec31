use Rattle.std.proofs.Common.{◌∙◌, ◌++◌, ap, sym, map}
use Rattle.std.proofs.lemmas.List.Folds.{flat_map-map}
use Rattle.typing.specs.TypedLists.{declared_by, declared_of}
use Rattle.pddl_tree.specs.Tree.{file_of}
use Rattle.pddl_tree.specs.Tree as read
use Rattle.pddl_tree.specs.declared.tree.Group.{Group}
use Rattle.model.specs.Trees as tree
use Rattle.model.specs.Typing as typing
use Rattle.typing.proofs.Found.{grown_more, grown_all, map-map}
use Rattle.typing.proofs.typed_lists.add.Goals as goal

pub loop-group-preserved : goal.loop-group-preserved
loop-group-preserved c =
    let file = file_of c.args.file in let g = c.group-item.result in
    let one : tree.Name → typing.Declared = λ n. record { file = file; name = n; types = map read.name_of g.types.items } in
    grown_more (λ (x : Group). typing.declared_in_group file (read.group_of x)) c.args.groups.now c.loop-group.group-index g c.loop-group-test.true c.group-item.is
    (map declared_of c.loop-group.declared.items) _ _
    (c.in_ok-add_group.ensures ∙ ap (λ ds. map declared_of c.loop-group.declared.items ++ ds) ((λ j. map (declared_by file (map read.name_of (c.deref-in-loop-group.ensures.value j))) (c.deref.ensures.value j)) ∙ sym (map-map one read.name_of g.names.items))) c.loop-group.invariant

pub returns : goal.returns
returns c =
    let F = typing.declared_in_group (file_of c.args.file) in
    grown_all (λ (x : Group). F (read.group_of x)) c.args.groups.now c.loop-group.group-index c.loop-group-test.false (map declared_of c.loop-group.declared.items) _ c.loop-group.invariant
    ∙ ap (λ ds. map declared_of c.args.declared.now.items ++ ds) (sym (flat_map-map F read.group_of c.args.groups.now))
