use Rattle.std.proofs.Common.{◌≡◌, ◌∙◌, ◌∷◌, ◌+◌, ap, sym, map, drop}
use Rattle.std.proofs.lemmas.List.{drop_more, drop_all}
use Rattle.typing.specs.Task.{file_of}
use Rattle.typing.specs.Walk.{found, found_by}
use Rattle.pddl_tree.specs.declared.tree.TaskFile.{TaskFile}
use Rattle.pddl_tree.specs.declared.tree.Increase.{Increase}
use Rattle.pddl_tree.specs.Tree as read
use Rattle.model.specs.Typing as typing
use Rattle.typing.proofs.functions.refuse_increases.Goals as goal

word : TaskFile → Increase → typing.Placed
word file i = typing.placed (file_of file) (read.name_of i.word)

pub loop-increase-preserved : goal.loop-increase-preserved
unfolding word
loop-increase-preserved c =
    let xs = c.args.increases.now in let i = c.loop-increase.increase-index in
    let x = c.increase-item.result in
    let split : drop i xs ≡ x ∷ drop (i + 1) xs = drop_more xs i x c.loop-increase-test.true ∙ ap (λ y. y ∷ drop (i + 1) xs) (sym c.increase-item.is) in
    ap (λ o. found o (typing.refused 23 (map (word c.args.file) (drop (i + 1) xs)))) c.refuse.ensures
    ∙ ap (λ ys. found (found_by c.loop-increase.walk) (typing.refused 23 (map (word c.args.file) ys))) (sym split)
    ∙ c.loop-increase.invariant

pub returns : goal.returns
unfolding word
returns c =
    let xs = c.args.increases.now in
    sym (ap (λ ys. found (found_by c.loop-increase.walk) (typing.refused 23 (map (word c.args.file) ys))) (drop_all c.loop-increase.increase-index xs c.loop-increase-test.false))
    ∙ c.loop-increase.invariant
