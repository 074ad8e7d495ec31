use Rattle.std.proofs.Common.{◌≡◌, ◌∙◌, ◌∷◌, ◌+◌, ap, sym, map, drop}
use Rattle.std.proofs.lemmas.List.{drop_more, drop_all}
use Rattle.typing.specs.Task.{file_of}
use Rattle.typing.specs.Walk.{found, found_by}
use Rattle.pddl_tree.specs.Tree as read
use Rattle.model.specs.Typing as typing
use Rattle.typing.proofs.Costs.{equals_end}
use Rattle.typing.proofs.statements.check_all_equals.Goals as goal

pub loop-fact-preserved : goal.loop-fact-preserved
loop-fact-preserved c =
    let xs = c.args.facts.now in let i = c.loop-fact.fact-index in let x = c.fact-item.result in
    let split : drop i xs ≡ x ∷ drop (i + 1) xs = drop_more xs i x c.loop-fact-test.true ∙ ap (λ y. y ∷ drop (i + 1) xs) (sym c.fact-item.is) in
    c.check_equals-allowed.ensures (map read.fact_of (drop (i + 1) xs))
    ∙ ap (λ ys. found (found_by c.loop-fact.walk) (typing.refused 23 (drop c.loop-fact.allowed (typing.equals_in (file_of c.args.file) (map read.fact_of ys))))) (sym split)
    ∙ c.loop-fact.invariant

pub returns : goal.returns
returns c =
    let xs = c.args.facts.now in
    sym (ap (λ ys. found (found_by c.loop-fact.walk) (typing.refused 23 (drop c.loop-fact.allowed (typing.equals_in (file_of c.args.file) (map read.fact_of ys))))) (drop_all c.loop-fact.fact-index xs c.loop-fact-test.false) ∙ equals_end c.loop-fact.allowed (found_by c.loop-fact.walk))
    ∙ c.loop-fact.invariant
