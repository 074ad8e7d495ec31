use Rattle.std.proofs.Common.{◌∙◌, ◌++◌, ◌∷◌, [], ap, sym, map}
use Rattle.task.specs.Task.{task_of}
use Rattle.formulas.specs.State.{state_of}
use Rattle.formulas.specs.Effects.{change_of, lent_literal}
use Rattle.model.specs.Meaning.{literals_in}
use Rattle.model.proofs.ListLemmas.{Contains-map}
use Rattle.std.proofs.lemmas.List.{take_all}
use Rattle.formulas.proofs.CarriedOut.{one_more}
use Rattle.formulas.proofs.change.literals_made.Goals as goal

pub loop-change-init : goal.loop-change-init
loop-change-init c = ap (map lent_literal) c.new-made.ensures.items

pub add_if_made-requires : goal.add_if_made-requires
add_if_made-requires c =
    c.requires (change_of c.change-item.result)
    (Contains-map change_of c.args.changes.now c.change-item.result (c.loop-change.change-index, c.loop-change-test.true, sym c.change-item.is))

pub loop-change-preserved : goal.loop-change-preserved
loop-change-preserved c =
    let task = task_of c.args.task.now in
    let before = state_of c.args.before.now in
    c.in_ok-add_if_made.ensures ∙ ap (λ l. l ++ literals_in task before (change_of c.change-item.result ∷ [])) c.loop-change.invariant
    ∙ sym (one_more task before c.args.changes.now c.loop-change.change-index c.change-item.result c.loop-change-test.true c.change-item.is)

pub returns : goal.returns
returns c =
    c.loop-change.invariant ∙ ap (λ l. literals_in (task_of c.args.task.now) (state_of c.args.before.now) (map change_of l)) (take_all c.loop-change.change-index c.args.changes.now c.loop-change-test.false)
