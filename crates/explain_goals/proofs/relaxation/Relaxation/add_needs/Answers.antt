use Rattle.std.proofs.Common.{◌∙◌, ap, sym}
use Rattle.std.specs.List.{list_any}
use Rattle.formulas.specs.State.{instance_of, state_of}
use Rattle.grounding.specs.Ground.{atoms_in, task_in}
use Rattle.grounding.proofs.StepLemmas.{kept-is_instance}
use Rattle.explain_goals.specs.Needed.{is_adding}
use Rattle.explain_goals.proofs.NeedLemmas.{answered-unasked, answered-needed, when-added}
use Rattle.explain_goals.proofs.relaxation.Relaxation.add_needs.Goals as goal

pub returns-then-not-adds_one : goal.returns-then-not-adds_one
returns-then-not-adds_one c =
    let g = c.args.self.now.ground.now in
    answered-unasked c.args.self.now (state_of c.args.added.now) c.args.number (state_of c.args.needed.now) c.requires.numbered
    (ap (list_any (is_adding (atoms_in g) (state_of c.args.added.now))) (sym c.counting.ensures.conditional) ∙ sym c.adds_one.ensures ∙ c.if-not-adds_one.true)

pub add_need_of-requires-clause-instance : goal.add_need_of-requires-clause-instance
add_need_of-requires-clause-instance c =
    kept-is_instance (task_in c.args.self.now.ground.now) c.args.number (instance_of c.in-Some.instance.now) (sym c.in-Some.ensures)

pub returns-in-Some : goal.returns-in-Some
returns-in-Some c =
    when-added _ _ (λ need. answered-needed c.args.self.now (state_of c.args.added.now) c.args.number (instance_of c.in-Some.instance.now) (state_of c.args.needed.now) (state_of c.add_need_of.new.needed)
    (sym c.in-Some.ensures) need) c.add_need_of.result c.add_need_of.ensures
