use Rattle.std.proofs.Common.{◌<◌, ◌≤◌, true≢false, refl, length, map, subst, sym, arith}
use Rattle.std.proofs.lemmas.List.{get_or-map, length-map, take_all}
use Rattle.grounding.specs.Ground.{task_in, atoms_in}
use Rattle.model.specs.StaticallyFalse.{kept_instances}
use Rattle.potentials.specs.Potentials.{potentials_of}
use Rattle.potentials.proofs.FairLemmas.{Decides}
use Rattle.potentials_drafted.specs.Incidence.{number_of}
use Rattle.potentials_improved.specs.Climb.{AreFairAmong}
use Rattle.potentials_improved.proofs.FairAtLemmas.{fair_at-none, fair_at-next, unfair_at}
use Rattle.potentials_improved.proofs.climb.are_fair_at.Goals as goal

pub loop-place-init : goal.loop-place-init
loop-place-init g c = fair_at-none (g.A.Allowance.allowance (task_in c.args.ground.now)) (task_in c.args.ground.now) (atoms_in c.args.ground.now) (potentials_of c.args.potentials.now)

pub is_fair_at-requires-clause-within : goal.is_fair_at-requires-clause-within
is_fair_at-requires-clause-within g c =
    let within : c.loop-place.place < length (map number_of c.args.instances.now) = omega (arith, length-map c.args.instances.now number_of, c.loop-place-test.true) in
    subst (λ n. n < length (kept_instances (task_in c.args.ground.now))) (get_or-map number_of c.args.instances.now c.loop-place.place _ 0 c.loop-place-test.true) (c.requires.within c.loop-place.place 0 within)

pub loop-place-preserved : goal.loop-place-preserved
loop-place-preserved g c =
    let t = task_in c.args.ground.now in
    let a = atoms_in c.args.ground.now in
    let p = potentials_of c.args.potentials.now in
    let numbers = map number_of c.args.instances.now in
    let within : c.loop-place.place < length numbers = omega (arith, length-map c.args.instances.now number_of, c.loop-place-test.true) in
    fair_at-next (g.A.Allowance.allowance t) t a p numbers c.loop-place.place 0 c.is_fair_at.result within
    (subst (Decides t a p (g.A.Allowance.allowance t) c.is_fair_at.result) (sym (get_or-map number_of c.args.instances.now c.loop-place.place _ 0 c.loop-place-test.true)) c.is_fair_at.ensures)
    c.if-not-is_fair_at.false c.loop-place.invariant

pub returns-then-not-is_fair_at : goal.returns-then-not-is_fair_at
returns-then-not-is_fair_at g c =
    let t = task_in c.args.ground.now in
    let a = atoms_in c.args.ground.now in
    let p = potentials_of c.args.potentials.now in
    let numbers = map number_of c.args.instances.now in
    let within : c.loop-place.place < length numbers = omega (arith, length-map c.args.instances.now number_of, c.loop-place-test.true) in (
      λ e. absurd (true≢false (sym e)),
      λ all. absurd (unfair_at (g.A.Allowance.allowance t) t a p numbers c.loop-place.place 0 c.is_fair_at.result within (c.requires.within c.loop-place.place 0 within)
          (subst (Decides t a p (g.A.Allowance.allowance t) c.is_fair_at.result) (sym (get_or-map number_of c.args.instances.now c.loop-place.place _ 0 c.loop-place-test.true)) c.is_fair_at.ensures)
          c.if-not-is_fair_at.true all),
    )

pub returns : goal.returns
returns g c =
    let numbers = map number_of c.args.instances.now in
    let past : length numbers ≤ c.loop-place.place = omega (arith, length-map c.args.instances.now number_of) in (
      λ e. subst (AreFairAmong (g.A.Allowance.allowance (task_in c.args.ground.now)) (task_in c.args.ground.now) (atoms_in c.args.ground.now) (potentials_of c.args.potentials.now)) (take_all c.loop-place.place numbers past) c.loop-place.invariant,
      λ all. refl,
    )
