use Rattle.std.proofs.Common.{◌≡◌, ◌∙◌, ap, length, map, subst, arith}
use Rattle.grounding.specs.Ground.{task_in, atoms_in}
use Rattle.model.specs.StaticallyFalse.{kept_instances}
use Rattle.potentials_drafted.specs.Incidence.{number_of, IsIncidence}
use Rattle.potentials_drafted.proofs.IncidenceLemmas.{incidence-none, incidence-more, atoms-below}
use Rattle.potentials_drafted.proofs.incidence.Incidence.new.Goals as goal

pub loop-number-init : goal.loop-number-init
loop-number-init c =
    incidence-none (task_in c.args.ground.now) (atoms_in c.args.ground.now) c.in_ok-incidence.incidence (c.in_ok-incidence.ensures.width ∙ c.width.ensures) (λ a. ap (map number_of) (c.in_ok-incidence.ensures.empty a))

pub add-requires : goal.add-requires
add-requires c = atoms-below (task_in c.args.ground.now) (atoms_in c.args.ground.now) c.loop-number.number c.loop-number.number c.loop-number.incidence _ c.loop-number.invariant c.counting.ensures.counting

pub loop-number-preserved : goal.loop-number-preserved
loop-number-preserved c =
    incidence-more (task_in c.args.ground.now) (atoms_in c.args.ground.now) c.loop-number.number c.loop-number.incidence c.add.new.self _ c.loop-number.invariant c.counting.ensures.counting c.in_ok-add.ensures

pub returns : goal.returns
returns c =
    let end : c.loop-number.number ≡ length (kept_instances (task_in c.args.ground.now)) = omega (arith, c.instance_count-number-end.ensures) in
    subst (λ n. IsIncidence (task_in c.args.ground.now) (atoms_in c.args.ground.now) n c.loop-number.incidence) end c.loop-number.invariant
