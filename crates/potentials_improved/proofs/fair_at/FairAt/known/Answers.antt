use Rattle.std.proofs.Common.{refl}
use Rattle.grounding.specs.Ground.{task_in, atoms_in}
use Rattle.potentials.specs.Potentials.{potentials_of}
use Rattle.potentials.proofs.GroundLemmas.{numberable}
use Rattle.potentials_improved.proofs.EstimateLemmas.{fair_guides}
use Rattle.potentials_improved.proofs.fair_at.FairAt.known.Goals as goal

pub invariant_of-result : goal.invariant_of-result
invariant_of-result g c =
    let t = task_in c.args.ground.now in
    let a = atoms_in c.args.ground.now in
    record {
      width = c.requires.width;
      fair = c.requires.fair;
      guides = fair_guides t a (numberable c.args.ground.now) (potentials_of c.args.potentials) c.requires.width (g.A.Allowance.allowance t) c.requires.fair;
      none = c.are_all_zero-are_all_zero.ensures;
    }

pub returns : goal.returns
returns g c =
    let t = task_in c.args.ground.now in
    let a = atoms_in c.args.ground.now in
    record { potentials = refl; ground = refl; gives = g.met.A.Allowance.gives t a (potentials_of c.args.potentials) (numberable c.args.ground.now) c.requires.fair }
