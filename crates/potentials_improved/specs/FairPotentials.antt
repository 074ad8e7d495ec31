-- Fair potentials, as the code keeps them.
use Rattle.std.specs.Prelude.{◌≡◌, List}
use Rattle.model.specs.Task.{Atom, Task}
use Rattle.grounding.specs.declared.ground.Ground.{Ground}
use Rattle.grounding.specs.Ground.{task_in, atoms_in}
use Rattle.lower_bounds.specs.PotentialFunctions.{PotentialFunction}
use Rattle.potentials_improved.specs.declared.allowance.Allowance.{Ghosts}
use Rattle.potentials_improved.specs.declared.fair_at.FairAt.{FairAt}
use Rattle.potentials.specs.Potentials.{potentials_of}

module _ {A : Type 0} {T : Ghosts A} where
  abbrev pub potentials_in : FairAt A T → PotentialFunction
  potentials_in f = potentials_of f.potentials

  abbrev pub ground_in : FairAt A T → Ground
  ground_in f = f.ground.now

  -- these potentials, for this ground task, with the meaning that fairness at the allowance gives their values
  pub record AreOf (g : Ground) (p : PotentialFunction) (f : FairAt A T) : Type 0 where
    pub potentials : potentials_in f ≡ p
    pub ground : ground_in f ≡ g
    pub gives : T.Gives (task_in g) (atoms_in g) p

  -- improved potentials, for the same ground task
  pub record AreBetter (IsBetter : Task → List Atom → PotentialFunction → PotentialFunction → Type 0) (old new : FairAt A T) : Type 0 where
    pub ground : ground_in new ≡ ground_in old
    pub better : IsBetter (task_in (ground_in old)) (atoms_in (ground_in old)) (potentials_in old) (potentials_in new)
