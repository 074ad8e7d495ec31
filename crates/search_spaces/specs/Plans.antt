-- What the plan of a list of numbers is.
use Rattle.std.specs.Prelude.{◌≡◌, List}
use Rattle.model.specs.Runs.{System, cost_of_all, Solves}

-- the plan solves where the list of the other system does, and costs the same
pub record IsCarriedOut {S A T B : Type 0} (q : System S A) (t : System T B) (numbers : List A) (plan : List B) : Type 0 where
  pub solves : Solves q numbers → Solves t plan
  pub cost : cost_of_all t plan ≡ cost_of_all q numbers
