-- A certificate's atoms.
use Rattle.std.specs.Prelude.{◌≢◌, ◌&&◌, IsTrue, List, All, AllPairs}
use Rattle.model.specs.Task.{Atom, Task}
use Rattle.model.specs.WellTyped.{is_atom}
use Rattle.model.specs.Fluents.{is_fluent}

-- they are well-typed, of fluent predicates, and distinct
pub record AreFluent (task : Task) (atoms : List Atom) : Type 0 where
  pub fluent : All (λ (a : Atom). IsTrue (is_atom task a && is_fluent task a.predicate)) atoms
  pub distinct : AllPairs (λ (a b : Atom). a ≢ b) atoms
