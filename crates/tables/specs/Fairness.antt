-- A value over tables.
use Rattle.std.specs.Prelude.{◌≡◌, ℕ, ◌<◌, IsTrue, All, List, length}
use Rattle.grounding.specs.declared.ground.Ground.{Ground}
use Rattle.grounding.specs.Ground.{atoms_in}
use Rattle.model.specs.Task.{Atom, Task, Instance}
use Rattle.model.specs.StaticallyFalse.{kept_instances}
use Rattle.potentials.specs.Potentials.{potentials_of}
use Rattle.lower_bounds.specs.TableFunctions.{TableFunction}
use Rattle.lower_bounds.specs.FairTables.{is_asked, IsFairAt}
use Rattle.tables.specs.AllTables.{tables_of, count_of}
use Rattle.tables.specs.declared.fairness.TableValue.{TableValue}

abbrev pub function_of : TableValue → TableFunction
function_of v = record { potentials = potentials_of v.potentials.now; tables = tables_of v.tables.now; place = v.place }

-- each numbered atom and each row has a weight for it
pub record FitsGround (g : Ground) (v : TableValue) : Type 0 where
  pub width : length (potentials_of v.potentials.now).weights ≡ length (atoms_in g)
  pub place : v.place < count_of v.tables.now

-- each kept instance that is not shut out loses at most what it is allowed
abbrev pub AreInstancesFairAt : (Instance → ℕ) → Task → List Atom → TableFunction → Type 0
AreInstancesFairAt allowance task atoms h =
    All (λ (i : Instance). IsTrue (is_asked task atoms h.tables i) → IsFairAt (allowance i) task atoms h i) (kept_instances task)
