-- The applicable actions of a state.
use Rattle.std.specs.Prelude.{ℕ, ◌↔◌, IsTrue, is_some, List, Contains}
use Rattle.model.specs.Runs.{System}

-- exactly these actions are applicable, in whatever order
abbrev pub AreApplicable : {S : Type 0} → System S ℕ → S → List ℕ → Type 0
AreApplicable t s numbers = (n : ℕ) → Contains numbers n ↔ IsTrue (is_some (t.step s n))
