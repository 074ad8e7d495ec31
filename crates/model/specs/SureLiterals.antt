-- The sure literals of a formula: those that every state must satisfy in which the formula holds. They allow instances to be
-- ruled out before any state is examined (a notion of the planner; the semantics of a task does not depend on it).
use Rattle.std.specs.Prelude.{ℕ, Bool, ◌≡◌, nat_eq, true, IsTrue, List, [], ◌∷◌, ◌++◌}
use Rattle.std.specs.Prelude as bool
use Rattle.std.specs.List.{flat_map, list_all}
use Rattle.std.specs.FinSet.{contains}
use Rattle.model.specs.Task.{Task, Atom, Formula, Formulas, atom, equal, and, not, forall, no_formula, more_formulas}
use Rattle.model.specs.Meaning.{State, object_of, objects_of, ground_atom, holds}

-- an atom that is true or false, or two objects that are equal or different
pub data Literal : Type 0 where
  is_true : Atom → Literal
  is_false : Atom → Literal
  are_same : ℕ → ℕ → Literal
  are_different : ℕ → ℕ → Literal

-- the literal is true in the state
abbrev pub literal_holds : State → Literal → Bool
literal_holds state (is_true a) = contains state a
literal_holds state (is_false a) = bool.not (contains state a)
literal_holds state (are_same a b) = nat_eq a b
literal_holds state (are_different a b) = bool.not (nat_eq a b)

-- the literal that says that this formula does not hold, if it is an atom or an equality
abbrev pub sure_not : Formula → List ℕ → List Literal
sure_not (atom a) binding = is_false (ground_atom binding a) ∷ []
sure_not (equal t u) binding = are_different (object_of binding t) (object_of binding u) ∷ []
sure_not _ binding = []

-- The sure literals under a binding: the atoms, the equalities and their negations that are under nothing but `and` and `forall`,
-- for each object of a `forall`'s variable.
abbrev mutual
  pub sure : Task → Formula → List ℕ → List Literal
  sure task (atom a) binding = is_true (ground_atom binding a) ∷ []
  sure task (equal t u) binding = are_same (object_of binding t) (object_of binding u) ∷ []
  sure task (not part) binding = sure_not part binding
  sure task (and parts) binding = all_sure task parts binding
  sure task (forall types part) binding = flat_map (λ one. sure task part (binding ++ one ∷ [])) (objects_of task types)
  sure task _ binding = []

  pub all_sure : Task → Formulas → List ℕ → List Literal
  all_sure task no_formula binding = []
  all_sure task (more_formulas first rest) binding = sure task first binding ++ all_sure task rest binding

-- if a formula holds, its sure literals hold
abbrev pub SureLiteralsHold : Type 0
SureLiteralsHold =
    (task : Task) (formula : Formula) (binding : List ℕ) (state : State) → IsTrue (holds task formula binding state)
    → IsTrue (list_all (literal_holds state) (sure task formula binding))
