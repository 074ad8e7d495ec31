-- What touches what, by tests and by membership, is the same; and what the goal says of each atom.
use Rattle.std.proofs.Common.{◌≡◌, ℕ, List, length, subst, eqb-true}
use Rattle.std.specs.Cmp.{nat_eq_equiv}
use Rattle.std.proofs.lemmas.Map.Views.{Contains-from_any, list_any-from_Contains}
use Rattle.model.specs.Task.{Atom, Task}
use Rattle.model.specs.NumberedLiterals.{NumberedLiteral, literals_of_goal}
use Rattle.potentials.specs.declared.goals.GoalAtoms.{GoalAtoms}
use Rattle.potentials.specs.Goals.{AreSaid}
use Rattle.potentials_drafted.specs.declared.incidence.Incidence.{Incidence}
use Rattle.potentials_drafted.specs.Incidence.{row_of, IsIncidence}
use Rattle.potentials_improved.specs.Tested.{IsTestedIncidence}

module _ (task : Task) (atoms : List Atom) (count : ℕ) (t : Incidence) where
  pub tested : IsIncidence task atoms count t → IsTestedIncidence task atoms count t
  tested are = record {
    width = are.width;
    within = λ a n at. are.within a n (Contains-from_any (λ x y same. eqb-true x y same) n (row_of t a) at);
    covers = λ a n below touched. list_any-from_Contains nat_eq_equiv n (row_of t a) (are.covers a n below touched);
  }

  pub untested : IsTestedIncidence task atoms count t → IsIncidence task atoms count t
  untested are = record {
    width = are.width;
    within = λ a n at. are.within a n (list_any-from_Contains nat_eq_equiv n (row_of t a) at);
    covers = λ a n below touched. Contains-from_any (λ x y same. eqb-true x y same) n (row_of t a) (are.covers a n below touched);
  }

-- what is said by literals that are the goal's
pub goal-said : (task : Task) (atoms : List Atom) (literals : List NumberedLiteral) (width : ℕ) (g : GoalAtoms) → literals ≡ literals_of_goal task atoms → width ≡ length atoms
    → AreSaid literals width g → AreSaid (literals_of_goal task atoms) (length atoms) g
goal-said task atoms literals width g are wide said = subst (λ n. AreSaid (literals_of_goal task atoms) n g) wide (subst (λ l. AreSaid l width g) are said)
