-- Fair values over tables guide a search.
use Rattle.std.proofs.Common.{◌≡◌, ◌<◌, ◌≤◌, ◌^◌, ℕ, Bool, false, List, length, None, Some, arith, sym, subst}
use Rattle.std.specs.Prelude.{IsTrue, Option, MatchOption}
use Rattle.std.proofs.lemmas.List.Elements.{All-map}
use Rattle.model.specs.Task.{Atom, Task}
use Rattle.model.specs.NumberedAtoms.{numbered_atoms}
use Rattle.search.specs.DeadEnds.{IsValueUnlessDead}
use Rattle.grounding.specs.declared.ground.Ground.{Ground}
use Rattle.grounding.specs.Ground.{task_in, atoms_in}
use Rattle.potentials.specs.Potentials.{potentials_of}
use Rattle.potentials.proofs.GroundLemmas.{numberable}
use Rattle.lower_bounds.specs.PotentialFunctions.{PotentialFunction}
use Rattle.lower_bounds.specs.PotentialLaws.{AreNumberable}
use Rattle.lower_bounds.specs.TableFunctions.{SeveralValues}
use Rattle.lower_bounds.specs.FairTables.{AreFair}
use Rattle.lower_bounds.specs.TableLaws.{AreAllNumbered, AreOver, are_over}
use Rattle.lower_bounds.proofs.TableLowerBound.{fair_values_are_sound}
use Rattle.lower_bounds.proofs.WithoutTables.{ground_atoms_are_all_numbered}
use Rattle.tables.specs.declared.several.TableFunctions.{TableFunctions}
use Rattle.tables.specs.AllTables.{tables_of}
use Rattle.tables.specs.Several.{several_of, width_of}
use Rattle.guides.specs.Guides.{Guides}

pub fair_ones_guide : (task : Task) (atoms : List Atom) (s : SeveralValues) → AreAllNumbered task atoms → AreOver (length atoms) s → AreFair task atoms s → Guides task atoms s
fair_ones_guide task atoms s numbered over fair =
    let sound = fair_values_are_sound task atoms s numbered over fair in
    let estimate = sound.lower_bounds.ground_consistent in
    let dead_ends = sound.dead_ends.ground_stays in
    record {
      estimate = record { zero_at_goals = estimate.zero_at_goals; falls_by_no_more = estimate.falls_by_no_more };
      dead_ends = record { no_goal = dead_ends.no_goal; stays_dead = dead_ends.stays_dead };
    }

-- the weights and the scopes are of as many atoms
pub are_over_width : (f : TableFunctions) (count : ℕ) → width_of f ≡ count → AreOver count (several_of f)
are_over_width f count is = record {
  values = All-map (λ (p : PotentialFunction). length p.weights ≤ count) potentials_of f.values.items
      (λ k d below. omega (arith, is, f.together.widths k d below));
  dead_ends = omega (arith, is);
  scopes = subst (λ n. IsTrue (are_over n (tables_of f.tables))) is f.together.scopes;
}

-- what one look-up answers
pub reported : {S : Type 0} (value : S → ℕ) (is_dead : S → Bool) (s : S) (answer : Option ℕ) → MatchOption answer (IsTrue (is_dead s)) (λ n. (is_dead s ≡ false) × (n ≡ value s) × (n < 2 ^ 63))
    → IsValueUnlessDead value is_dead s answer
reported value is_dead s None is = is
reported value is_dead s (Some n) is = is

-- a ground task numbers all that has to be
pub all_numbered : (g : Ground) (more : List Atom) → atoms_in g ≡ numbered_atoms (task_in g) more → AreAllNumbered (task_in g) (atoms_in g)
all_numbered g more is =
    subst (AreAllNumbered (task_in g)) (sym is) (ground_atoms_are_all_numbered (task_in g) more (subst (AreNumberable (task_in g)) is (numberable g)))
