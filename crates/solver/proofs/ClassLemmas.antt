-- The classes by which states are looked up, as a certificate's exchanges tell which states are alike.
use Rattle.std.proofs.Common.{◌≡◌, true, Bool, List, [], ap, subst, arith}
use Rattle.std.specs.Prelude.{All, IsTrue}
use Rattle.std.specs.List.{list_all}
use Rattle.grounding.specs.Ground.{task_in}
use Rattle.model.specs.Task.{Atom, Task}
use Rattle.model.specs.Fluents.{is_fluent}
use Rattle.model.specs.NumberedAtoms.{numbered_atoms}
use Rattle.model.specs.Grounding.{state_of_bits}
use Rattle.symmetries.specs.Representatives.{task_of, exchanges_of}
use Rattle.search.specs.Outcome.{AreOfOneClass}
use Rattle.symmetries_definitions.specs.Exchanges.{Exchange}
use Rattle.symmetries_definitions.specs.Symmetries.{is_symmetry}
use Rattle.symmetries_definitions.specs.Orbits.{representative, AreAlike, keeps_atoms, packed_representative}
use Rattle.symmetries_definitions.proofs.PackedOrbits.{alike_seen}
use Rattle.search_spaces.specs.SearchSpace.{ground_in, exchanges_in, class_in, IsSearchSpace}
use Rattle.search_spaces.specs.declared.search_space.SearchSpace.{SearchSpace}
use Rattle.search_spaces.specs.declared.search_space.SearchSpace.TheVariants as space

-- The exchanges are symmetries of the task that keep its numbered atoms, and packed states of one class stand for states that are alike.
pub record AreClassesBy (task : Task) (exchanges : List Exchange) (class_of : List Bool → List Bool) : Type 0 where
  pub symmetries : list_all (is_symmetry task) exchanges ≡ true
  pub kept : list_all (keeps_atoms (numbered_atoms task [])) exchanges ≡ true
  pub seen : (bits other : List Bool) → AreOfOneClass class_of bits other
      → AreAlike (numbered_atoms task []) exchanges (state_of_bits task (numbered_atoms task []) bits) (state_of_bits task (numbered_atoms task []) other)

abbrev kept_by_numbered : (s : SearchSpace) → IsSearchSpace s → list_all (keeps_atoms (numbered_atoms (task_in (ground_in s)) [])) (exchanges_in s) ≡ true
kept_by_numbered s known = subst (λ (l : List Atom). list_all (keeps_atoms l) (exchanges_in s) ≡ true) known.atoms known.kept

pub classes_by : (s : SearchSpace) → IsSearchSpace s → AreClassesBy (task_in (ground_in s)) (exchanges_in s) (class_in s)
classes_by (space.Alone g) known =
    let task = task_in g.now in
    let atoms = numbered_atoms task [] in
    record {
      symmetries = known.symmetries;
      kept = kept_by_numbered (space.Alone g) known;
      seen = λ bits other same. ap (λ b. representative atoms [] (state_of_bits task atoms b)) same;
    }
classes_by (space.Orbits r) known =
    let task = task_of r.now in
    let exchanges = exchanges_of r.now in
    let none_more : All (λ (a : Atom). IsTrue (is_fluent task a.predicate)) [] = λ k d below. absurd (omega (arith, below)) in
    record {
      symmetries = known.symmetries;
      kept = kept_by_numbered (space.Orbits r) known;
      seen = λ bits other same.
          alike_seen task [] exchanges none_more known.symmetries (kept_by_numbered (space.Orbits r) known) bits other
          (subst (λ (l : List Atom). packed_representative task l exchanges bits ≡ packed_representative task l exchanges other) known.atoms same);
    }
