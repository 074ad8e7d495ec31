-- Packed states are related exactly if the states that they represent are.
use Rattle.std.proofs.Common.{◌∙◌, Bool, List, refl, sym, ap}
use Rattle.std.specs.Prelude.{IsTrue, All, Contains}
use Rattle.std.specs.List.{list_all}
use Rattle.std.specs.Ordering.{eq_by_cmp}
use Rattle.model.specs.Task.{Atom, Task}
use Rattle.model.specs.Meaning.{State, atom_cmp, system_of}
use Rattle.model.specs.Fluents.{is_fluent}
use Rattle.model.specs.NumberedAtoms.{occurs_in, numbered_atoms, HasNumberedFluents}
use Rattle.model.specs.Grounding.{state_of_bits, bits_of_state, ground_system, StandsFor, NamesKept}
use Rattle.model.proofs.StaticLemmas.{same_atom}
use Rattle.model.proofs.GroundTaskLemmas.{packs_states, ground_task_is_bisimilar}
use Rattle.model.proofs.ClaimsLemmas.{related_reach_alike}
use Rattle.model.proofs.BisimilarListings.{equivalence_back}
use Rattle.symmetries_definitions.specs.Exchanges.{Exchange, image_of_object, image_of_atom, image_of_state}
use Rattle.symmetries_definitions.specs.Symmetries.{is_symmetry}
use Rattle.symmetries_definitions.specs.Orbits.{AreOfOneOrbit, representative, AreAlike, keeps_atoms, packed_representative, ArePackedAlike}
use Rattle.symmetries_definitions.specs.Laws.{PackedStatesAreAlike, GoalsAreReachedAlike}
use Rattle.symmetries_definitions.proofs.Lists.{all-at, any-found}
use Rattle.symmetries_definitions.proofs.Images.{atom_twice, contains-back}
use Rattle.symmetries_definitions.proofs.OrbitLemmas.{orbits_are_classes}
use Rattle.symmetries_definitions.proofs.TaskOrbits.{symmetry_of, representative_keeps, representative-statics, alike_states_are_of_one_orbit}

module _ (task : Task) (more : List Atom) (exchanges : List Exchange) (fluent : All (λ (a : Atom). IsTrue (is_fluent task a.predicate)) more)
    (all : IsTrue (list_all (is_symmetry task) exchanges)) (numbered : IsTrue (list_all (keeps_atoms (numbered_atoms task more)) exchanges)) where
  abbrev atoms : List Atom
  atoms = numbered_atoms task more

  fluents_kept : (exchange : Exchange) → Contains exchanges exchange → (s : State) → HasNumberedFluents task atoms s → HasNumberedFluents task atoms (image_of_state (image_of_object exchange) s)
  fluents_kept exchange at s fluents a is has =
      let to = image_of_object exchange in
      let symmetry = symmetry_of task atoms exchanges all exchange at in
      let found = any-found (eq_by_cmp atom_cmp (image_of_atom to a)) atoms (fluents (image_of_atom to a) is (sym (contains-back to symmetry.both_ways s a) ∙ has)) in
      ap (occurs_in atoms) (sym (atom_twice to symmetry.both_ways a) ∙ ap (image_of_atom to) (same_atom (image_of_atom to a) found.0 found.2))
      ∙ all-at (λ (b : Atom). occurs_in atoms (image_of_atom to b)) atoms found.0 (all-at (keeps_atoms atoms) exchanges exchange numbered at) found.1

  -- the packed representative represents the representative
  pub stands : (bits : List Bool) (s : State) → StandsFor task atoms bits s → StandsFor task atoms (packed_representative task atoms exchanges bits) (representative atoms exchanges s)
  stands bits s is =
      let packs = packs_states task more fluent in
      let here = state_of_bits task atoms bits in
      packs.packed (representative atoms exchanges here) (representative-statics task atoms exchanges all here (packs.statics bits))
      (representative_keeps task atoms exchanges all (HasNumberedFluents task atoms) fluents_kept here (packs.fluents bits))
      ∙ ap (representative atoms exchanges) is

  pub alike_seen : (bits other : List Bool) → ArePackedAlike task atoms exchanges bits other → AreAlike atoms exchanges (state_of_bits task atoms bits) (state_of_bits task atoms other)
  alike_seen bits other is = sym (stands bits (state_of_bits task atoms bits) refl) ∙ ap (state_of_bits task atoms) is ∙ stands other (state_of_bits task atoms other) refl

pub packed_alike : (task : Task) (atoms : List Atom) (exchanges : List Exchange) (bits other : List Bool)
    → AreAlike atoms exchanges (state_of_bits task atoms bits) (state_of_bits task atoms other) → ArePackedAlike task atoms exchanges bits other
packed_alike task atoms exchanges bits other is = ap (bits_of_state atoms) is

pub packed_states_are_alike : PackedStatesAreAlike
packed_states_are_alike task more exchanges fluent all numbered bits other =
    (alike_seen task more exchanges fluent all numbered bits other, packed_alike task (numbered_atoms task more) exchanges bits other)

pub goals_are_reached_alike : GoalsAreReachedAlike
goals_are_reached_alike task more exchanges well fluent all numbered bits other alike =
    let atoms = numbered_atoms task more in
    let view = state_of_bits task atoms in
    let t = system_of task in
    related_reach_alike (ground_system task atoms) (λ b c. AreOfOneOrbit t (view b) (view c))
    (equivalence_back (ground_system task atoms) t view (NamesKept task) (ground_task_is_bisimilar task more fluent) (AreOfOneOrbit t) (orbits_are_classes t)) bits other
    (alike_states_are_of_one_orbit task atoms exchanges well all (view bits) (view other) (alike_seen task more exchanges fluent all numbered bits other alike))
