-- States of a task in the same class are in the same orbit, and the claim of a listing closed up to exchanges is true.
use Rattle.std.proofs.Common.{◌≡◌, ◌∙◌, ℕ, zero, suc, List, Option, None, Some, refl, subst}
use Rattle.std.specs.Prelude.{IsTrue, Contains}
use Rattle.std.specs.List.{list_all}
use Rattle.std.specs.Option.{option_map_or}
use Rattle.model.specs.Task.{Atom, Task}
use Rattle.model.specs.Meaning.{State, system_of}
use Rattle.model.specs.WellTyped.{is_task}
use Rattle.model.specs.Fluents.{HasInitialStatics}
use Rattle.model.proofs.ClaimsLemmas.{related_reach_alike, closed_listings_claim}
use Rattle.symmetries_definitions.specs.Exchanges.{Exchange, image_of_object, image_of_atom, image_of_state, image_of_instance}
use Rattle.symmetries_definitions.specs.Symmetries.{IsSymmetry, is_symmetry}
use Rattle.symmetries_definitions.specs.Orbits.{AreOfOneOrbit, image_before, with_images, representative, AreAlike}
use Rattle.symmetries_definitions.specs.Laws.{AlikeStatesAreOfOneOrbit, StatesAloneStandForThemselves, ListingsByExchangesClaim}
use Rattle.symmetries_definitions.proofs.Lists.{all-at}
use Rattle.symmetries_definitions.proofs.Images.{contains-back}
use Rattle.symmetries_definitions.proofs.StepImages.{is_automorphism}
use Rattle.symmetries_definitions.proofs.TestLemmas.{test_is_exact}
use Rattle.symmetries_definitions.proofs.OrbitLemmas.{symmetric_itself, symmetric_after, orbits_are_classes, represented_alike}
use Rattle.symmetries_definitions.proofs.RepresentativeLemmas.{image_is}

-- ---- properties of representatives

-- a property that images preserve passes from each state to its representative
module _ (task : Task) (atoms : List Atom) (exchanges : List Exchange) (all : IsTrue (list_all (is_symmetry task) exchanges)) where
  pub symmetry_of : (exchange : Exchange) → Contains exchanges exchange → IsSymmetry task (image_of_object exchange)
  symmetry_of exchange at = ((test_is_exact task exchange).0 (all-at (is_symmetry task) exchanges exchange all at)).1

  module _ (P : State → Type 0) (kept : (exchange : Exchange) → Contains exchanges exchange → (s : State) → P s → P (image_of_state (image_of_object exchange) s)) where
    kept_within : (n : ℕ) (s : State) → P s → P (with_images atoms exchanges n s)
    kept_within zero s has = has
    kept_within (suc n) s has = by_found (λ image. kept_within n image) (image_before atoms exchanges s) refl
      where
        by_found : ((image : State) → P image → P (with_images atoms exchanges n image)) → (found : Option State) → image_before atoms exchanges s ≡ found
            → P (option_map_or (with_images atoms exchanges n) found s)
        by_found rest None is = has
        by_found rest (Some image) is =
            let one = image_is atoms exchanges s image is in
            rest image (subst P one.2 (kept one.0 one.1 s has))

    pub representative_keeps : (s : State) → P s → P (representative atoms exchanges s)
    representative_keeps s has = kept_within _ s has

  statics_kept : (exchange : Exchange) → Contains exchanges exchange → (s : State) → HasInitialStatics task s → HasInitialStatics task (image_of_state (image_of_object exchange) s)
  statics_kept exchange at s has a static =
      let symmetry = symmetry_of exchange at in
      contains-back (image_of_object exchange) symmetry.both_ways s a ∙ has (image_of_atom (image_of_object exchange) a) static ∙ symmetry.statics a static

  pub representative-statics : (s : State) → HasInitialStatics task s → HasInitialStatics task (representative atoms exchanges s)
  representative-statics s has = representative_keeps (HasInitialStatics task) statics_kept s has

  module _ (well : IsTrue (is_task task)) where
    pub symmetric : (s : State) → AreOfOneOrbit (system_of task) s (representative atoms exchanges s)
    symmetric s =
        representative_keeps (AreOfOneOrbit (system_of task) s) (λ exchange at r same.
        let to = image_of_object exchange in
        symmetric_after (system_of task) s r (image_of_state to r) same
        (image_of_state to, image_of_instance to, is_automorphism task well to (symmetry_of exchange at), refl)) s (symmetric_itself (system_of task) s)

pub alike_states_are_of_one_orbit : AlikeStatesAreOfOneOrbit
alike_states_are_of_one_orbit task atoms exchanges well all =
    represented_alike (system_of task) (representative atoms exchanges) (symmetric task atoms exchanges all well)

pub states_alone : StatesAloneStandForThemselves
states_alone atoms s = refl

pub listings_by_exchanges_claim : ListingsByExchangesClaim
listings_by_exchanges_claim task atoms exchanges well all =
    closed_listings_claim (system_of task) (AreAlike atoms exchanges)
    (λ s r alike. related_reach_alike (system_of task) (AreOfOneOrbit (system_of task)) (orbits_are_classes (system_of task)) s r (alike_states_are_of_one_orbit task atoms exchanges well all s r alike))
