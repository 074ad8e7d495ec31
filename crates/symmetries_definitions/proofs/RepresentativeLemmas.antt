-- The first image that comes before a state.
use Rattle.std.proofs.Common.{◌≡◌, List, map, Some}
use Rattle.std.specs.Prelude.{Contains}
use Rattle.model.specs.Task.{Atom}
use Rattle.model.specs.Meaning.{State}
use Rattle.model.proofs.ListLemmas.{map-Contains}
use Rattle.symmetries_definitions.specs.Exchanges.{Exchange, image_of_object, image_of_state}
use Rattle.symmetries_definitions.specs.Orbits.{comes_before, image_before}
use Rattle.symmetries_definitions.proofs.Lists.{found-at}

module _ (atoms : List Atom) (exchanges : List Exchange) where
  -- an image that comes before a state is its image under one of the exchanges
  pub image_is : (s image : State) → image_before atoms exchanges s ≡ Some image
      → (exchange : Exchange) × Contains exchanges exchange × (image_of_state (image_of_object exchange) s ≡ image)
  image_is s image is =
      let found = found-at (λ r. comes_before atoms r s) (map (λ exchange. image_of_state (image_of_object exchange) s) exchanges) image is in
      map-Contains (λ exchange. image_of_state (image_of_object exchange) s) exchanges image found.0
