-- The states that a search found, and the nodes that say how it reached them.
use Rattle.std.specs.Prelude.{◌≡◌, ◌≤◌, List, length}
use Rattle.search_spaces.specs.GroundListing.{listed_states}
use Rattle.search_spaces.specs.declared.ground_listing.GroundListing.{GroundListing}
use Rattle.search.specs.declared.nodes.Node.{Node}

-- there is one for each, and they are no more than a search may list
pub record IsStopped (listing : GroundListing) (nodes : List Node) : Type 0 where
  pub one_for_each : length nodes ≡ length (listed_states listing)
  pub few : length nodes ≤ 16777216
