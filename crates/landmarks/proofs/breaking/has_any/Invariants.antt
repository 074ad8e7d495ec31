use Rattle.std.proofs.Common.{◌≡◌, drop, map}
use Rattle.grounding.specs.Views.{numbered_of}
use Rattle.lower_bounds.specs.LandmarkFunctions.{has_any}
use Rattle.landmarks.specs.Breaking.{zone_in}
use Rattle.landmarks.proofs.breaking.has_any.Given as goal

-- the remaining ones decide
abbrev pub invariant-loop-literal : goal.invariant-loop-literal
invariant-loop-literal l =
    has_any (zone_in l.zone) (map numbered_of l.literals) ≡ has_any (zone_in l.zone) (map numbered_of (drop l.literal-index l.literals))
