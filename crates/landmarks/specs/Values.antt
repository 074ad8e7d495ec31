-- What one share of a value gives, and what it charges.
use Rattle.std.specs.Prelude.{ℕ, Bool, List}
use Rattle.std.specs.Option.{option_map_or}
use Rattle.lower_bounds.specs.LandmarkFunctions.{Zone, gives}
use Rattle.model.specs.NumberedLiterals.{NumberedLiteral}
use Rattle.model.specs.ConditionalChanges.{ConditionalChange}
use Rattle.lower_bounds.specs.FairLandmarks.{charge}
use Rattle.lower_bounds.specs.LandmarkLines.{Share, landmark_of}

-- the weight of the share, if there is a zone with its number and it is whole in the packed state
abbrev pub share_gives : List Zone → List Bool → Share → ℕ
share_gives zones bits s = option_map_or (gives bits) (landmark_of zones s) 0

-- the same of what an instance with these literals and changes may break
abbrev pub share_charge : List Zone → List NumberedLiteral → List ConditionalChange → Share → ℕ
share_charge zones literals changes s = option_map_or (charge literals changes) (landmark_of zones s) 0
