-- The code's runs of pairs.
use Rattle.std.specs.Prelude.{ℕ, ◌+◌, ◌==◌, Bool, ◌&&◌, not, List, map, IsTrue}
use Rattle.std.specs.Bool.{beq}
use Rattle.std.specs.Global.{Vec}
use Rattle.std.specs.Int.{bit_at}
use Rattle.std.specs.List.{filter, flat_map, range_with_len}
use Rattle.packed_state.specs.Sets.{has}
use Rattle.symmetries.specs.SwappedPlaces.{are_within}
use Rattle.symmetries.specs.declared.run.Run.{Run}

-- the pair at a place of the run's mask
abbrev pub pair_at : Run → ℕ → ℕ × ℕ
pair_at run place = (run.lower + place, run.upper + place)

-- whether it is one of the run's
abbrev pub has_at : Run → ℕ → Bool
has_at run place = bit_at run.mask place == 1

-- the run's pairs at `count` places, from this one on
unfoldable pub pairs_from : Run → ℕ → ℕ → List (ℕ × ℕ)
pairs_from run place count = map (pair_at run) (filter (has_at run) (range_with_len place count))

-- all of them, rising
abbrev pub pairs_in : Run → List (ℕ × ℕ)
pairs_in run = pairs_from run 0 64

abbrev pub pairs_in_all : List Run → List (ℕ × ℕ)
pairs_in_all runs = flat_map pairs_in runs

-- of an exchange, and of each of several
abbrev pub swap_in_runs : Vec Run → List (ℕ × ℕ)
swap_in_runs runs = pairs_in_all runs.items

abbrev pub swaps_in_runs : List (Vec Run) → List (List (ℕ × ℕ))
swaps_in_runs swaps = map swap_in_runs swaps

-- whether a pair of the run is at this place, and its bits differ
abbrev pub differs_at : Run → List Bool → ℕ → Bool
differs_at run bits place = has_at run place && not (beq (has bits (run.lower + place)) (has bits (run.upper + place)))

-- all numbers of the run's pairs are below the width
abbrev pub IsBelow : ℕ → Run → Type 0
IsBelow width run = IsTrue (are_within width (pairs_in run))

abbrev pub AreBelow : ℕ → List Run → Type 0
AreBelow width runs = IsTrue (are_within width (pairs_in_all runs))
