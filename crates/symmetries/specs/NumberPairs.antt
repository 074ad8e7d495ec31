-- The code's pairs of atoms.
use Rattle.std.specs.Prelude.{ℕ, Bool, List, map, IsTrue}
use Rattle.std.specs.List.{list_all}
use Rattle.std.specs.Global.{Vec}
use Rattle.symmetries.specs.SwappedPlaces.{is_within}
use Rattle.symmetries.specs.declared.pairs.Pair.{Pair}

abbrev pub pair_of : Pair → ℕ × ℕ
pair_of p = (p.lower, p.upper)

abbrev pub is_below : ℕ → Pair → Bool
is_below width p = is_within width (pair_of p)

-- all numbers of the pairs are below the width
abbrev pub AreBelow : ℕ → List Pair → Type 0
AreBelow width pairs = IsTrue (list_all (is_below width) pairs)

abbrev pub swap_in : Vec Pair → List (ℕ × ℕ)
swap_in pairs = map pair_of pairs.items

abbrev pub swaps_in : List (Vec Pair) → List (List (ℕ × ℕ))
swaps_in swaps = map swap_in swaps
