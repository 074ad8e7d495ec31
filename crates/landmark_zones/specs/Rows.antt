-- Rows of any length in memory: their entries in one list, and where each row ends.
use Rattle.std.specs.Prelude.{ℕ, zero, suc, ◌-◌, ◌==◌, nat_le, Bool, ◌&&◌, List, [], ◌∷◌, length, take, drop}
use Rattle.lower_bounds.specs.LandmarkFunctions.{Zone}
use Rattle.landmark_zones.specs.declared.values.Share.{Share}
use Rattle.landmark_zones.specs.declared.values.Values.{Values}
use Rattle.landmark_zones.specs.declared.zones.ZoneEnd.{ZoneEnd}
use Rattle.landmark_zones.specs.declared.zones.Zones.{Zones}

-- the entries from one place up to another
abbrev pub between : {X : Type 0} → ℕ → ℕ → List X → List X
between start end entries = take (end - start) (drop start entries)

-- ---- values

-- the rows that end at these places, of which the first begins here
abbrev pub rows_from : {X : Type 0} → ℕ → List ℕ → List X → List (List X)
rows_from start [] entries = []
rows_from start (end ∷ ends) entries = between start end entries ∷ rows_from end ends entries

-- the ends ascend, and the last one is this
abbrev pub are_ends : ℕ → List ℕ → ℕ → Bool
are_ends start [] last = start == last
are_ends start (end ∷ ends) last = nat_le start end && are_ends end ends last

-- where the row with this number begins
abbrev pub row_start : ℕ → List ℕ → ℕ → ℕ
row_start start ends zero = start
row_start start [] (suc number) = start
row_start start (end ∷ ends) (suc number) = row_start end ends number

abbrev pub rows_of : Values → List (List Share)
rows_of v = rows_from 0 v.ends.items v.shares.items

abbrev pub are_rows : Values → Bool
are_rows v = are_ends 0 v.ends.items (length v.shares.items)

-- ---- zones

-- the same for zones, which are two rows each
abbrev pub zones_from : ℕ → List ZoneEnd → List ℕ → List Zone
zones_from start [] numbers = []
zones_from start (end ∷ ends) numbers = record { atoms = between start end.atoms numbers; negated = between end.atoms end.negated numbers } ∷ zones_from end.negated ends numbers

abbrev pub are_zone_ends : ℕ → List ZoneEnd → ℕ → Bool
are_zone_ends start [] last = start == last
are_zone_ends start (end ∷ ends) last = (nat_le start end.atoms && nat_le end.atoms end.negated) && are_zone_ends end.negated ends last

abbrev pub zone_start : ℕ → List ZoneEnd → ℕ → ℕ
zone_start start ends zero = start
zone_start start [] (suc number) = start
zone_start start (end ∷ ends) (suc number) = zone_start end.negated ends number

abbrev pub zones_of : Zones → List Zone
zones_of z = zones_from 0 z.ends.items z.numbers.items

abbrev pub are_zones : Zones → Bool
are_zones z = are_zone_ends 0 z.ends.items (length z.numbers.items)
