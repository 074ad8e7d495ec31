-- Zones of the code, and parts of what may break one.
use Rattle.std.specs.Prelude.{ℕ, ◌<◌, ◌≤◌, ◌==◌, Bool, true, ◌&&◌, List, Contains, get_or, length}
use Rattle.std.specs.Bool.{beq}
use Rattle.model.specs.NumberedLiterals.{NumberedChange}
use Rattle.model.specs.ConditionalChanges.{ConditionalChange}
use Rattle.landmark_zones.specs.declared.zones.ZoneRef.{ZoneRef}
use Rattle.lower_bounds.specs.LandmarkFunctions.{Zone}
use Rattle.lower_bounds.specs.FairLandmarks.{makes_one, may_take_effect}

abbrev pub zone_in : ZoneRef → Zone
zone_in z = record { atoms = z.atoms.now; negated = z.negated.now }

-- no number is below one before it
abbrev pub IsRising : List ℕ → Type 0
IsRising numbers = (i j : ℕ) → i ≤ j → j < length numbers → get_or numbers i 0 ≤ get_or numbers j 0

pub record IsSorted (z : Zone) : Type 0 where
  pub atoms : IsRising z.atoms
  pub negated : IsRising z.negated

-- so are the numbers of each zone
abbrev pub AreSorted : List Zone → Type 0
AreSorted zones = (z : Zone) → Contains zones z → IsSorted z

-- the change, which is one of these, makes a literal of the zone true, and may take effect where it is whole
abbrev pub breaks : List ConditionalChange → Zone → ConditionalChange → Bool
breaks changes z c = makes_one changes z c.change && may_take_effect z c

-- the change adds the atom unconditionally
abbrev pub adds_surely : ℕ → NumberedChange → Bool
adds_surely number c = c.atom == number && beq c.is_unconditional true && beq c.value true
