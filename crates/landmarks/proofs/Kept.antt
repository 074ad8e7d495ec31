-- What a text may have is sorted.
use Rattle.std.proofs.Common.{◌≡◌, ℕ, ◌+◌, true, length}
use Rattle.std.specs.Prelude.{◌&&◌, not, nat_le}
use Rattle.std.specs.List.{list_all}
use Rattle.std.proofs.lemmas.Bool.{and_parts, leb-true}
use Rattle.lower_bounds.specs.TableFunctions.{is_among}
use Rattle.lower_bounds.proofs.TableLists.{all-at}
use Rattle.lower_bounds.specs.LandmarkFunctions.{Zone}
use Rattle.lower_bounds.specs.LandmarkLines.{is_value, is_zone, literal_count, rise, share_count}
use Rattle.landmark_zones.proofs.LimitsLemmas.{rise-up}
use Rattle.landmarks.specs.Breaking.{IsSorted}
use Rattle.landmarks.specs.Laws.{KeptOnesAreSorted}

zone-sorted : (count : ℕ) (z : Zone) → is_zone count z ≡ true → IsSorted z
zone-sorted count z is =
    let first = and_parts (rise count 0 z.atoms && rise count 0 z.negated && nat_le 1 (length z.atoms + length z.negated)) (list_all (λ number. not (is_among z.atoms number)) z.negated) is in
    let second = and_parts (rise count 0 z.atoms && rise count 0 z.negated) (nat_le 1 (length z.atoms + length z.negated)) first.0 in
    let third = and_parts (rise count 0 z.atoms) (rise count 0 z.negated) second.0 in
    record {
      atoms = rise-up count 0 z.atoms third.0;
      negated = rise-up count 0 z.negated third.1;
    }

pub kept-sorted : KeptOnesAreSorted
kept-sorted count l keeps =
    let both = and_parts (list_all (is_zone count) l.zones && nat_le (length l.zones) 16777216 && nat_le (literal_count l.zones) 67108864)
    (list_all (is_value (length l.zones)) l.values && nat_le (length l.values) 16777216 && nat_le (share_count l.values) 67108864) keeps in
    let zones = and_parts (list_all (is_zone count) l.zones && nat_le (length l.zones) 16777216) (nat_le (literal_count l.zones) 67108864) both.0 in
    let values = and_parts (list_all (is_value (length l.zones)) l.values && nat_le (length l.values) 16777216) (nat_le (share_count l.values) 67108864) both.1 in (
      λ z among. zone-sorted count z (all-at (is_zone count) l.zones z (and_parts (list_all (is_zone count) l.zones) (nat_le (length l.zones) 16777216) zones.0).0 among),
      leb-true (share_count l.values) 67108864 values.1,
    )
