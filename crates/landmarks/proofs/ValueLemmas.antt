-- The sum of what shares give, and numbers that are below a width.
use Rattle.std.proofs.Common.{◌≡◌, ◌∙◌, ℕ, zero, suc, ◌+◌, ◌<◌, true, List, [], ◌∷◌, length, map, get_or, sum_by, None, Some, refl, sym, arith}
use Rattle.std.specs.Prelude.{nat_lt, slice_get}
use Rattle.std.specs.List.{list_all, filter_map, cons_option}
use Rattle.std.specs.Option.{option_map_or}
use Rattle.std.proofs.lemmas.Bool.{and_parts, ltb-true}
use Rattle.std.proofs.lemmas.List.Sums.{sum_by-cons}
use Rattle.model.proofs.ListLemmas.{Contains-got}
use Rattle.lower_bounds.proofs.TableLists.{all-at}
use Rattle.lower_bounds.specs.LandmarkFunctions.{Zone, Landmark}
use Rattle.lower_bounds.specs.LandmarkLines.{landmark_of}
use Rattle.lower_bounds.specs.LandmarkLaws.{is_zone_over}
use Rattle.landmark_zones.specs.declared.values.Share.{Share}
use Rattle.landmark_zones.specs.Landmarks.{share_of}

pub number-below : (width : ℕ) (numbers : List ℕ) (i : ℕ) → list_all (λ number. nat_lt number width) numbers ≡ true → i < length numbers → get_or numbers i 0 < width
number-below width [] i all within = absurd (omega arith)
number-below width (n ∷ numbers) zero all within = ltb-true n width (and_parts (nat_lt n width) (list_all (λ number. nat_lt number width) numbers) all).0
number-below width (n ∷ numbers) (suc i) all within =
    number-below width numbers i (and_parts (nat_lt n width) (list_all (λ number. nat_lt number width) numbers) all).1 (omega arith)

pub zone-is-over : (width : ℕ) (zones : List Zone) (number : ℕ) (z : Zone) → list_all (is_zone_over width) zones ≡ true → slice_get zones number ≡ Some z → is_zone_over width z ≡ true
zone-is-over width zones number z all at = all-at (is_zone_over width) zones z all (Contains-got zones number z at)

-- shares without a zone count for nothing
pub all-count : (zones : List Zone) (f : Landmark → ℕ) (shares : List Share)
    → sum_by (λ (s : Share). option_map_or f (landmark_of zones (share_of s)) 0) shares ≡ sum_by f (filter_map (landmark_of zones) (map share_of shares))
all-count zones f [] = refl
all-count zones f (s ∷ shares) =
    let of = λ (k : Share). option_map_or f (landmark_of zones (share_of k)) 0 in
    let rest = filter_map (landmark_of zones) (map share_of shares) in
    let later = all-count zones f shares in
    let first : option_map_or f (landmark_of zones (share_of s)) 0 + sum_by f rest ≡ sum_by f (cons_option (landmark_of zones (share_of s)) rest) =
    elim (landmark_of zones (share_of s)) as (λ o. option_map_or f o 0 + sum_by f rest ≡ sum_by f (cons_option o rest)) [
      | None ↦ omega arith
      | Some m ↦ sym (sum_by-cons f m rest)
    ] in
    let split : sum_by of (s ∷ shares) ≡ option_map_or f (landmark_of zones (share_of s)) 0 + sum_by f rest = omega (arith, sum_by-cons of s shares, later) in
    split ∙ first
