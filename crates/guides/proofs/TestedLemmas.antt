-- What is known of one value within its limits, and of a tested one.
use Rattle.std.proofs.Common.{◌≡◌, ◌∙◌, ℕ, ◌+◌, ◌*◌, ◌<◌, ◌≤◌, ◌^◌, Bool, true, false, not, List, [], ◌∷◌, length, map, sum_by, get_or, None, Some, refl, sym, ap, arith}
use Rattle.std.specs.Prelude.{All, ◌&&◌, nat_le, nat_lt, slice_get, if◌then◌else◌}
use Rattle.std.specs.List.{list_all, filter_map, cons_option}
use Rattle.std.specs.Option.{option_map}
use Rattle.std.proofs.lemmas.Bool.{and_parts, and_from, leb-true}
use Rattle.std.proofs.lemmas.List.Elements.{All-head}
use Rattle.std.proofs.lemmas.List.Sums.{sum_by-cons}
use Rattle.std.proofs.lemmas.Option.{get_or_from_slice_get, slice_get_read}
use Rattle.model.specs.Task.{Atom, Task}
use Rattle.model.proofs.ListLemmas.{Contains-got}
use Rattle.lower_bounds.specs.TableFunctions.{is_among}
use Rattle.lower_bounds.specs.TableLaws.{AreAllNumbered}
use Rattle.lower_bounds.proofs.TableLists.{all-at}
use Rattle.lower_bounds.specs.LandmarkFunctions.{Zone, Landmark, gives, is_whole, value}
use Rattle.lower_bounds.specs.LandmarkLines.{NumberedLandmarks, Share, functions_of, landmark_of, is_share, is_value, is_zone, keep_limits, literal_count, rise, share_count}
use Rattle.lower_bounds.specs.FairLandmarks.{AreClosed, IsDeadFair}
use Rattle.lower_bounds.specs.LandmarkLaws.{IsOver, is_zone_over}
use Rattle.lower_bounds.proofs.KeptLandmarks.{kept_ones_are_over}
use Rattle.lower_bounds.proofs.LandmarkLowerBound.{dead_fair_ones_report_dead_ends, fair_ones_are_lower_bounds}
use Rattle.landmark_zones.specs.Landmarks.{landmarks_of}
use Rattle.landmarks.specs.declared.testing.Fairness.{Fairness}
use Rattle.landmarks.specs.Fairness.{AreFairness, IsFairness, function_over, is_dead_fair, is_unfair}
use Rattle.landmarks.proofs.FairnessLemmas.{dead-of, fair-of, few-of}
use Rattle.landmarks.proofs.Kept.{kept-sorted}
use Rattle.guides.specs.declared.tested.TestedValue.{TestedValue}
use Rattle.guides.specs.Tested.{IsOne, IsTested, first_of, value_by}

-- ---- zones over as many atoms

rise-below : (count least : ℕ) (numbers : List ℕ) → rise count least numbers ≡ true → list_all (λ n. nat_lt n count) numbers ≡ true
rise-below count least [] rises = refl
rise-below count least (n ∷ numbers) rises =
    let parts = and_parts (nat_le least n && nat_lt n count) (rise count (n + 1) numbers) rises in
    and_from (nat_lt n count) (list_all (λ k. nat_lt k count) numbers) (and_parts (nat_le least n) (nat_lt n count) parts.0).1 (rise-below count (n + 1) numbers parts.1)

zone-over : (count : ℕ) (z : Zone) → is_zone count z ≡ true → is_zone_over count z ≡ true
zone-over count z is =
    let apart = list_all (λ number. not (is_among z.atoms number)) z.negated in
    let some = nat_le 1 (length z.atoms + length z.negated) in
    let rises = rise count 0 z.atoms && rise count 0 z.negated in
    let both = and_parts (rise count 0 z.atoms) (rise count 0 z.negated) (and_parts rises some (and_parts (rises && some) apart is).0).0 in
    and_from (list_all (λ n. nat_lt n count) z.atoms) (list_all (λ n. nat_lt n count) z.negated) (rise-below count 0 z.atoms both.0) (rise-below count 0 z.negated both.1)

all-over : (count : ℕ) (zones : List Zone) → list_all (is_zone count) zones ≡ true → list_all (is_zone_over count) zones ≡ true
all-over count [] are = refl
all-over count (z ∷ zones) are =
    let parts = and_parts (is_zone count z) (list_all (is_zone count) zones) are in
    and_from (is_zone_over count z) (list_all (is_zone_over count) zones) (zone-over count z parts.0) (all-over count zones parts.1)

-- the limits of zones, and of values
limit-parts : (count : ℕ) (l : NumberedLandmarks) → keep_limits count l ≡ true → (list_all (is_zone count) l.zones ≡ true) × (list_all (is_value (length l.zones)) l.values ≡ true)
limit-parts count l keeps =
    let both = and_parts (list_all (is_zone count) l.zones && nat_le (length l.zones) 16777216 && nat_le (literal_count l.zones) 67108864)
    (list_all (is_value (length l.zones)) l.values && nat_le (length l.values) 16777216 && nat_le (share_count l.values) 67108864) keeps in
    let zones = and_parts (list_all (is_zone count) l.zones && nat_le (length l.zones) 16777216) (nat_le (literal_count l.zones) 67108864) both.0 in
    let values = and_parts (list_all (is_value (length l.zones)) l.values && nat_le (length l.values) 16777216) (nat_le (share_count l.values) 67108864) both.1 in
    ((and_parts (list_all (is_zone count) l.zones) (nat_le (length l.zones) 16777216) zones.0).0, (and_parts (list_all (is_value (length l.zones)) l.values) (nat_le (length l.values) 16777216) values.0).0)

pub kept_over : (count : ℕ) (l : NumberedLandmarks) → keep_limits count l ≡ true → list_all (is_zone_over count) l.zones ≡ true
kept_over count l keeps = all-over count l.zones (limit-parts count l keeps).0

-- ---- the value of a state

-- the first value has few zones
pub few_shares : (count : ℕ) (l : NumberedLandmarks) (shares : List Share) → IsOne count l → slice_get l.values 0 ≡ Some shares → length shares ≤ 67108864
few_shares count l shares one at = few-of l.values 0 67108864 shares at (kept-sorted count l one.limits).1

-- it gives a state the sum of what they give
pub given : (l : NumberedLandmarks) (shares : List Share) (bits : List Bool) → slice_get l.values 0 ≡ Some shares
    → sum_by (gives bits) (filter_map (landmark_of l.zones) shares) ≡ value (first_of l) bits
given l shares bits at = sym (ap (λ (s : List Share). sum_by (gives bits) (filter_map (landmark_of l.zones) s)) (get_or_from_slice_get l.values 0 shares [] at))

module _ (bits : List Bool) (zones : List Zone) where
  gives-most : (z : Zone) (weight : ℕ) → gives bits (record { zone = z; weight = weight }) ≤ weight
  gives-most z weight = elim (is_whole bits z) as (λ b. (if b then weight else 0) ≤ weight) [ true ↦ omega arith | false ↦ omega arith ]

  sum-most : (shares : List Share) → list_all is_share shares ≡ true → sum_by (gives bits) (filter_map (landmark_of zones) shares) ≤ length shares * 2147483647
  sum-most [] are = omega arith
  sum-most (s ∷ shares) are =
      let parts = and_parts (is_share s) (list_all is_share shares) are in
      let rest = sum-most shares parts.1 in
      let weight = leb-true s.weight 2147483647 (and_parts (nat_le 1 s.weight) (nat_le s.weight 2147483647) parts.0).1 in
      elim (slice_get zones s.zone) as (λ o. sum_by (gives bits) (cons_option (option_map with_weight o) (filter_map (landmark_of zones) shares)) ≤ length (s ∷ shares) * 2147483647) [
        | None ↦ omega (arith, rest)
        | Some z ↦ omega (arith, rest, weight, gives-most z s.weight, sum_by-cons (gives bits) (with_weight z) (filter_map (landmark_of zones) shares))
      ]
    where
      with_weight : Zone → Landmark
      with_weight z = record { zone = z; weight = s.weight }

-- and that fits 63 bits
pub fits : (count : ℕ) (l : NumberedLandmarks) (shares : List Share) (bits : List Bool) → IsOne count l → slice_get l.values 0 ≡ Some shares
    → sum_by (gives bits) (filter_map (landmark_of l.zones) shares) < 2 ^ 63
fits count l shares bits one at =
    let valued = all-at (is_value (length l.zones)) l.values shares (limit-parts count l one.limits).1 (Contains-got l.values 0 shares at) in
    let are = (and_parts (rise (length l.zones) 0 (zones_in shares) && nat_le 1 (length shares)) (list_all is_share shares) valued).1 in
    omega (arith, sum-most bits l.zones shares are, few_shares count l shares one at)
  where
    zones_in : List Share → List ℕ
    zones_in shares = map (λ (s : Share). s.zone) shares

-- ---- tested values

first-in : (count : ℕ) (zones : List Zone) (values : List (List Share)) → length values ≡ 1 → All (IsOver count) (functions_of [] (record { zones = zones; values = values }))
    → IsOver count (function_over [] zones (get_or values 0 []))
first-in count zones [] one all = absurd (omega (arith, one))
first-in count zones (shares ∷ values) one all = All-head (IsOver count) (function_over [] zones shares) (functions_of [] (record { zones = zones; values = values })) all

first-over : (count : ℕ) (l : NumberedLandmarks) → IsOne count l → IsOver count (first_of l)
first-over count l one = first-in count l.zones l.values one.one (kept_ones_are_over count [] l one.limits refl)

none-closed : (task : Task) (atoms : List Atom) → AreClosed task atoms []
none-closed task atoms k d below asked = refl

-- a fair value is tested
pub tested : (task : Task) (atoms : List Atom) (v : TestedValue) (f : Fairness) → AreAllNumbered task atoms → IsOne (length atoms) (landmarks_of v.landmarks)
    → IsFairness task atoms (first_of (landmarks_of v.landmarks)) f → is_unfair f ≡ false → v.is_dead_fair ≡ is_dead_fair f → IsTested task atoms v
tested task atoms v f numbered one found isnt same =
    let h = first_of (landmarks_of v.landmarks) in
    let over = first-over (length atoms) (landmarks_of v.landmarks) one in
    let fair = fair-of task atoms h f isnt found in
    let dead : v.is_dead_fair ≡ true → IsDeadFair task atoms h = λ is. dead-of task atoms h f (sym same ∙ is) found in
    record {
      one = one;
      fair = fair;
      dead_fair = dead;
      admissible = λ s end plan runs goal. (fair_ones_are_lower_bounds task atoms h numbered over (none-closed task atoms) fair).ground_bound s end plan runs goal;
      dead_ends = λ s is end plan runs.
          let both = and_parts v.is_dead_fair (nat_le 1 (value_by v s)) is in
          (dead_fair_ones_report_dead_ends task atoms h numbered over (none-closed task atoms) (dead both.0)).no_ground_plan s end plan both.1 runs;
    }

-- ---- what the test found of one value

pub one-found : (task : Task) (atoms : List Atom) (l : NumberedLandmarks) (found : List Fairness) → length l.values ≡ 1 → AreFairness task atoms [] l found → 0 < length found
one-found task atoms l found one are = omega (arith, are.as_many, one)

pub first-found : (task : Task) (atoms : List Atom) (l : NumberedLandmarks) (found : List Fairness) (f : Fairness) → length l.values ≡ 1 → f ≡ get_or found 0 f → AreFairness task atoms [] l found
    → IsFairness task atoms (first_of l) f
first-found task atoms l found f one is are =
    are.each 0 f (slice_get_read found (length found) 0 f refl (one-found task atoms l found one are) is)
