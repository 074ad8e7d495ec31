-- What a text may have: its zones are over its atoms, and examples of lines.
use Rattle.std.proofs.Common.{◌≡◌, ℕ, ◌+◌, Bool, true, not, ◌&&◌, List, [], ◌∷◌, length, None, Some, refl}
use Rattle.std.specs.Prelude.{All, nat_le, nat_lt, slice_get}
use Rattle.std.specs.Fmt.{digits}
use Rattle.std.specs.List.{list_all, filter_map, cons_option}
use Rattle.std.specs.Option.{option_map}
use Rattle.std.proofs.lemmas.Bool.{and_parts, and_from}
use Rattle.std.proofs.lemmas.List.Elements.{All-cons, All-nil}
use Rattle.model.proofs.ListLemmas.{Contains-got}
use Rattle.lower_bounds.specs.TableFunctions.{Table, is_among}
use Rattle.lower_bounds.specs.TableLaws.{are_over}
use Rattle.lower_bounds.proofs.TableLists.{all-at}
use Rattle.lower_bounds.specs.LandmarkFunctions.{Zone, Landmark}
use Rattle.lower_bounds.specs.LandmarkLines.{Share, landmark_of, functions_of, rise, is_zone, is_value, literal_count, share_count, most_zones, most_values, most_entries, AreLinesJudged}
use Rattle.lower_bounds.specs.LandmarkLaws.{is_zone_over, IsOver, KeptOnesAreOver}

rise-below : (count least : ℕ) (numbers : List ℕ) → rise count least numbers ≡ true → list_all (λ n. nat_lt n count) numbers ≡ true
rise-below count least [] rises = refl
rise-below count least (n ∷ numbers) rises =
    let parts = and_parts (nat_le least n && nat_lt n count) (rise count (n + 1) numbers) rises in
    and_from (nat_lt n count) (list_all (λ k. nat_lt k count) numbers) (and_parts (nat_le least n) (nat_lt n count) parts.0).1 (rise-below count (n + 1) numbers parts.1)

zone-over : (count : ℕ) (z : Zone) → is_zone count z ≡ true → is_zone_over count z ≡ true
zone-over count z is =
    let apart = list_all (λ number. not (is_among z.atoms number)) z.negated in
    let some = nat_le 1 (length z.atoms + length z.negated) in
    let rises = rise count 0 z.atoms && rise count 0 z.negated in
    let both = and_parts (rise count 0 z.atoms) (rise count 0 z.negated) (and_parts rises some (and_parts (rises && some) apart is).0).0 in
    and_from (list_all (λ n. nat_lt n count) z.atoms) (list_all (λ n. nat_lt n count) z.negated) (rise-below count 0 z.atoms both.0) (rise-below count 0 z.negated both.1)

module _ (count : ℕ) (zones : List Zone) (are : list_all (is_zone count) zones ≡ true) where
  abbrev is_over : Landmark → Bool
  is_over m = is_zone_over count m.zone

  shares-over : (shares : List Share) → list_all is_over (filter_map (landmark_of zones) shares) ≡ true
  shares-over [] = refl
  shares-over (s ∷ shares) =
      elim (slice_get zones s.zone) as (λ o. slice_get zones s.zone ≡ o → list_all is_over (cons_option (option_map with_weight o) (filter_map (landmark_of zones) shares)) ≡ true) [
        | None ↦ λ _. shares-over shares
        | Some z ↦ λ there.
            and_from (is_zone_over count z) (list_all is_over (filter_map (landmark_of zones) shares)) (zone-over count z (all-at (is_zone count) zones z are (Contains-got zones s.zone z there))) (shares-over shares)
      ] refl
    where
      with_weight : Zone → Landmark
      with_weight z = record { zone = z; weight = s.weight }

  values-over : (tables : List Table) → are_over count tables ≡ true → (values : List (List Share)) → All (IsOver count) (functions_of tables (record { zones = zones; values = values }))
  values-over tables scopes [] = All-nil (IsOver count)
  values-over tables scopes (shares ∷ values) =
      All-cons (IsOver count) (record { landmarks = filter_map (landmark_of zones) shares; tables = tables }) (functions_of tables (record { zones = zones; values = values }))
      (record { zones = shares-over shares; scopes = scopes }) (values-over tables scopes values)

pub kept_ones_are_over : KeptOnesAreOver
kept_ones_are_over count tables l keeps scopes =
    let few_zones = nat_le (length l.zones) most_zones in
    let zones = list_all (is_zone count) l.zones in
    let values = list_all (is_value (length l.zones)) l.values && nat_le (length l.values) most_values && nat_le (share_count l.values) most_entries in
    let first = (and_parts (zones && few_zones && nat_le (literal_count l.zones) most_entries) values keeps).0 in
    values-over count l.zones (and_parts zones few_zones (and_parts (zones && few_zones) (nat_le (literal_count l.zones) most_entries) first).0).0 tables scopes l.values

pub lines_are_judged : AreLinesJudged
unfolding digits
lines_are_judged = record {
  atoms_alone = refl;
  both = refl;
  negated_alone = refl;
  shares = refl;
  cut_by = refl;
  dead_by = refl;
  rising = refl;
  twice = refl;
  falling = refl;
  past_the_end = refl;
  on_both_sides = refl;
  empty = refl;
  valued = refl;
  zone_twice = refl;
  no_such_zone = refl;
  no_weight = refl;
  too_heavy = refl;
  no_share = refl;
}
