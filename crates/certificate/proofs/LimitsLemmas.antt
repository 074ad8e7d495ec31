-- The meaning of a certificate's limits.
use Rattle.std.proofs.Common.{◌≡◌, ℕ, ◌+◌, ◌≤◌, Bool, true, false, List, [], ◌∷◌, length, refl}
use Rattle.std.specs.Prelude.{◌&&◌, ◌||◌, IsTrue, All, nat_le}
use Rattle.std.specs.List.{list_all}
use Rattle.std.proofs.lemmas.Bool.{and_parts, leb-true}
use Rattle.std.proofs.lemmas.List.Elements.{All-cons, All-nil}
use Rattle.lower_bounds.specs.LandmarkLines.{is_value, is_zone, keep_limits, literal_count, most_entries, most_values, most_zones, share_count}
use Rattle.certificate.specs.CertificateParts.{keeps_exchange_limits, keeps_item_limits}
use Rattle.certificate.specs.Evidence.{is_evidence}
use Rattle.certificate_definitions.specs.CertificateText.{most_atoms, most_states, most_swaps}
use Rattle.certificate_definitions.specs.Parts.{most_rows, most_tables}
use Rattle.certificate_definitions.specs.Certificates.{Certificate, Version, StateLine, are_exchanges, are_landmarks, has_basis, has_landmarks, several_of, are_potentials, are_tables, is_value_count, rows_of, is_claim, is_dead_end_weight, is_mark, is_number, is_state_line, is_weight, keeps_limits, rise}

-- the limits of a certificate, one by one
pub record AreLimits (c : Certificate) : Type 0 where
  pub claim : is_claim c.claim ≡ true
  pub few_atoms : nat_le (length c.atoms) most_atoms ≡ true
  pub few_states : nat_le (length c.lines) most_states ≡ true
  pub states : list_all (is_state_line c.version (length c.atoms)) c.lines ≡ true
  pub value_count : is_value_count c.version (length c.values) ≡ true
  pub values : list_all (are_potentials is_weight (length c.atoms)) c.values ≡ true
  pub dead_ends : are_potentials (is_dead_end_weight c.version) (length c.atoms) c.dead_ends ≡ true
  pub tables : are_tables c.version (length c.atoms) (length c.values + 1) c.tables ≡ true
  pub few_tables : nat_le (length c.tables) most_tables ≡ true
  pub few_rows : nat_le (length (rows_of c.tables)) most_rows ≡ true
  pub exchanges : are_exchanges c.version c.exchanges ≡ true
  pub few_exchanges : nat_le (length c.exchanges) most_swaps ≡ true
  pub landmarks : are_landmarks c.version (length c.atoms) c.landmarks ≡ true
  pub bases : list_all (λ (l : StateLine). has_basis (length c.landmarks.values) l.mark) c.lines ≡ true

pub limits_of : (c : Certificate) → keeps_limits c ≡ true → AreLimits c
limits_of c keeps =
    let claims = is_claim c.claim in
    let atoms = nat_le (length c.atoms) most_atoms in
    let lines = nat_le (length c.lines) most_states in
    let states = list_all (is_state_line c.version (length c.atoms)) c.lines in
    let count = is_value_count c.version (length c.values) in
    let values = list_all (are_potentials is_weight (length c.atoms)) c.values in
    let dead_ends = are_potentials (is_dead_end_weight c.version) (length c.atoms) c.dead_ends in
    let tables = are_tables c.version (length c.atoms) (length c.values + 1) c.tables in
    let scopes = nat_le (length c.tables) most_tables in
    let rows = nat_le (length (rows_of c.tables)) most_rows in
    let exchanges = are_exchanges c.version c.exchanges in
    let swaps = nat_le (length c.exchanges) most_swaps in
    let landmarks = are_landmarks c.version (length c.atoms) c.landmarks in
    let (first, bases_are) =
    and_parts (claims && atoms && lines && states && count && values && dead_ends && tables && scopes && rows && exchanges && swaps && landmarks)
    (list_all (λ (l : StateLine). has_basis (length c.landmarks.values) l.mark) c.lines) keeps in
    let (first, landmarks_are) = and_parts (claims && atoms && lines && states && count && values && dead_ends && tables && scopes && rows && exchanges && swaps) landmarks first in
    let (first, few_exchanges) = and_parts (claims && atoms && lines && states && count && values && dead_ends && tables && scopes && rows && exchanges) swaps first in
    let (first, exchanges_are) = and_parts (claims && atoms && lines && states && count && values && dead_ends && tables && scopes && rows) exchanges first in
    let (first, few_rows) = and_parts (claims && atoms && lines && states && count && values && dead_ends && tables && scopes) rows first in
    let (first, few_tables) = and_parts (claims && atoms && lines && states && count && values && dead_ends && tables) scopes first in
    let (first, tables_are) = and_parts (claims && atoms && lines && states && count && values && dead_ends) tables first in
    let (first, dead_ends_are) = and_parts (claims && atoms && lines && states && count && values) dead_ends first in
    let (first, values_are) = and_parts (claims && atoms && lines && states && count) values first in
    let (first, count_is) = and_parts (claims && atoms && lines && states) count first in
    let (first, states_are) = and_parts (claims && atoms && lines) states first in
    let (first, few_states) = and_parts (claims && atoms) lines first in
    let (claim, few_atoms) = and_parts claims atoms first in
    record {
      claim = claim;
      few_atoms = few_atoms;
      few_states = few_states;
      states = states_are;
      value_count = count_is;
      values = values_are;
      dead_ends = dead_ends_are;
      tables = tables_are;
      few_tables = few_tables;
      few_rows = few_rows;
      exchanges = exchanges_are;
      few_exchanges = few_exchanges;
      landmarks = landmarks_are;
      bases = bases_are;
    }

-- the numbers in each line ascend
pub rising_lines : (version : Version) (count : ℕ) (lines : List StateLine) → list_all (is_state_line version count) lines ≡ true → All (λ (l : StateLine). IsTrue (rise count 0 l.atoms)) lines
rising_lines version count [] keep = All-nil (λ (l : StateLine). IsTrue (rise count 0 l.atoms))
rising_lines version count (line ∷ lines) keep =
    let (here, more) = and_parts (is_state_line version count line) (list_all (is_state_line version count) lines) keep in
    All-cons (λ (l : StateLine). IsTrue (rise count 0 l.atoms)) line lines (and_parts (is_number line.cost && is_mark version line.mark) (rise count 0 line.atoms) here).1
    (rising_lines version count lines more)

-- the numbers of zones and of landmark values
module _ (c : Certificate) (limits : AreLimits c) where
  keep : keep_limits (length c.atoms) c.landmarks ≡ true
  keep = (and_parts (has_landmarks c.version || (nat_le (length c.landmarks.zones) 0 && nat_le (length c.landmarks.values) 0)) (keep_limits (length c.atoms) c.landmarks) limits.landmarks).1

  abbrev zones : Bool
  zones = list_all (is_zone (length c.atoms)) c.landmarks.zones && nat_le (length c.landmarks.zones) most_zones && nat_le (literal_count c.landmarks.zones) most_entries

  abbrev values : Bool
  values = list_all (is_value (length c.landmarks.zones)) c.landmarks.values && nat_le (length c.landmarks.values) most_values && nat_le (share_count c.landmarks.values) most_entries

  pub few_zones : length c.landmarks.zones ≤ most_zones
  few_zones =
      let few = list_all (is_zone (length c.atoms)) c.landmarks.zones && nat_le (length c.landmarks.zones) most_zones in
      leb-true (length c.landmarks.zones) most_zones
      (and_parts (list_all (is_zone (length c.atoms)) c.landmarks.zones) (nat_le (length c.landmarks.zones) most_zones)
      (and_parts few (nat_le (literal_count c.landmarks.zones) most_entries) (and_parts zones values keep).0).0).1

  pub few_values : length c.landmarks.values ≤ most_values
  few_values =
      let few = list_all (is_value (length c.landmarks.zones)) c.landmarks.values && nat_le (length c.landmarks.values) most_values in
      leb-true (length c.landmarks.values) most_values
      (and_parts (list_all (is_value (length c.landmarks.zones)) c.landmarks.values) (nat_le (length c.landmarks.values) most_values)
      (and_parts few (nat_le (share_count c.landmarks.values) most_entries) (and_parts zones values keep).1).0).1

-- ---- the limits in the order in which they are tested

-- conjunctions in another order
regrouped : (items a b c d e f landmarks exchanges few bases : Bool)
    → items && a && b && c && d && e && f && exchanges && few && landmarks && bases ≡ items && (a && b && c && d && e && f && landmarks) && (exchanges && few) && bases
regrouped false a b c d e f landmarks exchanges few bases = refl
regrouped true false b c d e f landmarks exchanges few bases = refl
regrouped true true false c d e f landmarks exchanges few bases = refl
regrouped true true true false d e f landmarks exchanges few bases = refl
regrouped true true true true false e f landmarks exchanges few bases = refl
regrouped true true true true true false f landmarks exchanges few bases = refl
regrouped true true true true true true false landmarks exchanges few bases = refl
regrouped true true true true true true true false false few bases = refl
regrouped true true true true true true true false true false bases = refl
regrouped true true true true true true true false true true bases = refl
regrouped true true true true true true true true false few bases = refl
regrouped true true true true true true true true true false bases = refl
regrouped true true true true true true true true true true bases = refl

pub in_turn : (c : Certificate) → keeps_limits c
    ≡ keeps_item_limits c && is_evidence c.version (length c.atoms) (several_of c) c.landmarks && keeps_exchange_limits c && list_all (λ (l : StateLine). has_basis (length c.landmarks.values) l.mark) c.lines
in_turn c =
    regrouped (keeps_item_limits c) (is_value_count c.version (length c.values)) (list_all (are_potentials is_weight (length c.atoms)) c.values)
    (are_potentials (is_dead_end_weight c.version) (length c.atoms) c.dead_ends) (are_tables c.version (length c.atoms) (length c.values + 1) c.tables) (nat_le (length c.tables) 4194304)
    (nat_le (length (rows_of c.tables)) 4194304) (are_landmarks c.version (length c.atoms) c.landmarks) (are_exchanges c.version c.exchanges) (nat_le (length c.exchanges) 1048576)
    (list_all (λ (l : StateLine). has_basis (length c.landmarks.values) l.mark) c.lines)
