-- The numbers of sets, and their meaning for a certificate in memory.
use Rattle.std.proofs.Common.{◌≡◌, ℕ, zero, suc, ◌+◌, ◌<◌, ◌≤◌, Bool, true, false, List, [], ◌∷◌, get_or, inl, inr, map, length, refl, sym, ap, ◌∙◌, subst, arith}
use Rattle.std.specs.Prelude.{◌&&◌, ◌==◌, ℤ, pos, negsuc, All, Contains, Err, Ok, OnOk, Result, Some, slice_get}
use Rattle.std.specs.List.{list_all, list_any, range_with_len}
use Rattle.std.specs.Cmp.{both_ways}
use Rattle.std.specs.Option.{option_map}
use Rattle.std.proofs.lemmas.Bool.{and_parts, eq-eqb, eqb-true, le-leb, leb-true, lt-ltb, or_cases, or_left, or_right}
use Rattle.std.proofs.lemmas.List.{ext_get_or, length-map}
use Rattle.std.proofs.lemmas.Option.{slice_get-map}
use Rattle.std.proofs.lemmas.List.Elements.{All-cons, All-nil, All-contains, All-map, All-tail}
use Rattle.packed_state.specs.Sets.{at_width, has, set_of}
use Rattle.packed_state.specs.declared.pooled.PooledStore.{PooledStore}
use Rattle.packed_state.specs.PooledStore as pooled
use Rattle.packed_state.specs.PooledView.{pooled_states, pooled_width}
use Rattle.packed_state.specs.Store.{sets_in}
use Rattle.packed_state.specs.Words.{bits_in}
use Rattle.packed_state.proofs.PackedLemmas.{length-bits}
use Rattle.lower_bounds.specs.PotentialFunctions.{PotentialFunction}
use Rattle.certificate_definitions.specs.Certificates.{Version, one, two, three, four, StateLine, are_potentials, are_tables, is_dead_end_weight, is_mark, is_number, is_state_line, is_value_count, is_weight, rise, rows_of, several_of}
use Rattle.model.proofs.ListLemmas.{Contains-cases, Contains-filter, Contains-here, Contains-none, Contains-range, Contains-there, filter-Contains}
use Rattle.certificate_reader.proofs.NumbersRead.{rise_parts}
use Rattle.certificate.specs.ListedSets.{Marked, line_with, lines_with, marked, numbers_of}
use Rattle.certificate.specs.declared.cert.Cert.{Cert}
use Rattle.certificate.specs.CertificateParts.{listed_of}
use Rattle.certificate.specs.declared.evidence.WrittenPotentials.{WrittenPotentials}
use Rattle.certificate.specs.declared.states.Listed.{Listed}
use Rattle.certificate.specs.declared.states.States.{States}
use Rattle.certificate.specs.CertificateParts.{certificate_with}
use Rattle.certificate.specs.Evidence.{line_count, potential_of}
use Rattle.certificate.specs.Certificate.{certificate_of, store_in}
use Rattle.certificate.proofs.LimitsLemmas.{AreLimits, few_values, few_zones, limits_of}
use Rattle.certificate.proofs.SetsLemmas.{numbers_back, rise_below}
use Rattle.certificate.proofs.WideningLemmas.{IsBelow, has-at_width, length-at_width}

-- ---- ascending numbers

-- they ascend under a larger count too
rise_more : (count more least : ℕ) (numbers : List ℕ) → count ≤ more → rise count least numbers ≡ true → rise more least numbers ≡ true
rise_more count more least [] few all = refl
rise_more count more least (n ∷ numbers) few all =
    let (above, below, rest) = rise_parts count least n numbers all in
    λ i. le-leb least n above i && lt-ltb n more (omega (arith, below, few)) i && rise_more count more (n + 1) numbers few rest i

-- ---- the numbers of a set

abbrev pub is_among : List ℕ → ℕ → Bool
is_among numbers k = list_any (λ n. n == k) numbers

pub among-Contains : (numbers : List ℕ) (k : ℕ) → is_among numbers k ≡ true → Contains numbers k
among-Contains [] k among = absurd (cc)
among-Contains (n ∷ numbers) k among =
    elim (or_cases (n == k) (is_among numbers k) among) [
      | inl here ↦ subst (λ m. Contains (n ∷ numbers) m) (eqb-true n k here) (Contains-here n numbers)
      | inr later ↦ Contains-there n numbers k (among-Contains numbers k later)
    ]

pub Contains-among : (numbers : List ℕ) (k : ℕ) → Contains numbers k → is_among numbers k ≡ true
Contains-among [] k at = absurd (Contains-none k at)
Contains-among (n ∷ numbers) k at =
    elim (Contains-cases n numbers k at) [
      | inl same ↦ or_left (n == k) (is_among numbers k) (eq-eqb n k same)
      | inr later ↦ or_right (n == k) (is_among numbers k) (Contains-among numbers k later)
    ]

has-within : (set : List Bool) (k : ℕ) → has set k ≡ true → k < length set
has-within [] k is = absurd (cc)
has-within (b ∷ set) zero is = omega arith
has-within (b ∷ set) (suc k) is = omega (arith, has-within set k is)

Contains-numbers : (set : List Bool) (k : ℕ) → has set k ≡ true → Contains (numbers_of set) k
Contains-numbers set k is =
    Contains-filter (has set) (range_with_len 0 (length set)) k (Contains-range 0 (length set) k (omega arith) (omega (arith, has-within set k is))) is

-- a number is among those of a set exactly if it is in the set
among_numbers : (set : List Bool) (k : ℕ) → is_among (numbers_of set) k ≡ has set k
among_numbers set k =
    both_ways (is_among (numbers_of set) k) (has set k) (λ among. (filter-Contains (has set) (range_with_len 0 (length set)) k (among-Contains (numbers_of set) k among)).1)
    (λ is. Contains-among (numbers_of set) k (Contains-numbers set k is))

-- the set of a set's numbers is this set, for any width
pub set_back : (width : ℕ) (set : List Bool) → set_of width (numbers_of set) ≡ at_width width set
set_back width set = λ i. map (λ k. among_numbers set k i) (range_with_len 0 width)

same_width : (set : List Bool) → at_width (length set) set ≡ set
same_width set = ext_get_or false (at_width (length set) set) set (length-at_width (length set) set) (λ k within. has-at_width (length set) set k (omega (arith, within, length-at_width (length set) set)))

-- ---- ascending numbers under another count

abbrev Rises : ℕ → List Bool → Type 0
Rises count set = rise count 0 (numbers_of set) ≡ true

is_below : (count wide : ℕ) (set : List Bool) → count ≤ wide → Rises count set → IsBelow wide set
is_below count wide set enough rises k is =
    let below = All-contains (λ n. n < count) (numbers_of set) k (rise_below count 0 (numbers_of set) rises) (Contains-numbers set k is) in
    omega (arith, below, enough)

same_numbers : (count wide : ℕ) (set : List Bool) → count ≤ wide → Rises count set → numbers_of (at_width wide set) ≡ numbers_of set
same_numbers count wide set enough rises = ap numbers_of (sym (set_back wide set)) ∙ numbers_back wide (numbers_of set) (rise_more count wide 0 (numbers_of set) enough rises)

-- ---- lines of marks and sets

pub marked_back : (marks : List Marked) (sets : List (List Bool)) → length marks ≡ length sets → map marked (lines_with marks sets) ≡ marks
marked_back [] sets same = refl
marked_back (mark ∷ marks) [] same = absurd (omega (arith, same))
marked_back (mark ∷ marks) (set ∷ sets) same = λ i. mark ∷ marked_back marks sets (omega (arith, same)) i

all_rise : (version : Version) (count : ℕ) (marks : List Marked) (sets : List (List Bool)) → length marks ≡ length sets → list_all (is_state_line version count) (lines_with marks sets) ≡ true → All (Rises count) sets
all_rise version count [] [] same keep = All-nil (Rises count)
all_rise version count [] (set ∷ sets) same keep = absurd (omega (arith, same))
all_rise version count (mark ∷ marks) [] same keep = absurd (omega (arith, same))
all_rise version count (mark ∷ marks) (set ∷ sets) same keep =
    let line = line_with mark set in
    let (here, more) = and_parts (is_state_line version count line) (list_all (is_state_line version count) (lines_with marks sets)) keep in
    All-cons (Rises count) set sets (and_parts (is_number line.cost && is_mark version line.mark) (rise count 0 line.atoms) here).1
    (all_rise version count marks sets (omega (arith, same)) more)

-- the number of lines is the number of sets, if each set has its mark
lines_count : (marks : List Marked) (sets : List (List Bool)) → length marks ≡ length sets → length (lines_with marks sets) ≡ length sets
lines_count [] sets same = same
lines_count (mark ∷ marks) [] same = absurd (omega (arith, same))
lines_count (mark ∷ marks) (set ∷ sets) same = ap suc (lines_count marks sets (omega (arith, same)))

line_at : (marks : List Marked) (sets : List (List Bool)) (i : ℕ) (mark : Marked) (set : List Bool) → slice_get marks i ≡ Some mark → slice_get sets i ≡ Some set
    → slice_get (lines_with marks sets) i ≡ Some (line_with mark set)
line_at [] sets i mark set at_mark at_set = absurd (cc)
line_at (m ∷ marks) [] i mark set at_mark at_set = absurd (cc)
line_at (m ∷ marks) (s ∷ sets) zero mark set at_mark at_set =
    let same_mark : m ≡ mark = cc in
    let same_set : s ≡ set = cc in
    λ i. Some (line_with (same_mark i) (same_set i))
line_at (m ∷ marks) (s ∷ sets) (suc i) mark set at_mark at_set = line_at marks sets i mark set at_mark at_set

-- the same if its numbers were listed
pub where_listed : {T E : Type 0} (r : Result T E) (lines : List StateLine) (i : ℕ) (mark : Marked) (set : List Bool) (numbers : List ℕ) → slice_get lines i ≡ Some (line_with mark set)
    → OnOk r (numbers ≡ numbers_of set) → OnOk r (slice_get lines i ≡ Some (record { cost = mark.cost; mark = mark.mark; atoms = numbers }))
where_listed (Ok value) lines i mark set numbers at same = at ∙ (λ j. Some (record { cost = mark.cost; mark = mark.mark; atoms = sym same j }))
where_listed (Err error) lines i mark set numbers at same = tt

sets_of_lines : (width : ℕ) (marks : List Marked) (sets : List (List Bool)) → length marks ≡ length sets → All (λ (set : List Bool). length set ≡ width) sets
    → map (λ (l : StateLine). set_of width l.atoms) (lines_with marks sets) ≡ sets
sets_of_lines width [] [] same long = refl
sets_of_lines width [] (set ∷ sets) same long = absurd (omega (arith, same))
sets_of_lines width (mark ∷ marks) [] same long = absurd (omega (arith, same))
sets_of_lines width (mark ∷ marks) (set ∷ sets) same long =
    let here : length set ≡ width = All-contains (λ (set : List Bool). length set ≡ width) (set ∷ sets) set long (Contains-here set sets) in
    let first : set_of width (numbers_of set) ≡ set = set_back width set ∙ subst (λ w. at_width w set ≡ set) here (same_width set) in
    λ i. first i ∷ sets_of_lines width marks sets (omega (arith, same)) (All-tail (λ (set : List Bool). length set ≡ width) set sets long) i

lines_wide : (count wide : ℕ) (marks : List Marked) (sets : List (List Bool)) → count ≤ wide → length marks ≡ length sets → All (Rises count) sets
    → lines_with marks (map (at_width wide) sets) ≡ lines_with marks sets
lines_wide count wide [] [] enough same rise = refl
lines_wide count wide [] (set ∷ sets) enough same rise = absurd (omega (arith, same))
lines_wide count wide (mark ∷ marks) [] enough same rise = absurd (omega (arith, same))
lines_wide count wide (mark ∷ marks) (set ∷ sets) enough same rises =
    let here = same_numbers count wide set enough (All-contains (Rises count) (set ∷ sets) set rises (Contains-here set sets)) in
    λ i. record { cost = mark.cost; mark = mark.mark; atoms = here i } ∷ lines_wide count wide marks sets enough (omega (arith, same)) (All-tail (Rises count) set sets rises) i

-- ---- for a certificate in memory

set_lengths : (store : PooledStore) → All (λ (set : List Bool). length set ≡ pooled_width store) (pooled_states store)
unfolding sets_in
set_lengths store = All-map (λ (set : List Bool). length set ≡ store.width) (bits_in store.width) (pooled.rows_of store.pool) (λ k d within. length-bits store.width (get_or (pooled.rows_of store.pool) k d))

-- a weight for dead ends is a weight, also in version 1, where it is 0
dead_end_weight : (version : Version) (w : ℤ) → is_dead_end_weight version w ≡ true → is_weight w ≡ true
dead_end_weight one (pos zero) is = refl
dead_end_weight one (pos (suc n)) is = absurd (cc)
dead_end_weight one (negsuc n) is = absurd (cc)
dead_end_weight two w is = is
dead_end_weight three w is = is
dead_end_weight four w is = is

dead_end_weights_are : (version : Version) (weights : List ℤ) → list_all (is_dead_end_weight version) weights ≡ true → list_all is_weight weights ≡ true
dead_end_weights_are version [] are = refl
dead_end_weights_are version (w ∷ weights) are =
    let (here, more) = and_parts (is_dead_end_weight version w) (list_all (is_dead_end_weight version) weights) are in
    λ i. dead_end_weight version w here i && dead_end_weights_are version weights more i

dead_ends_are : (version : Version) (count : ℕ) (p : PotentialFunction) → are_potentials (is_dead_end_weight version) count p ≡ true → are_potentials is_weight count p ≡ true
dead_ends_are version count p are =
    let (first, weights) = and_parts (is_dead_end_weight version p.constant && (length p.weights == count)) (list_all (is_dead_end_weight version) p.weights) are in
    let (constant_is, many) = and_parts (is_dead_end_weight version p.constant) (length p.weights == count) first in
    λ i. (dead_end_weight version p.constant constant_is i && many i) && dead_end_weights_are version p.weights weights i

-- what a test through a view says of all elements, it says of each
all_kept : {X Y : Type 0} (p : Y → Bool) (v : X → Y) (xs : List X) → list_all p (map v xs) ≡ true → All (λ x. p (v x) ≡ true) xs
all_kept p v [] all = All-nil (λ x. p (v x) ≡ true)
all_kept p v (x ∷ xs) all =
    let (here, more) = and_parts (p (v x)) (list_all p (map v xs)) all in
    All-cons (λ x. p (v x) ≡ true) x xs here (all_kept p v xs more)

module _ (cert : Cert) where
  abbrev marks : List Marked
  marks = map listed_of cert.states.marks.items

  abbrev sets : List (List Bool)
  sets = pooled_states (store_in cert)

  abbrev version : Version
  version = (certificate_of cert).version

  abbrev count : ℕ
  count = length (certificate_of cert).atoms

  as_many : length marks ≡ length sets
  as_many = length-map cert.states.marks.items listed_of ∙ cert.marked

  pub limits : AreLimits (certificate_of cert)
  limits = limits_of (certificate_of cert) cert.within_limits

  rises : All (Rises count) sets
  rises = all_rise version count marks sets as_many limits.states

  pub value_count_kept : is_value_count version (length cert.header.evidence.values.items) ≡ true
  value_count_kept = ap (is_value_count version) (sym (length-map cert.header.evidence.values.items potential_of)) ∙ limits.value_count

  pub values_kept : All (λ (p : WrittenPotentials). are_potentials is_weight count (potential_of p) ≡ true) cert.header.evidence.values.items
  values_kept = all_kept (are_potentials is_weight count) potential_of cert.header.evidence.values.items limits.values

  pub dead_ends_kept : are_potentials is_weight count (potential_of cert.header.evidence.dead_ends) ≡ true
  dead_ends_kept = dead_ends_are version count (potential_of cert.header.evidence.dead_ends) limits.dead_ends

  pub tables_kept : are_tables version count (length cert.header.evidence.values.items + 1) (certificate_of cert).tables ≡ true
  tables_kept = ap (λ n. are_tables version count (n + 1) (certificate_of cert).tables) (sym (length-map cert.header.evidence.values.items potential_of)) ∙ limits.tables

  pub marks_are : map listed_of cert.states.marks.items ≡ map marked (certificate_of cert).lines
  marks_are = sym (marked_back marks sets as_many)

  -- there is a set for each line, and their number is limited
  pub count_of_lines : length (certificate_of cert).lines ≡ length (pooled_states (store_in cert))
  count_of_lines = lines_count marks sets as_many

  pub few_atoms : length (certificate_of cert).atoms ≤ 1048576
  few_atoms = leb-true count 1048576 limits.few_atoms

  pub few_exchanges : length (certificate_of cert).exchanges ≤ 1048576
  few_exchanges = leb-true (length (certificate_of cert).exchanges) 1048576 limits.few_exchanges

  -- the lines of all parts
  pub few_parts : line_count (several_of (certificate_of cert)) (certificate_of cert).landmarks ≤ 41943040
  few_parts =
      let c = certificate_of cert in
      let tables = leb-true (length c.tables) 4194304 limits.few_tables in
      let rows = leb-true (length (rows_of c.tables)) 4194304 limits.few_rows in
      let zones = few_zones c limits in
      let values = few_values c limits in
      omega (arith, tables, rows, zones, values)

  pub few_lines : length (certificate_of cert).lines ≤ 16777216
  few_lines = leb-true (length (certificate_of cert).lines) 16777216 limits.few_states

  -- a line, by its mark and its set
  pub line_read : (i : ℕ) (read : List Listed) (mark : Listed) (set : List Bool) → map listed_of read ≡ map marked (certificate_of cert).lines → slice_get read i ≡ Some mark
      → slice_get (pooled_states (store_in cert)) i ≡ Some set → slice_get (certificate_of cert).lines i ≡ Some (line_with (listed_of mark) set)
  line_read i read mark set are at_mark at_set =
      line_at marks sets i (listed_of mark) set
      (ap (λ (ms : List Marked). slice_get ms i) (sym (are ∙ sym marks_are)) ∙ slice_get-map listed_of read i ∙ ap (option_map listed_of) at_mark) at_set

  -- the sets are those of the lines' numbers
  pub sets_are : map (λ (l : StateLine). set_of (pooled_width (store_in cert)) l.atoms) (certificate_of cert).lines ≡ pooled_states (store_in cert)
  sets_are = sets_of_lines (pooled_width (store_in cert)) marks sets as_many (set_lengths (store_in cert))

  module _ (wide : ℕ) (enough : length (certificate_of cert).atoms ≤ wide) where
    pub all_below : All (IsBelow wide) (pooled_states (store_in cert))
    all_below = λ k d within. is_below count wide (get_or sets k d) enough (rises k d within)

    pub same_certificate : (states : States) → states.marks.items ≡ cert.states.marks.items → pooled_states states.sets ≡ map (at_width wide) (pooled_states (store_in cert))
        → certificate_with cert.header states ≡ certificate_of cert
    same_certificate states same are =
        let lines = (λ i. lines_with (map listed_of (same i)) (are i)) ∙ lines_wide count wide marks sets enough as_many rises in
        let c = certificate_of cert in
        λ i. record { version = c.version; claim = c.claim; exchanges = c.exchanges; atoms = c.atoms; values = c.values; dead_ends = c.dead_ends; tables = c.tables; landmarks = c.landmarks; lines = lines i }
