-- What is written of a certificate within the limits is a text that says it.
use Rattle.std.proofs.Common.{◌≡◌, ℕ, suc, ◌+◌, ◌*◌, ◌<◌, ◌≤◌, Bool, true, false, inl, inr, cond, List, [], ◌∷◌, ◌++◌, codes, map, length, length-append, get_or, Option, None, Some, refl, sym, ap, ◌∙◌, subst, true≢false, arith}
use Rattle.std.specs.Prelude.{◌&&◌, ◌||◌, ◌==◌, zero, ℤ, pos, negsuc, IsTrue, All, nat_le, nat_lt, slice_get}
use Rattle.std.specs.Char.{to_ascii_lowercase}
use Rattle.std.specs.Cmp.Lexicographic.{pointwise}
use Rattle.std.specs.Fmt.{signed_decimal}
use Rattle.std.specs.List.{flat_map, list_all}
use Rattle.std.specs.Option.{option_map, option_map_or}
use Rattle.std.proofs.lemmas.Bool.{and_parts, or_cases, eq-eqb, eqb-true, leb-true, le-leb, lt-ltb, ltb-true}
use Rattle.std.proofs.lemmas.Fmt.{length-decimal-le}
use Rattle.std.proofs.lemmas.List.{map-append, ext_get_or, get_or-map, get_or_append_left, get_or_past, get_or_push, length-map, length_push}
use Rattle.std.proofs.lemmas.List.Folds.{list_all-append, list_all-map}
use Rattle.std.proofs.lemmas.List.FromFn.{fill_by_all}
use Rattle.std.proofs.lemmas.List.Recursion.{and_at}
use Rattle.std.proofs.lemmas.Option.{slice_get-map, slice_get_within}
use Rattle.model.specs.Task.{Name, Atom, Object, Predicate, Task, Union, Instance}
use Rattle.model.specs.Meaning.{is_below, is_of}
use Rattle.model.specs.WellTyped.{is_atom, is_task}
use Rattle.model.specs.Words.{is_name, longest_run}
use Rattle.model.specs.Resolution.{is_same}
use Rattle.model.specs.PlanText.{object_names}
use Rattle.model.specs.PlanWriting.{are_lower_names, differ, is_lower_name, object_name}
use Rattle.model.specs.Fluents.{is_fluent}
use Rattle.lower_bounds.specs.PotentialFunctions.{PotentialFunction}
use Rattle.lower_bounds.specs.TableFunctions.{Row, Table, is_among}
use Rattle.certificate_definitions.specs.Certificates.{Version, one, two, three, four, StateLine, has_basis, has_landmarks, are_landmarks, Certificate, IsClosedFor, are_potentials, are_tables, are_weights, has_tables, is_dead_end_weight, is_number, is_row, is_state_line, is_table, is_value_count, is_weight, keeps_limits, rise}
use Rattle.certificate_definitions.specs.CertificateRefusals.{IsPlanWithin}
use Rattle.model.proofs.PlanWritingLemmas.{first_at}
use Rattle.model.proofs.Tests.{passes_got}
use Rattle.certificate_definitions.specs.CertificateText.{WeightedAtom, TableLine, row, Part, landmark_line, Format, TextLine, swapped, atom, tabled, part, listed, last, after_blank, format_of, is_line, is_weight_count, keeps_text_limits, line_text, longest_line, most_atoms, most_states, most_swaps, text_lines, weights_text}
use Rattle.certificate_definitions.specs.CertificateNames.{AllName, AreNumbersOf, IsNumberOf, IsTextOf, Names, are_atoms_of, are_exchanges_of, named_exchange, certificate_text, constants_of, dead_ends_said, has_atom_names, named, named_atom, predicate_name, predicate_names, parts_of, table_lines, value_count, value_said, values_said, weight_said, weighted_atoms, weights_in, weights_of_atom}
use Rattle.certificate_definitions.specs.CertificateChecking.{IsAccepted}
use Rattle.certificate_reader.proofs.LinesRead.{few_constants}
use Rattle.certificate.proofs.WithinLimits.{potential_parts}
use Rattle.cert_checker.proofs.TableParts.{AreFew, as_landmarks, as_parts, counts_of_parts, more_zones, parts_in_order}
use Rattle.certificate.proofs.LimitsLemmas.{AreLimits, limits_of}
use Rattle.cert_checker.proofs.LimitsLemmas.{said_kept}
use Rattle.cert_checker.proofs.NamesLemmas.{few_objects}
use Rattle.cert_checker.proofs.WrittenExchanges.{exchange_lines, exchanges_back}
use Rattle.lower_bounds.specs.LandmarkFunctions.{Zone}
use Rattle.lower_bounds.specs.LandmarkLines.{LandmarkLine, zone, value, Share, NumberedLandmarks, is_value, is_zone, lines_of, literal_count, share_count, most_zones, most_values, most_entries}
use Rattle.certificate_definitions.specs.Parts.{PartCounts, counts_after, no_parts}
use Rattle.cert_checker.specs.Exchanged.{are_short, is_short, is_short_value}

-- ---- the number of a name

-- a name in lower case, and its number
record IsNameAt (names : List Name) (name : Name) (k : ℕ) : Type 0 where
  number : IsNumberOf names name k
  lower : is_lower_name name ≡ true

name_at : {X : Type 0} (name_of : X → Name) (xs : List X) (k : ℕ) (x : X) → are_lower_names (map name_of xs) ≡ true → slice_get xs k ≡ Some x
    → IsNameAt (map name_of xs) (option_map_or name_of (slice_get xs k) []) k
name_at name_of xs k x names at =
    let (lower, differs) = and_parts (list_all is_lower_name (map name_of xs)) (differ (map name_of xs)) names in
    let there : slice_get (map name_of xs) k ≡ Some (name_of x) = slice_get-map name_of xs k ∙ ap (option_map name_of) at in
    let number : IsNumberOf (map name_of xs) (name_of x) k =
    ap (λ j. cond (nat_lt j (length (map name_of xs))) (Some j) None) (first_at (map name_of xs) k (name_of x) differs there)
    ∙ ap (λ b. cond b (Some k) None) (lt-ltb k (length (map name_of xs)) (slice_get_within (map name_of xs) k (name_of x) there)) in
    subst (λ o. IsNameAt (map name_of xs) (option_map_or name_of o []) k) (sym at)
    (record { number = number; lower = passes_got is_lower_name (map name_of xs) k (name_of x) there lower })

some_got : {X : Type 0} (test : X → Bool) (o : Option X) → option_map_or test o false ≡ true → (x : X) × (o ≡ Some x) × (test x ≡ true)
some_got test None is = absurd (true≢false (sym is))
some_got test (Some x) is = (x, refl, is)

-- ---- how long a line is

lower_short : (name : Name) → is_lower_name name ≡ true → length name ≤ 255
lower_short name lower =
    leb-true (length name) longest_run (and_parts (is_name name && is_same (map to_ascii_lowercase name) name) (nat_le (length name) longest_run) lower).1

names_short : (names : List Name) → list_all is_lower_name names ≡ true → length (flat_map after_blank names) ≤ 256 * length names
names_short [] lower = omega arith
names_short (name ∷ names) lower =
    let (here, others) = and_parts (is_lower_name name) (list_all is_lower_name names) lower in
    let few = lower_short name here in
    let rest = names_short names others in
    omega (arith, few, rest, length-append (after_blank name) (flat_map after_blank names))

weight_short : (w : ℤ) → is_weight w ≡ true → length (signed_decimal w) ≤ 11
weight_short (pos n) is = let most = leb-true n 2147483647 is in let digits = length-decimal-le 10 n (omega arith) (omega (arith, most)) (omega (arith, most)) in omega (arith, digits)
weight_short (negsuc n) is =
    let most = ltb-true n 2147483647 is in
    let digits = length-decimal-le 10 (suc n) (omega arith) (omega (arith, most)) (omega (arith, most)) in
    omega (arith, digits)

weights_short : (weights : List ℤ) → list_all is_weight weights ≡ true → length (weights_text weights) ≤ 12 * length weights
weights_short [] all = omega arith
weights_short (w ∷ weights) all =
    let (here, more) = and_parts (is_weight w) (list_all is_weight weights) all in
    let digits = weight_short w here in
    let rest = weights_short weights more in
    let word : length (after_blank (signed_decimal w)) ≡ 1 + length (signed_decimal w) = omega arith in
    omega (arith, digits, rest, word, length-append (after_blank (signed_decimal w)) (weights_text weights))

atom_short : (count : ℕ) (weights : List ℤ) (predicate : Name) (objects : List Name) → count ≤ 33 → are_weights count weights ≡ true → is_lower_name predicate ≡ true
    → list_all is_lower_name objects ≡ true → length objects ≤ 8
    → length (line_text (atom (record { weights = weights; atom = record { predicate = predicate; objects = objects } }))) ≤ longest_line
atom_short count weights predicate objects few_weights are lower lowers few =
    let (many, within) = and_parts (length weights == count) (list_all is_weight weights) are in
    let as_many = eqb-true (length weights) count many in
    let digits = weights_short weights within in
    let short = lower_short predicate lower in
    let rest = names_short objects lowers in
    let front : List ℕ = codes "atom" ++ weights_text weights in
    let words = flat_map after_blank objects in
    omega (
      arith,
      few_weights,
      as_many,
      digits,
      few,
      short,
      rest,
      length-append (codes "atom") (weights_text weights),
      length-append front (codes " ("),
      length-append (front ++ codes " (") predicate,
      length-append ((front ++ codes " (") ++ predicate) words,
      length-append (((front ++ codes " (") ++ predicate) ++ words) (codes ")"),
    )

-- ---- weights of values and of dead ends

-- what is written of weights says them
value_in : (v : Version) (values : List ℤ) (dead_end : ℤ) (place : ℕ) → place < length values → weight_said place (weights_in v values dead_end) ≡ get_or values place (pos 0)
value_in one values dead_end place below = refl
value_in two values dead_end place below = get_or_append_left values (dead_end ∷ []) (pos 0) place below
value_in three values dead_end place below = get_or_append_left values (dead_end ∷ []) (pos 0) place below
value_in four values dead_end place below = get_or_append_left values (dead_end ∷ []) (pos 0) place below

dead_end_in : (v : Version) (values : List ℤ) (dead_end : ℤ) (count : ℕ) → length values ≡ count → is_dead_end_weight v dead_end ≡ true
    → weight_said count (weights_in v values dead_end) ≡ dead_end
dead_end_in one values (pos zero) count same within = get_or_past values count (pos 0) (omega (arith, same))
dead_end_in one values (pos (suc n)) count same within = absurd (true≢false (sym within))
dead_end_in one values (negsuc n) count same within = absurd (true≢false (sym within))
dead_end_in two values dead_end count same within = get_or_push values dead_end (pos 0) count same
dead_end_in three values dead_end count same within = get_or_push values dead_end (pos 0) count same
dead_end_in four values dead_end count same within = get_or_push values dead_end (pos 0) count same

-- how many of the numbers of `weights_in` belong to values; lists of one length are taken to lists of one length
values_in : (v : Version) (values : List ℤ) (dead_end : ℤ) → value_count v (length (weights_in v values dead_end)) ≡ length values
values_in one values dead_end = refl
values_in two values dead_end = let long = length_push values dead_end in omega (arith, long)
values_in three values dead_end = let long = length_push values dead_end in omega (arith, long)
values_in four values dead_end = let long = length_push values dead_end in omega (arith, long)

as_many_in : (v : Version) (values others : List ℤ) (x y : ℤ) → length values ≡ length others → length (weights_in v values x) ≡ length (weights_in v others y)
as_many_in one values others x y same = same
as_many_in two values others x y same = let long = length_push values x in let other = length_push others y in omega (arith, long, other, same)
as_many_in three values others x y same = let long = length_push values x in let other = length_push others y in omega (arith, long, other, same)
as_many_in four values others x y same = let long = length_push values x in let other = length_push others y in omega (arith, long, other, same)

-- in a version with tables one more than of values
one_more_in : (v : Version) (values : List ℤ) (dead_end : ℤ) → has_tables v ≡ true → length values + 1 ≡ length (weights_in v values dead_end)
one_more_in one values dead_end has = absurd (true≢false (sym has))
one_more_in two values dead_end has = absurd (true≢false (sym has))
one_more_in three values dead_end has = sym (length_push values dead_end)
one_more_in four values dead_end has = sym (length_push values dead_end)

count_in : (v : Version) (values : List ℤ) (dead_end : ℤ) → is_value_count v (length values) ≡ true → is_weight_count v (length (weights_in v values dead_end)) ≡ true
count_in one values dead_end is = is
count_in two values dead_end is =
    let same = eqb-true (length values) 1 is in
    let long = length_push values dead_end in
    eq-eqb (length (values ++ dead_end ∷ [])) 2 (omega (arith, same, long))
count_in three values dead_end is =
    let (some, few) = and_parts (nat_le 1 (length values)) (nat_le (length values) 32) is in
    let above = leb-true 1 (length values) some in
    let below = leb-true (length values) 32 few in
    let long = length_push values dead_end in
    λ i. le-leb 2 (length (values ++ dead_end ∷ [])) (omega (arith, above, long)) i && le-leb (length (values ++ dead_end ∷ [])) 33 (omega (arith, below, long)) i
count_in four values dead_end is =
    let (some, few) = and_parts (nat_le 1 (length values)) (nat_le (length values) 32) is in
    let above = leb-true 1 (length values) some in
    let below = leb-true (length values) 32 few in
    let long = length_push values dead_end in
    λ i. le-leb 2 (length (values ++ dead_end ∷ [])) (omega (arith, above, long)) i && le-leb (length (values ++ dead_end ∷ [])) 33 (omega (arith, below, long)) i

weights_keep : (v : Version) (values : List ℤ) (dead_end : ℤ) → list_all is_weight values ≡ true → is_dead_end_weight v dead_end ≡ true
    → list_all is_weight (weights_in v values dead_end) ≡ true
weights_keep one values dead_end are within = are
weights_keep two values dead_end are within = list_all-append is_weight values (dead_end ∷ []) ∙ (λ i. are i && (within i && true))
weights_keep three values dead_end are within = list_all-append is_weight values (dead_end ∷ []) ∙ (λ i. are i && (within i && true))
weights_keep four values dead_end are within = list_all-append is_weight values (dead_end ∷ []) ∙ (λ i. are i && (within i && true))

nothing_of_dead_ends : (v : Version) → is_dead_end_weight v (pos 0) ≡ true
nothing_of_dead_ends one = refl
nothing_of_dead_ends two = refl
nothing_of_dead_ends three = refl
nothing_of_dead_ends four = refl

-- what all values keep, each constant keeps, and each weight of an atom
constants_keep : (count : ℕ) (values : List PotentialFunction) → list_all (are_potentials is_weight count) values ≡ true
    → list_all is_weight (map (λ (p : PotentialFunction). p.constant) values) ≡ true
constants_keep count [] all = refl
constants_keep count (p ∷ values) all =
    let (here, more) = and_parts (are_potentials is_weight count p) (list_all (are_potentials is_weight count) values) all in
    λ i. (potential_parts is_weight count p here).0 i && constants_keep count values more i

weights_there_keep : (count place : ℕ) (values : List PotentialFunction) → list_all (are_potentials is_weight count) values ≡ true
    → list_all is_weight (map (λ (p : PotentialFunction). get_or p.weights place (pos 0)) values) ≡ true
weights_there_keep count place [] all = refl
weights_there_keep count place (p ∷ values) all =
    let (here, more) = and_parts (are_potentials is_weight count p) (list_all (are_potentials is_weight count) values) all in
    λ i. said_kept is_weight refl p.weights place (potential_parts is_weight count p here).2 i && weights_there_keep count place values more i

-- ---- tables

-- the lines of tables keep the limits
module _ (f : Format) where
  abbrev keeps_line : TableLine → Bool
  keeps_line t = is_line f (part (tabled t))

  rows_keep : has_tables f.version ≡ true → (s : List ℕ) (rows : List Row) → list_all (is_row f.atoms f.weights s) rows ≡ true → list_all keeps_line (map (λ r. row r) rows) ≡ true
  rows_keep has s [] all = refl
  rows_keep has s (r ∷ rows) all =
      let (here, more) = and_parts (is_row f.atoms f.weights s r) (list_all (is_row f.atoms f.weights s) rows) all in
      let kept = (and_parts (are_weights f.weights r.weights && rise f.atoms 0 r.atoms) (list_all (is_among s) r.atoms) here).0 in
      λ i. (has i && kept i) && rows_keep has s rows more i

  tables_keep : (tables : List Table) → are_tables f.version f.atoms f.weights tables ≡ true → list_all keeps_line (flat_map table_lines tables) ≡ true
  tables_keep [] all = refl
  tables_keep (t ∷ tables) all =
      let (here, more) = and_parts (has_tables f.version && is_table f.atoms f.weights t) (are_tables f.version f.atoms f.weights tables) all in
      let (has, is) = and_parts (has_tables f.version) (is_table f.atoms f.weights t) here in
      let (scope_is, rows_are) = and_parts (rise f.atoms 0 t.scope && nat_le 1 (length t.scope)) (list_all (is_row f.atoms f.weights t.scope) t.rows) is in
      let rows : list_all keeps_line (map (λ r. row r) t.rows ++ flat_map table_lines tables) ≡ true =
      list_all-append keeps_line (map (λ r. row r) t.rows) (flat_map table_lines tables) ∙ (λ i. rows_keep has t.scope t.rows rows_are i && tables_keep tables more i) in
      λ i. (has i && scope_is i) && rows i

  -- and so do those of landmarks
  zones_keep : has_landmarks f.version ≡ true → (zones : List Zone) → list_all (is_zone f.atoms) zones ≡ true → list_all (λ (p : Part). is_line f (part p)) (as_landmarks (map zone zones)) ≡ true
  zones_keep has [] all = refl
  zones_keep has (z ∷ zones) all =
      let (here, more) = and_parts (is_zone f.atoms z) (list_all (is_zone f.atoms) zones) all in
      λ i. (has i && here i) && zones_keep has zones more i

  values_keep : has_landmarks f.version ≡ true → (count : ℕ) → count ≤ most_zones → (values : List (List Share)) → list_all (is_value count) values ≡ true → list_all is_short_value values ≡ true
      → list_all (λ (p : Part). is_line f (part p)) (as_landmarks (map value values)) ≡ true
  values_keep has count few [] all short = refl
  values_keep has count few (s ∷ values) all short =
      let (here, more) = and_parts (is_value count s) (list_all (is_value count) values) all in
      let (fits, others) = and_parts (is_short_value s) (list_all is_short_value values) short in
      λ i. ((has i && more_zones count most_zones s few here i) && fits i) && values_keep has count few values more others i

  landmarks_keep : (l : NumberedLandmarks) → are_landmarks f.version f.atoms l ≡ true → list_all is_short_value l.values ≡ true → list_all (λ (p : Part). is_line f (part p)) (as_landmarks (lines_of l)) ≡ true
  landmarks_keep l are short =
      let none = nat_le (length l.zones) 0 && nat_le (length l.values) 0 in
      let zones_are = list_all (is_zone f.atoms) l.zones && nat_le (length l.zones) most_zones && nat_le (literal_count l.zones) most_entries in
      let values_are = list_all (is_value (length l.zones)) l.values && nat_le (length l.values) most_values && nat_le (share_count l.values) most_entries in
      let (had, keeps) = and_parts (has_landmarks f.version || none) (zones_are && values_are) are in
      elim (or_cases (has_landmarks f.version) none had) [
        | inl has ↦
            let (zones, values) = and_parts zones_are values_are keeps in
            let (zones_each, few) = and_parts (list_all (is_zone f.atoms) l.zones) (nat_le (length l.zones) most_zones)
            (and_parts (list_all (is_zone f.atoms) l.zones && nat_le (length l.zones) most_zones) (nat_le (literal_count l.zones) most_entries) zones).0 in
            let each = (and_parts (list_all (is_value (length l.zones)) l.values) (nat_le (length l.values) most_values)
            (and_parts (list_all (is_value (length l.zones)) l.values && nat_le (length l.values) most_values) (nat_le (share_count l.values) most_entries) values).0).0 in
            let test : Part → Bool = λ (p : Part). is_line f (part p) in
            ap (list_all test) (map-append (λ (l : LandmarkLine). landmark_line l) (map zone l.zones) (map value l.values))
            ∙ list_all-append test (as_landmarks (map zone l.zones)) (as_landmarks (map value l.values))
            ∙ (λ i. zones_keep has l.zones zones_each i && values_keep has (length l.zones) (leb-true (length l.zones) most_zones few) l.values each short i)
        | inr absent ↦ nothing_keeps l.zones l.values absent
      ]
    where
      nothing_keeps : (zones : List Zone) (values : List (List Share)) → nat_le (length zones) 0 && nat_le (length values) 0 ≡ true
          → list_all (λ (p : Part). is_line f (part p)) (as_landmarks (map zone zones ++ map value values)) ≡ true
      nothing_keeps [] [] absent = refl
      nothing_keeps [] (s ∷ values) absent = absurd (omega (arith, leb-true (length (s ∷ values)) 0 (and_parts true (nat_le (length (s ∷ values)) 0) absent).1))
      nothing_keeps (z ∷ zones) values absent = absurd (omega (arith, leb-true (length (z ∷ zones)) 0 (and_parts (nat_le (length (z ∷ zones)) 0) (nat_le (length values) 0) absent).0))

-- with another count of weights, where that matters
tables_with : (v : Version) (count weights others : ℕ) (tables : List Table) → (has_tables v ≡ true → weights ≡ others) → are_tables v count weights tables ≡ true
    → are_tables v count others tables ≡ true
tables_with v count weights others [] same all = refl
tables_with v count weights others (t ∷ tables) same all =
    let here = (and_parts (has_tables v && is_table count weights t) (are_tables v count weights tables) all).0 in
    let has = (and_parts (has_tables v) (is_table count weights t) here).0 in
    subst (λ k. are_tables v count k (t ∷ tables) ≡ true) (same has) all

-- ---- the atoms

-- what is written of an atom names it, in lower case
record IsNamed (task : Task) (a : Atom) : Type 0 where
  names : Names task (named_atom task a) a
  lower : is_lower_name (predicate_name task a.predicate) ≡ true
  lowers : list_all is_lower_name (map (object_name task) a.objects) ≡ true

module _ (task : Task) (predicates_named : are_lower_names (predicate_names task) ≡ true) (objects_named : are_lower_names (object_names task) ≡ true) where
  object_at : (types : Union) (k : ℕ) → is_of task types k ≡ true → IsNameAt (object_names task) (object_name task k) k
  object_at types k is =
      let (o, at, _) = some_got (λ (o : Object). is_below task types o.type) (slice_get task.objects k) is in
      name_at (λ (o : Object). o.name) task.objects k o objects_named at

  objects_at : (unions : List Union) (objects : List ℕ) → pointwise (is_of task) unions objects ≡ true
      → AreNumbersOf (object_names task) (map (object_name task) objects) objects × (list_all is_lower_name (map (object_name task) objects) ≡ true)
  objects_at [] [] fit = (refl, refl)
  objects_at (types ∷ unions) [] fit = absurd (cc)
  objects_at [] (k ∷ objects) fit = absurd (cc)
  objects_at (types ∷ unions) (k ∷ objects) fit =
      let (is, are) = and_parts (is_of task types k) (pointwise (is_of task) unions objects) fit in
      let here = object_at types k is in
      let (numbers, lowers) = objects_at unions objects are in
      ((λ i. here.number i ∷ numbers i), (λ i. here.lower i && lowers i))

  atom_named : (a : Atom) → is_atom task a ≡ true → IsNamed task a
  atom_named a typed =
      let (p, at, fit) = some_got (λ (p : Predicate). pointwise (is_of task) p.arguments a.objects) (slice_get task.predicates a.predicate) typed in
      let predicate = name_at (λ (p : Predicate). p.name) task.predicates a.predicate p predicates_named at in
      let (numbers, lowers) = objects_at p.arguments a.objects fit in
      record {
        names = record { predicate = predicate.number; objects = numbers };
        lower = predicate.lower;
        lowers = lowers;
      }

  -- their lines keep the limits
  atom_line : (f : Format) (weights : List ℤ) (a : Atom) → is_task task ≡ true → f.weights ≤ 33 → are_weights f.weights weights ≡ true → is_atom task a ≡ true
      → is_line f (atom (record { weights = weights; atom = named_atom task a })) ≡ true
  atom_line f weights a well few_weights are typed =
      let at = atom_named a typed in
      let few : length (map (object_name task) a.objects) ≤ 8 = subst (λ n. n ≤ 8) (sym (length-map a.objects (object_name task))) (few_objects task a well typed) in
      let line : TextLine = atom (record { weights = weights; atom = named_atom task a }) in
      let short = le-leb (length (line_text line)) longest_line
      (atom_short f.weights weights (predicate_name task a.predicate) (map (object_name task) a.objects) few_weights are at.lower at.lowers few) in
      λ i. (are i && (at.lower i && at.lowers i)) && short i

-- ---- the weights of atoms

module _ (task : Task) (c : Certificate) where
  as_many_weighted : (place : ℕ) (atoms : List Atom) → length (weighted_atoms task c place atoms) ≡ length atoms
  as_many_weighted place [] = refl
  as_many_weighted place (a ∷ atoms) = let rest = as_many_weighted (suc place) atoms in omega (arith, rest)

  -- the weight of the value at this place, for the atom at that one
  weight_at : (nth place j : ℕ) (atoms : List Atom) → j < length atoms
      → get_or (map (λ (a : WeightedAtom). weight_said nth a.weights) (weighted_atoms task c place atoms)) j (pos 0) ≡ weight_said nth (weights_of_atom c (place + j))
  weight_at nth place j [] below = absurd (omega (arith, below))
  weight_at nth place zero (a ∷ atoms) below =
      let here : place ≡ place + zero = omega arith in
      ap (λ k. weight_said nth (weights_of_atom c k)) here
  weight_at nth place (suc j) (a ∷ atoms) below =
      let next : suc place + j ≡ place + suc j = omega arith in
      weight_at nth (suc place) j atoms (omega (arith, below)) ∙ ap (λ k. weight_said nth (weights_of_atom c k)) next

  -- they are these, if each is
  weights_back : (nth : ℕ) (weights : List ℤ) → length weights ≡ length c.atoms
      → ((j : ℕ) → j < length c.atoms → weight_said nth (weights_of_atom c j) ≡ get_or weights j (pos 0))
      → weights ≡ map (λ (a : WeightedAtom). weight_said nth a.weights) (weighted_atoms task c 0 c.atoms)
  weights_back nth weights long same =
      let weight_of : WeightedAtom → ℤ = λ a. weight_said nth a.weights in
      let written = weighted_atoms task c 0 c.atoms in
      let as_long : length weights ≡ length (map weight_of written) = long ∙ sym (length-map written weight_of ∙ as_many_weighted 0 c.atoms) in
      ext_get_or (pos 0) weights (map weight_of written) as_long
      (λ j below.
      let within : j < length c.atoms = omega (arith, below, long) in
      let here : 0 + j ≡ j = omega arith in
      sym (weight_at nth 0 j c.atoms within ∙ ap (λ k. weight_said nth (weights_of_atom c k)) here ∙ same j within))

-- ---- the text

module _ (task : Task) (c : Certificate) (well : IsTrue (is_task task)) (has_names : IsTrue (has_atom_names task)) (typed : IsTrue (are_atoms_of task c)) (exchanged : IsTrue (are_exchanges_of task c))
    (short : IsTrue (are_short task c)) (keeps : IsTrue (keeps_limits c)) where
  limits : AreLimits c
  limits = limits_of c keeps

  names_both : (are_lower_names (predicate_names task) ≡ true) × (are_lower_names (object_names task) ≡ true)
  names_both = and_parts (are_lower_names (predicate_names task)) (are_lower_names (object_names task)) has_names

  dead_end_parts : (is_dead_end_weight c.version c.dead_ends.constant ≡ true) × (length c.dead_ends.weights ≡ length c.atoms)
      × (list_all (is_dead_end_weight c.version) c.dead_ends.weights ≡ true)
  dead_end_parts = potential_parts (is_dead_end_weight c.version) (length c.atoms) c.dead_ends limits.dead_ends

  one_weight_an_atom : (nth : ℕ) (d : PotentialFunction) → nth < length c.values → length (get_or c.values nth d).weights ≡ length c.atoms
  one_weight_an_atom nth d below =
      let test = are_potentials is_weight (length c.atoms) in
      (potential_parts is_weight (length c.atoms) (get_or c.values nth d) (and_at (list_all test) test refl (λ p values. refl) c.values nth d below limits.values)).1

  -- the constants of values, and the weights of the atom at this place, of values and of dead ends
  abbrev constants : List ℤ
  constants = map (λ (p : PotentialFunction). p.constant) c.values

  abbrev weights_of_values : ℕ → List ℤ
  weights_of_values place = map (λ (p : PotentialFunction). get_or p.weights place (pos 0)) c.values

  abbrev weight_of_dead_ends : ℕ → ℤ
  weight_of_dead_ends place = get_or c.dead_ends.weights place (pos 0)

  as_many_constants : length constants ≡ length c.values
  as_many_constants = length-map c.values (λ (p : PotentialFunction). p.constant)

  as_many_weights : (place : ℕ) → length (weights_of_values place) ≡ length c.values
  as_many_weights place = length-map c.values (λ (p : PotentialFunction). get_or p.weights place (pos 0))

  dead_end_within : (place : ℕ) → is_dead_end_weight c.version (weight_of_dead_ends place) ≡ true
  dead_end_within place = said_kept (is_dead_end_weight c.version) (nothing_of_dead_ends c.version) c.dead_ends.weights place dead_end_parts.2

  -- what is written says the values, that of dead ends and the atoms
  value_back : (nth : ℕ) (d : PotentialFunction) → nth < length c.values → get_or c.values nth d ≡ value_said (named task c) nth
  value_back nth d below =
      let p : PotentialFunction = get_or c.values nth d in
      let constant : weight_said nth (constants_of c) ≡ p.constant =
      value_in c.version constants c.dead_ends.constant nth (omega (arith, as_many_constants, below)) ∙ get_or-map (λ (p : PotentialFunction). p.constant) c.values nth d (pos 0) below in
      let weights = weights_back task c nth p.weights (one_weight_an_atom nth d below)
      (λ place within. value_in c.version (weights_of_values place) (weight_of_dead_ends place) nth (omega (arith, as_many_weights place, below))
      ∙ get_or-map (λ (p : PotentialFunction). get_or p.weights place (pos 0)) c.values nth d (pos 0) below) in
      λ i. record { constant = sym constant i; weights = weights i }

  values_counted : value_count c.version (length (constants_of c)) ≡ length c.values
  values_counted = values_in c.version constants c.dead_ends.constant ∙ as_many_constants

  values_back : c.values ≡ values_said (named task c)
  values_back =
      let d : PotentialFunction = record { constant = pos 0; weights = [] } in
      fill_by_all (value_said (named task c)) c.values (value_count c.version (length (constants_of c))) d (sym values_counted)
      (λ nth below. value_back nth d (omega (arith, below, values_counted)))

  dead_ends_back : c.dead_ends ≡ dead_ends_said (named task c)
  dead_ends_back =
      let count = length c.values in
      let constant : weight_said count (constants_of c) ≡ c.dead_ends.constant = dead_end_in c.version constants c.dead_ends.constant count as_many_constants dead_end_parts.0 in
      let weights = weights_back task c count c.dead_ends.weights dead_end_parts.1
      (λ place within. dead_end_in c.version (weights_of_values place) (weight_of_dead_ends place) count (as_many_weights place) (dead_end_within place)) in
      let there : c.dead_ends ≡ value_said (named task c) count = λ i. record { constant = sym constant i; weights = weights i } in
      there ∙ ap (value_said (named task c)) (sym values_counted)

  atoms_named : (place : ℕ) (atoms : List Atom) → list_all (is_atom task) atoms ≡ true → AllName task (map (λ (a : WeightedAtom). a.atom) (weighted_atoms task c place atoms)) atoms
  atoms_named place [] all = tt
  atoms_named place (a ∷ atoms) all =
      let (here, more) = and_parts (is_atom task a) (list_all (is_atom task) atoms) all in
      ((atom_named task names_both.0 names_both.1 a here).names, atoms_named (suc place) atoms more)

  -- its lines keep the limits
  constants_within : list_all is_weight (constants_of c) ≡ true
  constants_within = weights_keep c.version constants c.dead_ends.constant (constants_keep (length c.atoms) c.values limits.values) dead_end_parts.0

  constant_count : is_weight_count c.version (length (constants_of c)) ≡ true
  constant_count = count_in c.version constants c.dead_ends.constant (ap (is_value_count c.version) as_many_constants ∙ limits.value_count)

  weights_within : (place : ℕ) → are_weights (length (constants_of c)) (weights_of_atom c place) ≡ true
  weights_within place =
      let same = as_many_in c.version (weights_of_values place) constants (weight_of_dead_ends place) c.dead_ends.constant (as_many_weights place ∙ sym as_many_constants) in
      let many = eq-eqb (length (weights_of_atom c place)) (length (constants_of c)) same in
      let within = weights_keep c.version (weights_of_values place) (weight_of_dead_ends place) (weights_there_keep (length c.atoms) place c.values limits.values) (dead_end_within place) in
      λ i. many i && within i

  atom_lines : (place : ℕ) (atoms : List Atom) → list_all (is_atom task) atoms ≡ true
      → list_all (is_line (format_of (named task c))) (map (λ a. atom a) (weighted_atoms task c place atoms)) ≡ true
  atom_lines place [] all = refl
  atom_lines place (a ∷ atoms) all =
      let (here, more) = and_parts (is_atom task a) (list_all (is_atom task) atoms) all in
      let few = few_constants c.version (length (constants_of c)) constant_count in
      let line = atom_line task names_both.0 names_both.1 (format_of (named task c)) (weights_of_atom c place) a well few (weights_within place) here in
      λ i. line i && atom_lines (suc place) atoms more i

  table_lines_within : list_all (λ (t : TableLine). is_line (format_of (named task c)) (part (tabled t))) (flat_map table_lines c.tables) ≡ true
  table_lines_within =
      let same : has_tables c.version ≡ true → length c.values + 1 ≡ length (constants_of c) =
      λ has. ap (λ n. n + 1) (sym as_many_constants) ∙ one_more_in c.version constants c.dead_ends.constant has in
      tables_keep (format_of (named task c)) c.tables
      (ap (λ n. are_tables c.version n (length (constants_of c)) c.tables) (as_many_weighted task c 0 c.atoms)
      ∙ tables_with c.version (length c.atoms) (length c.values + 1) (length (constants_of c)) c.tables same limits.tables)

  short_both : (list_all (is_short task) c.exchanges ≡ true) × (list_all is_short_value c.landmarks.values ≡ true)
  short_both = and_parts (list_all (is_short task) c.exchanges) (list_all is_short_value c.landmarks.values) short

  lines_within : list_all (is_line (format_of (named task c))) (text_lines (named task c)) ≡ true
  lines_within =
      let test : TextLine → Bool = is_line (format_of (named task c)) in
      let swaps : List TextLine = map (λ names. swapped names) (map (named_exchange task) c.exchanges) in
      let atoms : List TextLine = map (λ a. atom a) (named task c).atoms in
      let parts : List TextLine = map (λ p. part p) (parts_of c) in
      let states : List TextLine = map (λ l. listed l) c.lines in
      let end : List TextLine = last (length c.lines) ∷ [] in
      let atoms_are : list_all test atoms ≡ true = atom_lines 0 c.atoms typed in
      let part_is : Part → Bool = λ (p : Part). test (part p) in
      let tables_are : list_all part_is (as_parts (flat_map table_lines c.tables)) ≡ true = list_all-map part_is (λ (t : TableLine). tabled t) (flat_map table_lines c.tables) ∙ table_lines_within in
      let landmarks_are : list_all part_is (as_landmarks (lines_of c.landmarks)) ≡ true =
      landmarks_keep (format_of (named task c)) c.landmarks (ap (λ n. are_landmarks c.version n c.landmarks) (as_many_weighted task c 0 c.atoms) ∙ limits.landmarks) short_both.1 in
      let parts_are : list_all test parts ≡ true =
      list_all-map test (λ p. part p) (parts_of c) ∙ list_all-append part_is (as_parts (flat_map table_lines c.tables)) (as_landmarks (lines_of c.landmarks)) ∙ (λ i. tables_are i && landmarks_are i) in
      let states_are : list_all test states ≡ true =
      list_all-map test (λ l. listed l) c.lines ∙ ap (λ n. list_all (is_state_line c.version n) c.lines) (as_many_weighted task c 0 c.atoms) ∙ limits.states in
      let few = leb-true (length c.lines) most_states limits.few_states in
      let number : is_number (length c.lines) ≡ true = lt-ltb (length c.lines) 1152921504606846976 (omega (arith, few)) in
      let end_is : list_all test end ≡ true = λ i. number i && true in
      let swaps_are : list_all test swaps ≡ true = exchange_lines task names_both.1 (format_of (named task c)) c.exchanges exchanged limits.exchanges short_both.0 in
      let heads : List TextLine = swaps ++ atoms in
      let heads_are : list_all test heads ≡ true = list_all-append test swaps atoms ∙ (λ i. swaps_are i && atoms_are i) in
      let front : list_all test (heads ++ parts) ≡ true = list_all-append test heads parts ∙ (λ i. heads_are i && parts_are i) in
      let body : list_all test ((heads ++ parts) ++ states) ≡ true = list_all-append test (heads ++ parts) states ∙ (λ i. front i && states_are i) in
      let following : list_all test (((heads ++ parts) ++ states) ++ end) ≡ true = list_all-append test ((heads ++ parts) ++ states) end ∙ (λ i. body i && end_is i) in
      λ i. limits.claim i && ((constant_count i && constants_within i) && following i)

  -- its parts are in order, and each line has its basis
  landmarks_few : AreFew c.tables c.landmarks × (list_all (is_value (length c.landmarks.zones)) c.landmarks.values ≡ true)
  landmarks_few =
      let l = c.landmarks in
      let had = has_landmarks c.version || (nat_le (length l.zones) 0 && nat_le (length l.values) 0) in
      let zones_each = list_all (is_zone (length c.atoms)) l.zones in
      let zones_few = nat_le (length l.zones) most_zones in
      let literals_few = nat_le (literal_count l.zones) most_entries in
      let values_each = list_all (is_value (length l.zones)) l.values in
      let values_few = nat_le (length l.values) most_values in
      let shares_few = nat_le (share_count l.values) most_entries in
      let (_, keeps) = and_parts had ((zones_each && zones_few && literals_few) && (values_each && values_few && shares_few)) limits.landmarks in
      let (zones, values) = and_parts (zones_each && zones_few && literals_few) (values_each && values_few && shares_few) keeps in
      let (zone_first, literals) = and_parts (zones_each && zones_few) literals_few zones in
      let (value_first, shares) = and_parts (values_each && values_few) shares_few values in (
        record {
          tables_few = limits.few_tables;
          rows_few = limits.few_rows;
          zones_few = (and_parts zones_each zones_few zone_first).1;
          literals_few = literals;
          values_few = (and_parts values_each values_few value_first).1;
          shares_few = shares;
        },
        (and_parts values_each values_few value_first).0,
      )

  bases_are : list_all (λ (l : StateLine). has_basis (counts_after no_parts (parts_of c)).values l.mark) c.lines ≡ true
  bases_are = ap (λ (k : PartCounts). list_all (λ (l : StateLine). has_basis k.values l.mark) c.lines) (counts_of_parts c.tables c.landmarks) ∙ limits.bases

  text_limits : keeps_text_limits (named task c) ≡ true
  text_limits =
      let few_atoms = ap (λ n. nat_le n most_atoms) (as_many_weighted task c 0 c.atoms) ∙ limits.few_atoms in
      let few_swaps = ap (λ n. nat_le n most_swaps) (length-map c.exchanges (named_exchange task)) ∙ limits.few_exchanges in
      λ i. (((few_swaps i && few_atoms i) && parts_in_order c.tables c.landmarks landmarks_few.0 landmarks_few.1 i) && (limits.few_states i && bases_are i)) && lines_within i

  pub written_reads_back : IsTextOf task (certificate_text task c) c
  written_reads_back = record {
    said = named task c;
    text = record { within = text_limits; lines = refl };
    version = refl;
    claim = refl;
    exchanges = exchanges_back task names_both.1 c.exchanges exchanged;
    atoms = atoms_named 0 c.atoms typed;
    values = values_back;
    dead_ends = dead_ends_back;
    parts = refl;
    lines = refl;
  }

typed_atoms : (task : Task) (atoms : List Atom) → All (λ (a : Atom). IsTrue (is_atom task a && is_fluent task a.predicate)) atoms → IsTrue (list_all (is_atom task) atoms)
typed_atoms task [] all = refl
typed_atoms task (a ∷ atoms) all =
    let here = (and_parts (is_atom task a) (is_fluent task a.predicate) (all 0 a (omega arith))).0 in
    let more = typed_atoms task atoms (λ k b below. all (suc k) b (omega (arith, below))) in
    λ i. here i && more i

-- what is written of a closed certificate within the limits says this certificate
pub closed_reads_back : (task : Task) (c : Certificate) → IsTrue (is_task task) → IsTrue (has_atom_names task) → IsTrue (are_exchanges_of task c) → IsTrue (are_short task c) → IsTrue (keeps_limits c)
    → IsClosedFor task c → IsTextOf task (certificate_text task c) c
closed_reads_back task c well has_names exchanged short keeps closed = written_reads_back task c well has_names (typed_atoms task c.atoms closed.atoms_are_fluent) exchanged short keeps

pub closed_is_accepted : (task : Task) (c : Certificate) (plan : Option (List Instance)) → IsTrue (is_task task) → IsTrue (has_atom_names task) → IsTrue (are_exchanges_of task c)
    → IsTrue (are_short task c) → IsTrue (keeps_limits c) → IsClosedFor task c → IsPlanWithin task c.claim plan → IsAccepted task (certificate_text task c) plan
closed_is_accepted task c plan well has_names exchanged short keeps closed within = record {
  certificate = c;
  is_text = closed_reads_back task c well has_names exchanged short keeps closed;
  closed = closed;
  within = within;
}
