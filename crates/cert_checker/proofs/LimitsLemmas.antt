-- The certificate that a text denotes is within the limits, has a weight for each atom, and is unique.
use Rattle.std.proofs.Common.{◌≡◌, ℕ, zero, suc, ◌+◌, ◌-◌, ◌≤◌, Bool, true, false, List, [], ◌∷◌, ◌++◌, map, length, refl, sym, ap, ◌∙◌, subst, arith}
use Rattle.std.specs.Prelude.{◌&&◌, ◌||◌, ◌==◌, ℤ, pos, IsTrue, All, nat_le}
use Rattle.std.specs.List.{filter_map, flat_map, list_all, range_with_len}
use Rattle.std.proofs.lemmas.Bool.{and_parts, or_left, or_right, eq-eqb, eqb-true, false≢true, le-leb, leb-true}
use Rattle.std.proofs.lemmas.List.{get_or_past, length-map, map-append}
use Rattle.std.proofs.lemmas.List.Elements.{All-map}
use Rattle.std.proofs.lemmas.List.Folds.{list_all-append, list_all-map}
use Rattle.std.proofs.lemmas.List.FromFn.{length-range_with_len}
use Rattle.model.specs.Task.{Atom, Task}
use Rattle.lower_bounds.specs.PotentialFunctions.{PotentialFunction}
use Rattle.lower_bounds.specs.TableFunctions.{Row, Table, is_among}
use Rattle.certificate_definitions.specs.Certificates.{Version, one, two, three, four, Certificate, StateLine, are_exchanges, are_landmarks, has_basis, has_landmarks, are_potentials, are_tables, are_weights, has_tables, is_claim, is_dead_end_weight, is_row, is_state_line, is_value_count, is_weight, keeps_limits}
use Rattle.certificate_definitions.specs.CertificateText.{NamedAtom, WeightedAtom, TableLine, scope, row, NamedCertificate, Format, TextLine, swapped, atom, tabled, landmark_line, part, listed, last, format_of, is_line, is_weight_count, keeps_text_limits, line_text, longest_line, most_atoms, most_states, most_swaps, text_lines}
use Rattle.lower_bounds.specs.LandmarkFunctions.{Zone}
use Rattle.lower_bounds.specs.LandmarkLines.{LandmarkLine, zone, value, Share, is_value, is_zone, lines_of}
use Rattle.certificate_definitions.specs.Parts.{no_parts, counts_after, are_in_order, is_table_line}
use Rattle.certificate_definitions.specs.CertificateNames.{AllName, IsTextOf, dead_ends_said, exchange_said, parts_of, table_lines, value_count, value_said, values_said, weight_said}
use Rattle.certificate_reader.specs.Words.{are_lower}
use Rattle.certificate_reader.proofs.LandmarksRead.{value_within}
use Rattle.certificate_reader.proofs.OneText as one_text
use Rattle.cert_checker.specs.Given.{shares_in, table_line_in, zone_in}
use Rattle.cert_checker.proofs.TableParts.{AreFew, as_landmarks, as_parts, counts_of_parts, counts_with, few_of_ordered, tables_of_parts, values_of_ordered, values_of_parts, zones_of_parts}
use Rattle.cert_checker.proofs.NamedExchanges.{exchanges_kept}
use Rattle.cert_checker.proofs.NamesLemmas.{one_named}

-- ---- the limits of a text, one by one

record AreTextLimits (said : NamedCertificate) : Type 0 where
  few_swaps : nat_le (length said.swaps) most_swaps ≡ true
  few_atoms : nat_le (length said.atoms) most_atoms ≡ true
  ordered : IsTrue (are_in_order no_parts said.parts)
  few_states : nat_le (length said.lines) most_states ≡ true
  bases : list_all (λ (l : StateLine). has_basis (counts_after no_parts said.parts).values l.mark) said.lines ≡ true
  claim : is_claim said.claim ≡ true
  constant_count : is_weight_count said.version (length said.constants) ≡ true
  constants : are_weights (length said.constants) said.constants ≡ true
  swaps : list_all (is_line (format_of said)) (map (λ names. swapped names) said.swaps) ≡ true
  atoms : list_all (is_line (format_of said)) (map (λ a. atom a) said.atoms) ≡ true
  parts : list_all (is_line (format_of said)) (map (λ p. part p) said.parts) ≡ true
  states : list_all (is_state_line said.version (length said.atoms)) said.lines ≡ true

text_limits : (said : NamedCertificate) → IsTrue (keeps_text_limits said) → AreTextLimits said
text_limits said keeps =
    let test : TextLine → Bool = is_line (format_of said) in
    let swaps : List TextLine = map (λ names. swapped names) said.swaps in
    let atoms : List TextLine = map (λ a. atom a) said.atoms in
    let parts : List TextLine = map (λ p. part p) said.parts in
    let states : List TextLine = map (λ l. listed l) said.lines in
    let end : List TextLine = last (length said.lines) ∷ [] in
    let count_is : Bool = is_weight_count said.version (length said.constants) in
    let in_order : Bool = are_in_order no_parts said.parts in
    let counted : Bool = nat_le (length said.swaps) most_swaps && nat_le (length said.atoms) most_atoms in
    let few_lines : Bool = nat_le (length said.lines) most_states in
    let based : Bool = list_all (λ (l : StateLine). has_basis (counts_after no_parts said.parts).values l.mark) said.lines in
    let (counts, each) = and_parts (counted && in_order && (few_lines && based)) (list_all test (text_lines said)) keeps in
    let (few, lines_are) = and_parts (counted && in_order) (few_lines && based) counts in
    let (few_states, bases_are) = and_parts few_lines based lines_are in
    let (few_both, ordered) = and_parts counted in_order few in
    let (few_swaps, few_atoms) = and_parts (nat_le (length said.swaps) most_swaps) (nat_le (length said.atoms) most_atoms) few_both in
    let (claim, others) = and_parts (is_claim said.claim) ((count_is && list_all is_weight said.constants) && list_all test ((((swaps ++ atoms) ++ parts) ++ states) ++ end)) each in
    let (constants, following) = and_parts (count_is && list_all is_weight said.constants) (list_all test ((((swaps ++ atoms) ++ parts) ++ states) ++ end)) others in
    let (count, weights) = and_parts count_is (list_all is_weight said.constants) constants in
    let heads : List TextLine = swaps ++ atoms in
    let body = (and_parts (list_all test ((heads ++ parts) ++ states)) (list_all test end) (sym (list_all-append test ((heads ++ parts) ++ states) end) ∙ following)).0 in
    let (front, states_are) = and_parts (list_all test (heads ++ parts)) (list_all test states) (sym (list_all-append test (heads ++ parts) states) ∙ body) in
    let (heads_are, parts_are) = and_parts (list_all test heads) (list_all test parts) (sym (list_all-append test heads parts) ∙ front) in
    let (swaps_are, atoms_are) = and_parts (list_all test swaps) (list_all test atoms) (sym (list_all-append test swaps atoms) ∙ heads_are) in
    record {
      few_atoms = few_atoms;
      ordered = ordered;
      few_states = few_states;
      bases = bases_are;
      claim = claim;
      constant_count = count;
      few_swaps = few_swaps;
      swaps = swaps_are;
      constants = λ i. eq-eqb (length said.constants) (length said.constants) refl i && weights i;
      atoms = atoms_are;
      parts = parts_are;
      states = sym (list_all-map test (λ (l : StateLine). listed l) said.lines) ∙ states_are;
    }

-- the parts of a text are in order
pub ordered_parts : (said : NamedCertificate) → IsTrue (keeps_text_limits said) → are_in_order no_parts said.parts ≡ true
ordered_parts said keeps = (text_limits said keeps).ordered

-- ---- values

-- the weight at an index passes a test that all weights and 0 pass, 0 being the default
pub said_kept : (test : ℤ → Bool) → test (pos 0) ≡ true → (weights : List ℤ) (place : ℕ) → list_all test weights ≡ true → test (weight_said place weights) ≡ true
said_kept test nothing [] place all = nothing
said_kept test nothing (w ∷ weights) zero all = (and_parts (test w) (list_all test weights) all).0
said_kept test nothing (w ∷ weights) (suc place) all = said_kept test nothing weights place (and_parts (test w) (list_all test weights) all).1

weight_kept : (count : ℕ) (weights : List ℤ) (place : ℕ) → are_weights count weights ≡ true → is_weight (weight_said place weights) ≡ true
weight_kept count weights place are = said_kept is_weight refl weights place (and_parts (length weights == count) (list_all is_weight weights) are).1

-- the weights for dead ends are within the limits: they are 0 in version 1
dead_end_kept : (v : Version) (count : ℕ) (weights : List ℤ) → are_weights count weights ≡ true → is_dead_end_weight v (weight_said (value_count v count) weights) ≡ true
dead_end_kept one count weights are =
    let long : length weights ≡ count = eqb-true (length weights) count (and_parts (length weights == count) (list_all is_weight weights) are).0 in
    ap (is_dead_end_weight one) (get_or_past weights count (pos 0) (omega (arith, long)))
dead_end_kept two count weights are = weight_kept count weights (count - 1) are
dead_end_kept three count weights are = weight_kept count weights (count - 1) are
dead_end_kept four count weights are = weight_kept count weights (count - 1) are

-- from 2 to 33 constants, one of which is for dead ends
several_kept : (count : ℕ) → nat_le 2 count && nat_le count 33 ≡ true → nat_le 1 (count - 1) && nat_le (count - 1) 32 ≡ true
several_kept count is =
    let (some, few) = and_parts (nat_le 2 count) (nat_le count 33) is in
    let above = leb-true 2 count some in
    let below = leb-true count 33 few in
    λ i. le-leb 1 (count - 1) (omega (arith, above)) i && le-leb (count - 1) 32 (omega (arith, below)) i

value_count_kept : (v : Version) (count : ℕ) → is_weight_count v count ≡ true → is_value_count v (value_count v count) ≡ true
value_count_kept one count is = is
value_count_kept two count is = let same = eqb-true count 2 is in eq-eqb (count - 1) 1 (omega (arith, same))
value_count_kept three count is = several_kept count is
value_count_kept four count is = several_kept count is

-- a version with tables has a constant for each value and one for dead ends
pub one_constant_more : (v : Version) (count : ℕ) → has_tables v ≡ true → is_weight_count v count ≡ true → value_count v count + 1 ≡ count
one_constant_more one count has is = absurd (false≢true has)
one_constant_more two count has is = absurd (false≢true has)
one_constant_more three count has is = let some = leb-true 2 count (and_parts (nat_le 2 count) (nat_le count 33) is).0 in omega (arith, some)
one_constant_more four count has is = let some = leb-true 2 count (and_parts (nat_le 2 count) (nat_le count 33) is).0 in omega (arith, some)

pub few_constants : (v : Version) (count : ℕ) → is_weight_count v count ≡ true → count ≤ 33
few_constants one count is = let same = eqb-true count 1 is in omega (arith, same)
few_constants two count is = let same = eqb-true count 2 is in omega (arith, same)
few_constants three count is = leb-true count 33 (and_parts (nat_le 2 count) (nat_le count 33) is).1
few_constants four count is = leb-true count 33 (and_parts (nat_le 2 count) (nat_le count 33) is).1

always : {X : Type 0} (test : X → Bool) → ((x : X) → test x ≡ true) → (xs : List X) → list_all test xs ≡ true
always test each [] = refl
always test each (x ∷ xs) = λ i. each x i && always test each xs i

-- a test that the weights of each atom pass
weights_kept : (f : Format) (test : List ℤ → Bool) → ((weights : List ℤ) → are_weights f.weights weights ≡ true → test weights ≡ true) → (atoms : List WeightedAtom)
    → list_all (is_line f) (map (λ a. atom a) atoms) ≡ true → list_all (λ (a : WeightedAtom). test a.weights) atoms ≡ true
weights_kept f test each [] all = refl
weights_kept f test each (a ∷ atoms) all =
    let (here, more) = and_parts (is_line f (atom a)) (list_all (is_line f) (map (λ a. atom a) atoms)) all in
    let lower = (and_parts (are_weights f.weights a.weights && are_lower a.atom) (nat_le (length (line_text (atom a))) longest_line) here).0 in
    let weights = (and_parts (are_weights f.weights a.weights) (are_lower a.atom) lower).0 in
    λ i. each a.weights weights i && weights_kept f test each atoms more i

module _ (said : NamedCertificate) (limits : AreTextLimits said) where
  value_kept : (is_in_range : ℤ → Bool) (place : ℕ) → ((weights : List ℤ) → are_weights (length said.constants) weights ≡ true → is_in_range (weight_said place weights) ≡ true)
      → are_potentials is_in_range (length said.atoms) (value_said said place) ≡ true
  value_kept is_in_range place each =
      let weight_of : WeightedAtom → ℤ = λ a. weight_said place a.weights in
      let constant_is = each said.constants limits.constants in
      let many = eq-eqb (length (map weight_of said.atoms)) (length said.atoms) (length-map said.atoms weight_of) in
      let weights = list_all-map is_in_range weight_of said.atoms ∙ weights_kept (format_of said) (λ weights. is_in_range (weight_said place weights)) each said.atoms limits.atoms in
      λ i. (constant_is i && many i) && weights i

  values_kept : list_all (are_potentials is_weight (length said.atoms)) (values_said said) ≡ true
  values_kept =
      let places = range_with_len 0 (value_count said.version (length said.constants)) in
      let test = are_potentials is_weight (length said.atoms) in
      list_all-map test (value_said said) places
      ∙ always (λ place. test (value_said said place))
      (λ place. value_kept is_weight place (λ weights are. weight_kept (length said.constants) weights place are)) places

  dead_ends_kept : are_potentials (is_dead_end_weight said.version) (length said.atoms) (dead_ends_said said) ≡ true
  dead_ends_kept = value_kept (is_dead_end_weight said.version) (value_count said.version (length said.constants)) (dead_end_kept said.version (length said.constants))

  values_length : length (values_said said) ≡ value_count said.version (length said.constants)
  values_length =
      let count = value_count said.version (length said.constants) in
      length-map (range_with_len 0 count) (value_said said) ∙ length-range_with_len 0 count

  value_count_is : is_value_count said.version (length (values_said said)) ≡ true
  value_count_is = ap (is_value_count said.version) values_length ∙ value_count_kept said.version (length said.constants) limits.constant_count

-- ---- tables

-- a version without tables has no table lines
no_lines_of_tables : (f : Format) → has_tables f.version ≡ false → (lines : List TableLine) → list_all (is_line f) (map (λ p. part p) (as_parts lines)) ≡ true → lines ≡ []
no_lines_of_tables f none [] all = refl
no_lines_of_tables f none (t ∷ lines) all =
    let here = (and_parts (is_line f (part (tabled t))) (list_all (is_line f) (map (λ p. part p) (as_parts lines))) all).0 in
    absurd (false≢true (sym none ∙ (and_parts (has_tables f.version) (is_table_line f t) here).0))

no_lines : (tables : List Table) → flat_map table_lines tables ≡ [] → tables ≡ []
no_lines [] same = refl
no_lines (t ∷ tables) same = absurd (cc same)

-- rows whose lines are within the limits, and whose atoms are in this scope
rows_kept : (f : Format) (atoms : List ℕ) (rows : List Row) → All (λ (r : Row). list_all (is_among atoms) r.atoms ≡ true) rows → list_all (is_line f) (map (λ p. part p) (as_parts (map (λ r. row r) rows))) ≡ true
    → list_all (is_row f.atoms f.weights atoms) rows ≡ true
rows_kept f atoms [] among all = refl
rows_kept f atoms (r ∷ rows) among all =
    let (here, more) = and_parts (is_line f (part (tabled (row r)))) (list_all (is_line f) (map (λ p. part p) (as_parts (map (λ r. row r) rows)))) all in
    let (_, is) = and_parts (has_tables f.version) (is_table_line f (row r)) here in
    let of_scope = among 0 r (omega arith) in
    let rest = rows_kept f atoms rows (λ k d below. among (suc k) d (omega (arith, below))) more in
    λ i. (is i && of_scope i) && rest i

-- the same for the rows of these tables, each with its scope
abbrev pub AreOfScopes : List Table → Type 0
AreOfScopes tables = All (λ (t : Table). All (λ (r : Row). list_all (is_among t.scope) r.atoms ≡ true) t.rows) tables

tables_kept : (f : Format) (tables : List Table) → AreOfScopes tables → list_all (is_line f) (map (λ p. part p) (as_parts (flat_map table_lines tables))) ≡ true → are_tables f.version f.atoms f.weights tables ≡ true
tables_kept f [] among all = refl
tables_kept f (t ∷ tables) among all =
    let test : TextLine → Bool = is_line f in
    let rows : List TextLine = map (λ p. part p) (as_parts (map (λ r. row r) t.rows)) in
    let others : List TextLine = map (λ p. part p) (as_parts (flat_map table_lines tables)) in
    let (here, following) = and_parts (test (part (tabled (scope t.scope)))) (list_all test (map (λ p. part p) (as_parts (map (λ r. row r) t.rows ++ flat_map table_lines tables)))) all in
    let split = ap (λ parts. list_all test (map (λ p. part p) parts)) (map-append (λ (t : TableLine). tabled t) (map (λ r. row r) t.rows) (flat_map table_lines tables))
    ∙ ap (list_all test) (map-append (λ p. part p) (as_parts (map (λ r. row r) t.rows)) (as_parts (flat_map table_lines tables))) ∙ list_all-append test rows others in
    let (rows_are, more) = and_parts (list_all test rows) (list_all test others) (sym split ∙ following) in
    let (has, scope_is) = and_parts (has_tables f.version) (is_table_line f (scope t.scope)) here in
    let own = rows_kept f t.scope t.rows (among 0 t (omega arith)) rows_are in
    let rest = tables_kept f tables (λ k d below. among (suc k) d (omega (arith, below))) more in
    λ i. (has i && (scope_is i && own i)) && rest i

-- ---- landmarks

-- a version without landmark values has no zone and no value
landmarks_had : (f : Format) (zones : List Zone) (values : List (List Share)) → list_all (is_line f) (map (λ p. part p) (as_landmarks (map zone zones ++ map value values))) ≡ true
    → has_landmarks f.version || (nat_le (length zones) 0 && nat_le (length values) 0) ≡ true
landmarks_had f [] [] all = or_right (has_landmarks f.version) (true && true) refl
landmarks_had f [] (s ∷ values) all =
    let here = (and_parts (is_line f (part (landmark_line (value s)))) (list_all (is_line f) (map (λ p. part p) (as_landmarks (map value values)))) all).0 in
    or_left (has_landmarks f.version) (true && nat_le (length (s ∷ values)) 0) (value_within f s here).0
landmarks_had f (z ∷ zones) values all =
    let here = (and_parts (is_line f (part (landmark_line (zone z)))) (list_all (is_line f) (map (λ p. part p) (as_landmarks (map zone zones ++ map value values)))) all).0 in
    or_left (has_landmarks f.version) (nat_le (length (z ∷ zones)) 0 && nat_le (length values) 0) (and_parts (has_landmarks f.version) (is_zone f.atoms z) here).0

zones_kept : (f : Format) (zones : List Zone) (more : List LandmarkLine) → list_all (is_line f) (map (λ p. part p) (as_landmarks (map zone zones ++ more))) ≡ true → list_all (is_zone f.atoms) zones ≡ true
zones_kept f [] more all = refl
zones_kept f (z ∷ zones) more all =
    let (here, others) = and_parts (is_line f (part (landmark_line (zone z)))) (list_all (is_line f) (map (λ p. part p) (as_landmarks (map zone zones ++ more)))) all in
    let is = (and_parts (has_landmarks f.version) (is_zone f.atoms z) here).1 in
    let rest = zones_kept f zones more others in
    λ i. is i && rest i

-- ---- the certificate of a text

as_many_names : (task : Task) (names : List NamedAtom) (atoms : List Atom) → AllName task names atoms → length names ≡ length atoms
as_many_names task [] [] are = refl
as_many_names task [] (a ∷ atoms) are = absurd are
as_many_names task (name ∷ names) [] are = absurd are
as_many_names task (name ∷ names) (a ∷ atoms) (here, are) = let rest = as_many_names task names atoms are in omega (arith, rest)

module _ (task : Task) (text : List ℕ) (c : Certificate) (is : IsTextOf task text c) where
  limits : AreTextLimits is.said
  limits = text_limits is.said is.text.within

  as_many_atoms : length is.said.atoms ≡ length c.atoms
  as_many_atoms = sym (length-map is.said.atoms (λ (a : WeightedAtom). a.atom)) ∙ as_many_names task (map (λ (a : WeightedAtom). a.atom) is.said.atoms) c.atoms is.atoms

  -- it has as many values as its version allows
  pub as_many_values : IsTrue (is_value_count c.version (length c.values))
  as_many_values = (λ i. is_value_count (sym is.version i) (length (is.values i))) ∙ value_count_is is.said limits

  -- each with a weight for each atom
  pub one_weight_an_atom : All (λ (p : PotentialFunction). length p.weights ≡ length c.atoms) c.values
  one_weight_an_atom =
      subst (All (λ (p : PotentialFunction). length p.weights ≡ length c.atoms)) (sym is.values)
      (All-map (λ (p : PotentialFunction). length p.weights ≡ length c.atoms) (value_said is.said) (range_with_len 0 (value_count is.said.version (length is.said.constants)))
      (λ k place below. length-map is.said.atoms (λ (a : WeightedAtom). weight_said _ a.weights) ∙ as_many_atoms))

  pub one_dead_end_weight_an_atom : length c.dead_ends.weights ≡ length c.atoms
  one_dead_end_weight_an_atom =
      ap (λ (p : PotentialFunction). length p.weights) is.dead_ends
      ∙ length-map is.said.atoms (λ (a : WeightedAtom). weight_said (value_count is.said.version (length is.said.constants)) a.weights) ∙ as_many_atoms

  -- the lines of its tables, and those of its landmarks
  kinds_are : (list_all (is_line (format_of is.said)) (map (λ p. part p) (as_parts (flat_map table_lines c.tables))) ≡ true) × (list_all (is_line (format_of is.said)) (map (λ p. part p) (as_landmarks (lines_of c.landmarks))) ≡ true)
  kinds_are =
      let test : TextLine → Bool = is_line (format_of is.said) in
      let tables : List TextLine = map (λ p. part p) (as_parts (flat_map table_lines c.tables)) in
      let landmarks : List TextLine = map (λ p. part p) (as_landmarks (lines_of c.landmarks)) in
      let all = subst (λ parts. list_all test (map (λ p. part p) parts) ≡ true) is.parts limits.parts in
      and_parts (list_all test tables) (list_all test landmarks)
      (sym (ap (list_all test) (map-append (λ p. part p) (as_parts (flat_map table_lines c.tables)) (as_landmarks (lines_of c.landmarks))) ∙ list_all-append test tables landmarks) ∙ all)

  counts_are : counts_after no_parts is.said.parts ≡ counts_with c.tables c.landmarks
  counts_are = ap (counts_after no_parts) is.parts ∙ counts_of_parts c.tables c.landmarks

  -- its landmarks are within the limits
  pub landmarks_kept : are_landmarks c.version (length c.atoms) c.landmarks ≡ true
  landmarks_kept =
      let f = format_of is.said in
      let l = c.landmarks in
      let few : AreFew c.tables l = few_of_ordered is.said.parts c.tables l is.parts limits.ordered in
      let had = landmarks_had f l.zones l.values kinds_are.1 in
      let zones = zones_kept f l.zones (map value l.values) kinds_are.1 in
      let values : list_all (is_value (length l.zones)) l.values ≡ true =
      (λ i. list_all (is_value (sym counts_are i).zones) (sym (ap (filter_map shares_in) is.parts ∙ values_of_parts (flat_map table_lines c.tables) l.zones l.values) i))
      ∙ values_of_ordered no_parts is.said.parts limits.ordered in
      (λ i. are_landmarks (sym is.version i) (sym as_many_atoms i) l)
      ∙ (λ i. had i && (((zones i && few.zones_few i) && few.literals_few i) && ((values i && few.values_few i) && few.shares_few i)))

  -- and each line has its basis
  pub bases_kept : list_all (λ (l : StateLine). has_basis (length c.landmarks.values) l.mark) c.lines ≡ true
  bases_kept = (λ i. list_all (λ (l : StateLine). has_basis (sym counts_are i).values l.mark) (sym is.lines i)) ∙ limits.bases

  -- in a version without tables the certificate has none
  no_tables : has_tables c.version ≡ false → c.tables ≡ []
  no_tables none = no_lines c.tables (no_lines_of_tables (format_of is.said) (ap has_tables is.version ∙ none) (flat_map table_lines c.tables) kinds_are.0)

  -- its tables are within the limits if each row is in its table's scope, which the text's own limits do not ensure
  pub tables_in_limits : AreOfScopes c.tables → IsTrue (are_tables c.version (length c.atoms) (length c.values + 1) c.tables)
  tables_in_limits among = by_version (has_tables c.version) refl
    where
      by_version : (has : Bool) → has_tables c.version ≡ has → are_tables c.version (length c.atoms) (length c.values + 1) c.tables ≡ true
      by_version false none = ap (are_tables c.version (length c.atoms) (length c.values + 1)) (no_tables none)
      by_version true has =
          let f = format_of is.said in
          let many : length c.values + 1 ≡ length is.said.constants =
          ap (λ n. n + 1) (ap length is.values ∙ values_length is.said limits) ∙ one_constant_more is.said.version (length is.said.constants) (ap has_tables is.version ∙ has) limits.constant_count in
          (λ i. are_tables (sym is.version i) (sym as_many_atoms i) (many i) c.tables)
          ∙ tables_kept f c.tables among kinds_are.0

  -- and so does the whole certificate
  pub limits_kept : IsTrue (are_tables c.version (length c.atoms) (length c.values + 1) c.tables) → IsTrue (keeps_limits c)
  limits_kept tables_are =
      let claim = ap is_claim (sym is.claim) ∙ limits.claim in
      let few_atoms = ap (λ n. nat_le n most_atoms) (sym as_many_atoms) ∙ limits.few_atoms in
      let few_states = ap (λ (lines : List StateLine). nat_le (length lines) most_states) (sym is.lines) ∙ limits.few_states in
      let states = (λ i. list_all (is_state_line (sym is.version i) (sym as_many_atoms i)) (sym is.lines i)) ∙ limits.states in
      let values = (λ i. list_all (are_potentials is_weight (sym as_many_atoms i)) (is.values i)) ∙ values_kept is.said limits in
      let dead_ends = (λ i. are_potentials (is_dead_end_weight (sym is.version i)) (sym as_many_atoms i) (is.dead_ends i)) ∙ dead_ends_kept is.said limits in
      let few : AreFew c.tables c.landmarks = few_of_ordered is.said.parts c.tables c.landmarks is.parts limits.ordered in
      let exchanges = (λ i. are_exchanges (sym is.version i) (is.exchanges i)) ∙ exchanges_kept task (format_of is.said) is.said.swaps limits.swaps in
      let few_exchanges = ap (λ n. nat_le n most_swaps) (ap length is.exchanges ∙ length-map is.said.swaps (exchange_said task)) ∙ limits.few_swaps in
      λ i. ((((((((((((claim i && few_atoms i) && few_states i) && states i) && as_many_values i) && values i) && dead_ends i) && tables_are i) && few.tables_few i) && few.rows_few i) && exchanges i) && few_exchanges i)
      && landmarks_kept i) && bases_kept i

-- ---- one certificate for a text

same_atoms : (task : Task) (names : List NamedAtom) (a b : List Atom) → AllName task names a → AllName task names b → a ≡ b
same_atoms task [] [] [] are others = refl
same_atoms task [] [] (y ∷ b) are others = absurd others
same_atoms task [] (x ∷ a) b are others = absurd are
same_atoms task (n ∷ names) [] b are others = absurd are
same_atoms task (n ∷ names) (x ∷ a) [] are others = absurd others
same_atoms task (n ∷ names) (x ∷ a) (y ∷ b) (here, are) (there, others) =
    let first = one_named task n x y here there in
    let more = same_atoms task names a b are others in
    λ i. first i ∷ more i

-- rows and what follows them: the lines of tables, the first of which is not a row
same_rows : (a b : List Row) (more others : List Table) → map (λ r. row r) a ++ flat_map table_lines more ≡ map (λ r. row r) b ++ flat_map table_lines others
    → (a ≡ b) × (flat_map table_lines more ≡ flat_map table_lines others)
same_rows [] [] more others same = (refl, same)
same_rows [] (q ∷ b) [] others same = absurd (cc same)
same_rows [] (q ∷ b) (t ∷ more) others same = absurd (cc same)
same_rows (r ∷ a) [] more [] same = absurd (cc same)
same_rows (r ∷ a) [] more (u ∷ others) same = absurd (cc same)
same_rows (r ∷ a) (q ∷ b) more others same =
    let here : r ≡ q = cc same in
    let (rest, following) = same_rows a b more others (rest_is r q (map (λ r. row r) a ++ flat_map table_lines more) (map (λ r. row r) b ++ flat_map table_lines others) same) in
    ((λ i. here i ∷ rest i), following)
  where
    rest_is : (r q : Row) (xs ys : List TableLine) → row r ∷ xs ≡ row q ∷ ys → xs ≡ ys
    rest_is r q xs ys same = cc same

pub same_tables : (a b : List Table) → flat_map table_lines a ≡ flat_map table_lines b → a ≡ b
same_tables [] [] same = refl
same_tables [] (u ∷ b) same = absurd (cc same)
same_tables (t ∷ a) [] same = absurd (cc same)
same_tables (t ∷ a) (u ∷ b) same =
    let (scopes, following) = first_parts t.scope u.scope (map (λ r. row r) t.rows ++ flat_map table_lines a) (map (λ r. row r) u.rows ++ flat_map table_lines b) same in
    let (rows, others) = same_rows t.rows u.rows a b following in
    let rest = same_tables a b others in
    λ i. record { scope = scopes i; rows = rows i } ∷ rest i
  where
    first_parts : (s t : List ℕ) (xs ys : List TableLine) → scope s ∷ xs ≡ scope t ∷ ys → (s ≡ t) × (xs ≡ ys)
    first_parts s t xs ys same = (cc same, cc same)

-- a text is at most one certificate of the task
pub one_certificate : (task : Task) (text : List ℕ) (c d : Certificate) → IsTextOf task text c → IsTextOf task text d → c ≡ d
one_certificate task text c d is other =
    let said : is.said ≡ other.said = one_text.one_certificate text is.said other.said is.text other.text in
    let version_is : c.version ≡ d.version = sym is.version ∙ ap (λ (n : NamedCertificate). n.version) said ∙ other.version in
    let claim : c.claim ≡ d.claim = sym is.claim ∙ ap (λ (n : NamedCertificate). n.claim) said ∙ other.claim in
    let lines : c.lines ≡ d.lines = sym is.lines ∙ ap (λ (n : NamedCertificate). n.lines) said ∙ other.lines in
    let values : c.values ≡ d.values = is.values ∙ ap values_said said ∙ sym other.values in
    let dead_ends : c.dead_ends ≡ d.dead_ends = is.dead_ends ∙ ap dead_ends_said said ∙ sym other.dead_ends in
    let exchanges : c.exchanges ≡ d.exchanges = is.exchanges ∙ ap (λ (n : NamedCertificate). map (exchange_said task) n.swaps) said ∙ sym other.exchanges in
    let parts : parts_of c ≡ parts_of d = sym is.parts ∙ ap (λ (n : NamedCertificate). n.parts) said ∙ other.parts in
    let tables : c.tables ≡ d.tables = same_tables c.tables d.tables (sym (tables_of_parts (flat_map table_lines c.tables) c.landmarks.zones c.landmarks.values) ∙ ap (filter_map table_line_in) parts
    ∙ tables_of_parts (flat_map table_lines d.tables) d.landmarks.zones d.landmarks.values) in
    let zones : c.landmarks.zones ≡ d.landmarks.zones = sym (zones_of_parts (flat_map table_lines c.tables) c.landmarks.zones c.landmarks.values) ∙ ap (filter_map zone_in) parts
    ∙ zones_of_parts (flat_map table_lines d.tables) d.landmarks.zones d.landmarks.values in
    let marks : c.landmarks.values ≡ d.landmarks.values = sym (values_of_parts (flat_map table_lines c.tables) c.landmarks.zones c.landmarks.values) ∙ ap (filter_map shares_in) parts
    ∙ values_of_parts (flat_map table_lines d.tables) d.landmarks.zones d.landmarks.values in
    let atoms : c.atoms ≡ d.atoms = same_atoms task (map (λ (a : WeightedAtom). a.atom) other.said.atoms) c.atoms d.atoms
    (subst (λ (n : NamedCertificate). AllName task (map (λ (a : WeightedAtom). a.atom) n.atoms) c.atoms) said is.atoms) other.atoms in
    λ i. record { version = version_is i; claim = claim i; exchanges = exchanges i; atoms = atoms i; values = values i; dead_ends = dead_ends i; tables = tables i; landmarks = record { zones = zones i; values = marks i }; lines = lines i }
