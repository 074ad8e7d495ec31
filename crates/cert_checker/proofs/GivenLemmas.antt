-- What one more line gives.
use Rattle.std.proofs.Common.{◌≡◌, ◌≢◌, ℕ, zero, suc, ◌+◌, ◌⊎◌, inl, inr, ⊎_elim, Bool, true, false, List, [], ◌∷◌, ◌++◌, map, length, None, Some, refl, sym, ap, ◌∙◌, subst, append_assoc, append-nil, true≢false, arith}
use Rattle.std.specs.Prelude.{IsTrue, ℤ, ◌&&◌, Contains, pos}
use Rattle.std.specs.List.{filter_map, flat_map, range_with_len}
use Rattle.std.proofs.lemmas.List.FromFn.{length-range_with_len}
use Rattle.std.proofs.lemmas.List.{length-map, map-append}
use Rattle.std.proofs.lemmas.List.Elements.{All-nil, All-push, Contains-push, Contains-push_cases, Contains-append_left, Contains-get_or}
use Rattle.std.proofs.lemmas.List.Elements.{filter_map-append}
use Rattle.std.proofs.lemmas.List.Quantifiers.{all_pairs_push}
use Rattle.model.proofs.ListLemmas.{Contains-cases, Contains-here, Contains-map, Contains-there, Contains-none, Contains-filter_map, filter_map-Contains, map-Contains}
use Rattle.model.specs.Task.{Atom, Task}
use Rattle.model.specs.WellTyped.{is_atom}
use Rattle.model.specs.Fluents.{is_fluent}
use Rattle.model.specs.Claims.{Claim, bound, none}
use Rattle.lower_bounds.specs.TableFunctions.{SeveralValues, Table}
use Rattle.lower_bounds.specs.LandmarkFunctions.{Zone}
use Rattle.lower_bounds.specs.LandmarkLines.{LandmarkLine, zone, value, Share, NumberedLandmarks}
use Rattle.landmark_zones.specs.Landmarks.{with_value, with_zone}
use Rattle.certificate_definitions.specs.Certificates.{Version, one, no_landmarks}
use Rattle.certificate_definitions.specs.CertificateText.{NamedAtom, WeightedAtom, TableLine, TextLine, version, claims, constant, swapped, atom, Part, tabled, landmark_line, part, listed, last, BeginCertificate, AreWhole}
use Rattle.certificate_definitions.specs.CertificateNames.{AllName, Names, exchange_said, table_lines, value_count, weight_said}
use Rattle.certificate_definitions.specs.CertificateMachine.{Body, CertificatePlace, at_version, at_claim, at_constant, in_body, ended, next_place, place_after}
use Rattle.certificate_definitions.specs.CertificateChecking.{AreRight, IsWrongAfter, not_of_scope, repeated_row, not_fluent, repeated_atom, repeated_state, cut_not_allowed}
use Rattle.certificate_definitions.proofs.Machine.{IsBody, ComesBefore, never, occurs, followed, place_of_beginning}
use Rattle.cert_checker.specs.Given.{Heading, HaveGiven, AreGiven, AreLandmarksOf, AreNotGiven, swap_in, atom_in, part_in, table_in, zone_in, shares_in, state_in, parts_given, swaps_given, atoms_given, tables_given, states_given, names_given, value_given, values_given, with_weight, with_weights_from, with_weights, begun_with}
use Rattle.cert_checker.specs.Tabled.{with_tables}
use Rattle.cert_checker.proofs.NamesLemmas.{one_named, same_names}

-- ---- lists of lines

-- an atom in the lines is given, and a given atom is in the lines
pub atom_reported : (lines : List TextLine) (a : WeightedAtom) → Contains lines (atom a) → Contains (atoms_given lines) a
atom_reported lines a there = Contains-filter_map atom_in lines (atom a) a there refl

pub reported_atom : (lines : List TextLine) (a : WeightedAtom) → Contains (atoms_given lines) a → Contains lines (atom a)
reported_atom lines a reported = let (line, there, is) = filter_map-Contains atom_in lines a reported in subst (Contains lines) (line_is line is) there
  where
    line_is : (line : TextLine) → atom_in line ≡ Some a → line ≡ atom a
    line_is (version v) is = absurd (cc is)
    line_is (claims claim) is = absurd (cc is)
    line_is (constant k) is = absurd (cc is)
    line_is (swapped names) is = absurd (cc is)
    line_is (atom b) is = let same : b ≡ a = cc in ap (λ a. atom a) same
    line_is (part p) is = absurd (cc is)
    line_is (listed l) is = absurd (cc is)
    line_is (last count) is = absurd (cc is)

-- ---- the position of a line

pub begin_front : (before : List TextLine) (line : TextLine) → BeginCertificate (before ++ line ∷ []) → BeginCertificate before
begin_front before line (rest, whole) = (line ∷ rest, subst AreWhole (append_assoc before (line ∷ []) rest) whole)

pub record IsPlaced (before : List TextLine) (line : TextLine) : Type 0 where
  pub place : CertificatePlace
  pub at : place_after before ≡ Some place
  pub occurs : ComesBefore place before
  pub next : CertificatePlace
  pub leads : next_place place line ≡ Some next

pub placed : (before : List TextLine) (line : TextLine) → BeginCertificate (before ++ line ∷ []) → IsPlaced before line
placed before line begun =
    let (place, leads) = place_of_beginning before (begin_front before line begun) in
    let (next, is) = followed before place leads line begun in
    record { place = place; at = leads; occurs = occurs before place leads; next = next; leads = is }

-- nothing comes before the version
nothing_first : (before : List TextLine) (v : Version) (line : TextLine) → BeginCertificate (before ++ version v ∷ []) → Contains before line → ⊥
nothing_first before v line begun there = let at = placed before (version v) begun in by_place at.place at.occurs at.next at.leads
  where
    by_place : (place : CertificatePlace) → ComesBefore place before → (next : CertificatePlace) → next_place place (version v) ≡ Some next → ⊥
    by_place at_version are next leads = Contains-none line (subst (λ lines. Contains lines line) are there)
    by_place (at_claim w) are next leads = never next leads
    by_place (at_constant w) are next leads = never next leads
    by_place (in_body b) are next leads = never next leads
    by_place ended are next leads = never next leads

-- only the version comes before the claim
only_claim : (before : List TextLine) (c d : Claim) → BeginCertificate (before ++ claims c ∷ []) → Contains before (claims d) → ⊥
only_claim before c d begun there = let at = placed before (claims c) begun in by_place at.place at.occurs at.next at.leads
  where
    by_place : (place : CertificatePlace) → ComesBefore place before → (next : CertificatePlace) → next_place place (claims c) ≡ Some next → ⊥
    by_place at_version are next leads = never next leads
    by_place (at_claim v) are next leads = no_claim (subst (λ lines. Contains lines (claims d)) are there)
      where
        no_claim : Contains (version v ∷ []) (claims d) → ⊥
        no_claim there = ⊎_elim (λ same. absurd (cc same)) (λ none. Contains-none (claims d) none) (Contains-cases (version v) [] (claims d) there)
    by_place (at_constant v) are next leads = never next leads
    by_place (in_body b) are next leads = never next leads
    by_place ended are next leads = never next leads

-- only the version and the claim come before the constants
only_constant : (before : List TextLine) (k d : List ℤ) → BeginCertificate (before ++ constant k ∷ []) → Contains before (constant d) → ⊥
only_constant before k d begun there = let at = placed before (constant k) begun in by_place at.place at.occurs at.next at.leads
  where
    no_constant : (v : Version) (claim : Claim) → Contains (version v ∷ claims claim ∷ []) (constant d) → ⊥
    no_constant v claim there =
        ⊎_elim (λ same. absurd (cc same))
        (λ later. ⊎_elim (λ same. absurd (cc same)) (λ none. Contains-none (constant d) none) (Contains-cases (claims claim) [] (constant d) later))
        (Contains-cases (version v) (claims claim ∷ []) (constant d) there)

    by_place : (place : CertificatePlace) → ComesBefore place before → (next : CertificatePlace) → next_place place (constant k) ≡ Some next → ⊥
    by_place at_version are next leads = never next leads
    by_place (at_claim v) are next leads = never next leads
    by_place (at_constant v) (claim, is, are) next leads = no_constant v claim (subst (λ lines. Contains lines (constant d)) are there)
    by_place (in_body b) are next leads = never next leads
    by_place ended are next leads = never next leads

-- and no atom does
no_atom_first : (before : List TextLine) (k : List ℤ) → BeginCertificate (before ++ constant k ∷ []) → atoms_given before ≡ []
no_atom_first before k begun = let at = placed before (constant k) begun in by_place at.place at.occurs at.next at.leads
  where
    by_place : (place : CertificatePlace) → ComesBefore place before → (next : CertificatePlace) → next_place place (constant k) ≡ Some next → atoms_given before ≡ []
    by_place at_version are next leads = never next leads
    by_place (at_claim v) are next leads = never next leads
    by_place (at_constant v) (claim, is, are) next leads = ap atoms_given are
    by_place (in_body b) are next leads = never next leads
    by_place ended are next leads = never next leads

-- the constants are in the first lines of a body
constant_there : (b : Body) (before : List TextLine) → IsBody b before → (k : List ℤ) × Contains before (constant k)
constant_there b before body =
    let g = body.beginning in
    let rest = map (λ names. swapped names) g.swaps ++ map (λ a. atom a) g.atoms ++ map (λ p. part p) g.parts ++ map (λ l. listed l) g.states in (
      g.constants,
      subst (λ lines. Contains lines (constant g.constants)) (sym body.lines_are)
          (Contains-there (version g.version) (claims g.claim ∷ constant g.constants ∷ rest) (constant g.constants)
          (Contains-there (claims g.claim) (constant g.constants ∷ rest) (constant g.constants) (Contains-here (constant g.constants) rest))),
    )

-- so they come before an atom
constant_first : (before : List TextLine) (a : WeightedAtom) → BeginCertificate (before ++ atom a ∷ []) → (k : List ℤ) × Contains before (constant k)
constant_first before a begun = let at = placed before (atom a) begun in by_place at.place at.occurs at.next at.leads
  where
    by_place : (place : CertificatePlace) → ComesBefore place before → (next : CertificatePlace) → next_place place (atom a) ≡ Some next → (k : List ℤ) × Contains before (constant k)
    by_place at_version are next leads = never next leads
    by_place (at_claim v) are next leads = never next leads
    by_place (at_constant v) (claim, is, are) next leads = never next leads
    by_place (in_body b) body next leads = constant_there b before body
    by_place ended are next leads = never next leads

-- ---- one more line

nothing_before : (front : List TextLine) (other : TextLine) (rest : List TextLine) → [] ≡ front ++ other ∷ rest → ⊥
nothing_before [] other rest same = absurd (cc same)
nothing_before (f ∷ front) other rest same = absurd (cc same)

cons_parts : (a b : TextLine) (xs ys : List TextLine) → a ∷ xs ≡ b ∷ ys → (a ≡ b) × (xs ≡ ys)
cons_parts a b xs ys same = (cc same, cc same)

-- a line among some lines and one more is the new one, or is among them
split_last : (before front rest : List TextLine) (line other : TextLine) → before ++ line ∷ [] ≡ front ++ other ∷ rest
    → ((before ≡ front) × (line ≡ other)) ⊎ ((more : List TextLine) × (before ≡ front ++ other ∷ more))
split_last [] [] rest line other same = inl (refl, (cons_parts line other [] rest same).0)
split_last [] (f ∷ front) rest line other same = absurd (nothing_before front other rest (cons_parts line f [] (front ++ other ∷ rest) same).1)
split_last (b ∷ before) [] rest line other same = inr (before, ap (λ b. b ∷ before) (cons_parts b other (before ++ line ∷ []) rest same).0)
split_last (b ∷ before) (f ∷ front) rest line other same =
    let (here, more) = cons_parts b f (before ++ line ∷ []) (front ++ other ∷ rest) same in
    ⊎_elim (λ (fronts, lines). inl ((λ i. here i ∷ fronts i), lines)) (λ (left, is). inr (left, (λ i. here i ∷ is i))) (split_last before front rest line other more)

-- no line is wrong if none was and the next one is right
right_more : (task : Task) (before : List TextLine) (line : TextLine) → AreRight task before → ((number : ℕ) → IsWrongAfter task before line number → ⊥)
    → AreRight task (before ++ line ∷ [])
right_more task before line right not_wrong front rest other number splits wrong =
    ⊎_elim (λ (fronts, lines). not_wrong number (subst (λ front. IsWrongAfter task front line number) (sym fronts) (subst (λ line. IsWrongAfter task front line number) (sym lines) wrong)))
    (λ (more, is). right front more other number is wrong) (split_last before front rest line other splits)

-- a line without an atom, a part of a table or a state is right
abbrev pub is_plain : TextLine → Bool
is_plain (version v) = true
is_plain (claims claim) = true
is_plain (constant k) = true
is_plain (swapped names) = true
is_plain (atom a) = false
is_plain (part p) = false
is_plain (listed l) = false
is_plain (last count) = true

plain_is_right : (task : Task) (before : List TextLine) (line : TextLine) (number : ℕ) → IsWrongAfter task before line number → is_plain line ≡ true → ⊥
plain_is_right task before line number (not_of_scope r atoms rows here no_scope) plain = absurd (true≢false (sym plain))
plain_is_right task before line number (repeated_row r atoms rows here of_scope there) plain = absurd (true≢false (sym plain))
plain_is_right task before line number (not_fluent a none_is) plain = absurd (true≢false (sym plain))
plain_is_right task before line number (repeated_atom a is there) plain = absurd (true≢false (sym plain))
plain_is_right task before line number (repeated_state l there) plain = absurd (true≢false (sym plain))
plain_is_right task before line number (cut_not_allowed l new cut there) plain = absurd (true≢false (sym plain))

named_push : (task : Task) (names : List NamedAtom) (atoms : List Atom) (name : NamedAtom) (a : Atom) → AllName task names atoms → Names task name a
    → AllName task (names ++ name ∷ []) (atoms ++ a ∷ [])
named_push task [] [] name a are is = (is, tt)
named_push task [] (b ∷ atoms) name a are is = absurd are
named_push task (n ∷ names) [] name a are is = absurd are
named_push task (n ∷ names) (b ∷ atoms) name a (here, are) is = (here, named_push task names atoms name a are is)

-- what one of these names denotes is one of these atoms, and has one of these names
atom_of_name : (task : Task) (names : List NamedAtom) (atoms : List Atom) (name : NamedAtom) → AllName task names atoms → Contains names name
    → (a : Atom) × Contains atoms a × Names task name a
atom_of_name task [] atoms name are there = absurd (Contains-none name there)
atom_of_name task (n ∷ names) [] name are there = absurd are
atom_of_name task (n ∷ names) (b ∷ atoms) name (here, are) there =
    ⊎_elim (λ same. (b, Contains-here b atoms, subst (λ name. Names task name b) same here))
    (λ later. let (a, occurs, is) = atom_of_name task names atoms name are later in (a, Contains-there b atoms a occurs, is)) (Contains-cases n names name there)

name_of_atom : (task : Task) (names : List NamedAtom) (atoms : List Atom) (a : Atom) → AllName task names atoms → Contains atoms a
    → (name : NamedAtom) × Contains names name × Names task name a
name_of_atom task names [] a are there = absurd (Contains-none a there)
name_of_atom task [] (b ∷ atoms) a are there = absurd are
name_of_atom task (n ∷ names) (b ∷ atoms) a (here, are) there =
    ⊎_elim (λ same. (n, Contains-here n names, subst (Names task n) same here))
    (λ later. let (name, occurs, is) = name_of_atom task names atoms a are later in (name, Contains-there n names name occurs, is)) (Contains-cases b atoms a there)

-- the atoms and the names of some lines and one more atom
atoms_more : (before : List TextLine) (a : WeightedAtom) → atoms_given (before ++ atom a ∷ []) ≡ atoms_given before ++ a ∷ []
atoms_more before a = filter_map-append atom_in before (atom a ∷ [])

names_more : (before : List TextLine) (a : WeightedAtom) → names_given (before ++ atom a ∷ []) ≡ names_given before ++ a.atom ∷ []
names_more before a = ap (map (λ (a : WeightedAtom). a.atom)) (atoms_more before a) ∙ map-append (λ (a : WeightedAtom). a.atom) (atoms_given before) (a ∷ [])

-- each value has the weight of that atom in addition
value_more : (k : List ℤ) (atoms : List WeightedAtom) (a : WeightedAtom) (place : ℕ)
    → value_given k (atoms ++ a ∷ []) place ≡ with_weight (value_given k atoms place) (weight_said place a.weights)
value_more k atoms a place = λ i. record { constant = weight_said place k; weights = map-append (λ (a : WeightedAtom). weight_said place a.weights) atoms (a ∷ []) i }

values_from : (k : List ℤ) (atoms : List WeightedAtom) (a : WeightedAtom) (place count : ℕ)
    → map (value_given k (atoms ++ a ∷ [])) (range_with_len place count) ≡ with_weights_from place a.weights (map (value_given k atoms) (range_with_len place count))
values_from k atoms a place zero = refl
values_from k atoms a place (suc count) = λ i. value_more k atoms a place i ∷ values_from k atoms a (place + 1) count i

given_more : (v : Version) (k : List ℤ) (atoms : List WeightedAtom) (a : WeightedAtom) (evidence : SeveralValues) → AreGiven v k atoms evidence → AreGiven v k (atoms ++ a ∷ []) (with_weights evidence a.weights)
given_more v k atoms a evidence given = record {
  values = ap (with_weights_from 0 a.weights) given.values ∙ sym (values_from k atoms a 0 (value_count v (length k)));
  dead_ends =
      let count : length evidence.values ≡ value_count v (length k) =
      ap length given.values ∙ length-map (range_with_len 0 (value_count v (length k))) (value_given k atoms) ∙ length-range_with_len 0 (value_count v (length k)) in
      (λ i. with_weight (given.dead_ends i) (weight_said (count i) a.weights)) ∙ sym (value_more k atoms a (value_count v (length k)));
}

-- no lines give nothing
abbrev pub nothing_said : SeveralValues
nothing_said = record { values = []; dead_ends = record { constant = pos 0; weights = [] }; tables = [] }

pub reported_nothing : (task : Task) → HaveGiven task [] (record { version = one; claim = bound 0; exchanges = []; atoms = []; evidence = nothing_said; landmarks = no_landmarks })
reported_nothing task = record {
  one_version = λ v there. absurd (Contains-none (version v) there);
  one_claim = λ c there. absurd (Contains-none (claims c) there);
  none_occurs = λ same. absurd (cc same);
  given = λ k there. absurd (Contains-none (constant k) there);
  not_given = λ absent. record { values = refl; dead_ends = refl };
  exchanged = refl;
  tables = refl;
  landmarks = record { zones = refl; values = refl };
  named = tt;
  fluent = All-nil (λ (a : Atom). IsTrue (is_atom task a && is_fluent task a.predicate));
  distinct = λ i j d below within. absurd (omega (arith, within));
  right = λ front rest line number splits wrong. nothing_before front line rest splits;
}

module _ (task : Task) (before : List TextLine) (heading : Heading) (reported : HaveGiven task before heading) where
  no_atom_more : (line : TextLine) → atom_in line ≡ None → atoms_given (before ++ line ∷ []) ≡ atoms_given before
  no_atom_more line none_in = filter_map-append atom_in before (line ∷ []) ∙ ap (λ more. atoms_given before ++ more) (none_more line none_in) ∙ append-nil (atoms_given before)
    where
      none_more : (line : TextLine) → atom_in line ≡ None → atoms_given (line ∷ []) ≡ []
      none_more (version v) is = refl
      none_more (claims claim) is = refl
      none_more (constant k) is = refl
      none_more (swapped names) is = refl
      none_more (atom a) is = absurd (cc is)
      none_more (part p) is = refl
      none_more (listed l) is = refl
      none_more (last count) is = refl

  named_still : (line : TextLine) → atom_in line ≡ None → AllName task (names_given (before ++ line ∷ [])) heading.atoms
  named_still line none_in = subst (λ (reported : List WeightedAtom). AllName task (map (λ a. a.atom) reported) heading.atoms) (sym (no_atom_more line none_in)) reported.named

  no_exchange_more : (line : TextLine) → swap_in line ≡ None → swaps_given (before ++ line ∷ []) ≡ swaps_given before
  no_exchange_more line none_in = filter_map-append swap_in before (line ∷ []) ∙ ap (λ more. swaps_given before ++ more) (none_more line none_in) ∙ append-nil (swaps_given before)
    where
      none_more : (line : TextLine) → swap_in line ≡ None → swaps_given (line ∷ []) ≡ []
      none_more (version v) is = refl
      none_more (claims claim) is = refl
      none_more (constant k) is = refl
      none_more (swapped names) is = absurd (cc is)
      none_more (atom a) is = refl
      none_more (part p) is = refl
      none_more (listed l) is = refl
      none_more (last count) is = refl

  exchanged_still : (line : TextLine) → swap_in line ≡ None → heading.exchanges ≡ map (exchange_said task) (swaps_given (before ++ line ∷ []))
  exchanged_still line none_in = reported.exchanged ∙ ap (map (exchange_said task)) (sym (no_exchange_more line none_in))

  no_table_more : (line : TextLine) → table_in line ≡ None → tables_given (before ++ line ∷ []) ≡ tables_given before
  no_table_more line none_in = filter_map-append table_in before (line ∷ []) ∙ ap (λ more. tables_given before ++ more) (none_more line none_in) ∙ append-nil (tables_given before)
    where
      none_more : (line : TextLine) → table_in line ≡ None → tables_given (line ∷ []) ≡ []
      none_more (version v) is = refl
      none_more (claims claim) is = refl
      none_more (constant k) is = refl
      none_more (swapped names) is = refl
      none_more (atom a) is = refl
      none_more (part (tabled t)) is = absurd (cc is)
      none_more (part (landmark_line l)) is = refl
      none_more (listed l) is = refl
      none_more (last count) is = refl

  tabled_still : (line : TextLine) → table_in line ≡ None → flat_map table_lines heading.evidence.tables ≡ tables_given (before ++ line ∷ [])
  tabled_still line none_in = reported.tables ∙ sym (no_table_more line none_in)

  -- a line that is no part has no table
  no_table_in : (line : TextLine) → part_in line ≡ None → table_in line ≡ None
  no_table_in (version v) is = refl
  no_table_in (claims claim) is = refl
  no_table_in (constant k) is = refl
  no_table_in (swapped names) is = refl
  no_table_in (atom a) is = refl
  no_table_in (part p) is = absurd (cc is)
  no_table_in (listed l) is = refl
  no_table_in (last count) is = refl

  landmarks_still : (line : TextLine) → part_in line ≡ None → AreLandmarksOf (parts_given (before ++ line ∷ [])) heading.landmarks
  landmarks_still line none_in =
      subst (λ parts. AreLandmarksOf parts heading.landmarks)
      (sym (filter_map-append part_in before (line ∷ []) ∙ ap (λ more. parts_given before ++ more) (none_more line none_in) ∙ append-nil (parts_given before))) reported.landmarks
    where
      none_more : (line : TextLine) → part_in line ≡ None → parts_given (line ∷ []) ≡ []
      none_more (version v) is = refl
      none_more (claims claim) is = refl
      none_more (constant k) is = refl
      none_more (swapped names) is = refl
      none_more (atom a) is = refl
      none_more (part p) is = absurd (cc is)
      none_more (listed l) is = refl
      none_more (last count) is = refl

  -- one more part
  parts_more : (p : Part) → parts_given (before ++ part p ∷ []) ≡ parts_given before ++ p ∷ []
  parts_more p = filter_map-append part_in before (part p ∷ [])

  zones_more : (p : Part) → filter_map zone_in (parts_given (before ++ part p ∷ [])) ≡ heading.landmarks.zones ++ filter_map zone_in (p ∷ [])
  zones_more p = ap (filter_map zone_in) (parts_more p) ∙ filter_map-append zone_in (parts_given before) (p ∷ []) ∙ ap (λ (zones : List Zone). zones ++ filter_map zone_in (p ∷ [])) (sym reported.landmarks.zones)

  values_more : (p : Part) → filter_map shares_in (parts_given (before ++ part p ∷ [])) ≡ heading.landmarks.values ++ filter_map shares_in (p ∷ [])
  values_more p =
      ap (filter_map shares_in) (parts_more p) ∙ filter_map-append shares_in (parts_given before) (p ∷ []) ∙ ap (λ (values : List (List Share)). values ++ filter_map shares_in (p ∷ [])) (sym reported.landmarks.values)

  -- a line of a table has no landmarks
  landmarks_beside : (t : TableLine) → AreLandmarksOf (parts_given (before ++ part (tabled t) ∷ [])) heading.landmarks
  landmarks_beside t = record {
    zones = sym (zones_more (tabled t) ∙ append-nil heading.landmarks.zones);
    values = sym (values_more (tabled t) ∙ append-nil heading.landmarks.values);
  }

  given_still : (line : TextLine) → atom_in line ≡ None → (k : List ℤ) → Contains before (constant k) → AreGiven heading.version k (atoms_given (before ++ line ∷ [])) heading.evidence
  given_still line none_in k there = subst (λ atoms. AreGiven heading.version k atoms heading.evidence) (sym (no_atom_more line none_in)) (reported.given k there)

  not_given_still : (line : TextLine) → ((k : List ℤ) → Contains (before ++ line ∷ []) (constant k) → ⊥) → AreNotGiven heading.evidence
  not_given_still line absent = reported.not_given (λ k there. absent k (Contains-append_left before (line ∷ []) (constant k) there))

  -- what was given by a line is still given if the next one is of another kind
  among_more : (line other : TextLine) → (line ≡ other → ⊥) → Contains (before ++ line ∷ []) other → Contains before other
  among_more line other differs there = ⊎_elim (λ earlier. earlier) (λ same. absurd (differs same)) (Contains-push_cases before line other there)

  pub reported_version : (v : Version) → BeginCertificate (before ++ version v ∷ [])
      → HaveGiven task (before ++ version v ∷ []) (record { version = v; claim = heading.claim; exchanges = heading.exchanges; atoms = heading.atoms; evidence = heading.evidence; landmarks = heading.landmarks })
  reported_version v begun = record {
    one_version = λ w there. ⊎_elim (λ earlier. absurd (nothing_first before v (version w) begun earlier)) (λ same. version_same w same) (Contains-push_cases before (version v) (version w) there);
    one_claim = λ d there. reported.one_claim d (among_more (version v) (claims d) (λ same. cc same) there);
    none_occurs = λ none_is. Contains-append_left before (version v ∷ []) (claims none) (reported.none_occurs none_is);
    given = λ k there. absurd (nothing_first before v (constant k) begun (among_more (version v) (constant k) (λ same. cc same) there));
    not_given = not_given_still (version v);
    exchanged = exchanged_still (version v) refl;
    tables = tabled_still (version v) refl;
    landmarks = landmarks_still (version v) refl;
    named = named_still (version v) refl;
    fluent = reported.fluent;
    distinct = reported.distinct;
    right = right_more task before (version v) reported.right (λ number wrong. plain_is_right task before (version v) number wrong refl);
  }
    where
      version_same : (w : Version) → version v ≡ version w → v ≡ w
      version_same w same = cc same

  pub reported_claim : (c : Claim) → BeginCertificate (before ++ claims c ∷ [])
      → HaveGiven task (before ++ claims c ∷ []) (record { version = heading.version; claim = c; exchanges = heading.exchanges; atoms = heading.atoms; evidence = heading.evidence; landmarks = heading.landmarks })
  reported_claim c begun = record {
    one_version = λ v there. reported.one_version v (among_more (claims c) (version v) (λ same. cc same) there);
    one_claim = λ d there. ⊎_elim (λ earlier. absurd (only_claim before c d begun earlier)) (λ same. claim_same d same) (Contains-push_cases before (claims c) (claims d) there);
    none_occurs = λ none_is. subst (λ d. Contains (before ++ claims c ∷ []) (claims d)) none_is (Contains-push before (claims c));
    given = λ k there. given_still (claims c) refl k (among_more (claims c) (constant k) (λ same. cc same) there);
    not_given = not_given_still (claims c);
    exchanged = exchanged_still (claims c) refl;
    tables = tabled_still (claims c) refl;
    landmarks = landmarks_still (claims c) refl;
    named = named_still (claims c) refl;
    fluent = reported.fluent;
    distinct = reported.distinct;
    right = right_more task before (claims c) reported.right (λ number wrong. plain_is_right task before (claims c) number wrong refl);
  }
    where
      claim_same : (d : Claim) → claims c ≡ claims d → c ≡ d
      claim_same d same = cc same

  pub reported_constant : (k : List ℤ) → BeginCertificate (before ++ constant k ∷ [])
      → HaveGiven task (before ++ constant k ∷ []) (record { version = heading.version; claim = heading.claim; exchanges = heading.exchanges; atoms = heading.atoms; evidence = begun_with heading.version k heading.evidence; landmarks = heading.landmarks })
  reported_constant k begun = record {
    one_version = λ v there. reported.one_version v (among_more (constant k) (version v) (λ same. cc same) there);
    one_claim = λ d there. reported.one_claim d (among_more (constant k) (claims d) (λ same. cc same) there);
    none_occurs = λ none_is. Contains-append_left before (constant k ∷ []) (claims none) (reported.none_occurs none_is);
    given = λ d there. subst (λ d. AreGiven heading.version d (atoms_given (before ++ constant k ∷ [])) (begun_with heading.version k heading.evidence)) (constant_is d there) begun_given;
    not_given = λ absent. absurd (absent k (Contains-push before (constant k)));
    exchanged = exchanged_still (constant k) refl;
    tables = tabled_still (constant k) refl;
    landmarks = landmarks_still (constant k) refl;
    named = named_still (constant k) refl;
    fluent = reported.fluent;
    distinct = reported.distinct;
    right = right_more task before (constant k) reported.right (λ number wrong. plain_is_right task before (constant k) number wrong refl);
  }
    where
      constant_same : (d : List ℤ) → constant k ≡ constant d → k ≡ d
      constant_same d same = cc same

      constant_is : (d : List ℤ) → Contains (before ++ constant k ∷ []) (constant d) → k ≡ d
      constant_is d there = ⊎_elim (λ earlier. absurd (only_constant before k d begun earlier)) (λ same. constant_same d same) (Contains-push_cases before (constant k) (constant d) there)

      none_before : AreNotGiven heading.evidence
      none_before = reported.not_given (λ d there. only_constant before k d begun there)

      no_atoms : atoms_given (before ++ constant k ∷ []) ≡ []
      no_atoms = no_atom_more (constant k) refl ∙ no_atom_first before k begun

      begun_given : AreGiven heading.version k (atoms_given (before ++ constant k ∷ [])) (begun_with heading.version k heading.evidence)
      begun_given = subst (λ atoms. AreGiven heading.version k atoms (begun_with heading.version k heading.evidence)) (sym no_atoms) (record {
        values = ap (λ values. values ++ values_given heading.version k []) none_before.values;
        dead_ends = λ i. record { constant = weight_said (value_count heading.version (length k)) k; weights = none_before.dead_ends i };
      })

  -- an exchange
  pub reported_exchange : (names : List (List ℕ)) → HaveGiven task (before ++ swapped names ∷ []) (record {
    version = heading.version;
    claim = heading.claim;
    exchanges = heading.exchanges ++ exchange_said task names ∷ [];
    atoms = heading.atoms;
    evidence = heading.evidence;
    landmarks = heading.landmarks;
  })
  reported_exchange names = record {
    one_version = λ v there. reported.one_version v (among_more (swapped names) (version v) (λ same. cc same) there);
    one_claim = λ d there. reported.one_claim d (among_more (swapped names) (claims d) (λ same. cc same) there);
    none_occurs = λ none_is. Contains-append_left before (swapped names ∷ []) (claims none) (reported.none_occurs none_is);
    given = λ k there. given_still (swapped names) refl k (among_more (swapped names) (constant k) (λ same. cc same) there);
    not_given = not_given_still (swapped names);
    exchanged =
        ap (λ exchanges. exchanges ++ exchange_said task names ∷ []) reported.exchanged
        ∙ sym (ap (map (exchange_said task)) (filter_map-append swap_in before (swapped names ∷ [])) ∙ map-append (exchange_said task) (swaps_given before) (names ∷ []));
    tables = tabled_still (swapped names) refl;
    landmarks = landmarks_still (swapped names) refl;
    named = named_still (swapped names) refl;
    fluent = reported.fluent;
    distinct = reported.distinct;
    right = right_more task before (swapped names) reported.right (λ number wrong. plain_is_right task before (swapped names) number wrong refl);
  }

  -- a line that gives neither the version, nor the claim, nor the constants, nor an exchange, nor an atom, nor a part of a table
  pub reported_else : (line : TextLine) → ((v : Version) → line ≡ version v → ⊥) → ((d : Claim) → line ≡ claims d → ⊥) → ((k : List ℤ) → line ≡ constant k → ⊥) → swap_in line ≡ None → atom_in line ≡ None → part_in line ≡ None
      → ((number : ℕ) → IsWrongAfter task before line number → ⊥) → HaveGiven task (before ++ line ∷ []) heading
  reported_else line no_version no_claim no_constant no_exchange no_atom no_part is_right = record {
    one_version = λ v there. reported.one_version v (among_more line (version v) (no_version v) there);
    one_claim = λ d there. reported.one_claim d (among_more line (claims d) (no_claim d) there);
    none_occurs = λ none_is. Contains-append_left before (line ∷ []) (claims none) (reported.none_occurs none_is);
    given = λ k there. given_still line no_atom k (among_more line (constant k) (no_constant k) there);
    not_given = not_given_still line;
    exchanged = exchanged_still line no_exchange;
    tables = tabled_still line (no_table_in line no_part);
    landmarks = landmarks_still line no_part;
    named = named_still line no_atom;
    fluent = reported.fluent;
    distinct = reported.distinct;
    right = right_more task before line reported.right is_right;
  }

  -- a line of a table
  pub reported_tables : (t : TableLine) (tables : List Table) → flat_map table_lines tables ≡ tables_given before ++ t ∷ [] → ((number : ℕ) → IsWrongAfter task before (part (tabled t)) number → ⊥)
      → HaveGiven task (before ++ part (tabled t) ∷ []) (record { version = heading.version; claim = heading.claim; exchanges = heading.exchanges; atoms = heading.atoms; evidence = with_tables heading.evidence tables; landmarks = heading.landmarks })
  reported_tables t tables are is_right = record {
    one_version = λ v there. reported.one_version v (among_more (part (tabled t)) (version v) (λ same. cc same) there);
    one_claim = λ d there. reported.one_claim d (among_more (part (tabled t)) (claims d) (λ same. cc same) there);
    none_occurs = λ none_is. Contains-append_left before (part (tabled t) ∷ []) (claims none) (reported.none_occurs none_is);
    given = λ k there.
        let given = given_still (part (tabled t)) refl k (among_more (part (tabled t)) (constant k) (λ same. cc same) there) in
        record { values = given.values; dead_ends = given.dead_ends };
    not_given = λ absent. let none_given = not_given_still (part (tabled t)) absent in record { values = none_given.values; dead_ends = none_given.dead_ends };
    exchanged = exchanged_still (part (tabled t)) refl;
    tables = are ∙ sym (filter_map-append table_in before (part (tabled t) ∷ []));
    landmarks = landmarks_beside t;
    named = named_still (part (tabled t)) refl;
    fluent = reported.fluent;
    distinct = reported.distinct;
    right = right_more task before (part (tabled t)) reported.right is_right;
  }

  -- a line of landmarks
  landmark_is_right : (l : LandmarkLine) (line : TextLine) (number : ℕ) → IsWrongAfter task before line number → line ≡ part (landmark_line l) → ⊥
  landmark_is_right l line number (not_of_scope r atoms rows here no_scope) same = absurd (cc same)
  landmark_is_right l line number (repeated_row r atoms rows here of_scope there) same = absurd (cc same)
  landmark_is_right l line number (not_fluent a none_is) same = absurd (cc same)
  landmark_is_right l line number (repeated_atom a is there) same = absurd (cc same)
  landmark_is_right l line number (repeated_state k there) same = absurd (cc same)
  landmark_is_right l line number (cut_not_allowed k new cut there) same = absurd (cc same)

  pub reported_landmark : (l : LandmarkLine) (landmarks : NumberedLandmarks) → AreLandmarksOf (parts_given (before ++ part (landmark_line l) ∷ [])) landmarks
      → HaveGiven task (before ++ part (landmark_line l) ∷ []) (record { version = heading.version; claim = heading.claim; exchanges = heading.exchanges; atoms = heading.atoms; evidence = heading.evidence; landmarks = landmarks })
  reported_landmark l landmarks are =
      let line : TextLine = part (landmark_line l) in
      record {
        one_version = λ v there. reported.one_version v (among_more line (version v) (λ same. cc same) there);
        one_claim = λ d there. reported.one_claim d (among_more line (claims d) (λ same. cc same) there);
        none_occurs = λ none_is. Contains-append_left before (line ∷ []) (claims none) (reported.none_occurs none_is);
        given = λ k there. given_still line refl k (among_more line (constant k) (λ same. cc same) there);
        not_given = not_given_still line;
        exchanged = exchanged_still line refl;
        tables = tabled_still line refl;
        landmarks = are;
        named = named_still line refl;
        fluent = reported.fluent;
        distinct = reported.distinct;
        right = right_more task before line reported.right (λ number wrong. landmark_is_right l line number wrong refl);
      }

  pub reported_zone : (z : Zone)
      → HaveGiven task (before ++ part (landmark_line (zone z)) ∷ []) (record { version = heading.version; claim = heading.claim; exchanges = heading.exchanges; atoms = heading.atoms; evidence = heading.evidence; landmarks = with_zone heading.landmarks z })
  reported_zone z =
      reported_landmark (zone z) (with_zone heading.landmarks z)
      (record { zones = sym (zones_more (landmark_line (zone z))); values = sym (values_more (landmark_line (zone z)) ∙ append-nil heading.landmarks.values) })

  pub reported_value : (s : List Share)
      → HaveGiven task (before ++ part (landmark_line (value s)) ∷ []) (record { version = heading.version; claim = heading.claim; exchanges = heading.exchanges; atoms = heading.atoms; evidence = heading.evidence; landmarks = with_value heading.landmarks s })
  reported_value s =
      reported_landmark (value s) (with_value heading.landmarks s)
      (record { zones = sym (zones_more (landmark_line (value s)) ∙ append-nil heading.landmarks.zones); values = sym (values_more (landmark_line (value s))) })

  pub reported_last : (count : ℕ) → HaveGiven task (before ++ last count ∷ []) heading
  reported_last count =
      reported_else (last count) (λ v same. cc same) (λ d same. cc same) (λ k same. cc same) refl refl refl
      (λ number wrong. plain_is_right task before (last count) number wrong refl)

  module _ (said : WeightedAtom) (a : Atom) (names : Names task said.atom a) (typed : IsTrue (is_atom task a)) (changes : IsTrue (is_fluent task a.predicate)) where
    right_atom : (Contains heading.atoms a → ⊥) → (line : TextLine) (number : ℕ) → IsWrongAfter task before line number → line ≡ atom said → ⊥
    right_atom new line number (not_of_scope r atoms rows here no_scope) same = absurd (cc same)
    right_atom new line number (repeated_row r atoms rows here of_scope there) same = absurd (cc same)
    right_atom new line number (not_fluent b none_is) same =
        let here : b ≡ said = cc in absurd (none_is (a, subst (λ (b : WeightedAtom). Names task b.atom a) (sym here) names, typed, changes))
    right_atom new line number (repeated_atom b is (earlier, there, earlier_is)) same =
        let here : b ≡ said = cc in
        let same_name : earlier.atom ≡ said.atom = earlier_is ∙ ap (λ (b : WeightedAtom). b.atom) here in
        let (other, occurs, other_is) = atom_of_name task (names_given before) heading.atoms earlier.atom reported.named
        (Contains-map (λ (a : WeightedAtom). a.atom) (atoms_given before) earlier (atom_reported before earlier there)) in
        absurd (new (subst (Contains heading.atoms) (one_named task said.atom other a (subst (λ name. Names task name other) same_name other_is) names) occurs))
    right_atom new line number (repeated_state l there) same = absurd (cc same)
    right_atom new line number (cut_not_allowed l first cut there) same = absurd (cc same)

    pub reported_new_atom : (Contains heading.atoms a → ⊥) → BeginCertificate (before ++ atom said ∷ []) → HaveGiven task (before ++ atom said ∷ []) (record {
      version = heading.version;
      claim = heading.claim;
      exchanges = heading.exchanges;
      atoms = heading.atoms ++ a ∷ [];
      evidence = with_weights heading.evidence said.weights;
      landmarks = heading.landmarks;
    })
    reported_new_atom new begun = record {
      one_version = λ v there. reported.one_version v (among_more (atom said) (version v) (λ same. cc same) there);
      one_claim = λ d there. reported.one_claim d (among_more (atom said) (claims d) (λ same. cc same) there);
      none_occurs = λ none_is. Contains-append_left before (atom said ∷ []) (claims none) (reported.none_occurs none_is);
      given = λ k there.
          subst (λ atoms. AreGiven heading.version k atoms (with_weights heading.evidence said.weights)) (sym (atoms_more before said))
          (given_more heading.version k (atoms_given before) said heading.evidence (reported.given k (among_more (atom said) (constant k) (λ same. cc same) there)));
      not_given = λ absent. let (k, there) = constant_first before said begun in absurd (absent k (Contains-append_left before (atom said ∷ []) (constant k) there));
      exchanged = exchanged_still (atom said) refl;
      tables = tabled_still (atom said) refl;
      landmarks = landmarks_still (atom said) refl;
      named = subst (λ names. AllName task names (heading.atoms ++ a ∷ [])) (sym (names_more before said)) (named_push task (names_given before) heading.atoms said.atom a reported.named names);
      fluent = All-push (λ (a : Atom). IsTrue (is_atom task a && is_fluent task a.predicate)) heading.atoms a reported.fluent (λ i. typed i && changes i);
      distinct = all_pairs_push (λ (a b : Atom). a ≢ b) heading.atoms a reported.distinct (λ k d within same. new (subst (Contains heading.atoms) same (Contains-get_or heading.atoms k d within)));
      right = right_more task before (atom said) reported.right (λ number wrong. right_atom new (atom said) number wrong refl);
    }

    pub wrong_again : Contains heading.atoms a → IsWrongAfter task before (atom said) 44
    wrong_again occurs =
        let (name, among, is) = name_of_atom task (names_given before) heading.atoms a reported.named occurs in
        let (other, there, other_is) = map-Contains (λ (a : WeightedAtom). a.atom) (atoms_given before) name among in
        repeated_atom said (a, names, typed, changes) (other, reported_atom before other there, other_is ∙ same_names task name said.atom a is names)

-- a line other than a state line adds no states
pub states_same : (lines : List TextLine) (line : TextLine) → state_in line ≡ None → states_given (lines ++ line ∷ []) ≡ states_given lines
states_same lines line is = filter_map-append state_in lines (line ∷ []) ∙ ap (λ more. states_given lines ++ more) (alone line is) ∙ append-nil (states_given lines)
  where
    alone : (line : TextLine) → state_in line ≡ None → states_given (line ∷ []) ≡ []
    alone (version v) is = refl
    alone (claims claim) is = refl
    alone (constant k) is = refl
    alone (swapped names) is = refl
    alone (atom a) is = refl
    alone (part p) is = refl
    alone (listed l) is = absurd (cc is)
    alone (last count) is = refl

-- a line other than a state line lists no state
pub no_state_more : (lines : List TextLine) (line : TextLine) → state_in line ≡ None → states_given lines ≡ [] → states_given (lines ++ line ∷ []) ≡ []
no_state_more lines line is none_before = states_same lines line is ∙ none_before
