-- What the certificate of a search that asked for landmark values shows.
use Rattle.std.proofs.Common.{◌≡◌, ◌∙◌, ℕ, suc, ◌+◌, ◌<◌, ◌≤◌, Bool, true, false, ◌&&◌, List, [], ◌∷◌, length, map, get_or, Some, inr, refl, sym, ap, subst, arith}
use Rattle.std.specs.Prelude.{nat_le, nat_lt, slice_get, Contains, All, IsTrue}
use Rattle.std.specs.List.{list_all}
use Rattle.std.specs.Option.{option_map}
use Rattle.std.proofs.lemmas.Bool.{and_parts, and_from, lt-ltb, le-leb, leb-true, true≢false}
use Rattle.std.proofs.lemmas.List.{length-map}
use Rattle.std.proofs.lemmas.Option.{slice_get-get_or, slice_get-map}
use Rattle.search.specs.declared.nodes.Node.{Node}
use Rattle.search.specs.Outcome as search
use Rattle.search.specs.Outcome.{AreFound}
use Rattle.search.specs.Estimates.{IsConsistent}
use Rattle.search.proofs.Consistent.{falls_along}
use Rattle.lower_bounds.specs.Settled.{initial_value}
use Rattle.lower_bounds.specs.TableFunctions.{SeveralValues, dead_ends_of, functions_of, greatest_value, is_dead_by}
use Rattle.lower_bounds.specs.FairTables as fair_tables
use Rattle.lower_bounds.specs.LandmarkLines.{NumberedLandmarks, is_value, is_zone, keep_limits, literal_count, share_count}
use Rattle.line_evidence.specs.Roles.{role_in, role_of_line}
use Rattle.line_evidence.specs.Shown.{AreSupported, IsFairMark, IsShown}
use Rattle.model.specs.Task.{Task, Atom}
use Rattle.model.specs.WellTyped.{is_task, is_atom}
use Rattle.model.specs.Runs.{System}
use Rattle.model.specs.Claims.{Claim, bound, cut, expanded, Line}
use Rattle.model.specs.Meaning.{State}
use Rattle.model.specs.Fluents.{is_fluent}
use Rattle.model.specs.NumberedAtoms.{numbered_atoms}
use Rattle.model.specs.Grounding.{ground_system, state_of_bits}
use Rattle.model.proofs.LimitsLemmas.{numbered_again}
use Rattle.model.proofs.NumberingLemmas.{occurs_in-got}
use Rattle.model.proofs.GroundTaskLemmas.{numbered-distinct, numbered-fluent}
use Rattle.model.proofs.ListLemmas.{Contains-map}
use Rattle.certificate_definitions.specs.Certificates.{four, Certificate, StateLine, are_exchanges, are_landmarks, are_potentials, are_tables, has_basis, is_claim, is_dead_end_weight, is_mark, is_number, is_state_line, is_value_count, is_weight, keeps_limits, lines_of, rise, rows_of, value_of}
use Rattle.certificate_definitions.specs.Evidence as evidence
use Rattle.certificate_definitions.specs.Evidence.{LineMark, of_all, landmark}
use Rattle.certificate.specs.Evidence.{is_evidence}
use Rattle.certificate.specs.ListedSets.{Marked, line_with, lines_with}
use Rattle.certificate.proofs.WithinLimits.{one_weight_each, weights_of_each}
use Rattle.symmetries_definitions.specs.Exchanges.{Exchange}
use Rattle.symmetries_definitions.specs.Orbits.{keeps_atoms}
use Rattle.symmetries_definitions.specs.Symmetries.{is_symmetry}
use Rattle.search_spaces.specs.Exchanges.{can_be_named}
use Rattle.search_spaces.proofs.TaskLemmas.{task_costs_at_least}
use Rattle.solver.specs.Asked.{AreLines, asked_certificate}
use Rattle.solver.specs.AtLimit.{IsCutOf, IsAtLimit}
use Rattle.solver.specs.Guidance.{by_tables, first_value, CanBeWritten}
use Rattle.solver.specs.Improved.{AreSettledOrHigh, AreDeadSettledOrHigh, HasSettledOrHigh}
use Rattle.solver.specs.Listing.{AreLinesExpandedWithin, IsShownBy}
use Rattle.solver.proofs.AskedLemmas.{cuts_by_basis, expanded_line, found_width, landmarks_fair, length-lines_with, line_found, listing, listing_closed, made, open_within, reached_listed, reported_dead, states_distinct, supported, value_at_start, value_found, view}
use Rattle.solver.proofs.ClassLemmas.{AreClassesBy}
use Rattle.solver.proofs.FoundLines.{cut_of_waits, length-lines, line_among, waits_of_cut}
use Rattle.solver.proofs.ListingLemmas.{each_passes, numbers_rise, pairs_apart}
use Rattle.solver.proofs.TypedLemmas.{numbered_typed}

-- ---- the limits of version 4, one by one

pub record AreLimitsOfFour (count : ℕ) (s : SeveralValues) (l : NumberedLandmarks) : Type 0 where
  pub value_count : is_value_count four (length s.values) ≡ true
  pub values : list_all (are_potentials is_weight count) s.values ≡ true
  pub dead_ends : are_potentials (is_dead_end_weight four) count s.dead_ends ≡ true
  pub tables : are_tables four count (length s.values + 1) s.tables ≡ true
  pub few_tables : nat_le (length s.tables) 4194304 ≡ true
  pub few_rows : nat_le (length (rows_of s.tables)) 4194304 ≡ true
  pub landmarks : are_landmarks four count l ≡ true

pub limits_of_four : (count : ℕ) (s : SeveralValues) (l : NumberedLandmarks) → is_evidence four count s l ≡ true → AreLimitsOfFour count s l
limits_of_four count s l are =
    let value_count = is_value_count four (length s.values) in
    let values = list_all (are_potentials is_weight count) s.values in
    let dead_ends = are_potentials (is_dead_end_weight four) count s.dead_ends in
    let tables = are_tables four count (length s.values + 1) s.tables in
    let few_tables = nat_le (length s.tables) 4194304 in
    let few_rows = nat_le (length (rows_of s.tables)) 4194304 in
    let (first, landmarks) = and_parts (value_count && values && dead_ends && tables && few_tables && few_rows) (are_landmarks four count l) are in
    let (first, few_rows) = and_parts (value_count && values && dead_ends && tables && few_tables) few_rows first in
    let (first, few_tables) = and_parts (value_count && values && dead_ends && tables) few_tables first in
    let (first, tables) = and_parts (value_count && values && dead_ends) tables first in
    let (first, dead_ends) = and_parts (value_count && values) dead_ends first in
    let (value_count, values) = and_parts value_count values first in
    record { value_count = value_count; values = values; dead_ends = dead_ends; tables = tables; few_tables = few_tables; few_rows = few_rows; landmarks = landmarks }

-- there are not too many landmark values
few_landmarks : (count : ℕ) (l : NumberedLandmarks) → are_landmarks four count l ≡ true → length l.values ≤ 16777216
few_landmarks count l are =
    let keeps_all = (and_parts true (keep_limits count l) are).1 in
    let zones_keep = list_all (is_zone count) l.zones && nat_le (length l.zones) 16777216 && nat_le (literal_count l.zones) 67108864 in
    let valued = list_all (is_value (length l.zones)) l.values in
    let few = nat_le (length l.values) 16777216 in
    let shares = nat_le (share_count l.values) 67108864 in
    let values_keep = (and_parts zones_keep (valued && few && shares) keeps_all).1 in
    leb-true (length l.values) 16777216 (and_parts valued few (and_parts (valued && few) shares values_keep).0).1

-- ---- lines within the limits

there_is : (s : SeveralValues) (l : NumberedLandmarks) (bits : List Bool) (mark : LineMark) → IsShown s l bits mark → has_basis (length l.values) mark ≡ true
there_is s l bits evidence.expanded shown = refl
there_is s l bits (evidence.cut of_all rest) shown = refl
there_is s l bits (evidence.cut (landmark number) rest) (there, is, small) = lt-ltb number (length l.values) there
there_is s l bits (evidence.dead of_all) shown = refl
there_is s l bits (evidence.dead (landmark number)) (within, one) = lt-ltb number (length l.values) within

mark_passes : (s : SeveralValues) (l : NumberedLandmarks) (bits : List Bool) (mark : LineMark) → length l.values ≤ 16777216 → IsShown s l bits mark → is_mark four mark ≡ true
mark_passes s l bits evidence.expanded few shown = refl
mark_passes s l bits (evidence.cut of_all rest) few (there, is, small) = lt-ltb rest 1152921504606846976 small
mark_passes s l bits (evidence.cut (landmark number) rest) few (there, is, small) =
    and_from (nat_lt number 16777216) (nat_lt rest 1152921504606846976) (lt-ltb number 16777216 (omega (arith, there, few))) (lt-ltb rest 1152921504606846976 small)
mark_passes s l bits (evidence.dead of_all) few shown = refl
mark_passes s l bits (evidence.dead (landmark number)) few (within, one) = lt-ltb number 16777216 (omega (arith, within, few))

module _ (count : ℕ) (s : SeveralValues) (l : NumberedLandmarks) (few_values : length l.values ≤ 16777216) where
  lines_pass : (marks : List Marked) (states : List (List Bool)) → ((k : ℕ) (bits : List Bool) → slice_get states k ≡ Some bits → length bits ≡ count)
      → ((k : ℕ) (m : Marked) → slice_get marks k ≡ Some m → m.cost < 1152921504606846976)
      → ((k : ℕ) (bits : List Bool) (m : Marked) → slice_get states k ≡ Some bits → slice_get marks k ≡ Some m → IsShown s l bits m.mark)
      → list_all (is_state_line four count) (lines_with marks states) ≡ true
  lines_pass [] states wide cheap shown = refl
  lines_pass (m ∷ marks) [] wide cheap shown = refl
  lines_pass (m ∷ marks) (bits ∷ states) wide cheap shown =
      and_from (is_state_line four count (line_with m bits)) (list_all (is_state_line four count) (lines_with marks states))
      (and_from (is_number m.cost && is_mark four m.mark) (rise count 0 (line_with m bits).atoms)
      (and_from (is_number m.cost) (is_mark four m.mark) (lt-ltb m.cost 1152921504606846976 (cheap 0 m refl)) (mark_passes s l bits m.mark few_values (shown 0 bits m refl refl)))
      (ap (λ width. rise width 0 (line_with m bits).atoms) (sym (wide 0 bits refl)) ∙ numbers_rise bits))
      (lines_pass marks states (λ k. wide (suc k)) (λ k. cheap (suc k)) (λ k. shown (suc k)))

  bases_there : (marks : List Marked) (states : List (List Bool))
      → ((k : ℕ) (bits : List Bool) (m : Marked) → slice_get states k ≡ Some bits → slice_get marks k ≡ Some m → IsShown s l bits m.mark)
      → list_all (λ (c : StateLine). has_basis (length l.values) c.mark) (lines_with marks states) ≡ true
  bases_there [] states shown = refl
  bases_there (m ∷ marks) [] shown = refl
  bases_there (m ∷ marks) (bits ∷ states) shown =
      and_from (has_basis (length l.values) m.mark) (list_all (λ (c : StateLine). has_basis (length l.values) c.mark) (lines_with marks states)) (there_is s l bits m.mark (shown 0 bits m refl refl)) (bases_there marks states (λ k. shown (suc k)))

-- the certificate keeps the limits of a certificate's text
pub keeps : (claim : Claim) (exchanges : List Exchange) (atoms : List Atom) (s : SeveralValues) (l : NumberedLandmarks) (marks : List Marked) (states : List (List Bool))
    → is_claim claim ≡ true → length atoms ≤ 1048576 → is_evidence four (length atoms) s l ≡ true → AreLines (length atoms) s l marks states → are_exchanges four exchanges ≡ true → length exchanges ≤ 1048576
    → keeps_limits (asked_certificate claim exchanges atoms s l marks states) ≡ true
keeps claim exchanges atoms s l marks states small few_atoms are lines exchanges_written few_exchanges =
    let limits = limits_of_four (length atoms) s l are in
    let few_values = few_landmarks (length atoms) l limits.landmarks in
    let long = length-lines_with marks states lines.one_for_each in
    let counted = and_from (is_claim claim && nat_le (length atoms) 1048576) (nat_le (length (lines_with marks states)) 16777216)
    (and_from (is_claim claim) (nat_le (length atoms) 1048576) small (le-leb (length atoms) 1048576 few_atoms)) (le-leb (length (lines_with marks states)) 16777216 (omega (arith, long, lines.few))) in
    let listed = and_from (is_claim claim && nat_le (length atoms) 1048576 && nat_le (length (lines_with marks states)) 16777216) (list_all (is_state_line four (length atoms)) (lines_with marks states)) counted
    (lines_pass (length atoms) s l few_values marks states lines.wide lines.cheap lines.shown) in
    let few_enough = le-leb (length exchanges) 1048576 few_exchanges in
    let bases = bases_there (length atoms) s l few_values marks states lines.shown in
    λ i. (((((((((listed i && limits.value_count i) && limits.values i) && limits.dead_ends i) && limits.tables i) && limits.few_tables i) && limits.few_rows i) && exchanges_written i) && few_enough i) && limits.landmarks i) && bases i

-- ---- what it shows

module _ (task : Task) (claim : Claim) (exchanges : List Exchange) (s : SeveralValues) (l : NumberedLandmarks) (marks : List Marked) (states : List (List Bool)) (class_of : List Bool → List Bool)
    (value : List Bool → ℕ) (is_dead : List Bool → Bool) (most : ℕ) (nodes : List Node) (found : AreFound (ground_system task (numbered_atoms task [])) class_of value is_dead claim most states nodes)
    (roles : map role_in marks ≡ map role_of_line (search.lines_of value is_dead states nodes))
    (alive : (k : ℕ) (bits : List Bool) → slice_get states k ≡ Some bits → is_dead bits ≡ false → is_dead_by (dead_ends_of s) bits ≡ false)
    (no_lower : (k : ℕ) (bits : List Bool) → slice_get states k ≡ Some bits → is_dead bits ≡ false → greatest_value (functions_of s) bits ≤ value bits)
    (supports : AreSupported task (numbered_atoms task []) s l states (map (λ (m : Marked). m.mark) marks)) where
  abbrev atoms : List Atom
  atoms = numbered_atoms task []

  abbrev t : System (List Bool) ℕ
  t = ground_system task atoms

  abbrev pub here : Certificate
  here = made task claim exchanges s l marks states

  abbrev none_more : All (λ (a : Atom). IsTrue (is_fluent task a.predicate)) []
  none_more = λ k d below. absurd (omega (arith, below))

  wide : (k : ℕ) (bits : List Bool) → slice_get states k ≡ Some bits → length bits ≡ length atoms
  wide = found_width task claim exchanges s l marks states class_of value is_dead most nodes found roles

  shown : (k : ℕ) (bits : List Bool) (m : Marked) → slice_get states k ≡ Some bits → slice_get marks k ≡ Some m → IsShown s l bits m.mark
  shown k bits m at_s at_m = supports.shown k bits m.mark at_s (slice_get-map (λ (x : Marked). x.mark) marks k ∙ ap (option_map (λ (x : Marked). x.mark)) at_m)

  dead_fair : (k : ℕ) (m : Marked) → slice_get marks k ≡ Some m → IsFairMark task atoms s.tables l m.mark
  dead_fair k m at = supports.dead_fair k m.mark (slice_get-map (λ (x : Marked). x.mark) marks k ∙ ap (option_map (λ (x : Marked). x.mark)) at)

  as_many : length marks ≡ length states
  as_many = sym (length-map marks role_in) ∙ ap length roles ∙ length-map (search.lines_of value is_dead states nodes) role_of_line ∙ length-lines value is_dead states nodes found.one_for_each

  pub shown_by : is_task task ≡ true → AreClassesBy task exchanges class_of → list_all (can_be_named task) exchanges ≡ true → CanBeWritten (length atoms) (by_tables s) → fair_tables.AreFair task atoms s
      → is_evidence four (length atoms) s l ≡ true → keeps_limits here ≡ true → IsShownBy task claim most here
  shown_by well classes named written fair are kept =
      let limits = limits_of_four (length atoms) s l are in
      record {
        claims = refl;
        closed = record {
          as_many_values = limits.value_count;
          one_weight_an_atom = weights_of_each (length atoms) s.values limits.values;
          one_dead_end_weight_an_atom = one_weight_each (is_dead_end_weight four) (length atoms) s.dead_ends limits.dead_ends;
          tables_are_over_atoms = limits.tables;
          landmarks_are_over_atoms = limits.landmarks;
          landmarks_are_fair = landmarks_fair task claim exchanges s l marks states supports.fair dead_fair;
          are_fair = subst (λ (those : List Atom). fair_tables.AreFair task those s) (sym (numbered_again task)) fair;
          rows_are_distinct = written.rows_are_distinct;
          atoms_are_fluent = λ k d below.
              let a = get_or atoms k d in
              let there = occurs_in-got atoms k a (slice_get-get_or atoms k d below) in
              and_from (is_atom task a) (is_fluent task a.predicate) (numbered_typed task a well there) (numbered-fluent task [] none_more a there);
          atoms_are_distinct = pairs_apart atoms (numbered-distinct task []);
          states_are_distinct = states_distinct task claim exchanges s l marks states class_of value is_dead most nodes found roles;
          exchanges_are_symmetries = subst (λ (those : List Atom). All (λ (e : Exchange). IsTrue (is_symmetry task e && keeps_atoms those e)) exchanges) (sym (numbered_again task)) (each_passes task atoms exchanges classes.symmetries classes.kept);
          listing_is_closed = listing_closed task claim exchanges s l marks states class_of value is_dead most nodes found roles classes;
          lines_are_supported = supported task claim exchanges s l marks states wide shown;
        };
        within_limit = omega (arith, length-lines_with marks states as_many, found.within_limit);
        reached = reached_listed task claim exchanges s l marks states class_of value is_dead most nodes found roles;
        exchanges = named;
        atoms = refl;
        within_limits = kept;
        few_zones = supports.few_zones;
        version = inr (inr refl);
        dead_ends_are_reported = reported_dead task claim exchanges s l marks states class_of value is_dead most nodes found roles alive;
      }

  pub expanded_within : (cost : ℕ) → search.AreExpandedWithin value cost states nodes → AreLinesExpandedWithin task cost here
  expanded_within = open_within task claim exchanges s l marks states class_of value is_dead most nodes found roles no_lower

  pub settled_or_high : AreSettledOrHigh task atoms (first_value (by_tables s)) → AreDeadSettledOrHigh task atoms s.dead_ends
      → initial_value task atoms (first_value (by_tables s)) ≤ greatest_value (functions_of s) t.initial → HasSettledOrHigh task here
  settled_or_high given dead_given start = record {
    potentials = given;
    dead_ends = dead_given;
    no_lower = omega (arith, start, value_at_start task claim exchanges s l marks states);
  }

-- ---- at a limit

module _ (task : Task) (least : ℕ) (exchanges : List Exchange) (s : SeveralValues) (l : NumberedLandmarks) (marks : List Marked) (states : List (List Bool)) (class_of : List Bool → List Bool)
    (value : List Bool → ℕ) (is_dead : List Bool → Bool) (most : ℕ) (nodes : List Node) (limit : search.IsAtLimit (ground_system task (numbered_atoms task [])) class_of value is_dead most least states nodes)
    (roles : map role_in marks ≡ map role_of_line (search.lines_of value is_dead states nodes))
    (no_lower : (k : ℕ) (bits : List Bool) → slice_get states k ≡ Some bits → is_dead bits ≡ false → greatest_value (functions_of s) bits ≤ value bits)
    (consistent : IsConsistent (ground_system task (numbered_atoms task [])) (greatest_value (functions_of s)))
    (shown : (k : ℕ) (bits : List Bool) (m : Marked) → slice_get states k ≡ Some bits → slice_get marks k ≡ Some m → IsShown s l bits m.mark) where
  abbrev there : Certificate
  there = made task (bound least) exchanges s l marks states

  abbrev u : System (List Bool) ℕ
  u = ground_system task (numbered_atoms task [])

  abbrev line_for : List Bool → Node → Line State
  line_for x n = view task (bound least) exchanges s l marks states (search.line_of value is_dead x n)

  -- a cut is that of a state that waits, with its value
  cut_found : (line : Line State) (rest : ℕ) → IsCutOf task there line rest
      → (k : ℕ) × (x : List Bool) × (n : Node) × (slice_get states k ≡ Some x) × (slice_get nodes k ≡ Some n) × (line ≡ line_for x n) × search.IsCut is_dead x n × (value x ≡ rest)
  cut_found line rest (among, is_cut) =
      let (k, x, n, at_x, at_n, from) = line_found task (bound least) exchanges s l marks states class_of value is_dead most nodes limit.found roles line among in
      let (waits, same) = waits_of_cut value is_dead x n rest (ap (λ (c : Line State). c.mark) (sym from) ∙ is_cut) in
      (k, x, n, at_x, at_n, from, waits, same)

  wide_there : (k : ℕ) (bits : List Bool) → slice_get states k ≡ Some bits → length bits ≡ length (numbered_atoms task [])
  wide_there = found_width task (bound least) exchanges s l marks states class_of value is_dead most nodes limit.found roles

  as_many_there : length marks ≡ length states
  as_many_there = sym (length-map marks role_in) ∙ ap length roles ∙ length-map (search.lines_of value is_dead states nodes) role_of_line ∙ length-lines value is_dead states nodes limit.found.one_for_each

  pub at_limit : IsAtLimit task least most there
  at_limit = record {
    full = length-lines_with marks states as_many_there ∙ limit.full;
    cuts_by_basis = cuts_by_basis task (bound least) exchanges s l marks states wide_there shown;
    cuts_by_value = λ none. absurd (true≢false none);
    cuts_no_lower = λ line rest is_cut.
        let (k, x, n, at_x, at_n, from, waits, same) = cut_found line rest is_cut in
        let value_same : value_of task there line.state ≡ value_of task there (state_of_bits task (numbered_atoms task []) x) = ap (λ (c : Line State). value_of task there c.state) from in
        omega (arith, no_lower k x at_x waits.1, same, value_same, value_found task (bound least) exchanges s l marks states x (wide_there k x at_x));
    at_most_each_cut = λ line rest is_cut.
        let (k, x, n, at_x, at_n, from, waits, same) = cut_found line rest is_cut in
        let cost_same : line.cost ≡ n.cost = ap (λ (c : Line State). c.cost) from in
        omega (arith, limit.at_most_each_cut k x n at_x at_n waits, same, cost_same);
    of_some_cut =
        let (k, x, n, at_x, at_n, waits, sum) = limit.of_some_cut in
        let among = Contains-map (view task (bound least) exchanges s l marks states) (search.lines_of value is_dead states nodes) (search.line_of value is_dead x n) (line_among value is_dead states nodes k x n at_x at_n) in
        (line_for x n, value x, (subst (λ (ls : List (Line State)). Contains ls (line_for x n)) (sym (listing task (bound least) exchanges s l marks states value is_dead nodes limit.found.one_for_each roles)) among, cut_of_waits value is_dead x n waits), sum);
    expanded_no_dearer = λ line among is_open plan solves.
        let (k, x, n, at_x, at_n, was, sum) = expanded_line task (bound least) exchanges s l marks states class_of value is_dead most nodes limit.found roles no_lower line among is_open in
        omega (arith, sum, task_costs_at_least task (numbered_atoms task []) refl (n.cost + value x) (limit.expanded_no_dearer k x n at_x at_n was) plan solves);
    open_within = λ none. absurd (true≢false none);
    start_within =
        let (k, x, n, at_x, at_n, waits, sum) = limit.of_some_cut in
        let (actions, runs, cost) = limit.found.reachable k x n at_x at_n in
        omega (arith, falls_along u (greatest_value (functions_of s)) consistent actions u.initial x runs, cost, no_lower k x at_x waits.1, sum, value_at_start task (bound least) exchanges s l marks states);
  }
