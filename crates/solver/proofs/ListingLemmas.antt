-- The lines of the found states make a closed certificate.
use Rattle.std.proofs.Common.{◌≡◌, ◌∙◌, ◌≢◌, ℕ, zero, suc, ◌+◌, ◌<◌, ◌≤◌, Bool, true, false, not, ◌&&◌, List, [], ◌∷◌, ◌++◌, length, map, get_or, cond, Some, inl, inr, refl, sym, ap, subst, arith}
use Rattle.std.specs.Prelude.{nat_le, nat_lt, slice_get, Contains, All, AllPairs, ◌⊎◌, IsTrue, filter, if◌then◌else◌}
use Rattle.std.specs.List.{list_all, filter_map, range_with_len, cons_option}
use Rattle.std.specs.Option.{option_map}
use Rattle.std.specs.FinSet.{from_list}
use Rattle.std.proofs.lemmas.Bool.{and_parts, and_from, not-true, true≢false, lt-ltb, le-leb}
use Rattle.std.proofs.lemmas.List.{length-map}
use Rattle.std.proofs.lemmas.List.Elements.{All-cons, All-contains_itself, All-nil}
use Rattle.std.proofs.lemmas.Simd.{map-map}
use Rattle.std.proofs.lemmas.Option.{slice_get-get_or, slice_get_within, slice_get-map}
use Rattle.packed_state.specs.Sets.{has}
use Rattle.packed_state.specs.Store.{AreDistinct}
use Rattle.search.specs.declared.nodes.Node.{Node}
use Rattle.search.specs.Outcome as search
use Rattle.search.proofs.Closed.{cut_reported, dead_reported}
use Rattle.search.specs.Outcome.{AreFound, AreExpandedWithin, AreOfOneClass, IsReachableAt}
use Rattle.lower_bounds.specs.Settled.{initial_value}
use Rattle.solver.specs.Improved.{AreSettledOrHigh, AreDeadSettledOrHigh, HasSettledOrHigh}
use Rattle.solver.specs.Listing.{numbers_in, by_all, state_line, found_certificate, IsShownBy, AreLinesExpandedWithin}
use Rattle.solver.proofs.TypedLemmas.{numbered_typed}
use Rattle.search_spaces.proofs.GroundLemmas.{distinct_states}
use Rattle.solver.specs.Guidance.{Guidance, by_potentials, by_tables, CanBeWritten, AreFairBy, estimate_by, reports_dead, version_by, values_by, first_value}
use Rattle.certificate.proofs.WithinLimits.{one_weight_each, weights_of_each}
use Rattle.solver.proofs.GuidanceLemmas.{AreLimits, limits_of, most_value, estimate-most, mark-passes, value-found, value-at-start, dead-found, fair-found}
use Rattle.solver.proofs.FoundLines.{bare-by_all, expanded_of_open, dead_of_reported, found_line, have_bases, length-lines, node_at, none-dead_by}
use Rattle.lower_bounds.specs.FairLandmarks.{IsFair, IsDeadFair}
use Rattle.model.specs.Task.{Task, Atom}
use Rattle.model.specs.WellTyped.{is_task, is_atom}
use Rattle.model.specs.Runs.{System}
use Rattle.model.specs.Claims.{Claim, expanded, cut, dead, Line, IsClosed}
use Rattle.model.specs.Meaning.{State, initial_state, system_of}
use Rattle.model.specs.Fluents.{is_fluent, static_atoms}
use Rattle.model.specs.NumberedAtoms.{occurs_in, are_distinct, numbered_atoms}
use Rattle.model.specs.Grounding.{chosen, state_of_bits, ground_system, NamesKept}
use Rattle.certificate_definitions.specs.Certificates.{two, three, four, Certificate, StateLine, is_number, is_claim, is_mark, is_dead_end_weight, is_state_line, keeps_limits, rise, state_of_line, lines_of, AreAlikeFor, are_exchanges, value_of, is_dead_end_of, IsSupported, landmark_function}
use Rattle.certificate_definitions.specs.Evidence.{bare}
use Rattle.symmetries_definitions.specs.Exchanges.{Exchange}
use Rattle.symmetries_definitions.specs.Symmetries.{is_symmetry}
use Rattle.symmetries_definitions.specs.Orbits.{AreAlike, keeps_atoms}
use Rattle.search_spaces.specs.Exchanges.{can_be_named}
use Rattle.solver.proofs.ClassLemmas.{AreClassesBy}
use Rattle.search_spaces.proofs.TaskLemmas.{ground_does, length-reachable, reached_at}
use Rattle.lower_bounds.specs.TableFunctions.{SeveralValues}
use Rattle.model.proofs.ListLemmas.{map-Contains}
use Rattle.model.proofs.LimitsLemmas.{numbered_again}
use Rattle.model.proofs.NumberingLemmas.{occurs_in-got}
use Rattle.model.proofs.GroundTaskLemmas.{numbered-distinct, numbered-fluent}
use Rattle.model.proofs.BisimilarListings.{closed_forth}

-- ---- a packed state by its numbers

plus_one : (k : ℕ) → k + 1 ≡ suc k
plus_one k = omega arith

-- over numbers that are one greater
filter_later : (p : ℕ → Bool) (from n : ℕ) → filter p (range_with_len (from + 1) n) ≡ map (λ k. k + 1) (filter (λ k. p (k + 1)) (range_with_len from n))
filter_later p from zero = refl
filter_later p from (suc n) =
    let later = filter_later p (from + 1) n in
    elim (p (from + 1)) as (λ v. cond v ((from + 1) ∷ filter p (range_with_len (from + 1 + 1) n)) (filter p (range_with_len (from + 1 + 1) n))
    ≡ map (λ k. k + 1) (cond v (from ∷ filter (λ k. p (k + 1)) (range_with_len (from + 1) n)) (filter (λ k. p (k + 1)) (range_with_len (from + 1) n)))) [
      | true ↦ λ i. (from + 1) ∷ later i
      | false ↦ later
    ]

filter_same : (p q : ℕ → Bool) (numbers : List ℕ) → ((k : ℕ) → p k ≡ q k) → filter p numbers ≡ filter q numbers
filter_same p q [] same = refl
filter_same p q (n ∷ numbers) same = λ i. cond (same n i) (n ∷ filter_same p q numbers same i) (filter_same p q numbers same i)

next_has : (b : Bool) (bits : List Bool) (k : ℕ) → has (b ∷ bits) (k + 1) ≡ has bits k
next_has b bits k = ap (has (b ∷ bits)) (plus_one k)

named_later : (a : Atom) (atoms : List Atom) (numbers : List ℕ) → filter_map (slice_get (a ∷ atoms)) (map (λ k. k + 1) numbers) ≡ filter_map (slice_get atoms) numbers
named_later a atoms [] = refl
named_later a atoms (n ∷ numbers) = λ i. cons_option (slice_get (a ∷ atoms) (plus_one n i)) (named_later a atoms numbers i)

abbrev no_atoms : List Atom
no_atoms = []

none_named : (numbers : List ℕ) → filter_map (slice_get no_atoms) numbers ≡ []
none_named [] = refl
none_named (n ∷ numbers) = none_named numbers

-- the atoms that its numbers name are those whose bits are set
pub named_chosen : (atoms : List Atom) (bits : List Bool) → filter_map (slice_get atoms) (numbers_in bits) ≡ chosen atoms bits
named_chosen [] bits = none_named (numbers_in bits)
named_chosen (a ∷ atoms) [] = refl
named_chosen (a ∷ atoms) (b ∷ bits) =
    let later =
    ap (filter_map (slice_get (a ∷ atoms))) (filter_later (has (b ∷ bits)) 0 (length bits))
    ∙ named_later a atoms (filter (λ k. has (b ∷ bits) (k + 1)) (range_with_len 0 (length bits)))
    ∙ ap (filter_map (slice_get atoms)) (filter_same (λ k. has (b ∷ bits) (k + 1)) (has bits) (range_with_len 0 (length bits)) (next_has b bits))
    ∙ named_chosen atoms bits in
    elim b as (λ v. filter_map (slice_get (a ∷ atoms)) (cond v (0 ∷ filter (has (b ∷ bits)) (range_with_len 1 (length bits))) (filter (has (b ∷ bits)) (range_with_len 1 (length bits))))
    ≡ (if v then a ∷ chosen atoms bits else chosen atoms bits)) [
      | true ↦ λ i. a ∷ later i
      | false ↦ later
    ]

-- and they rise
rise_filter : (p : ℕ → Bool) (count least from n : ℕ) → least ≤ from → from + n ≤ count → rise count least (filter p (range_with_len from n)) ≡ true
rise_filter p count least from zero above within = refl
rise_filter p count least from (suc n) above within =
    elim (p from) as (λ v. rise count least (cond v (from ∷ filter p (range_with_len (from + 1) n)) (filter p (range_with_len (from + 1) n))) ≡ true) [
      | true ↦
          and_from (nat_le least from && nat_lt from count) (rise count (from + 1) (filter p (range_with_len (from + 1) n)))
          (and_from (nat_le least from) (nat_lt from count) (le-leb least from above) (lt-ltb from count (omega (arith, within))))
          (rise_filter p count (from + 1) (from + 1) n (omega arith) (omega (arith, within)))
      | false ↦ rise_filter p count least (from + 1) n (omega (arith, above)) (omega (arith, within))
    ]

pub numbers_rise : (bits : List Bool) → rise (length bits) 0 (numbers_in bits) ≡ true
numbers_rise bits = rise_filter (has bits) (length bits) 0 0 (length bits) (omega arith) (omega arith)

-- ---- the lines

-- lines of distinct states
pub states_apart : {S : Type 0} (lines : List (Line S)) → AreDistinct (map (λ (l : Line S). l.state) lines) → AllPairs (λ (k l : Line S). k.state ≢ l.state) lines
states_apart {S} lines distinct i j d before within is =
    let place = distinct i j (get_or lines i d).state (state_at i (omega (arith, before, within))) (state_at j within ∙ ap Some (sym is)) in
    absurd (omega (arith, before, place))
  where
    state_at : (k : ℕ) → k < length lines → slice_get (map (λ (l : Line S). l.state) lines) k ≡ Some (get_or lines k d).state
    state_at k below = slice_get-map (λ (l : Line S). l.state) lines k ∙ ap (option_map (λ (l : Line S). l.state)) (slice_get-get_or lines k d below)

pub pairs_apart : (atoms : List Atom) → are_distinct atoms ≡ true → AllPairs (λ (a b : Atom). a ≢ b) atoms
pairs_apart [] distinct i j d before within = absurd (omega (arith, within))
pairs_apart (a ∷ atoms) distinct zero zero d before within = absurd (omega (arith, before))
pairs_apart (a ∷ atoms) distinct (suc i) zero d before within = absurd (omega (arith, before))
pairs_apart (a ∷ atoms) distinct zero (suc j) d before within =
    λ same.
    let parts = and_parts (not (occurs_in atoms a)) (are_distinct atoms) distinct in
    let there = occurs_in-got atoms j (get_or atoms j d) (slice_get-get_or atoms j d (omega (arith, within))) in
    true≢false (sym (ap (occurs_in atoms) same ∙ there) ∙ not-true (occurs_in atoms a) parts.0)
pairs_apart (a ∷ atoms) distinct (suc i) (suc j) d before within =
    pairs_apart atoms (and_parts (not (occurs_in atoms a)) (are_distinct atoms) distinct).1 i j d (omega (arith, before)) (omega (arith, within))

-- ---- the exchanges

-- each is a symmetry that keeps these atoms, if all are symmetries and all keep them
pub each_passes : (task : Task) (atoms : List Atom) (exchanges : List Exchange) → list_all (is_symmetry task) exchanges ≡ true → list_all (keeps_atoms atoms) exchanges ≡ true
    → All (λ (e : Exchange). IsTrue (is_symmetry task e && keeps_atoms atoms e)) exchanges
each_passes task atoms [] symmetric kept = All-nil (λ (e : Exchange). IsTrue (is_symmetry task e && keeps_atoms atoms e))
each_passes task atoms (e ∷ exchanges) symmetric kept =
    let (is, all) = and_parts (is_symmetry task e) (list_all (is_symmetry task) exchanges) symmetric in
    let (keeps_it, keep_all) = and_parts (keeps_atoms atoms e) (list_all (keeps_atoms atoms) exchanges) kept in
    All-cons (λ (x : Exchange). IsTrue (is_symmetry task x && keeps_atoms atoms x)) e exchanges (and_from (is_symmetry task e) (keeps_atoms atoms e) is keeps_it) (each_passes task atoms exchanges all keep_all)

-- which states are alike where the atoms are the numbered ones
pub alike_by : (task : Task) (c : Certificate) → c.atoms ≡ numbered_atoms task [] → AreAlikeFor task c ≡ AreAlike (numbered_atoms task []) c.exchanges
alike_by task c numbered = ap (λ (l : List Atom). AreAlike l c.exchanges) (ap (numbered_atoms task) numbered ∙ numbered_again task)

-- ---- the certificate

known_version : (guidance : Guidance) → (version_by guidance ≡ two) ⊎ (version_by guidance ≡ three) ⊎ (version_by guidance ≡ four)
known_version (by_potentials p dead_ends) = inl refl
known_version (by_tables s) = inr (inl refl)

module _ (task : Task) (claim : Claim) (most : ℕ) (exchanges : List Exchange) (guidance : Guidance) (states : List (List Bool)) (nodes : List Node) where
  abbrev atoms : List Atom
  atoms = numbered_atoms task []

  abbrev none_more : All (λ (a : Atom). IsTrue (is_fluent task a.predicate)) []
  none_more = λ k d below. absurd (omega (arith, below))

  abbrev pub view : Line (List Bool) → Line State
  view line = record { state = state_of_bits task atoms line.state; cost = line.cost; mark = line.mark }

  abbrev lines : List (Line (List Bool))
  lines = search.lines_of (estimate_by guidance) (reports_dead guidance) states nodes

  abbrev pub made : Certificate
  made = found_certificate claim exchanges atoms guidance states nodes

  abbrev entry : StateLine → Line State
  entry l = record { state = state_of_line task made l; cost = l.cost; mark = bare l.mark }

  pub listing : lines_of task made ≡ map view lines
  listing = map-map entry state_line lines ∙ each lines
    where
      each : (ls : List (Line (List Bool))) → map (λ l. entry (state_line l)) ls ≡ map view ls
      each [] = refl
      each (l ∷ ls) = λ i. record { state = from_list (named_chosen atoms l.state i ++ static_atoms task); cost = l.cost; mark = bare-by_all l.mark i } ∷ each ls i

  -- the states of the listing, in their order
  listed_states : (ss : List (List Bool)) (ns : List Node) → length ns ≡ length ss
      → map (λ (l : Line State). l.state) (map view (search.lines_of (estimate_by guidance) (reports_dead guidance) ss ns)) ≡ map (state_of_bits task atoms) ss
  listed_states [] ns one = refl
  listed_states (s ∷ ss) [] one = absurd (omega (arith, one))
  listed_states (s ∷ ss) (n ∷ ns) one = ap (λ later. state_of_bits task atoms s ∷ later) (listed_states ss ns (omega (arith, one)))

  pub length-made : length nodes ≡ length states → length made.lines ≡ length states
  length-made one = length-map lines state_line ∙ length-lines (estimate_by guidance) (reports_dead guidance) states nodes one

  -- a line of the listing is that of a found state
  pub line_found : (line : Line State) → Contains (lines_of task made) line
      → (k : ℕ) × (s : List Bool) × (n : Node) × (slice_get states k ≡ Some s) × (slice_get nodes k ≡ Some n) × (line ≡ view (search.line_of (estimate_by guidance) (reports_dead guidance) s n))
  line_found line' among' =
      let (line, among, is) = map-Contains view lines line' (subst (λ (ls : List (Line State)). Contains ls line') listing among') in
      let (k, s, n, there, here, from) = found_line (estimate_by guidance) (reports_dead guidance) states nodes line among in
      (k, s, n, there, here, sym is ∙ ap view from)

  abbrev t : System (List Bool) ℕ
  t = ground_system task atoms

  module _ (class_of : List Bool → List Bool) (found : AreFound t class_of (estimate_by guidance) (reports_dead guidance) claim most states nodes) where
    pub found_width : (k : ℕ) (bits : List Bool) → slice_get states k ≡ Some bits → length bits ≡ length atoms
    found_width k bits at =
        let (node, there) = node_at nodes k (omega (arith, slice_get_within states k bits at, found.one_for_each)) in
        let reached = found.reachable k bits node at there in
        length-reachable task atoms refl bits (reached.0, reached.1)

    -- the certificate gives a listed state the value by which it was found
    pub same_value : (k : ℕ) (bits : List Bool) → slice_get states k ≡ Some bits → value_of task made (state_of_bits task atoms bits) ≡ estimate_by guidance bits
    same_value k bits at = value-found task claim exchanges states nodes bits (found_width k bits at) guidance

    -- and reports it a dead end where it was found so
    same_dead : (k : ℕ) (bits : List Bool) → slice_get states k ≡ Some bits → is_dead_end_of task made (state_of_bits task atoms bits) ≡ reports_dead guidance bits
    same_dead k bits at = dead-found task claim exchanges states nodes bits (found_width k bits at) guidance

    -- so what its lines say rests on its values
    supported : (line : Line (List Bool)) → Contains lines line → IsSupported task made (state_of_line task made (state_line line)) (by_all line.mark)
    supported line among =
        let (k, s, n, there, here, is) = found_line (estimate_by guidance) (reports_dead guidance) states nodes line among in
        let at : slice_get states k ≡ Some line.state = there ∙ ap (λ (l : Line (List Bool)). Some l.state) (sym is) in
        let same : state_of_line task made (state_line line) ≡ state_of_bits task atoms line.state = λ i. from_list (named_chosen atoms line.state i ++ static_atoms task) in
        subst (λ (s : State). IsSupported task made s (by_all line.mark)) (sym same) (
        elim line.mark as (λ m. line.mark ≡ m → IsSupported task made (state_of_bits task atoms line.state) (by_all m)) [
          | expanded ↦ λ is_open. tt
          | cut rest ↦ λ is_cut. omega (arith, cut_reported (estimate_by guidance) (reports_dead guidance) states nodes line rest among is_cut, same_value k line.state at)
          | dead ↦ λ is_dead. same_dead k line.state at ∙ dead_reported (estimate_by guidance) (reports_dead guidance) states nodes line among is_dead
        ] refl
        )

    reported_dead : (line : Line State) → Contains (lines_of task made) line → is_dead_end_of task made line.state ≡ true → line.mark ≡ dead
    reported_dead line among reported =
        let (k, s, n, there, here, is) = line_found line among in
        let dead_found : reports_dead guidance s ≡ true = sym (same_dead k s there) ∙ ap (λ (l : Line State). is_dead_end_of task made l.state) (sym is) ∙ reported in
        ap (λ (l : Line State). l.mark) is ∙ dead_of_reported (estimate_by guidance) (reports_dead guidance) s n (found.expanded_alive k s n there here) dead_found

    reached_listed : (line : Line State) → Contains (lines_of task made) line → IsReachableAt (system_of task) line.state line.cost
    reached_listed line among =
        let (k, s, n, at_s, at_n, is) = line_found line among in
        subst (λ (l : Line State). IsReachableAt (system_of task) l.state l.cost) (sym is) (reached_at task atoms refl s n.cost (found.reachable k s n at_s at_n))

    pub shown_by : is_task task ≡ true → AreClassesBy task exchanges class_of → list_all (can_be_named task) exchanges ≡ true → CanBeWritten (length atoms) guidance → AreFairBy task atoms guidance → keeps_limits made ≡ true → IsShownBy task claim (length states) made
    shown_by well classes named written fair kept = record {
      claims = refl;
      closed = record {
        as_many_values = limits.value_count;
        one_weight_an_atom = weights_of_each (length atoms) values.values limits.values;
        one_dead_end_weight_an_atom = one_weight_each (is_dead_end_weight (version_by guidance)) (length atoms) values.dead_ends limits.dead_ends;
        tables_are_over_atoms = limits.tables;
        landmarks_are_over_atoms = limits.landmarks;
        landmarks_are_fair = record {
          values = All-nil (IsFair task (numbered_atoms task atoms));
          dead_ends = subst (All (λ (number : ℕ). IsDeadFair task (numbered_atoms task atoms) (landmark_function made number))) (sym (none-dead_by lines)) (All-nil (λ (number : ℕ). IsDeadFair task (numbered_atoms task atoms) (landmark_function made number)));
        };
        are_fair = fair-found task claim exchanges states nodes guidance fair;
        rows_are_distinct = written.rows_are_distinct;
        atoms_are_fluent = λ k d below.
            let a = get_or atoms k d in
            let there = occurs_in-got atoms k a (slice_get-get_or atoms k d below) in
            and_from (is_atom task a) (is_fluent task a.predicate) (numbered_typed task a well there) (numbered-fluent task [] none_more a there);
        atoms_are_distinct = pairs_apart atoms (numbered-distinct task []);
        states_are_distinct = subst (AllPairs (λ (k l : Line State). k.state ≢ l.state)) (sym listing)
            (states_apart (map view lines) (subst (λ (ss : List State). AreDistinct ss) (sym (listed_states states nodes found.one_for_each)) (distinct_states task states found_width found.distinct)));
        exchanges_are_symmetries = subst (λ (l : List Atom). All (λ (e : Exchange). IsTrue (is_symmetry task e && keeps_atoms l e)) exchanges) (sym (numbered_again task)) (each_passes task atoms exchanges classes.symmetries classes.kept);
        listing_is_closed = subst (λ (alike : State → State → Type 0). IsClosed (system_of task) alike claim (lines_of task made)) (sym (alike_by task made refl))
            (subst (IsClosed (system_of task) (AreAlike atoms exchanges) claim) (sym listing)
            (closed_forth t (system_of task) (state_of_bits task atoms) (NamesKept task) (ground_does task atoms refl) (AreOfOneClass class_of) (AreAlike atoms exchanges) classes.seen claim lines found.closed));
        lines_are_supported = λ place d within.
            let l = get_or made.lines place d in
            let (line, among, is) = map-Contains state_line lines l (All-contains_itself made.lines place d within) in
            subst (λ (l : StateLine). IsSupported task made (state_of_line task made l) l.mark) is (supported line among);
      };
      within_limit = omega (arith, length-made found.one_for_each);
      reached = reached_listed;
      exchanges = named;
      atoms = refl;
      within_limits = kept;
      few_zones = refl;
      version = known_version guidance;
      dead_ends_are_reported = reported_dead;
    }
      where
        values : SeveralValues
        values = values_by guidance

        limits : AreLimits (version_by guidance) (length atoms) values
        limits = limits_of (version_by guidance) (length atoms) values written.within_limits

    pub open_within : (cost : ℕ) → AreExpandedWithin (estimate_by guidance) cost states nodes → AreLinesExpandedWithin task cost made
    open_within cost within line among is_open =
        let (k, s, n, there, here, is) = line_found line among in
        let marked : search.mark_of (estimate_by guidance) (reports_dead guidance) s n ≡ expanded = ap (λ (l : Line State). l.mark) (sym is) ∙ is_open in
        let cheap = within k s n there here (expanded_of_open (estimate_by guidance) (reports_dead guidance) s n marked) in
        let same = same_value k s there in
        let value_same : value_of task made line.state ≡ value_of task made (state_of_bits task atoms s) = ap (λ (l : Line State). value_of task made l.state) is in
        let cost_same : line.cost ≡ n.cost = ap (λ (l : Line State). l.cost) is in
        omega (arith, cheap, same, value_same, cost_same)

    module _ (written : CanBeWritten (length atoms) guidance) (few_atoms : length atoms ≤ 1048576) (exchanges_written : are_exchanges (version_by guidance) exchanges ≡ true) (few_exchanges : length exchanges ≤ 1048576) where
      small_value : (k : ℕ) (bits : List Bool) → slice_get states k ≡ Some bits → estimate_by guidance bits ≤ most_value
      small_value k bits at = estimate-most (length atoms) guidance written.within_limits bits (omega (arith, few_atoms, found_width k bits at))

      pub keeps : is_claim claim ≡ true → most ≤ 16777216 → keeps_limits made ≡ true
      keeps small few =
          let counted = and_from (is_claim claim && nat_le (length atoms) 1048576) (nat_le (length made.lines) 16777216)
          (and_from (is_claim claim) (nat_le (length atoms) 1048576) small (le-leb (length atoms) 1048576 few_atoms))
          (le-leb (length made.lines) 16777216 (omega (arith, length-made found.one_for_each, found.within_limit, few))) in
          let listed = and_from (is_claim claim && nat_le (length atoms) 1048576 && nat_le (length made.lines) 16777216) (list_all (is_state_line (version_by guidance) (length atoms)) made.lines) counted
          (all_pass states nodes found_width small_value (λ k node at. omega (arith, found.cheap k node at, found.within_limit, few))) in
          let limits = limits_of (version_by guidance) (length atoms) (values_by guidance) written.within_limits in
          let few_enough = le-leb (length exchanges) 1048576 few_exchanges in
          λ i. (((((((((listed i && limits.value_count i) && limits.values i) && limits.dead_ends i) && limits.tables i) && limits.few_tables i) && limits.few_rows i) && exchanges_written i) && few_enough i) && limits.landmarks i) && have_bases 0 lines i
        where
          all_pass : (ss : List (List Bool)) (ns : List Node) → ((k : ℕ) (bits : List Bool) → slice_get ss k ≡ Some bits → length bits ≡ length atoms)
              → ((k : ℕ) (bits : List Bool) → slice_get ss k ≡ Some bits → estimate_by guidance bits ≤ most_value)
              → ((k : ℕ) (node : Node) → slice_get ns k ≡ Some node → node.cost < 1152921504606846976)
              → list_all (is_state_line (version_by guidance) (length atoms)) (map state_line (search.lines_of (estimate_by guidance) (reports_dead guidance) ss ns)) ≡ true
          all_pass [] ns long low cheap = refl
          all_pass (s ∷ ss) [] long low cheap = refl
          all_pass (s ∷ ss) (n ∷ ns) long low cheap =
              let mark = by_all (search.mark_of (estimate_by guidance) (reports_dead guidance) s n) in
              and_from (is_state_line (version_by guidance) (length atoms) (state_line (search.line_of (estimate_by guidance) (reports_dead guidance) s n)))
              (list_all (is_state_line (version_by guidance) (length atoms)) (map state_line (search.lines_of (estimate_by guidance) (reports_dead guidance) ss ns)))
              (and_from (is_number n.cost && is_mark (version_by guidance) mark) (rise (length atoms) 0 (numbers_in s))
              (and_from (is_number n.cost) (is_mark (version_by guidance) mark) (lt-ltb n.cost 1152921504606846976 (cheap 0 n refl)) (mark-passes guidance (search.is_expanded n) (reports_dead guidance s) (estimate_by guidance s) (low 0 s refl)))
              (ap (λ width. rise width 0 (numbers_in s)) (sym (long 0 s refl)) ∙ numbers_rise s))
              (all_pass ss ns (λ k. long (suc k)) (λ k. low (suc k)) (λ k. cheap (suc k)))

-- ---- for a certificate of these parts

-- what a number of states shows is shown where more are allowed
pub more_allowed : {task : Task} {claim : Claim} {count most : ℕ} {certificate : Certificate} → IsShownBy task claim count certificate → count ≤ most → IsShownBy task claim most certificate
more_allowed given le = record {
  claims = given.claims;
  closed = given.closed;
  within_limit = omega (arith, given.within_limit, le);
  reached = given.reached;
  exchanges = given.exchanges;
  atoms = given.atoms;
  within_limits = given.within_limits;
  few_zones = given.few_zones;
  version = given.version;
  dead_ends_are_reported = given.dead_ends_are_reported;
}

module _ (task : Task) (claim : Claim) (most : ℕ) (exchanges : List Exchange) (guidance : Guidance) (states : List (List Bool)) (nodes : List Node) (known : List Atom) (numbered : known ≡ numbered_atoms task [])
    (class_of : List Bool → List Bool) (found : AreFound (ground_system task known) class_of (estimate_by guidance) (reports_dead guidance) claim most states nodes)
    (certificate : Certificate) (is : certificate ≡ found_certificate claim exchanges known guidance states nodes) where
  found_by_numbers : AreFound (ground_system task (numbered_atoms task [])) class_of (estimate_by guidance) (reports_dead guidance) claim most states nodes
  found_by_numbers = subst (λ (l : List Atom). AreFound (ground_system task l) class_of (estimate_by guidance) (reports_dead guidance) claim most states nodes) numbered found

  pub is_made : made task claim most exchanges guidance states nodes ≡ certificate
  is_made = sym (is ∙ ap (λ (l : List Atom). found_certificate claim exchanges l guidance states nodes) numbered)

  pub shown : (max_states : ℕ) → length states ≤ max_states → is_task task ≡ true → AreClassesBy task exchanges class_of → list_all (can_be_named task) exchanges ≡ true → CanBeWritten (length known) guidance
      → AreFairBy task known guidance → keeps_limits certificate ≡ true → IsShownBy task claim max_states certificate
  shown max_states le well classes named written fair kept =
      more_allowed (subst (IsShownBy task claim (length states)) is_made
      (shown_by task claim most exchanges guidance states nodes class_of found_by_numbers well classes named (subst (λ (l : List Atom). CanBeWritten (length l) guidance) numbered written)
      (subst (λ (l : List Atom). AreFairBy task l guidance) numbered fair) (ap keeps_limits is_made ∙ kept))) le

  pub opened_within : (cost : ℕ) → AreExpandedWithin (estimate_by guidance) cost states nodes → AreLinesExpandedWithin task cost certificate
  opened_within cost within = subst (AreLinesExpandedWithin task cost) is_made (open_within task claim most exchanges guidance states nodes class_of found_by_numbers cost within)

  pub value_at_start : value_of task certificate (initial_state task) ≡ estimate_by guidance (ground_system task known).initial
  value_at_start =
      subst (λ (c : Certificate). value_of task c (initial_state task) ≡ estimate_by guidance (ground_system task known).initial) is_made
      (subst (λ (l : List Atom). value_of task (made task claim most exchanges guidance states nodes) (initial_state task) ≡ estimate_by guidance (ground_system task l).initial) (sym numbered)
      (value-at-start task claim exchanges states nodes guidance))

  pub settled_or_high : AreSettledOrHigh task known (first_value guidance) → AreDeadSettledOrHigh task known (values_by guidance).dead_ends
      → initial_value task known (first_value guidance) ≤ estimate_by guidance (ground_system task known).initial → HasSettledOrHigh task certificate
  settled_or_high given dead_given start =
      subst (HasSettledOrHigh task) (sym is) (record {
        potentials = given;
        dead_ends = dead_given;
        no_lower = subst (λ (n : ℕ). initial_value task known (first_value guidance) ≤ n) (sym value_at_start ∙ ap (λ (c : Certificate). value_of task c (initial_state task)) is) start;
      })

  pub within_limits : CanBeWritten (length known) guidance → is_claim claim ≡ true → length known ≤ 1048576 → most ≤ 16777216 → are_exchanges (version_by guidance) exchanges ≡ true → length exchanges ≤ 1048576 → keeps_limits certificate ≡ true
  within_limits written small few_atoms few exchanges_written few_exchanges =
      ap keeps_limits (sym is_made)
      ∙ keeps task claim most exchanges guidance states nodes class_of found_by_numbers (subst (λ (l : List Atom). CanBeWritten (length l) guidance) numbered written) (subst (λ (l : List Atom). length l ≤ 1048576) numbered few_atoms) exchanges_written few_exchanges small few
