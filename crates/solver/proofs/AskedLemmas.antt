-- The lines of the states that a search found by values on demand make a closed certificate.
use Rattle.std.proofs.Common.{◌≡◌, ◌∙◌, ◌≢◌, ℕ, zero, suc, ◌+◌, ◌<◌, ◌≤◌, Bool, true, false, List, [], ◌∷◌, ◌++◌, length, map, get_or, Some, refl, sym, ap, subst, arith}
use Rattle.std.specs.Prelude.{nat_le, slice_get, Contains, All, AllPairs}
use Rattle.std.specs.List.{filter_map, cons_option}
use Rattle.std.specs.Option.{option_map}
use Rattle.std.specs.FinSet.{from_list}
use Rattle.std.proofs.lemmas.Bool.{le-leb, true≢false}
use Rattle.std.proofs.lemmas.List.{length-map}
use Rattle.std.proofs.lemmas.List.Elements.{All-cons, All-nil}
use Rattle.std.proofs.lemmas.Option.{slice_get-get_or, slice_get_within, slice_get-map, get_or_from_slice_get}
use Rattle.packed_state.specs.Store.{AreDistinct}
use Rattle.search.specs.declared.nodes.Node.{Node}
use Rattle.search.specs.Outcome as search
use Rattle.search.specs.Outcome.{AreFound, AreExpandedWithin, AreOfOneClass, IsReachableAt}
use Rattle.lower_bounds.specs.TableFunctions as tables
use Rattle.lower_bounds.specs.TableFunctions.{SeveralValues, dead_ends_of, functions_of, greatest_value}
use Rattle.lower_bounds.specs.LandmarkFunctions as landmarks
use Rattle.lower_bounds.specs.LandmarkFunctions.{LandmarkFunction}
use Rattle.lower_bounds.specs.LandmarkLines.{NumberedLandmarks, Share, functions_of as landmark_functions, landmark_of}
use Rattle.lower_bounds.specs.FairLandmarks.{IsFair, IsDeadFair}
use Rattle.line_evidence.specs.Roles.{role_in, role_of_line}
use Rattle.line_evidence.specs.Shown.{IsFairMark, IsShown, function_at, value_by}
use Rattle.model.specs.Task.{Task, Atom}
use Rattle.model.specs.Runs.{System}
use Rattle.model.specs.Claims.{Claim, expanded, dead, Line, IsClosed}
use Rattle.model.specs.Meaning.{State, initial_state, system_of}
use Rattle.model.specs.Fluents.{static_atoms}
use Rattle.model.specs.NumberedAtoms.{numbered_atoms}
use Rattle.model.specs.Grounding.{state_of_bits, ground_system, NamesKept}
use Rattle.certificate_definitions.specs.Certificates as certificates
use Rattle.certificate_definitions.specs.Certificates.{Certificate, StateLine, AreAlikeFor, AreLandmarksFair, is_dead_by_landmark, is_dead_end_of, state_of_line, lines_of, value_of, IsSupported, landmark_function}
use Rattle.certificate_definitions.specs.Evidence as evidence
use Rattle.certificate_definitions.specs.Evidence.{Basis, LineMark, bare, of_all, landmark}
use Rattle.certificate.specs.ListedSets.{Marked, line_with, lines_with}
use Rattle.symmetries_definitions.specs.Exchanges.{Exchange}
use Rattle.symmetries_definitions.specs.Orbits.{AreAlike}
use Rattle.model.proofs.BisimilarListings.{closed_forth}
use Rattle.model.proofs.ListLemmas.{map-Contains}
use Rattle.model.proofs.LimitsLemmas.{numbered_again}
use Rattle.search_spaces.proofs.GroundLemmas.{distinct_states}
use Rattle.search_spaces.proofs.TaskLemmas.{ground_does, length-reachable, reached_at}
use Rattle.solver.specs.Asked.{asked_certificate}
use Rattle.solver.specs.Listing.{AreLinesExpandedWithin}
use Rattle.solver.proofs.ClassLemmas.{AreClassesBy}
use Rattle.solver.proofs.FoundLines.{dead_of_reported, expanded_of_open, found_line, node_at}
use Rattle.solver.proofs.GuidanceLemmas.{packed, packed-start}
use Rattle.solver.proofs.ListingLemmas.{alike_by, named_chosen, states_apart}

-- ---- lists

-- an element of the images is the image of one
got_mapped : {X Y : Type 0} (f : X → Y) (xs : List X) (k : ℕ) (d : X) → get_or (map f xs) k (f d) ≡ f (get_or xs k d)
got_mapped f [] k d = refl
got_mapped f (x ∷ xs) zero d = refl
got_mapped f (x ∷ xs) (suc k) d = got_mapped f xs k d

-- a line is that of a mark and a set
line_parts : (marks : List Marked) (states : List (List Bool)) (place : ℕ) (d : StateLine) → place < length (lines_with marks states)
    → (m : Marked) × (bits : List Bool) × (slice_get marks place ≡ Some m) × (slice_get states place ≡ Some bits) × (get_or (lines_with marks states) place d ≡ line_with m bits)
line_parts [] states place d within = absurd (omega (arith, within))
line_parts (m ∷ marks) [] place d within = absurd (omega (arith, within))
line_parts (m ∷ marks) (bits ∷ states) zero d within = (m, bits, refl, refl, refl)
line_parts (m ∷ marks) (bits ∷ states) (suc place) d within = line_parts marks states place d (omega (arith, within))

pub length-lines_with : (marks : List Marked) (states : List (List Bool)) → length marks ≡ length states → length (lines_with marks states) ≡ length states
length-lines_with [] [] one = refl
length-lines_with [] (s ∷ states) one = absurd (omega (arith, one))
length-lines_with (m ∷ marks) [] one = absurd (omega (arith, one))
length-lines_with (m ∷ marks) (s ∷ states) one = ap suc (length-lines_with marks states (omega (arith, one)))

-- ---- the certificate

module _ (task : Task) (claim : Claim) (exchanges : List Exchange) (s : SeveralValues) (l : NumberedLandmarks) (marks : List Marked) (states : List (List Bool)) where
  abbrev atoms : List Atom
  atoms = numbered_atoms task []

  abbrev pub view : Line (List Bool) → Line State
  view line = record { state = state_of_bits task atoms line.state; cost = line.cost; mark = line.mark }

  abbrev pub made : Certificate
  made = asked_certificate claim exchanges atoms s l marks states

  abbrev entry : StateLine → Line State
  entry c = record { state = state_of_line task made c; cost = c.cost; mark = bare c.mark }

  -- its lines say what those of the search do
  pub listing : (value : List Bool → ℕ) (is_dead : List Bool → Bool) (nodes : List Node) → length nodes ≡ length states → map role_in marks ≡ map role_of_line (search.lines_of value is_dead states nodes)
      → lines_of task made ≡ map view (search.lines_of value is_dead states nodes)
  listing value is_dead nodes one roles = each marks states nodes one roles
    where
      each : (ms : List Marked) (ss : List (List Bool)) (ns : List Node) → length ns ≡ length ss → map role_in ms ≡ map role_of_line (search.lines_of value is_dead ss ns)
          → map entry (lines_with ms ss) ≡ map view (search.lines_of value is_dead ss ns)
      each [] [] ns same all = refl
      each [] (x ∷ ss) [] same all = absurd (omega (arith, same))
      each [] (x ∷ ss) (n ∷ ns) same all = absurd (cc)
      each (m ∷ ms) [] ns same all = absurd (cc)
      each (m ∷ ms) (x ∷ ss) [] same all = absurd (omega (arith, same))
      each (m ∷ ms) (x ∷ ss) (n ∷ ns) same all =
          let here : role_in m ≡ role_of_line (search.line_of value is_dead x n) = cc in
          let later : map role_in ms ≡ map role_of_line (search.lines_of value is_dead ss ns) = cc in
          λ i. record { state = from_list (named_chosen atoms x i ++ static_atoms task); cost = (here i).cost; mark = (here i).mark } ∷ each ms ss ns (omega (arith, same)) later i

  -- ---- what its lines rest on

  abbrev function_of : List Share → LandmarkFunction
  function_of shares = record { landmarks = filter_map (landmark_of l.zones) shares; tables = s.tables }

  -- a landmark value of the certificate is that beside its tables
  same_function : (number : ℕ) → landmark_function made number ≡ function_at s.tables l number
  same_function number = got_mapped function_of l.values number []

  pub value_found : (bits : List Bool) → length bits ≡ length atoms → value_of task made (state_of_bits task atoms bits) ≡ greatest_value (functions_of s) bits
  value_found bits long = packed task (greatest_value (functions_of s)) bits long

  pub value_at_start : value_of task made (initial_state task) ≡ greatest_value (functions_of s) (ground_system task atoms).initial
  value_at_start = packed-start task (greatest_value (functions_of s))

  pub dead_found : (bits : List Bool) → length bits ≡ length atoms → is_dead_end_of task made (state_of_bits task atoms bits) ≡ tables.is_dead_by (dead_ends_of s) bits
  dead_found bits long = ap (nat_le 1) (packed task (tables.value (dead_ends_of s)) bits long)

  pub value_by_found : (basis : Basis) (bits : List Bool) → length bits ≡ length atoms → certificates.value_by task made basis (state_of_bits task atoms bits) ≡ value_by s l basis bits
  value_by_found of_all bits long = value_found bits long
  value_by_found (landmark number) bits long =
      ap (λ (h : LandmarkFunction). landmarks.value_of_state task (numbered_atoms task atoms) h (state_of_bits task atoms bits)) (same_function number)
      ∙ packed task (landmarks.value (function_at s.tables l number)) bits long

  supported_mark : (mark : LineMark) (bits : List Bool) → length bits ≡ length atoms → IsShown s l bits mark → IsSupported task made (state_of_bits task atoms bits) mark
  supported_mark evidence.expanded bits long shown = tt
  supported_mark (evidence.cut basis rest) bits long (there, is, small) = omega (arith, is, value_by_found basis bits long)
  supported_mark (evidence.dead of_all) bits long shown = dead_found bits long ∙ shown
  supported_mark (evidence.dead (landmark number)) bits long (within, one) =
      le-leb 1 (certificates.value_by task made (landmark number) (state_of_bits task atoms bits)) (omega (arith, one, value_by_found (landmark number) bits long))

  same_state : (m : Marked) (bits : List Bool) → state_of_line task made (line_with m bits) ≡ state_of_bits task atoms bits
  same_state m bits = λ i. from_list (named_chosen atoms bits i ++ static_atoms task)

  module _ (wide : (k : ℕ) (bits : List Bool) → slice_get states k ≡ Some bits → length bits ≡ length atoms)
      (shown : (k : ℕ) (bits : List Bool) (m : Marked) → slice_get states k ≡ Some bits → slice_get marks k ≡ Some m → IsShown s l bits m.mark) where
    pub supported : All (λ (c : StateLine). IsSupported task made (state_of_line task made c) c.mark) made.lines
    supported place d within =
        let (m, bits, at_m, at_s, is) = line_parts marks states place d within in
        subst (λ (c : StateLine). IsSupported task made (state_of_line task made c) c.mark) (sym is)
        (subst (λ (x : State). IsSupported task made x m.mark) (sym (same_state m bits)) (supported_mark m.mark bits (wide place bits at_s) (shown place bits m at_s at_m)))

    -- each cut is with the value of its basis
    pub cuts_by_basis : (c : StateLine) (basis : Basis) (rest : ℕ) → Contains made.lines c → c.mark ≡ evidence.cut basis rest → rest ≡ certificates.value_by task made basis (state_of_line task made c)
    cuts_by_basis c basis rest (place, within, here) marked =
        let (m, bits, at_m, at_s, is) = line_parts marks states place c within in
        let same : c ≡ line_with m bits = sym here ∙ is in
        let mark_is : m.mark ≡ evidence.cut basis rest = sym (ap (λ (x : StateLine). x.mark) same) ∙ marked in
        let at : IsShown s l bits (evidence.cut basis rest) = subst (IsShown s l bits) mark_is (shown place bits m at_s at_m) in
        at.1 ∙ sym (value_by_found basis bits (wide place bits at_s)) ∙ sym (ap (certificates.value_by task made basis) (ap (state_of_line task made) same ∙ same_state m bits))

  module _ (fair : (number : ℕ) → number < length l.values → IsFair task atoms (function_at s.tables l number)) (dead_fair : (k : ℕ) (m : Marked) → slice_get marks k ≡ Some m → IsFairMark task atoms s.tables l m.mark) where
    abbrev IsDeadFairOne : ℕ → Type 0
    IsDeadFairOne number = IsDeadFair task (numbered_atoms task atoms) (landmark_function made number)

    dead_fair_one : (number : ℕ) → IsDeadFair task atoms (function_at s.tables l number) → IsDeadFairOne number
    dead_fair_one number is = subst (IsDeadFair task (numbered_atoms task atoms)) (sym (same_function number)) (subst (λ (those : List Atom). IsDeadFair task those (function_at s.tables l number)) (sym (numbered_again task)) is)

    one_more : (mark : LineMark) (rest : List ℕ) → IsFairMark task atoms s.tables l mark → All IsDeadFairOne rest → All IsDeadFairOne (cons_option (is_dead_by_landmark mark) rest)
    one_more evidence.expanded rest is all = all
    one_more (evidence.cut basis least) rest is all = all
    one_more (evidence.dead of_all) rest is all = all
    one_more (evidence.dead (landmark number)) rest is all = All-cons IsDeadFairOne number rest (dead_fair_one number is) all

    all_dead_fair : (ms : List Marked) (ss : List (List Bool)) → ((k : ℕ) (m : Marked) → slice_get ms k ≡ Some m → IsFairMark task atoms s.tables l m.mark)
        → All IsDeadFairOne (filter_map (λ (c : StateLine). is_dead_by_landmark c.mark) (lines_with ms ss))
    all_dead_fair [] ss each = All-nil IsDeadFairOne
    all_dead_fair (m ∷ ms) [] each = All-nil IsDeadFairOne
    all_dead_fair (m ∷ ms) (x ∷ ss) each =
        one_more m.mark (filter_map (λ (c : StateLine). is_dead_by_landmark c.mark) (lines_with ms ss)) (each 0 m refl) (all_dead_fair ms ss (λ k. each (suc k)))

    pub landmarks_fair : AreLandmarksFair task made
    landmarks_fair = record {
      values = λ k d below.
          let within : k < length l.values = omega (arith, below, length-map l.values function_of) in
          let at = slice_get-map function_of l.values k ∙ ap (option_map function_of) (slice_get-get_or l.values k [] within) in
          let is : get_or (landmark_functions s.tables l) k d ≡ function_at s.tables l k = get_or_from_slice_get (landmark_functions s.tables l) k (function_at s.tables l k) d at in
          subst (IsFair task (numbered_atoms task atoms)) (sym is) (subst (λ (those : List Atom). IsFair task those (function_at s.tables l k)) (sym (numbered_again task)) (fair k within));
      dead_ends = all_dead_fair marks states dead_fair;
    }

  -- ---- the states of a search

  abbrev t : System (List Bool) ℕ
  t = ground_system task atoms

  states_of_lines : (value : List Bool → ℕ) (is_dead : List Bool → Bool) (ss : List (List Bool)) (ns : List Node) → length ns ≡ length ss
      → map (λ (x : Line State). x.state) (map view (search.lines_of value is_dead ss ns)) ≡ map (state_of_bits task atoms) ss
  states_of_lines value is_dead [] ns one = refl
  states_of_lines value is_dead (x ∷ ss) [] one = absurd (omega (arith, one))
  states_of_lines value is_dead (x ∷ ss) (n ∷ ns) one = ap (λ later. state_of_bits task atoms x ∷ later) (states_of_lines value is_dead ss ns (omega (arith, one)))

  module _ (class_of : List Bool → List Bool) (value : List Bool → ℕ) (is_dead : List Bool → Bool) (most : ℕ) (nodes : List Node) (found : AreFound t class_of value is_dead claim most states nodes)
      (roles : map role_in marks ≡ map role_of_line (search.lines_of value is_dead states nodes)) where
    abbrev lines : List (Line (List Bool))
    lines = search.lines_of value is_dead states nodes

    is_listing : lines_of task made ≡ map view lines
    is_listing = listing value is_dead nodes found.one_for_each roles

    pub found_width : (k : ℕ) (bits : List Bool) → slice_get states k ≡ Some bits → length bits ≡ length atoms
    found_width k bits at =
        let (node, there) = node_at nodes k (omega (arith, slice_get_within states k bits at, found.one_for_each)) in
        let reached = found.reachable k bits node at there in
        length-reachable task atoms refl bits (reached.0, reached.1)

    -- a line of the listing is that of a found state
    pub line_found : (line : Line State) → Contains (lines_of task made) line
        → (k : ℕ) × (x : List Bool) × (n : Node) × (slice_get states k ≡ Some x) × (slice_get nodes k ≡ Some n) × (line ≡ view (search.line_of value is_dead x n))
    line_found line' among' =
        let (line, among, is) = map-Contains view lines line' (subst (λ (ls : List (Line State)). Contains ls line') is_listing among') in
        let (k, x, n, there, here, from) = found_line value is_dead states nodes line among in
        (k, x, n, there, here, sym is ∙ ap view from)

    pub reached_listed : (line : Line State) → Contains (lines_of task made) line → IsReachableAt (system_of task) line.state line.cost
    reached_listed line among =
        let (k, x, n, at_x, at_n, is) = line_found line among in
        subst (λ (c : Line State). IsReachableAt (system_of task) c.state c.cost) (sym is) (reached_at task atoms refl x n.cost (found.reachable k x n at_x at_n))

    -- all of the listing but its evidence
    pub states_distinct : AllPairs (λ (j k : Line State). j.state ≢ k.state) (lines_of task made)
    states_distinct =
        subst (AllPairs (λ (j k : Line State). j.state ≢ k.state)) (sym is_listing)
        (states_apart (map view lines) (subst (λ (ss : List State). AreDistinct ss) (sym (states_of_lines value is_dead states nodes found.one_for_each)) (distinct_states task states found_width found.distinct)))

    pub listing_closed : AreClassesBy task exchanges class_of → IsClosed (system_of task) (AreAlikeFor task made) claim (lines_of task made)
    listing_closed classes =
        subst (λ (alike : State → State → Type 0). IsClosed (system_of task) alike claim (lines_of task made)) (sym (alike_by task made refl))
        (subst (IsClosed (system_of task) (AreAlike atoms exchanges) claim) (sym is_listing)
        (closed_forth t (system_of task) (state_of_bits task atoms) (NamesKept task) (ground_does task atoms refl) (AreOfOneClass class_of) (AreAlike atoms exchanges) classes.seen claim lines found.closed))

    module _ (alive : (k : ℕ) (bits : List Bool) → slice_get states k ≡ Some bits → is_dead bits ≡ false → tables.is_dead_by (dead_ends_of s) bits ≡ false) where
      pub reported_dead : (line : Line State) → Contains (lines_of task made) line → is_dead_end_of task made line.state ≡ true → line.mark ≡ dead
      reported_dead line among reported =
          let (k, x, n, there, here, is) = line_found line among in
          let by_all : tables.is_dead_by (dead_ends_of s) x ≡ true = sym (dead_found x (found_width k x there)) ∙ ap (λ (c : Line State). is_dead_end_of task made c.state) (sym is) ∙ reported in
          let is_it : is_dead x ≡ true = elim (is_dead x) as (λ b. is_dead x ≡ b → b ≡ true) [
            | true ↦ λ _. refl
            | false ↦ λ isnt. absurd (true≢false (sym by_all ∙ alive k x there isnt))
          ] refl in
          ap (λ (c : Line State). c.mark) is ∙ dead_of_reported value is_dead x n (found.expanded_alive k x n there here) is_it

    module _ (no_lower : (k : ℕ) (bits : List Bool) → slice_get states k ≡ Some bits → is_dead bits ≡ false → greatest_value (functions_of s) bits ≤ value bits) where
      -- an expanded state, with its value of all states, is no dearer than with that of the search
      pub expanded_line : (line : Line State) → Contains (lines_of task made) line → line.mark ≡ expanded
          → (k : ℕ) × (x : List Bool) × (n : Node) × (slice_get states k ≡ Some x) × (slice_get nodes k ≡ Some n) × (search.is_expanded n ≡ true) × (line.cost + value_of task made line.state ≤ n.cost + value x)
      expanded_line line among is_open =
          let (k, x, n, there, here, is) = line_found line among in
          let was : search.is_expanded n ≡ true = expanded_of_open value is_dead x n (ap (λ (c : Line State). c.mark) (sym is) ∙ is_open) in
          let low = no_lower k x there (found.expanded_alive k x n there here was) in
          let same = value_found x (found_width k x there) in
          let value_same : value_of task made line.state ≡ value_of task made (state_of_bits task atoms x) = ap (λ (c : Line State). value_of task made c.state) is in
          let cost_same : line.cost ≡ n.cost = ap (λ (c : Line State). c.cost) is in
          (k, x, n, there, here, was, omega (arith, low, same, value_same, cost_same))

      pub open_within : (cost : ℕ) → AreExpandedWithin value cost states nodes → AreLinesExpandedWithin task cost made
      open_within cost within line among is_open =
          let (k, x, n, there, here, was, sum) = expanded_line line among is_open in
          omega (arith, sum, within k x n there here was)
