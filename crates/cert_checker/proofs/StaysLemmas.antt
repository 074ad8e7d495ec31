-- What a certificate that is closed for a task shows.
use Rattle.std.proofs.Common.{◌≡◌, ℕ, ◌+◌, ◌≤◌, ◌⊎◌, zero, suc, inl, inr, true, false, List, [], ◌∷◌, ◌++◌, length, map, get_or, sum_by, Some, refl, sym, ap, ◌∙◌, subst, arith}
use Rattle.std.specs.Prelude.{All, Bool, ◌&&◌, ◌||◌, Contains, IsTrue, if◌then◌else◌, nat_le, nat_lt}
use Rattle.std.specs.List.{filter_map, list_all}
use Rattle.std.proofs.lemmas.Bool.{and_parts, or_cases, false≢true, leb-true, lt-ltb, ltb-true}
use Rattle.std.proofs.lemmas.List.{length-append}
use Rattle.std.proofs.lemmas.List.Elements.{All-contains, All-contains_itself}
use Rattle.model.specs.Runs.{run, cost_of_all, Solves}
use Rattle.model.specs.Task.{Atom, Task, Instance}
use Rattle.model.specs.WellTyped.{is_atom, is_task}
use Rattle.model.specs.Meaning.{State, meets_goal, system_of}
use Rattle.model.specs.Grounding.{bits_of_state}
use Rattle.model.specs.Fluents.{is_fluent, HasInitialStatics}
use Rattle.model.specs.NumberedAtoms.{numbered_atoms}
use Rattle.model.specs.Claims as claims
use Rattle.model.specs.Claims.{Line, AreTrue, ClaimHolds, IsLowerBound, AreDeadEnds}
use Rattle.certificate_definitions.specs.Evidence.{Basis, of_all, landmark, LineMark, expanded, cut, dead, bare}
use Rattle.certificate_definitions.specs.Certificates.{Version, one, two, three, four, StateLine, dead_by, has_landmarks, is_dead_by_landmark, landmark_function, Certificate, potentials_of, several_of, is_dead_end_in, is_dead_end_of, state_of_line, lines_of, AreAlikeFor, value_in, value_of, value_by, is_dead_end_by, AreFairIn, IsSupported, IsClosedFor}
use Rattle.symmetries_definitions.specs.Symmetries.{is_symmetry}
use Rattle.symmetries_definitions.specs.Orbits.{AreOfOneOrbit}
use Rattle.symmetries_definitions.proofs.OrbitLemmas.{orbits_are_classes}
use Rattle.symmetries_definitions.proofs.TaskOrbits.{alike_states_are_of_one_orbit, listings_by_exchanges_claim}
use Rattle.certificate_definitions.proofs.WithoutExchanges.{alike_alone}
use Rattle.certificate_definitions.proofs.CertificateRefusalsLemmas.{supported_line}
use Rattle.cert_checker.proofs.CertCheckerLemmas.{entry}
use Rattle.cert_checker.proofs.LineStates.{state_statics}
use Rattle.cert_checker.proofs.SymmetriesLemmas.{all_symmetries}
use Rattle.model.proofs.ListLemmas.{Contains-filter_map, Contains-here, Contains-map, Contains-there, map-Contains}
use Rattle.model.proofs.GroundTaskLemmas.{are_numbered, numbered-distinct, numbered-fluent}
use Rattle.model.proofs.NumberingLemmas.{distinct-from_pairs, Contains-occurs_in}
use Rattle.model.proofs.StaticLemmas.{contains-reachable}
use Rattle.lower_bounds.specs.PotentialFunctions.{PotentialFunction, value, value_of_state, is_dead_state}
use Rattle.lower_bounds.specs.FairPotentials.{AreFair, AreDeadFair}
use Rattle.lower_bounds.specs.PotentialLaws.{AreNumberable}
use Rattle.lower_bounds.proofs.PotentialLowerBound.{dead_fair_ones_detect_dead_ends, fair_ones_are_lower_bounds}
use Rattle.lower_bounds.specs.TableFunctions.{Table, has_numbered_fluents, has_rows}
use Rattle.lower_bounds.specs.FairTables as tables
use Rattle.lower_bounds.specs.TableLaws.{are_over, AreAllNumbered, AreOver, AreSound}
use Rattle.lower_bounds.specs.LandmarkFunctions as landmarks
use Rattle.lower_bounds.specs.LandmarkFunctions.{Landmark, LandmarkFunction, gives}
use Rattle.lower_bounds.specs.FairLandmarks.{AreClosed, IsDeadFair, IsFair}
use Rattle.lower_bounds.specs.LandmarkLines.{Share, functions_of as landmark_functions, keep_limits, landmark_of}
use Rattle.lower_bounds.specs.LandmarkLaws.{is_zone_over, IsOver}
use Rattle.lower_bounds.proofs.KeptLandmarks.{kept_ones_are_over}
use Rattle.lower_bounds.proofs.LandmarkLowerBound as landmarks_below
use Rattle.lower_bounds.proofs.TableLowerBound.{fair_values_are_sound}
use Rattle.lower_bounds.proofs.WithoutTables.{ground_atoms_are_all_numbered}
use Rattle.cert_checker.proofs.VersionLemmas.{some_value}
use Rattle.cert_checker.proofs.WeightsLemmas.{alike_itself, value-numbered}
use Rattle.certificate.proofs.WithinLimits.{scopes_within}
use Rattle.cert_checker.specs.OnListing.{StaysListed}
use Rattle.cert_checker.proofs.OnListingLemmas.{stays_listed, equality_keeps_steps}

-- ---- what values show

-- for each state with the initial static atoms, reachable or not, the value is a lower bound of the remaining cost
abbrev IsLowerBoundOfAll : Task → (State → ℕ) → Type 0
IsLowerBoundOfAll task value =
    (s end : State) (plan : List Instance) → HasInitialStatics task s → run (system_of task) s plan ≡ Some end → IsTrue (meets_goal task end)
    → value s ≤ cost_of_all (system_of task) plan

-- and no list leads to the goal from such a state that satisfies this
abbrev AreDeadEndsOfAll : Task → (State → Bool) → Type 0
AreDeadEndsOfAll task is_dead =
    (s end : State) (plan : List Instance) → HasInitialStatics task s → IsTrue (is_dead s) → run (system_of task) s plan ≡ Some end → meets_goal task end ≡ false

-- ---- landmarks

-- what is found at an index of mapped elements is the image of one of them, or the default
got_or_not : {X Y : Type 0} (f : X → Y) (xs : List X) (n : ℕ) (d : Y) → ((x : X) × Contains xs x × (get_or (map f xs) n d ≡ f x)) ⊎ (get_or (map f xs) n d ≡ d)
got_or_not f [] n d = inr refl
got_or_not f (x ∷ xs) zero d = inl (x, Contains-here x xs, refl)
got_or_not f (x ∷ xs) (suc n) d = elim (got_or_not f xs n d) [
  | inl (y, among, is) ↦ inl (y, Contains-there x xs y among, is)
  | inr is ↦ inr is
]

-- without landmarks the value is 0
nothing_of_all : (task : Task) (atoms : List Atom) (those : List Table) (s : State) → landmarks.value_of_state task atoms (record { landmarks = []; tables = those }) s ≡ 0
nothing_of_all task atoms those s =
    elim (has_numbered_fluents task atoms s) as (λ b. (if b then landmarks.value (record { landmarks = []; tables = those }) (bits_of_state atoms s) else 0) ≡ 0) [
      | true ↦ elim (has_rows those (bits_of_state atoms s)) as (λ b. (if b then sum_by (gives (bits_of_state atoms s)) [] else 0) ≡ 0) [
        | true ↦ refl
        | false ↦ refl
      ]
      | false ↦ refl
    ]

numbers_wider : (few many : ℕ) → few ≤ many → (numbers : List ℕ) → list_all (λ number. nat_lt number few) numbers ≡ true → list_all (λ number. nat_lt number many) numbers ≡ true
numbers_wider few many more [] all = refl
numbers_wider few many more (n ∷ numbers) all =
    let (here, rest) = and_parts (nat_lt n few) (list_all (λ number. nat_lt number few) numbers) all in
    λ i. lt-ltb n many (omega (arith, more, ltb-true n few here)) i && numbers_wider few many more numbers rest i

zones_wider : (few many : ℕ) → few ≤ many → (those : List Landmark) → list_all (λ (m : Landmark). is_zone_over few m.zone) those ≡ true → list_all (λ (m : Landmark). is_zone_over many m.zone) those ≡ true
zones_wider few many more [] all = refl
zones_wider few many more (m ∷ those) all =
    let (here, rest) = and_parts (is_zone_over few m.zone) (list_all (λ (m : Landmark). is_zone_over few m.zone) those) all in
    let (atoms, negated) = and_parts (list_all (λ number. nat_lt number few) m.zone.atoms) (list_all (λ number. nat_lt number few) m.zone.negated) here in
    let others = zones_wider few many more those rest in
    λ i. (numbers_wider few many more m.zone.atoms atoms i && numbers_wider few many more m.zone.negated negated i) && others i

scopes_wider : (few many : ℕ) → few ≤ many → (those : List Table) → are_over few those ≡ true → are_over many those ≡ true
scopes_wider few many more [] all = refl
scopes_wider few many more (t ∷ those) all =
    let (here, rest) = and_parts (list_all (λ number. nat_lt number few) t.scope) (are_over few those) all in
    λ i. numbers_wider few many more t.scope here i && scopes_wider few many more those rest i

-- what is over some atoms is over more
wider : (few many : ℕ) → few ≤ many → (h : LandmarkFunction) → IsOver few h → IsOver many h
wider few many more h over = record { zones = zones_wider few many more h.landmarks over.zones; scopes = scopes_wider few many more h.tables over.scopes }

-- ---- a certificate that is closed for a task

module _ (task : Task) (c : Certificate) (closed : IsClosedFor task c) where
  more_fluent : All (λ (a : Atom). IsTrue (is_fluent task a.predicate)) c.atoms
  more_fluent = λ place d within. (and_parts (is_atom task (get_or c.atoms place d)) (is_fluent task (get_or c.atoms place d).predicate) (closed.atoms_are_fluent place d within)).1

  numberable : AreNumberable task (numbered_atoms task c.atoms)
  numberable = record {
    distinct = numbered-distinct task c.atoms;
    fluent = λ place d within.
        let atoms = numbered_atoms task c.atoms in
        numbered-fluent task c.atoms more_fluent (get_or atoms place d) (Contains-occurs_in atoms (get_or atoms place d) (All-contains_itself atoms place d within));
  }

  -- the certificate's atoms are the first of those that have numbers
  numbered_first : (others : List Atom) × (numbered_atoms task c.atoms ≡ c.atoms ++ others)
  numbered_first = (are_numbered task c.atoms).more_first (distinct-from_pairs c.atoms closed.atoms_are_distinct)

  -- ---- one potential function

  -- so a state has the same value where the others have numbers too
  value_same : (p : PotentialFunction) → length p.weights ≡ length c.atoms → (s : State) → value p (bits_of_state (numbered_atoms task c.atoms) s) ≡ value_of_state c.atoms p s
  value_same p weighed s = value-numbered p p (alike_itself p) (numbered_atoms task c.atoms) c.atoms numbered_first.0 s numbered_first.1 (omega (arith, weighed))

  potential_below : (p : PotentialFunction) → length p.weights ≡ length c.atoms → AreFair task (numbered_atoms task c.atoms) p → IsLowerBoundOfAll task (value_of_state c.atoms p)
  potential_below p weighed fair s end plan statics runs goal =
      let lower = (fair_ones_are_lower_bounds task (numbered_atoms task c.atoms) p numberable fair).bound s end plan statics runs goal in
      omega (arith, value_same p weighed s, lower)

  potential_detects : (p : PotentialFunction) → length p.weights ≡ length c.atoms → AreDeadFair task (numbered_atoms task c.atoms) p → AreDeadEndsOfAll task (is_dead_state c.atoms p)
  potential_detects p weighed fair s end plan statics reported runs =
      (dead_fair_ones_detect_dead_ends task (numbered_atoms task c.atoms) p numberable fair).dead_ends s end plan
      statics (ap (nat_le 1) (value_same p weighed s) ∙ reported) runs

  -- the first value has a weight for each atom
  first_weighed : length (potentials_of c).weights ≡ length c.atoms
  first_weighed = closed.one_weight_an_atom 0 _ (some_value c.version (length c.values) closed.as_many_values)

  -- ---- several values over tables

  enough : length c.atoms ≤ length (numbered_atoms task c.atoms)
  enough = omega (arith, ap length numbered_first.1, length-append c.atoms numbered_first.0)

  -- weights and scopes are of atoms that have numbers
  over : AreOver (length (numbered_atoms task c.atoms)) (several_of c)
  over = record {
    values = λ place d within. let weighed = closed.one_weight_an_atom place d within in omega (arith, weighed, enough);
    dead_ends = omega (arith, closed.one_dead_end_weight_an_atom, enough);
    scopes = scopes_within c.version (length c.atoms) (length c.values + 1) (length (numbered_atoms task c.atoms)) enough c.tables closed.tables_are_over_atoms;
  }

  sound : tables.AreFair task (numbered_atoms task c.atoms) (several_of c) → AreSound task (numbered_atoms task c.atoms) (several_of c)
  sound = fair_values_are_sound task (numbered_atoms task c.atoms) (several_of c) (ground_atoms_are_all_numbered task c.atoms numberable) over

  -- ---- each version

  below_in : (v : Version) → AreFairIn v task c → IsLowerBoundOfAll task (value_in v task c)
  below_in one fair = potential_below (potentials_of c) first_weighed fair.values
  below_in two fair = potential_below (potentials_of c) first_weighed fair.values
  below_in three fair = λ s end plan statics runs goal. (sound fair).lower_bounds.bound s end plan statics runs goal
  below_in four fair = λ s end plan statics runs goal. (sound fair).lower_bounds.bound s end plan statics runs goal

  detects_in : (v : Version) → AreFairIn v task c → AreDeadEndsOfAll task (is_dead_end_in v task c)
  detects_in one fair = potential_detects c.dead_ends closed.one_dead_end_weight_an_atom fair.dead_ends
  detects_in two fair = potential_detects c.dead_ends closed.one_dead_end_weight_an_atom fair.dead_ends
  detects_in three fair = λ s end plan statics reported runs. (sound fair).dead_ends.no_plan s end plan statics reported runs
  detects_in four fair = λ s end plan statics reported runs. (sound fair).dead_ends.no_plan s end plan statics reported runs

  -- ---- each basis

  -- the certificate's atoms are the first numbered ones, so its landmarks are over these
  landmarks_over : All (IsOver (length (numbered_atoms task c.atoms))) (landmark_functions c.tables c.landmarks)
  landmarks_over = λ k d below.
      let few = (and_parts (has_landmarks c.version || (nat_le (length c.landmarks.zones) 0 && nat_le (length c.landmarks.values) 0)) (keep_limits (length c.atoms) c.landmarks) closed.landmarks_are_over_atoms).1 in
      let own = kept_ones_are_over (length c.atoms) c.tables c.landmarks few
      (scopes_within c.version (length c.atoms) (length c.values + 1) (length c.atoms) (omega arith) c.tables closed.tables_are_over_atoms) k d below in
      wider (length c.atoms) (length (numbered_atoms task c.atoms)) enough (get_or (landmark_functions c.tables c.landmarks) k d) own

  -- a certificate with landmark values is of version 4
  landmarks_had : (shares : List Share) → Contains c.landmarks.values shares → has_landmarks c.version ≡ true
  landmarks_had shares (k, below, at) =
      let none = nat_le (length c.landmarks.zones) 0 && nat_le (length c.landmarks.values) 0 in
      let (had, _) = and_parts (has_landmarks c.version || none) (keep_limits (length c.atoms) c.landmarks) closed.landmarks_are_over_atoms in
      elim (or_cases (has_landmarks c.version) none had) [
        | inl has ↦ has
        | inr absent ↦ absurd (omega (arith, below, leb-true (length c.landmarks.values) 0 (and_parts (nat_le (length c.landmarks.zones) 0) (nat_le (length c.landmarks.values) 0) absent).1))
      ]

  -- so its tables are closed
  closed_in : (v : Version) → has_landmarks v ≡ true → AreFairIn v task c → AreClosed task (numbered_atoms task c.atoms) c.tables
  closed_in one has fair = absurd (false≢true has)
  closed_in two has fair = absurd (false≢true has)
  closed_in three has fair = absurd (false≢true has)
  closed_in four has fair = λ k d below asked. (fair.dead_ends.instances k d below asked).closed

  abbrev function_of : List Share → LandmarkFunction
  function_of shares = record { landmarks = filter_map (landmark_of c.landmarks.zones) shares; tables = c.tables }

  -- the landmark value with this number is one of the certificate's, or nothing
  there_or_nothing : (number : ℕ)
      → ((shares : List Share) × Contains c.landmarks.values shares × (landmark_function c number ≡ function_of shares)) ⊎ (landmark_function c number ≡ record { landmarks = []; tables = c.tables })
  there_or_nothing number = got_or_not function_of c.landmarks.values number (record { landmarks = []; tables = c.tables })

  all_numbered : AreAllNumbered task (numbered_atoms task c.atoms)
  all_numbered = ground_atoms_are_all_numbered task c.atoms numberable

  over_there : (shares : List Share) → Contains c.landmarks.values shares → IsOver (length (numbered_atoms task c.atoms)) (function_of shares)
  over_there shares among = All-contains (IsOver (length (numbered_atoms task c.atoms))) (landmark_functions c.tables c.landmarks) (function_of shares) landmarks_over (Contains-map function_of c.landmarks.values shares among)

  fair_there : (shares : List Share) → Contains c.landmarks.values shares → IsFair task (numbered_atoms task c.atoms) (function_of shares)
  fair_there shares among =
      All-contains (IsFair task (numbered_atoms task c.atoms)) (landmark_functions c.tables c.landmarks) (function_of shares) closed.landmarks_are_fair.values (Contains-map function_of c.landmarks.values shares among)

  below_by : (basis : Basis) → IsLowerBoundOfAll task (value_by task c basis)
  below_by of_all = below_in c.version closed.are_fair
  below_by (landmark number) = λ s end plan statics runs goal.
      let atoms = numbered_atoms task c.atoms in
      elim (there_or_nothing number) [
        | inl (shares, among, is) ↦ subst (λ h. landmarks.value_of_state task atoms h s ≤ cost_of_all (system_of task) plan) (sym is)
            ((landmarks_below.fair_ones_are_lower_bounds task atoms (function_of shares) all_numbered (over_there shares among) (closed_in c.version (landmarks_had shares among) closed.are_fair) (fair_there shares among)).bound s end plan statics runs goal)
        | inr is ↦ omega (arith, ap (λ h. landmarks.value_of_state task atoms h s) is, nothing_of_all task atoms c.tables s)
      ]

  -- the basis shows dead ends: a landmark value does if it is dead-fair
  abbrev Detects : Basis → Type 0
  Detects of_all = Unit {0}
  Detects (landmark number) = IsDeadFair task (numbered_atoms task c.atoms) (landmark_function c number)

  detects_by : (basis : Basis) → Detects basis → AreDeadEndsOfAll task (is_dead_end_by task c basis)
  detects_by of_all detects = detects_in c.version closed.are_fair
  detects_by (landmark number) fair = λ s end plan statics reported runs.
      let atoms = numbered_atoms task c.atoms in
      elim (there_or_nothing number) [
        | inl (shares, among, is) ↦
            (landmarks_below.dead_fair_ones_report_dead_ends task atoms (function_of shares) all_numbered (over_there shares among) (closed_in c.version (landmarks_had shares among) closed.are_fair)
            (subst (IsDeadFair task atoms) is fair)).no_plan s end plan statics (subst (λ h. nat_le 1 (landmarks.value_of_state task atoms h s) ≡ true) is reported) runs
        | inr is ↦ absurd (omega (arith, leb-true 1 (landmarks.value_of_state task atoms (landmark_function c number) s) reported, ap (λ h. landmarks.value_of_state task atoms h s) is, nothing_of_all task atoms c.tables s))
      ]

  -- what is still to pay from a reachable state on does not fall short of the value that the certificate gives to it
  pub value_below : IsLowerBound (system_of task) (value_of task c)
  value_below s end plan reached runs goal = below_in c.version closed.are_fair s end plan (λ q static. contains-reachable task s q static reached) runs goal

  -- and a reachable state that it reports to be a dead end is one
  pub detects_dead_ends : AreDeadEnds (system_of task) (is_dead_end_of task c)
  detects_dead_ends s end plan reached reported runs = detects_in c.version closed.are_fair s end plan (λ q static. contains-reachable task s q static reached) reported runs

  -- ---- what is claimed

  -- what a supported mark says of the state of a line is true
  cut_is_true : (s : State) (mark : LineMark) (rest : ℕ) (end : State) (plan : List Instance) → HasInitialStatics task s → IsSupported task c s mark → bare mark ≡ claims.cut rest
      → run (system_of task) s plan ≡ Some end → IsTrue (meets_goal task end) → rest ≤ cost_of_all (system_of task) plan
  cut_is_true s expanded rest end plan statics supported is runs goal = absurd (cc)
  cut_is_true s (cut basis least) rest end plan statics supported is runs goal =
      let same : least ≡ rest = cc in
      omega (arith, same, supported, below_by basis s end plan statics runs goal)
  cut_is_true s (dead basis) rest end plan statics supported is runs goal = absurd (cc)

  -- what the line rests on shows dead ends, if the line is one
  abbrev MayDetect : LineMark → Type 0
  MayDetect expanded = Unit {0}
  MayDetect (cut basis rest) = Unit {0}
  MayDetect (dead basis) = Detects basis

  detecting : (l : StateLine) → Contains c.lines l → MayDetect l.mark
  detecting l among = by_mark l.mark refl
    where
      by_mark : (mark : LineMark) → l.mark ≡ mark → MayDetect mark
      by_mark expanded is = tt
      by_mark (cut basis rest) is = tt
      by_mark (dead of_all) is = tt
      by_mark (dead (landmark number)) is =
          All-contains (λ (number : ℕ). IsDeadFair task (numbered_atoms task c.atoms) (landmark_function c number)) (dead_by c) number closed.landmarks_are_fair.dead_ends
          (Contains-filter_map (λ (l : StateLine). is_dead_by_landmark l.mark) c.lines l number among (ap is_dead_by_landmark is))

  dead_end_is_true : (s : State) (mark : LineMark) (end : State) (plan : List Instance) → HasInitialStatics task s → IsSupported task c s mark → MayDetect mark → bare mark ≡ claims.dead
      → run (system_of task) s plan ≡ Some end → meets_goal task end ≡ false
  dead_end_is_true s expanded end plan statics supported detects is runs = absurd (cc)
  dead_end_is_true s (cut basis least) end plan statics supported detects is runs = absurd (cc)
  dead_end_is_true s (dead basis) end plan statics supported detects is runs = detects_by basis detects s end plan statics supported runs

  lines_are_true : AreTrue (system_of task) (lines_of task c)
  lines_are_true = record {
    cuts = λ line rest end plan listed is_cut runs goal.
        let (l, among, is) = map-Contains (entry task c) c.lines line listed in
        cut_is_true (state_of_line task c l) l.mark rest end plan (state_statics task c more_fluent l) (supported_line task c closed l among) (ap (λ (k : Line State). k.mark) is ∙ is_cut)
        (subst (λ (k : Line State). run (system_of task) k.state plan ≡ Some end) (sym is) runs) goal;
    dead_ends = λ line end plan listed is_dead runs.
        let (l, among, is) = map-Contains (entry task c) c.lines line listed in
        dead_end_is_true (state_of_line task c l) l.mark end plan (state_statics task c more_fluent l) (supported_line task c closed l among) (detecting l among) (ap (λ (k : Line State). k.mark) is ∙ is_dead)
        (subst (λ (k : Line State). run (system_of task) k.state plan ≡ Some end) (sym is) runs);
  }

  module _ (well : IsTrue (is_task task)) where
    symmetries : IsTrue (list_all (is_symmetry task) c.exchanges)
    symmetries = all_symmetries task c closed.exchanges_are_symmetries

    claim_reported : ClaimHolds (system_of task) c.claim
    claim_reported =
        listings_by_exchanges_claim task (numbered_atoms task c.atoms) c.exchanges well symmetries c.claim (lines_of task c) lines_are_true closed.listing_is_closed

    stays_reported : (plan : List Instance) → Solves (system_of task) plan → StaysListed (system_of task) (AreOfOneOrbit (system_of task)) (lines_of task c) plan
    stays_reported plan =
        stays_listed (system_of task) (AreAlikeFor task c) (AreOfOneOrbit (system_of task)) (orbits_are_classes (system_of task))
        (alike_states_are_of_one_orbit task (numbered_atoms task c.atoms) c.exchanges well symmetries) c.claim (lines_of task c) lines_are_true closed.listing_is_closed plan

  stays_alone : c.exchanges ≡ [] → (plan : List Instance) → Solves (system_of task) plan → StaysListed (system_of task) (λ s r. s ≡ r) (lines_of task c) plan
  stays_alone none plan =
      stays_listed (system_of task) (AreAlikeFor task c) (λ s r. s ≡ r) (equality_keeps_steps (system_of task)) (alike_alone task c none)
      c.claim (lines_of task c) lines_are_true closed.listing_is_closed plan

pub closed_holds : (task : Task) (c : Certificate) → IsTrue (is_task task) → IsClosedFor task c → ClaimHolds (system_of task) c.claim
closed_holds task c well closed = claim_reported task c closed well

pub solving_stays : (task : Task) (c : Certificate) (plan : List Instance) → IsTrue (is_task task) → IsClosedFor task c → Solves (system_of task) plan
    → StaysListed (system_of task) (AreOfOneOrbit (system_of task)) (lines_of task c) plan
solving_stays task c plan well closed = stays_reported task c closed well plan

pub solving_stays_alone : (task : Task) (c : Certificate) (plan : List Instance) → c.exchanges ≡ [] → IsClosedFor task c → Solves (system_of task) plan
    → StaysListed (system_of task) (λ s r. s ≡ r) (lines_of task c) plan
solving_stays_alone task c plan none closed = stays_alone task c closed none plan
