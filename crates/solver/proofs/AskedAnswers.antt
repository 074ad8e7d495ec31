-- What the answer of a search that asked for landmark values says of the task.
use Rattle.std.proofs.Common.{◌≡◌, ◌∙◌, ℕ, ◌≤◌, Bool, true, List, [], length, map, get_or, Some, sym, ap, subst, arith}
use Rattle.std.specs.Prelude.{slice_get}
use Rattle.std.specs.Option.{option_map}
use Rattle.std.proofs.lemmas.List.{length-map}
use Rattle.std.proofs.lemmas.Option.{same_Some, slice_get-get_or, slice_get-map, slice_get_within}
use Rattle.task.specs.TaskParts.{atom_of}
use Rattle.std.proofs.lemmas.Simd.{map-map}
use Rattle.grounding.specs.Ground.{task_in, atoms_in}
use Rattle.model.specs.Task.{Task, Atom}
use Rattle.model.specs.Claims.{Claim, bound}
use Rattle.model.specs.Grounding.{ground_system}
use Rattle.model.specs.NumberedAtoms.{numbered_atoms}
use Rattle.lower_bounds.specs.FairTables as fair_tables
use Rattle.lower_bounds.specs.Settled.{initial_value}
use Rattle.lower_bounds.specs.TableFunctions.{SeveralValues, functions_of, greatest_value}
use Rattle.lower_bounds.specs.LandmarkLines.{NumberedLandmarks}
use Rattle.landmark_zones.specs.Landmarks.{landmarks_of}
use Rattle.certificate_definitions.specs.Certificates.{Certificate, four, keeps_limits}
use Rattle.certificate_definitions.specs.Evidence.{LineMark}
use Rattle.certificate.specs.Certificate.{certificate_of}
use Rattle.certificate.specs.CertificateParts.{listed_of}
use Rattle.certificate.specs.declared.cert.Cert.{Cert}
use Rattle.certificate.specs.Evidence.{is_evidence}
use Rattle.certificate.specs.ListedSets.{Marked}
use Rattle.search_spaces.specs.GroundListing.{listed_states}
use Rattle.search_spaces.specs.SearchSpace.{class_in, exchanges_in, ground_in, system_of, IsSearchSpace}
use Rattle.search_spaces.specs.declared.search_space.SearchSpace.{SearchSpace}
use Rattle.search.specs.Estimates.{IsConsistent}
use Rattle.search.specs.Outcome as search
use Rattle.search.specs.Outcome.{AreFound, AreExpandedWithin}
use Rattle.search.specs.declared.nodes.FoundStates.{FoundStates}
use Rattle.search.specs.declared.nodes.Node.{Node}
use Rattle.search.specs.declared.under_way.Stop.{Stop}
use Rattle.search_spaces.specs.declared.ground_listing.GroundListing.{GroundListing}
use Rattle.line_evidence.specs.Roles.{role_in, role_of_line, Role}
use Rattle.line_evidence.specs.Shown.{AreSupported, IsShown}
use Rattle.line_evidence.specs.declared.marked.Marked as in_memory
use Rattle.solver.specs.Asked.{AreLines, IsAsked, asked_certificate, found_at}
use Rattle.solver.specs.AtLimit.{IsAtLimit}
use Rattle.solver.specs.Guidance.{by_tables, first_value, CanBeWritten}
use Rattle.solver.specs.Guided.{IsGuidanceFor}
use Rattle.solver.specs.Improved.{AreDeadSettledOrHigh, AreSettledOrHigh, HasSettledOrHigh}
use Rattle.solver.specs.Listing.{AreLinesExpandedWithin, IsShownBy}
use Rattle.solver.specs.declared.limits.Limits.{Limits}
use Rattle.solver.proofs.AnswerLemmas.{found_width, most_of_limit}
use Rattle.solver.proofs.AskedEnd.{AreStates, stopped_states}
use Rattle.solver.proofs.AskedShown as numbered_ones
use Rattle.solver.proofs.ClassLemmas.{classes_by}
use Rattle.solver.proofs.ConsistentLemmas.{consistent_by}
use Rattle.solver.proofs.FoundLines.{length-lines, line_at, node_at}

-- the certificate is that of these states with these marks, and of what they rest on
abbrev pub IsMade : SearchSpace → SeveralValues → Claim → in_memory.Marked → FoundStates GroundListing → Cert → Type 0
IsMade space s claim marked found cert =
    certificate_of cert
    ≡ asked_certificate claim (exchanges_in space) (atoms_in (ground_in space)) s (landmarks_of marked.landmarks) (map listed_of marked.marks.items) (listed_states found.store)

module _ (space : SearchSpace) (is : IsSearchSpace space) (limits : Limits) (s : SeveralValues) (where_to : Stop GroundListing) (marked : in_memory.Marked) (asked : IsAsked space s limits (record { stop = where_to; marked = marked })) where
  abbrev states : List (List Bool)
  states = listed_states (found_at where_to).store

  abbrev nodes : List Node
  nodes = (found_at where_to).nodes.items

  abbrev marks : List Marked
  marks = map listed_of marked.marks.items

  abbrev l : NumberedLandmarks
  l = landmarks_of marked.landmarks

  abbrev known : List Atom
  known = atoms_in (ground_in space)

  abbrev task : Task
  task = task_in (ground_in space)

  roles : map role_in marks ≡ map role_of_line (search.lines_of asked.value asked.is_dead states nodes)
  roles = map-map role_in listed_of marked.marks.items ∙ asked.roles

  shown : (k : ℕ) (bits : List Bool) (m : Marked) → slice_get states k ≡ Some bits → slice_get marks k ≡ Some m → IsShown s l bits m.mark
  shown k bits m at_s at_m =
      asked.supported.shown k bits m.mark at_s
      (ap (λ (xs : List LineMark). slice_get xs k) (sym (map-map (λ (x : Marked). x.mark) listed_of marked.marks.items)) ∙ slice_get-map (λ (x : Marked). x.mark) marks k ∙ ap (option_map (λ (x : Marked). x.mark)) at_m)

  supports : AreSupported task known s l states (map (λ (x : Marked). x.mark) marks)
  supports = subst (λ (xs : List LineMark). AreSupported task known s l states xs) (sym (map-map (λ (x : Marked). x.mark) listed_of marked.marks.items)) asked.supported

  are_states : AreStates limits.states asked.value asked.is_dead states nodes (found_at where_to).estimates.items
  are_states = stopped_states (system_of space) (class_in space) asked.value asked.is_dead limits.states where_to asked.stop

  pub few_atoms : length known ≤ 1048576
  few_atoms = omega (arith, (ground_in space).numbering.few_atoms, length-map (ground_in space).numbering.atoms.keys atom_of)

  -- ---- the lines

  module _ (claim : Claim) (found : AreFound (system_of space) (class_in space) asked.value asked.is_dead claim limits.states states nodes) where
    as_many : length marks ≡ length states
    as_many = sym (length-map marks role_in) ∙ ap length roles ∙ length-map (search.lines_of asked.value asked.is_dead states nodes) role_of_line ∙ length-lines asked.value asked.is_dead states nodes found.one_for_each

    -- a mark has the cost of its state
    cost_at : (k : ℕ) (m : Marked) → slice_get marks k ≡ Some m → (n : Node) × (slice_get nodes k ≡ Some n) × (m.cost ≡ n.cost)
    cost_at k m at =
        let within = slice_get_within marks k m at in
        let (n, at_n) = node_at nodes k (omega (arith, within, as_many, found.one_for_each)) in
        let x = get_or states k [] in
        let at_x : slice_get states k ≡ Some x = slice_get-get_or states k [] (omega (arith, within, as_many)) in
        let by_mark : slice_get (map role_in marks) k ≡ Some (role_in m) = slice_get-map role_in marks k ∙ ap (option_map role_in) at in
        let by_line : slice_get (map role_of_line (search.lines_of asked.value asked.is_dead states nodes)) k ≡ Some (role_of_line (search.line_of asked.value asked.is_dead x n)) =
        slice_get-map role_of_line (search.lines_of asked.value asked.is_dead states nodes) k ∙ ap (option_map role_of_line) (line_at asked.value asked.is_dead states nodes k x n at_x at_n) in
        let same = same_Some (role_in m) (role_of_line (search.line_of asked.value asked.is_dead x n)) (sym by_mark ∙ ap (λ (rs : List Role). slice_get rs k) roles ∙ by_line) in
        (n, at_n, ap (λ (r : Role). r.cost) same)

    pub lines : AreLines (length known) s l marks states
    lines =
        let few = most_of_limit limits.states limits.states_within in
        record {
          one_for_each = as_many;
          few = omega (arith, are_states.few, few);
          wide = found_width task known is.atoms states nodes found;
          cheap = λ k m at. let (n, at_n, same) = cost_at k m at in omega (arith, same, found.cheap k n at_n, are_states.few, few);
          shown = shown;
        }

    -- ---- the certificate

    module _ (guide : IsGuidanceFor space (by_tables s)) (certificate : Certificate) (made : certificate ≡ asked_certificate claim (exchanges_in space) known s l marks states) (evidence : is_evidence four (length known) s l ≡ true) where
      abbrev atoms : List Atom
      atoms = numbered_atoms task []

      is_made : asked_certificate claim (exchanges_in space) atoms s l marks states ≡ certificate
      is_made = sym (made ∙ ap (λ (those : List Atom). asked_certificate claim (exchanges_in space) those s l marks states) is.atoms)

      found_numbered : AreFound (ground_system task atoms) (class_in space) asked.value asked.is_dead claim limits.states states nodes
      found_numbered = subst (λ (those : List Atom). AreFound (ground_system task those) (class_in space) asked.value asked.is_dead claim limits.states states nodes) is.atoms found

      supports_numbered : AreSupported task atoms s l states (map (λ (x : Marked). x.mark) marks)
      supports_numbered = subst (λ (those : List Atom). AreSupported task those s l states (map (λ (x : Marked). x.mark) marks)) is.atoms supports

      pub shown_by : keeps_limits certificate ≡ true → IsShownBy task claim limits.states certificate
      shown_by kept =
          subst (IsShownBy task claim limits.states) is_made
          (numbered_ones.shown_by task claim (exchanges_in space) s l marks states (class_in space) asked.value asked.is_dead limits.states nodes found_numbered roles asked.alive asked.no_lower supports_numbered
          is.typed (classes_by space is) is.named (subst (λ (those : List Atom). CanBeWritten (length those) (by_tables s)) is.atoms guide.written)
          (subst (λ (those : List Atom). fair_tables.AreFair task those s) is.atoms guide.fair)
          (subst (λ (those : List Atom). is_evidence four (length those) s l ≡ true) is.atoms evidence) (ap keeps_limits is_made ∙ kept))

      pub expanded_within : (cost : ℕ) → AreExpandedWithin asked.value cost states nodes → AreLinesExpandedWithin task cost certificate
      expanded_within cost within =
          subst (AreLinesExpandedWithin task cost) is_made
          (numbered_ones.expanded_within task claim (exchanges_in space) s l marks states (class_in space) asked.value asked.is_dead limits.states nodes found_numbered roles asked.alive asked.no_lower supports_numbered cost within)

      pub settled_or_high : HasSettledOrHigh task certificate
      settled_or_high =
          subst (HasSettledOrHigh task) is_made
          (numbered_ones.settled_or_high task claim (exchanges_in space) s l marks states (class_in space) asked.value asked.is_dead limits.states nodes found_numbered roles asked.alive asked.no_lower supports_numbered
          (subst (λ (those : List Atom). AreSettledOrHigh task those (first_value (by_tables s))) is.atoms guide.improved)
          (subst (λ (those : List Atom). AreDeadSettledOrHigh task those s.dead_ends) is.atoms guide.dead_ends_improved)
          (subst (λ (those : List Atom). initial_value task those (first_value (by_tables s)) ≤ greatest_value (functions_of s) (ground_system task those).initial) is.atoms guide.no_lower))

  -- ---- at a limit

  module _ (least most : ℕ) (limit : search.IsAtLimit (system_of space) (class_in space) asked.value asked.is_dead most least states nodes) (guide : IsGuidanceFor space (by_tables s))
      (certificate : Certificate) (made : certificate ≡ asked_certificate (bound least) (exchanges_in space) known s l marks states) where
    pub at_limit : IsAtLimit task least most certificate
    at_limit =
        subst (IsAtLimit task least most) (sym (made ∙ ap (λ (those : List Atom). asked_certificate (bound least) (exchanges_in space) those s l marks states) is.atoms))
        (numbered_ones.at_limit task least (exchanges_in space) s l marks states (class_in space) asked.value asked.is_dead most nodes
        (subst (λ (those : List Atom). search.IsAtLimit (ground_system task those) (class_in space) asked.value asked.is_dead most least states nodes) is.atoms limit) roles asked.no_lower
        (subst (λ (those : List Atom). IsConsistent (ground_system task those) (greatest_value (functions_of s))) is.atoms (consistent_by (ground_in space) is.atoms (by_tables s) guide.written guide.fair)) shown)
