-- The certificate of the states that were found before the limit.
use Rattle.std.proofs.Common.{◌≡◌, ◌∙◌, ℕ, ◌+◌, ◌≤◌, Bool, true, List, [], ◌++◌, Some, refl, sym, ap, subst, arith}
use Rattle.std.specs.Prelude.{slice_get, Contains}
use Rattle.std.proofs.lemmas.Bool.{lt-ltb}
use Rattle.search.specs.declared.nodes.Node.{Node}
use Rattle.search.specs.Estimates.{IsConsistent}
use Rattle.search.specs.Outcome as search
use Rattle.solver.specs.Listing.{by_all, found_certificate, state_line}
use Rattle.solver.specs.AtLimit.{IsCutOf, IsAtLimit}
use Rattle.symmetries_definitions.specs.Exchanges.{Exchange}
use Rattle.solver.specs.Guidance.{Guidance, estimate_by, reports_dead}
use Rattle.solver.proofs.GuidanceLemmas.{most_value, value-at-start}
use Rattle.solver.proofs.FoundLines.{waits_of_cut, cut_of_waits, expanded_of_open, found_line, line_among}
use Rattle.solver.proofs.ListingLemmas.{view, made, named_chosen, listing, length-made, line_found, same_value, open_within, is_made}
use Rattle.model.specs.Task.{Task, Atom}
use Rattle.model.specs.Runs.{System}
use Rattle.model.specs.Claims.{bound, Mark, cut, dead, expanded, Line}
use Rattle.model.specs.Meaning.{State}
use Rattle.model.specs.NumberedAtoms.{numbered_atoms}
use Rattle.model.specs.Grounding.{state_of_bits, ground_system}
use Rattle.model.proofs.ListLemmas.{Contains-map, map-Contains}
use Rattle.model.specs.Fluents.{static_atoms}
use Rattle.std.specs.FinSet.{from_list}
use Rattle.search_spaces.proofs.TaskLemmas.{task_costs_at_least}
use Rattle.certificate_definitions.specs.Evidence as evidence
use Rattle.certificate_definitions.specs.Evidence.{Basis, of_all}
use Rattle.certificate_definitions.specs.Certificates.{Certificate, StateLine, is_claim, state_of_line, value_by, value_of}

-- the least sum of a cut is so little that a certificate may claim it
pub limit_claim : {S : Type 0} (t : System S ℕ) (class_of : S → S) (value : S → ℕ) (is_dead : S → Bool) (max_states least : ℕ) (states : List S) (nodes : List Node)
    → search.IsAtLimit t class_of value is_dead max_states least states nodes → ((k : ℕ) (s : S) → slice_get states k ≡ Some s → value s ≤ most_value) → max_states ≤ 16777216 → is_claim (bound least) ≡ true
limit_claim t class_of value is_dead max_states least states nodes limit low few =
    let (k, s, node, at_s, at_n, waits, sum) = limit.of_some_cut in
    let paid = limit.found.cheap k node at_n in
    let most = low k s at_s in
    lt-ltb least 1152921504606846976 (omega (arith, paid, most, sum, limit.full, few))

-- what is found of a cut rests on the values of all states
of_all_cut : (mark : Mark) (basis : Basis) (rest : ℕ) → by_all mark ≡ evidence.cut basis rest → (mark ≡ cut rest) × (basis ≡ of_all)
of_all_cut expanded basis rest is = absurd (cc)
of_all_cut (cut n) basis rest is = (ap cut (cc), cc)
of_all_cut dead basis rest is = absurd (cc)

module _ (task : Task) (least most : ℕ) (exchanges : List Exchange) (guidance : Guidance) (states : List (List Bool)) (nodes : List Node) (class_of : List Bool → List Bool) where
  abbrev atoms : List Atom
  atoms = numbered_atoms task []

  abbrev here : Certificate
  here = made task (bound least) most exchanges guidance states nodes

  abbrev t : System (List Bool) ℕ
  t = ground_system task atoms

  -- the line of a found state
  abbrev line_for : List Bool → Node → Line State
  line_for s n = view task (bound least) most exchanges guidance states nodes (search.line_of (estimate_by guidance) (reports_dead guidance) s n)

  module _ (consistent : IsConsistent t (estimate_by guidance)) (limit : search.IsAtLimit t class_of (estimate_by guidance) (reports_dead guidance) most least states nodes) where
    value_found : (k : ℕ) (s : List Bool) → slice_get states k ≡ Some s → value_of task here (state_of_bits task atoms s) ≡ estimate_by guidance s
    value_found = same_value task (bound least) most exchanges guidance states nodes class_of limit.found

    -- a cut is that of a state that waits, with its value
    cut_found : (line : Line State) (rest : ℕ) → IsCutOf task here line rest
        → (k : ℕ) × (s : List Bool) × (n : Node) × (slice_get states k ≡ Some s) × (slice_get nodes k ≡ Some n) × (line ≡ line_for s n) × search.IsCut (reports_dead guidance) s n × (estimate_by guidance s ≡ rest)
    cut_found line rest (among, is_cut) =
        let (k, s, n, at_s, at_n, from) = line_found task (bound least) most exchanges guidance states nodes line among in
        let (waits, same) = waits_of_cut (estimate_by guidance) (reports_dead guidance) s n rest (ap (λ (l : Line State). l.mark) (sym from) ∙ is_cut) in
        (k, s, n, at_s, at_n, from, waits, same)

    -- a cut is by the values of all states
    by_basis : (c : StateLine) (basis : Basis) (rest : ℕ) → Contains here.lines c → c.mark ≡ evidence.cut basis rest → rest ≡ value_by task here basis (state_of_line task here c)
    by_basis c basis rest among marked =
        let (line, there, is) = map-Contains state_line (search.lines_of (estimate_by guidance) (reports_dead guidance) states nodes) c among in
        let (k, s, n, at_s, at_n, from) = found_line (estimate_by guidance) (reports_dead guidance) states nodes line there in
        let (role, all) = of_all_cut line.mark basis rest (ap (λ (l : StateLine). l.mark) is ∙ marked) in
        let (waits, same) = waits_of_cut (estimate_by guidance) (reports_dead guidance) s n rest (ap (λ (l : Line (List Bool)). l.mark) (sym from) ∙ role) in
        let state_same : state_of_line task here c ≡ state_of_bits task atoms s = ap (state_of_line task here) (sym is) ∙ same_state line ∙ ap (λ (l : Line (List Bool)). state_of_bits task atoms l.state) from in
        sym same ∙ sym (value_found k s at_s) ∙ ap (value_of task here) (sym state_same) ∙ ap (λ (b : Basis). value_by task here b (state_of_line task here c)) (sym all)
      where
        same_state : (line : Line (List Bool)) → state_of_line task here (state_line line) ≡ state_of_bits task atoms line.state
        same_state line = λ i. from_list (named_chosen atoms line.state i ++ static_atoms task)

    pub at_limit : IsAtLimit task least most here
    at_limit = record {
      full = length-made task (bound least) most exchanges guidance states nodes limit.found.one_for_each ∙ limit.full;
      cuts_by_basis = by_basis;
      cuts_no_lower = λ line rest is_cut.
          let (k, s, n, at_s, at_n, from, waits, same) = cut_found line rest is_cut in
          let value_same : value_of task here line.state ≡ value_of task here (state_of_bits task atoms s) = ap (λ (l : Line State). value_of task here l.state) from in
          omega (arith, same, value_found k s at_s, value_same);
      cuts_by_value = λ _ line rest is_cut.
          let (k, s, n, at_s, at_n, from, waits, same) = cut_found line rest is_cut in
          sym same ∙ sym (value_found k s at_s) ∙ ap (λ (l : Line State). value_of task here l.state) (sym from);
      at_most_each_cut = λ line rest is_cut.
          let (k, s, n, at_s, at_n, from, waits, same) = cut_found line rest is_cut in
          let cost_same : line.cost ≡ n.cost = ap (λ (l : Line State). l.cost) from in
          omega (arith, limit.at_most_each_cut k s n at_s at_n waits, same, cost_same);
      of_some_cut =
          let (k, s, n, at_s, at_n, waits, sum) = limit.of_some_cut in
          let among = Contains-map (view task (bound least) most exchanges guidance states nodes) (search.lines_of (estimate_by guidance) (reports_dead guidance) states nodes) (search.line_of (estimate_by guidance) (reports_dead guidance) s n)
          (line_among (estimate_by guidance) (reports_dead guidance) states nodes k s n at_s at_n) in
          (line_for s n, estimate_by guidance s, (subst (λ (ls : List (Line State)). Contains ls (line_for s n)) (sym (listing task (bound least) most exchanges guidance states nodes)) among, cut_of_waits (estimate_by guidance) (reports_dead guidance) s n waits), sum);
      expanded_no_dearer = λ line among is_open plan solves.
          let (k, s, n, at_s, at_n, from) = line_found task (bound least) most exchanges guidance states nodes line among in
          let was = expanded_of_open (estimate_by guidance) (reports_dead guidance) s n (ap (λ (l : Line State). l.mark) (sym from) ∙ is_open) in
          let value_same : value_of task here line.state ≡ value_of task here (state_of_bits task atoms s) = ap (λ (l : Line State). value_of task here l.state) from in
          let cost_same : line.cost ≡ n.cost = ap (λ (l : Line State). l.cost) from in
          omega (arith, value_found k s at_s, value_same, cost_same, task_costs_at_least task atoms refl (n.cost + estimate_by guidance s) (limit.expanded_no_dearer k s n at_s at_n was) plan solves);
      open_within = λ _. open_within task (bound least) most exchanges guidance states nodes class_of limit.found least (limit.expanded_within consistent);
      start_within = let same = value-at-start task (bound least) exchanges states nodes guidance in omega (arith, same, limit.start_within consistent);
    }

module _ (task : Task) (least most : ℕ) (exchanges : List Exchange) (guidance : Guidance) (states : List (List Bool)) (nodes : List Node) (known : List Atom) (numbered : known ≡ numbered_atoms task [])
    (class_of : List Bool → List Bool) (consistent : IsConsistent (ground_system task known) (estimate_by guidance))
    (limit : search.IsAtLimit (ground_system task known) class_of (estimate_by guidance) (reports_dead guidance) most least states nodes)
    (certificate : Certificate) (is : certificate ≡ found_certificate (bound least) exchanges known guidance states nodes) where
  pub at_limit_of : (max_states : ℕ) → most ≡ max_states → IsAtLimit task least max_states certificate
  at_limit_of max_states same =
      subst (λ (count : ℕ). IsAtLimit task least count certificate) same
      (subst (IsAtLimit task least most) (is_made task (bound least) most exchanges guidance states nodes known numbered class_of limit.found certificate is)
      (at_limit task least most exchanges guidance states nodes class_of
      (subst (λ (l : List Atom). IsConsistent (ground_system task l) (estimate_by guidance)) numbered consistent)
      (subst (λ (l : List Atom). search.IsAtLimit (ground_system task l) class_of (estimate_by guidance) (reports_dead guidance) most least states nodes) numbered limit)))
