-- The worked certificates.
use Rattle.std.proofs.Common.{◌≡◌, ◌⊎◌, ◌+◌, ◌≤◌, inl, inr, Bool, true, false, true≢false, ◌&&◌, ◌||◌, [], ◌∷◌, Some, refl, sym, ◌∙◌, ap, subst, arith}
use Rattle.std.specs.Prelude.{◌≢◌, ℕ, ℤ, pos, negsuc, ◌+ℤ◌, ◌≤ℤ◌, List, if◌then◌else◌, length, All, AllPairs, Contains, IsTrue}
use Rattle.std.specs.Int.Signed.{le_z_yes}
use Rattle.std.proofs.lemmas.Int.{ints}
use Rattle.std.specs.Ordering.{eq_by_cmp}
use Rattle.std.proofs.lemmas.Option.{same_Some}
use Rattle.std.proofs.lemmas.List.Elements.{All-cons, All-nil}
use Rattle.std.proofs.lemmas.List.Kept.{AllPairs-cons}
use Rattle.std.specs.FinSet.{contains, from_list, contains-from_list}
use Rattle.model.specs.Task.{Atom, Instance, Task}
use Rattle.model.specs.Examples.{ground, instance, tie, tie_task}
use Rattle.model.specs.StaticallyFalse.{kept_instances}
use Rattle.model.specs.NumberedAtoms.{numbered_atoms}
use Rattle.model.specs.Meaning.{State, cost_of, atom_cmp, step, changes_of, meets_goal, system_of}
use Rattle.symmetries_definitions.specs.Exchanges.{Exchange}
use Rattle.symmetries_definitions.specs.SymmetryExamples.{swapping}
use Rattle.model.specs.WellTyped.{is_atom}
use Rattle.model.specs.Claims.{Claim, bound, Allows, expanded, cut, dead, Line, IsListedWithin, IsClosed}
use Rattle.model.specs.Claims as model
use Rattle.certificate_definitions.specs.Evidence.{of_all, bare}
use Rattle.model.specs.Fluents.{is_fluent}
use Rattle.certificate_definitions.specs.Certificates.{two, StateLine, Certificate, state_of_line, lines_of, is_symmetry_for, AreAlikeFor, IsSupported, IsClosedFor}
use Rattle.certificate_definitions.specs.CertificateRefusals.{IsWrongAt, unfair, unfair_goal, dead_unfair, dead_unfair_goal, not_dead}
use Rattle.certificate_definitions.proofs.WithoutExchanges.{alike_itself, closed_wider}
use Rattle.certificate_definitions.specs.CertificateExamples.{AreJudged, expanded_at, cut_at, dead_at, linked, tied, claims, weighs, zeros, token_reported, start_expanded}
use Rattle.lower_bounds.specs.TableFunctions.{Row, Table}
use Rattle.lower_bounds.specs.PotentialFunctions.{PotentialFunction, or_zero, value_of_state, is_dead_by, is_dead_state}
use Rattle.lower_bounds.specs.FairPotentials.{IsFairAt, IsFairAtGoals, AreFair, nothing, AreDeadFair}
use Rattle.lower_bounds.specs.PotentialExamples.{token_task, token_atoms, one_missing, minus}
use Rattle.lower_bounds.specs.PotentialExamples as fair
use Rattle.lower_bounds.proofs.PotentialExampleProofs.{losing, is_fair_at, is_fair_within, is_unfair_at, is_unfair_within}
use Rattle.lower_bounds.proofs.PotentialExampleProofs as fair_proofs
use Rattle.lower_bounds.proofs.Zero.{zero-fair}
use Rattle.model.proofs.GroundingComputes.{kept-is, numbered-is}
use Rattle.model.proofs.Atoms.{atoms_total, same_state}
use Rattle.model.proofs.Steps.{state_after, contains-state_after, leads}
use Rattle.model.proofs.InstancesLemmas.{is_instance-of_step, Contains-all_instances}
use Rattle.model.proofs.ListLemmas.{Contains-cases, Contains-none}

abbrev line_of : StateLine → Line State
line_of l = record { state = state_of_line tie_task (claims (bound 1) (tied ∷ []) []) l; cost = l.cost; mark = bare l.mark }

-- the initial state, and the state after the instance
abbrev start : State
start = from_list {R = atom_cmp} (linked ∷ [])

abbrev end : State
end = from_list {R = atom_cmp} (tied ∷ linked ∷ [])

abbrev the_instance : Instance
the_instance = instance 0 (0 ∷ 0 ∷ [])

abbrev after_it : State
after_it = state_after tie_task (linked ∷ []) (changes_of tie_task tie.effect (0 ∷ 0 ∷ []) ∷ [])

leads_on : step tie_task start the_instance ≡ Some after_it
leads_on = leads tie_task start the_instance tie refl refl (contains-state_after tie_task (linked ∷ []) [] linked)

same_end : end ≡ after_it
same_end = same_state end after_it (λ q. contains-from_list atoms_total (tied ∷ linked ∷ []) q ∙ (by_tests (eq_by_cmp atom_cmp q tied) (eq_by_cmp atom_cmp q linked) ∙ sym (contains-state_after tie_task (linked ∷ []) (changes_of tie_task tie.effect (0 ∷ 0 ∷ []) ∷ []) q)))
  where
    by_tests : (t l : Bool) → (t || (l || false)) ≡ (((l || false) && true) || (t || false))
    by_tests true true = refl
    by_tests true false = refl
    by_tests false true = refl
    by_tests false false = refl

-- the only instance, and its successor
only_instance : (a : Instance) (next : State) → step tie_task start a ≡ Some next → next ≡ end
only_instance a next h = by_place (Contains-cases the_instance [] a (Contains-all_instances tie_task a (is_instance-of_step tie_task start a next h)))
  where
    by_place : (the_instance ≡ a) ⊎ Contains {X = Instance} [] a → next ≡ end
    by_place (inl is) = let both : Some after_it ≡ Some next = sym leads_on ∙ ap (step tie_task start) is ∙ h in same_Some next end (sym both ∙ ap Some (sym same_end))
    by_place (inr none) = absurd (Contains-none a none)

apart : start ≡ end → ⊥
apart e = true≢false (sym (contains-from_list atoms_total (tied ∷ linked ∷ []) tied) ∙ ap (λ s. contains s tied) (sym e) ∙ contains-from_list atoms_total (linked ∷ []) tied)

-- what holds of both lines of a listing holds of each
of_two : (P : Line State → Type 0) (k l line : Line State) → Contains (k ∷ l ∷ []) line → P k → P l → P line
of_two P k l line at of_k of_l = by_first (Contains-cases k (l ∷ []) line at)
  where
    by_second : (l ≡ line) ⊎ Contains {X = Line State} [] line → P line
    by_second (inl is) = subst P is of_l
    by_second (inr none) = absurd (Contains-none line none)

    by_first : (k ≡ line) ⊎ Contains (l ∷ []) line → P line
    by_first (inl is) = subst P is of_k
    by_first (inr later) = by_second (Contains-cases l [] line later)

not_tied : contains start tied ≡ false
not_tied = contains-from_list atoms_total (linked ∷ []) tied

abbrev first : Line State
first = line_of (expanded_at 0 [])

abbrev second : Line State
second = line_of (cut_at 1 0 (0 ∷ []))

one_line : (line : Line State) → Contains (first ∷ []) line → line.state ≡ after_it → start ≡ after_it
one_line line at is = by_cases (Contains-cases first [] line at)
  where
    by_cases : (first ≡ line) ⊎ Contains {X = Line State} [] line → start ≡ after_it
    by_cases (inl same) = ap (λ (l : Line State). l.state) same ∙ is
    by_cases (inr none) = absurd (Contains-none line none)

-- ---- potential functions

abbrev weights_of : ℤ → List ℤ
weights_of w = w ∷ []

atoms_are : numbered_atoms tie_task (tied ∷ []) ≡ tied ∷ []
atoms_are = numbered-is tie_task (tied ∷ []) ∙ refl

kept_are : kept_instances tie_task ≡ the_instance ∷ []
kept_are = kept-is tie_task ∙ refl

abbrev potentials : ℤ → ℤ → PotentialFunction
potentials constant w = record { constant = constant; weights = weights_of w }

-- fair over the single atom, it is fair over the numbered atoms
over_numbered : (p : PotentialFunction) → AreFair tie_task (tied ∷ []) p → AreFair tie_task (numbered_atoms tie_task (tied ∷ [])) p
over_numbered p fair = subst (λ atoms. AreFair tie_task atoms p) (sym atoms_are) fair

one_fair : (w : ℤ) → losing tie_task (tied ∷ []) (weights_of w) the_instance ≤ℤ pos 1
    → All (λ (i : Instance). IsFairAt (cost_of tie_task i) tie_task (tied ∷ []) (weights_of w) i) (kept_instances tie_task)
one_fair w within =
    let P = λ (i : Instance). IsFairAt (cost_of tie_task i) tie_task (tied ∷ []) (weights_of w) i in
    subst (All P) (sym kept_are) (All-cons P the_instance [] (is_fair_at tie_task (tied ∷ []) (weights_of w) the_instance within) (All-nil P))

zero_is_fair : AreFair tie_task (numbered_atoms tie_task (tied ∷ [])) (potentials (pos 0) (pos 0))
zero_is_fair = over_numbered (potentials (pos 0) (pos 0)) (zero-fair tie_task (tied ∷ []))

worth_one : AreFair tie_task (numbered_atoms tie_task (tied ∷ [])) (potentials (pos 1) (negsuc 0))
worth_one = over_numbered (potentials (pos 1) (negsuc 0)) (record { instances = one_fair (negsuc 0) (le_z_yes tt); goals = record { within = le_z_yes tt } })

-- if all weights are 0, no state is reported as a dead end, and the function is dead-fair
zero_is_dead_fair : AreDeadFair tie_task (numbered_atoms tie_task (tied ∷ [])) (potentials (pos 0) (pos 0))
zero_is_dead_fair = subst (λ atoms. AreDeadFair tie_task atoms (potentials (pos 0) (pos 0))) (sym atoms_are) (record {
  instances =
      let P = λ (i : Instance). IsFairAt 0 tie_task (tied ∷ []) (weights_of (pos 0)) i in
      subst (All P) (sym kept_are) (All-cons P the_instance [] (is_fair_within tie_task (tied ∷ []) nothing (weights_of (pos 0)) the_instance (le_z_yes tt)) (All-nil P));
  goals = record { within = le_z_yes tt };
})

-- the initial state, as a cut
abbrev start_cut : ℕ → Line State
start_cut rest = line_of (cut_at 0 rest [])

start_value : value_of_state (tied ∷ []) (potentials (pos 1) (negsuc 0)) start ≡ 1
start_value = ap (λ b. or_zero (pos 1 +ℤ (pos 0 +ℤ (if b then negsuc 0 else pos 0)))) not_tied

-- if all weights are 0, every state has the value 0
end_value : value_of_state (tied ∷ []) (potentials (pos 0) (pos 0)) end ≡ 0
end_value = ap (λ b. or_zero (pos 0 +ℤ (pos 0 +ℤ (if b then pos 0 else pos 0)))) (contains-from_list atoms_total (tied ∷ linked ∷ []) tied)

the_one_line : (P : Line State → Type 0) (l line : Line State) → Contains (l ∷ []) line → P l → P line
the_one_line P l line at of_l = by_first (Contains-cases l [] line at)
  where
    by_first : (l ≡ line) ⊎ Contains {X = Line State} [] line → P line
    by_first (inl is) = subst P is of_l
    by_first (inr none) = absurd (Contains-none line none)

one_value : (count : ℕ) (p : PotentialFunction) → length p.weights ≡ count → All (λ (p : PotentialFunction). length p.weights ≡ count) (p ∷ [])
one_value count p many = All-cons (λ (p : PotentialFunction). length p.weights ≡ count) p [] many (All-nil (λ (p : PotentialFunction). length p.weights ≡ count))

no_exchanges : (task : Task) (c : Certificate) → All (λ (e : Exchange). IsTrue (is_symmetry_for task c e)) []
no_exchanges task c = All-nil (λ (e : Exchange). IsTrue (is_symmetry_for task c e))

-- what is closed for the states themselves is closed up to exchanges
closed_in_task : (task : Task) (c : Certificate) → IsClosed (system_of task) (λ s r. s ≡ r) c.claim (lines_of task c) → IsClosed (system_of task) (AreAlikeFor task c) c.claim (lines_of task c)
closed_in_task task c closed = closed_wider (system_of task) (λ s r. s ≡ r) (AreAlikeFor task c) (alike_itself task c) c.claim (lines_of task c) closed

-- what a line says rests on the values
abbrev IsSupportedLine : Task → Certificate → StateLine → Type 0
IsSupportedLine task c l = IsSupported task c (state_of_line task c l) l.mark

no_rows : All (λ (t : Table). AllPairs (λ (q r : Row). q.atoms ≢ r.atoms) t.rows) []
no_rows = All-nil (λ (t : Table). AllPairs (λ (q r : Row). q.atoms ≢ r.atoms) t.rows)

cut_closed : IsClosedFor tie_task (weighs (bound 1) (pos 1) (negsuc 0) (cut_at 0 1 [] ∷ []))
cut_closed = record {
  as_many_values = refl;
  one_weight_an_atom = one_value 1 (potentials (pos 1) (negsuc 0)) refl;
  one_dead_end_weight_an_atom = refl;
  tables_are_over_atoms = refl;
  exchanges_are_symmetries = no_exchanges tie_task (weighs (bound 1) (pos 1) (negsuc 0) (cut_at 0 1 [] ∷ []));
  are_fair = record { values = worth_one; dead_ends = zero_is_dead_fair };
  rows_are_distinct = no_rows;
  atoms_are_fluent = All-cons (λ (a : Atom). IsTrue (is_atom tie_task a && is_fluent tie_task a.predicate)) tied [] refl (All-nil (λ (a : Atom). IsTrue (is_atom tie_task a && is_fluent tie_task a.predicate)));
  atoms_are_distinct = λ i j d before within. absurd (omega (arith, before, within));
  states_are_distinct = λ i j d before within. absurd (omega (arith, before, within));
  listing_is_closed = closed_in_task tie_task (weighs (bound 1) (pos 1) (negsuc 0) (cut_at 0 1 [] ∷ [])) (record {
    initial_listed = (start_cut 1, (0, omega arith, refl), refl, omega arith);
    successors_listed = λ line a next at is_open leads.
        the_one_line (λ (l : Line State). l.mark ≡ expanded → IsListedWithin (λ s r. s ≡ r) (start_cut 1 ∷ []) next (l.cost + 1)) (start_cut 1) line at (λ not_cut. absurd (cc)) is_open;
    expanded_goals_allowed = λ line at is_open goal. the_one_line (λ (l : Line State). l.mark ≡ expanded → 1 ≤ l.cost) (start_cut 1) line at (λ not_cut. absurd (cc)) is_open;
    cuts_allowed = λ line rest at is_cut.
        the_one_line (λ (l : Line State). l.mark ≡ cut rest → 1 ≤ l.cost + rest) (start_cut 1) line at (λ is. let same : 1 ≡ rest = cc in omega (arith, same)) is_cut;
  });
  landmarks_are_over_atoms = refl;
  landmarks_are_fair = record { values = λ k h within. absurd (omega (arith, within)); dead_ends = λ k n within. absurd (omega (arith, within)) };
  lines_are_supported =
      let P = IsSupportedLine tie_task (weighs (bound 1) (pos 1) (negsuc 0) (cut_at 0 1 [] ∷ [])) in
      All-cons P (cut_at 0 1 []) [] (omega (arith, start_value)) (All-nil P);
}

-- with weight two, the instance loses more than its cost of one
worth_two : IsWrongAt tie_task (weighs (bound 1) (pos 2) (negsuc 1) (cut_at 0 1 [] ∷ [])) unfair 0
worth_two = (
  the_instance,
  (
    refl,
    (
      subst (λ l. Contains l the_instance) (sym kept_are) (0, omega arith, refl),
      subst (λ atoms. ¬ IsFairAt (cost_of tie_task the_instance) tie_task atoms (weights_of (negsuc 1)) the_instance) (sym atoms_are)
          (is_unfair_at tie_task (tied ∷ []) (weights_of (negsuc 1)) the_instance 1 (pos 2) refl refl (λ h. absurd (omega (arith, ints)))),
    ),
  ),
)

more_than_none : (z : ℤ) → z ≡ pos 1 → z ≤ℤ pos 0 → ⊥
more_than_none z is h = absurd (omega (arith, ints))

one_left : IsWrongAt tie_task (weighs (bound 1) (pos 2) (negsuc 0) (cut_at 0 1 [] ∷ [])) unfair_goal 0
one_left =
    (refl, subst (λ atoms. ¬ IsFairAtGoals tie_task atoms (potentials (pos 2) (negsuc 0))) (sym atoms_are) (λ fair. more_than_none (pos 1) refl fair.within))

-- ---- a dead end

-- the token is at x
abbrev at_x : State
at_x = from_list {R = atom_cmp} (ground 0 [] ∷ [])

token_atoms_are : numbered_atoms token_task token_atoms ≡ token_atoms
token_atoms_are = numbered-is token_task token_atoms ∙ refl

reported_at_x : (p : PotentialFunction) → is_dead_state token_atoms p at_x ≡ is_dead_by p (true ∷ false ∷ [])
reported_at_x p = λ i. is_dead_by p (contains-from_list atoms_total (ground 0 [] ∷ []) (ground 0 []) i ∷ contains-from_list atoms_total (ground 0 [] ∷ []) (ground 1 []) i ∷ [])

abbrev dead_line : Line State
dead_line = record { state = at_x; cost = 0; mark = dead }

dead_closed : (claim : Claim) → IsClosedFor token_task (token_reported two claim (pos 2) (minus 1))
dead_closed claim = record {
  as_many_values = refl;
  one_weight_an_atom = one_value 2 (zeros token_atoms) refl;
  one_dead_end_weight_an_atom = refl;
  tables_are_over_atoms = refl;
  exchanges_are_symmetries = no_exchanges token_task (token_reported two claim (pos 2) (minus 1));
  are_fair = record {
    values = subst (λ atoms. AreFair token_task atoms (zeros token_atoms)) (sym token_atoms_are) (zero-fair token_task token_atoms);
    dead_ends = subst (λ atoms. AreDeadFair token_task atoms one_missing) (sym token_atoms_are) fair_proofs.are_judged.token_is_dead_fair;
  };
  rows_are_distinct = no_rows;
  atoms_are_fluent =
      let P = λ (a : Atom). IsTrue (is_atom token_task a && is_fluent token_task a.predicate) in
      All-cons P (ground 0 []) (ground 1 [] ∷ []) refl (All-cons P (ground 1 []) [] refl (All-nil P));
  atoms_are_distinct =
      let R = λ (a b : Atom). a ≢ b in
      AllPairs-cons R (ground 0 []) (ground 1 [] ∷ []) (All-cons (R (ground 0 [])) (ground 1 []) [] (λ same. absurd (cc (ap (λ (a : Atom). a.predicate) same))) (All-nil (R (ground 0 []))))
      (λ i j d before within. absurd (omega (arith, before, within)));
  states_are_distinct = λ i j d before within. absurd (omega (arith, before, within));
  listing_is_closed = closed_in_task token_task (token_reported two claim (pos 2) (minus 1)) (record {
    initial_listed = (dead_line, (0, omega arith, refl), refl, omega arith);
    successors_listed = λ line a next at is_open leads.
        the_one_line (λ (l : Line State). l.mark ≡ expanded → IsListedWithin (λ s r. s ≡ r) (dead_line ∷ []) next (l.cost + cost_of token_task a)) dead_line line at (λ is. absurd (cc)) is_open;
    expanded_goals_allowed = λ line at is_open goal. the_one_line (λ (l : Line State). l.mark ≡ expanded → Allows claim l.cost) dead_line line at (λ is. absurd (cc)) is_open;
    cuts_allowed = λ line rest at is_cut. the_one_line (λ (l : Line State). l.mark ≡ cut rest → Allows claim (l.cost + rest)) dead_line line at (λ is. absurd (cc)) is_cut;
  });
  landmarks_are_over_atoms = refl;
  landmarks_are_fair = record { values = λ k h within. absurd (omega (arith, within)); dead_ends = λ k n within. absurd (omega (arith, within)) };
  lines_are_supported =
      let P = IsSupportedLine token_task (token_reported two claim (pos 2) (minus 1)) in
      All-cons P (dead_at 0 (0 ∷ [])) [] (reported_at_x one_missing) (All-nil P);
}

-- with the constant 1 its value is 0
not_reported : IsWrongAt token_task (token_reported two model.none (pos 1) (minus 1)) not_dead 6
not_reported = (dead_at 0 (0 ∷ []), of_all, (0, refl, refl), refl, reported_at_x (fair.potentials (pos 1) (minus 1 ∷ minus 1 ∷ [])))

-- with the constant 3, the value in goal states is 1
dead_left : IsWrongAt token_task (token_reported two model.none (pos 3) (minus 1)) dead_unfair_goal 1
dead_left = (
  refl,
  subst (λ atoms. ¬ IsFairAtGoals token_task atoms (fair.potentials (pos 3) (minus 1 ∷ minus 1 ∷ []))) (sym token_atoms_are)
      (λ fair. more_than_none (pos 1) refl fair.within),
)

-- if (y) has weight -2, the first step makes the sum fall by 1
fore_loses : IsWrongAt token_task (token_reported two model.none (pos 2) (minus 2)) dead_unfair 1
fore_loses = (
  refl,
  fore,
  (
    subst (λ l. Contains l fore) (sym kept) (0, omega arith, refl),
    subst (λ atoms. ¬ IsFairAt 0 token_task atoms (minus 1 ∷ minus 2 ∷ []) fore) (sym token_atoms_are)
        (is_unfair_within token_task token_atoms nothing (minus 1 ∷ minus 2 ∷ []) fore 0 (pos 1) refl refl (λ h. absurd (omega (arith, ints)))),
  ),
)
  where
    fore : Instance
    fore = instance 0 []

    kept : kept_instances token_task ≡ fore ∷ instance 1 [] ∷ []
    kept = kept-is token_task ∙ refl

pub are_judged : AreJudged
are_judged = record {
  link_is_static = refl;
  tied_is_fluent = refl;
  static_at_start = refl;
  closed = record {
    as_many_values = refl;
    one_weight_an_atom = one_value 1 (zeros (tied ∷ [])) refl;
    one_dead_end_weight_an_atom = refl;
    tables_are_over_atoms = refl;
    exchanges_are_symmetries = no_exchanges tie_task (claims (bound 1) (tied ∷ []) start_expanded);
    are_fair = record { values = zero_is_fair; dead_ends = zero_is_dead_fair };
    rows_are_distinct = no_rows;
    atoms_are_fluent = All-cons (λ (a : Atom). IsTrue (is_atom tie_task a && is_fluent tie_task a.predicate)) tied [] refl (All-nil (λ (a : Atom). IsTrue (is_atom tie_task a && is_fluent tie_task a.predicate)));
    atoms_are_distinct = λ i j d before within. absurd (omega (arith, before, within));
    states_are_distinct = AllPairs-cons (λ (k l : Line State). k.state ≢ l.state) first (second ∷ []) (All-cons (λ (l : Line State). first.state ≢ l.state) second [] apart (All-nil (λ (l : Line State). first.state ≢ l.state)))
        (λ i j d before within. absurd (omega (arith, before, within)));
    listing_is_closed = closed_in_task tie_task (claims (bound 1) (tied ∷ []) start_expanded) (record {
      initial_listed = (line_of (expanded_at 0 []), (0, omega arith, refl), refl, omega arith);
      successors_listed = λ line a next at is_open leads.
          of_two (λ (l : Line State). l.mark ≡ expanded → step tie_task l.state a ≡ Some next → IsListedWithin (λ s r. s ≡ r) (first ∷ second ∷ []) next (l.cost + 1)) first second line at
          (λ _ leads. (second, (1, omega arith, refl), sym (only_instance a next leads), omega arith)) (λ not_cut _. absurd (cc)) is_open leads;
      expanded_goals_allowed = λ line at is_open goal.
          of_two (λ (l : Line State). l.mark ≡ expanded → IsTrue (meets_goal tie_task l.state) → 1 ≤ l.cost) first second line at
          (λ _ met. absurd (true≢false (sym met ∙ not_tied))) (λ not_cut _. absurd (cc)) is_open goal;
      cuts_allowed = λ line rest at is_cut.
          of_two (λ (l : Line State). l.mark ≡ cut rest → 1 ≤ l.cost + rest) first second line at (λ none. absurd (cc)) (λ is. let same : 0 ≡ rest = cc in omega (arith, same)) is_cut;
    });
    landmarks_are_over_atoms = refl;
    landmarks_are_fair = record { values = λ k h within. absurd (omega (arith, within)); dead_ends = λ k n within. absurd (omega (arith, within)) };
    lines_are_supported =
        let P = IsSupportedLine tie_task (claims (bound 1) (tied ∷ []) start_expanded) in
        All-cons P (expanded_at 0 []) (cut_at 1 0 (0 ∷ []) ∷ []) tt (All-cons P (cut_at 1 0 (0 ∷ [])) [] (omega arith) (All-nil P));
  };
  cut_claims_too_little = (cut_at 1 0 (0 ∷ []), of_all, 0, (1, refl, refl), refl, inr (λ h. absurd (omega (arith, h))));
  open_goal = (line_of (expanded_at 1 (0 ∷ [])), (1, refl, refl), refl, contains-from_list atoms_total (tied ∷ linked ∷ []) tied, λ h. absurd (omega (arith, h)));
  cut_by_its_bound = (cut_at 1 1 (0 ∷ []), of_all, 1, (1, refl, refl), refl, inl (let none = end_value in omega (arith, none)));
  cut_without_bound = (line_of (cut_at 1 0 (0 ∷ [])), 0, (1, refl, refl), refl, refl);
  missing = (line_of (expanded_at 0 []), the_instance, after_it, ((0, refl, refl), refl, leads_on), λ listed. apart (one_line listed.0 listed.1 listed.2 ∙ sym same_end));
  dear_start = λ listed.
      of_two (λ (l : Line State). l.cost ≤ 0 → ⊥) (line_of (expanded_at 1 [])) second listed.0 listed.1 (λ h. absurd (omega (arith, h))) (λ h. absurd (omega (arith, h))) listed.3;
  cut_by_value = cut_closed;
  claims_above_value = (cut_at 0 1 [], of_all, 1, (0, refl, refl), refl, inr (λ h. absurd (omega (arith, h))));
  cut_above_value = (cut_at 0 2 [], of_all, 2, (0, refl, refl), refl, inl (let one = start_value in omega (arith, one)));
  worth_more = worth_two;
  left_at_goal = one_left;
  static_atom = (linked, (0, refl, refl), refl);
  atom_twice = inl (tied, 4, omega arith, (0, refl, refl), (1, refl, refl));
  state_twice = inr (line_of (expanded_at 0 []), line_of (cut_at 0 0 []), 5, omega arith, (0, refl, refl), (1, refl, refl), refl);
  numbers_rise = refl;
  weights_are_limited = refl;
  least_weight = refl;
  weight_missing = refl;
  dead_start = dead_closed model.none;
  dead_within_bound = dead_closed (bound 7);
  not_reported_dead = not_reported;
  dead_left_at_goal = dead_left;
  lost_by_fore = fore_loses;
  version_2_has_dead_ends = refl;
  version_1_has_none = refl;
  dead_in_version_1 = refl;
  state_after_tables = refl;
  tables_within_limits = refl;
  second_exchange = refl;
  atom_after_exchanges = refl;
  state_after_exchanges = refl;
  rooms_exchanged = (swapping 0 1, (1, refl, refl), refl);
  ball_and_gripper = (swapping 2 4, (0, refl, refl), refl);
  ball_and_none = (swapping 2 6, (0, refl, refl), refl);
  exchanges_in_version_3 = refl;
  exchanges_in_version_2 = refl;
  version_2_without = refl;
  exchange_of_nothing = refl;
}
