-- The worked certificates with exchanges.
use Rattle.std.proofs.Common.{◌≡◌, ◌⊎◌, ◌+◌, ◌≤◌, inl, inr, Bool, true, false, true≢false, ◌&&◌, [], ◌∷◌, Some, refl, sym, ◌∙◌, ap, subst, arith}
use Rattle.std.specs.Prelude.{All, ◌≢◌, ℕ, List, length, get_or, AllPairs, Contains, IsTrue}
use Rattle.std.specs.FinSet.{contains, from_list, contains-from_list}
use Rattle.std.proofs.lemmas.Option.{same_Some}
use Rattle.std.proofs.lemmas.List.Elements.{All-cons, All-contains_itself, All-nil}
use Rattle.std.proofs.lemmas.List.Kept.{AllPairs-cons}
use Rattle.model.specs.Task.{Atom, Instance, Task}
use Rattle.model.specs.Examples.{instance}
use Rattle.model.specs.Meaning.{State, atom_cmp, fits, step, changes_of, meets_goal, system_of, cost_of}
use Rattle.model.specs.WellTyped.{is_atom}
use Rattle.model.specs.Fluents.{is_fluent}
use Rattle.model.specs.NumberedAtoms.{numbered_atoms}
use Rattle.model.specs.Claims.{Claim, bound, Allows, expanded, cut, Line, IsListedWithin, IsClosed}
use Rattle.model.proofs.Atoms.{atoms_total, same_state}
use Rattle.model.proofs.GroundingComputes.{numbered-is}
use Rattle.model.proofs.InstancesLemmas.{is_instance-of_step, Contains-all_instances}
use Rattle.model.proofs.ListLemmas.{Contains-cases, Contains-none}
use Rattle.model.proofs.Steps.{is_in, state_after, contains-state_after, holds-after, leads}
use Rattle.symmetries_definitions.specs.Exchanges.{Exchange}
use Rattle.symmetries_definitions.specs.Symmetries.{is_symmetry}
use Rattle.symmetries_definitions.specs.Orbits.{AreAlike, keeps_atoms}
use Rattle.symmetries_definitions.specs.SymmetryExamples.{swapping}
use Rattle.symmetries_definitions.proofs.ImagesCompute.{images_in, images-list}
use Rattle.lower_bounds.specs.PotentialFunctions.{PotentialFunction}
use Rattle.lower_bounds.specs.FairPotentials.{nothing}
use Rattle.lower_bounds.proofs.Zero.{zero-fair, zero-dead_fair}
use Rattle.lower_bounds.specs.TableFunctions.{Row, Table}
use Rattle.lower_bounds.specs.FairTables.{AreFairAt, IsFair, AreFair, is_asked}
use Rattle.lower_bounds.specs.TableLaws.{without_tables}
use Rattle.lower_bounds.proofs.WithoutTables.{potentials_are_table_functions}
use Rattle.lower_bounds.specs.FairLandmarks.{IsDeadFair}
use Rattle.certificate_definitions.specs.Certificates.{Certificate, StateLine, dead_by, landmark_function, lines_of, is_symmetry_for, AreAlikeFor, state_of_line, IsSupported, IsClosedFor}
use Rattle.certificate_definitions.specs.CertificateExamples.{expanded_at, cut_at, zeros}
use Rattle.certificate_definitions.specs.ExchangeExamples.{lit, light, lamps, dark, second_lit, lamp_atoms, by_exchange, one_of_two, dearer_first, AreExchangesJudged}

-- ---- states and steps

-- the state with these true atoms
abbrev state : List Atom → State
state atoms = from_list {R = atom_cmp} atoms

apart : (xs ys : List Atom) (a : Atom) → is_in a xs ≡ false → is_in a ys ≡ true → state xs ≢ state ys
apart xs ys a none some same =
    absurd (true≢false (sym some ∙ sym (contains-from_list atoms_total ys a) ∙ sym (ap (λ (s : State). contains s a) same) ∙ contains-from_list atoms_total xs a ∙ none))

abbrev lighting : ℕ → Instance
lighting lamp = instance 0 (lamp ∷ [])

one_lit : (lamp : ℕ) → fits dark light (lamp ∷ []) ≡ true → step dark (state []) (lighting lamp) ≡ Some (state (lit lamp ∷ []))
one_lit lamp fit =
    let changes = changes_of dark light.effect (lamp ∷ []) in
    leads dark (state []) (lighting lamp) light refl fit refl
    ∙ ap Some (same_state (state_after dark [] (changes ∷ [])) (state (lit lamp ∷ [])) (λ q. contains-state_after dark [] (changes ∷ []) q ∙ sym (contains-from_list atoms_total (lit lamp ∷ []) q)))

-- what holds if either lamp is lit holds of each successor of the initial state
each_lit : (P : State → Type 0) → P (state (lit 0 ∷ [])) → P (state (lit 1 ∷ [])) → (a : Instance) (next : State) → step dark (state []) a ≡ Some next → P next
each_lit P of_first of_second a next h =
    by_first (Contains-cases (lighting 0) (lighting 1 ∷ []) a (Contains-all_instances dark a (is_instance-of_step dark (state []) a next h)))
  where
    reached : (lamp : ℕ) → fits dark light (lamp ∷ []) ≡ true → lighting lamp ≡ a → P (state (lit lamp ∷ [])) → P next
    reached lamp fit is of_it = subst P (same_Some (state (lit lamp ∷ [])) next (sym (one_lit lamp fit) ∙ ap (step dark (state [])) is ∙ h)) of_it

    by_second : (lighting 1 ≡ a) ⊎ Contains {X = Instance} [] a → P next
    by_second (inl is) = reached 1 refl is of_second
    by_second (inr none) = absurd (Contains-none a none)

    by_first : (lighting 0 ≡ a) ⊎ Contains (lighting 1 ∷ []) a → P next
    by_first (inl is) = reached 0 refl is of_first
    by_first (inr later) = by_second (Contains-cases (lighting 1) [] a later)

dark_misses : meets_goal dark (state []) ≡ false
dark_misses = holds-after dark [] [] dark.goal []

-- ---- which states are in the same class

dark_numbered : numbered_atoms dark lamp_atoms ≡ lamp_atoms
dark_numbered = numbered-is dark lamp_atoms ∙ refl

second_lit_numbered : numbered_atoms second_lit lamp_atoms ≡ lamp_atoms
second_lit_numbered = numbered-is second_lit lamp_atoms ∙ refl

abbrev both_ways : List Exchange
both_ways = swapping 0 1 ∷ []

module _ (init : List Atom) (numbered : numbered_atoms (lamps init) lamp_atoms ≡ lamp_atoms) (claim : Claim) (lines : List StateLine) (xs ys : List Atom) where
  are_alike : images_in lamp_atoms both_ways 4 xs ≡ images_in lamp_atoms both_ways 4 ys → AreAlikeFor (lamps init) (by_exchange claim lines) (state xs) (state ys)
  are_alike same =
      subst (λ atoms. AreAlike atoms both_ways (state xs) (state ys)) (sym numbered)
      (images-list lamp_atoms both_ways (refl, tt) 4 xs ∙ ap (from_list {R = atom_cmp}) same ∙ sym (images-list lamp_atoms both_ways (refl, tt) 4 ys))

  are_not_alike : (a : Atom) → is_in a (images_in lamp_atoms both_ways 4 xs) ≡ false → is_in a (images_in lamp_atoms both_ways 4 ys) ≡ true
      → AreAlikeFor (lamps init) (by_exchange claim lines) (state xs) (state ys) → ⊥
  are_not_alike a none some alike =
      apart (images_in lamp_atoms both_ways 4 xs) (images_in lamp_atoms both_ways 4 ys) a none some
      (sym (images-list lamp_atoms both_ways (refl, tt) 4 xs) ∙ subst (λ atoms. AreAlike atoms both_ways (state xs) (state ys)) numbered alike ∙ images-list lamp_atoms both_ways (refl, tt) 4 ys)

-- ---- closed listings

abbrev IsEach : {X : Type 0} → (X → Type 0) → List X → Type 0
IsEach P [] = Unit {0}
IsEach P (l ∷ rest) = P l × IsEach P rest

of_each : {X : Type 0} (P : X → Type 0) (lines : List X) → IsEach P lines → (line : X) → Contains lines line → P line
of_each P [] _ line at = absurd (Contains-none line at)
of_each P (l ∷ rest) (here, later) line at =
    elim (Contains-cases l rest line at) [
      | inl is ↦ subst P is here
      | inr among ↦ of_each P rest later line among
    ]

-- what a line says rests on the values
abbrev IsSupportedLine : Task → Certificate → StateLine → Type 0
IsSupportedLine task c l = IsSupported task c (state_of_line task c l) l.mark

record IsRight (task : Task) (c : Certificate) (l : Line State) : Type 0 where
  successors : (a : Instance) (next : State) → l.mark ≡ expanded → step task l.state a ≡ Some next → IsListedWithin (AreAlikeFor task c) (lines_of task c) next (l.cost + cost_of task a)
  goal : l.mark ≡ expanded → IsTrue (meets_goal task l.state) → Allows c.claim l.cost
  cuts : (rest : ℕ) → l.mark ≡ cut rest → Allows c.claim (l.cost + rest)

closed_by : (task : Task) (c : Certificate) → IsListedWithin (AreAlikeFor task c) (lines_of task c) (system_of task).initial 0 → IsEach (IsRight task c) (lines_of task c)
    → IsClosed (system_of task) (AreAlikeFor task c) c.claim (lines_of task c)
closed_by task c initial right =
    let at = of_each (IsRight task c) (lines_of task c) right in
    record {
      initial_listed = initial;
      successors_listed = λ line a next listed is_open leads. (at line listed).successors a next is_open leads;
      expanded_goals_allowed = λ line listed. (at line listed).goal;
      cuts_allowed = λ line rest listed. (at line listed).cuts rest;
    }

-- a cut with bound 0
cut_right : (task : Task) (c : Certificate) (s : State) (least cost : ℕ) → c.claim ≡ bound least → least ≤ cost → IsRight task c (record { state = s; cost = cost; mark = cut 0 })
cut_right task c s least cost claims enough = record {
  successors = λ a next is_open. absurd (cc);
  goal = λ is_open. absurd (cc);
  cuts = λ rest is.
      let same : 0 ≡ rest = cc in
      subst (λ claim. Allows claim (cost + rest)) (sym claims) (omega (arith, same, enough));
}

-- the dark state is open, at cost 0
dark_right : (c : Certificate) → IsListedWithin (AreAlikeFor dark c) (lines_of dark c) (state (lit 0 ∷ [])) 1 → IsListedWithin (AreAlikeFor dark c) (lines_of dark c) (state (lit 1 ∷ [])) 1
    → IsRight dark c (record { state = state []; cost = 0; mark = expanded })
dark_right c first second = record {
  successors = λ a next is_open leads. each_lit (λ s. IsListedWithin (AreAlikeFor dark c) (lines_of dark c) s 1) first second a next leads;
  goal = λ is_open met. absurd (true≢false (sym met ∙ dark_misses));
  cuts = λ rest is. absurd (cc);
}

-- ---- closed certificates

at_any_place : (asked : Instance → Bool) (allowance : Instance → ℕ) (task : Task) (atoms : List Atom) (p : PotentialFunction) (place : ℕ)
    → AreFairAt asked allowance task atoms (without_tables p) → AreFairAt asked allowance task atoms (record { potentials = p; tables = []; place = place })
at_any_place asked allowance task atoms p place fair = record {
  instances = λ k d below is_asked.
      let here = fair.instances k d below is_asked in
      record { closed = here.closed; within = here.within };
  goals = record { within = fair.goals.within };
}

zero_everywhere : (init : List Atom) (c : Certificate) → numbered_atoms (lamps init) lamp_atoms ≡ lamp_atoms
    → AreFair (lamps init) (numbered_atoms (lamps init) lamp_atoms) (record { values = zeros lamp_atoms ∷ []; dead_ends = zeros lamp_atoms; tables = [] })
zero_everywhere init c numbered =
    let task = lamps init in
    let asked = is_asked task lamp_atoms [] in
    let special = potentials_are_table_functions task lamp_atoms (zeros lamp_atoms) in
    subst (λ atoms. AreFair task atoms (record { values = zeros lamp_atoms ∷ []; dead_ends = zeros lamp_atoms; tables = [] })) (sym numbered) (record {
      values = All-cons (IsFair task lamp_atoms) (without_tables (zeros lamp_atoms)) [] (special.fair (cost_of task) asked (zero-fair task lamp_atoms)) (All-nil (IsFair task lamp_atoms));
      dead_ends = at_any_place asked nothing task lamp_atoms (zeros lamp_atoms) 1 (special.fair nothing asked (zero-dead_fair task lamp_atoms));
    })

closed_for : (init : List Atom) (claim : Claim) (lines : List StateLine) → numbered_atoms (lamps init) lamp_atoms ≡ lamp_atoms → is_symmetry (lamps init) (swapping 0 1) ≡ true
    → AllPairs (λ (k l : Line State). k.state ≢ l.state) (lines_of (lamps init) (by_exchange claim lines))
    → IsEach (IsSupportedLine (lamps init) (by_exchange claim lines)) lines → dead_by (by_exchange claim lines) ≡ []
    → IsClosed (system_of (lamps init)) (AreAlikeFor (lamps init) (by_exchange claim lines)) claim (lines_of (lamps init) (by_exchange claim lines))
    → IsClosedFor (lamps init) (by_exchange claim lines)
closed_for init claim lines numbered symmetric distinct supported none_dead closed =
    let task = lamps init in
    let c = by_exchange claim lines in
    let Fluent = λ (a : Atom). IsTrue (is_atom task a && is_fluent task a.predicate) in
    let Differ = λ (a b : Atom). a ≢ b in
    record {
      as_many_values = refl;
      one_weight_an_atom = All-cons (λ (p : PotentialFunction). length p.weights ≡ 2) (zeros lamp_atoms) [] refl (All-nil (λ (p : PotentialFunction). length p.weights ≡ 2));
      one_dead_end_weight_an_atom = refl;
      tables_are_over_atoms = refl;
      exchanges_are_symmetries =
          All-cons (λ (e : Exchange). IsTrue (is_symmetry_for task c e)) (swapping 0 1) []
          (subst (λ atoms. IsTrue (is_symmetry task (swapping 0 1) && keeps_atoms atoms (swapping 0 1))) (sym numbered) (ap (λ b. b && keeps_atoms lamp_atoms (swapping 0 1)) symmetric))
          (All-nil (λ (e : Exchange). IsTrue (is_symmetry_for task c e)));
      are_fair = zero_everywhere init c numbered;
      atoms_are_fluent = All-cons Fluent (lit 0) (lit 1 ∷ []) refl (All-cons Fluent (lit 1) [] refl (All-nil Fluent));
      atoms_are_distinct =
          AllPairs-cons Differ (lit 0) (lit 1 ∷ []) (All-cons (Differ (lit 0)) (lit 1) [] (λ same. absurd (cc (ap (λ (a : Atom). get_or a.objects 0 0) same))) (All-nil (Differ (lit 0))))
          (λ i j d before within. absurd (omega (arith, before, within)));
      rows_are_distinct = All-nil (λ (t : Table). AllPairs (λ (q r : Row). q.atoms ≢ r.atoms) t.rows);
      states_are_distinct = distinct;
      listing_is_closed = closed;
      landmarks_are_over_atoms = refl;
      landmarks_are_fair = record { values = λ k h within. absurd (omega (arith, within)); dead_ends = subst (All (λ (number : ℕ). IsDeadFair task (numbered_atoms task lamp_atoms) (landmark_function c number))) (sym none_dead) (All-nil (λ (number : ℕ). IsDeadFair task (numbered_atoms task lamp_atoms) (landmark_function c number))) };
      lines_are_supported = λ place d within. of_each (IsSupportedLine task c) lines supported (get_or lines place d) (All-contains_itself lines place d within);
    }

-- ---- the examples

abbrev Differ : Line State → Line State → Type 0
Differ k l = k.state ≢ l.state

abbrev opened_dark : Line State
opened_dark = record { state = state []; cost = 0; mark = expanded }

abbrev cut_lit : ℕ → ℕ → Line State
cut_lit lamp cost = record { state = state (lit lamp ∷ []); cost = cost; mark = cut 0 }

dark_and_lit : (lamp : ℕ) → is_in (lit lamp) (lit lamp ∷ []) ≡ true → state [] ≢ state (lit lamp ∷ [])
dark_and_lit lamp itself = apart [] (lit lamp ∷ []) (lit lamp) refl itself

second_and_first : state (lit 1 ∷ []) ≢ state (lit 0 ∷ [])
second_and_first = apart (lit 1 ∷ []) (lit 0 ∷ []) (lit 0) refl refl

first_and_second : state (lit 0 ∷ []) ≢ state (lit 1 ∷ [])
first_and_second = apart (lit 0 ∷ []) (lit 1 ∷ []) (lit 1) refl refl

-- no other line lists this line's state
alone : (l : Line State) → AllPairs Differ (l ∷ [])
alone l = λ i j d before within. absurd (omega (arith, before, within))

two_lines : (k l : Line State) → Differ k l → AllPairs Differ (k ∷ l ∷ [])
two_lines k l differ = AllPairs-cons Differ k (l ∷ []) (All-cons (Differ k) l [] differ (All-nil (Differ k))) (alone l)

of_one : IsClosedFor dark (by_exchange (bound 1) one_of_two)
of_one =
    let c = by_exchange (bound 1) one_of_two in
    closed_for [] (bound 1) one_of_two dark_numbered refl (two_lines opened_dark (cut_lit 1 1) (dark_and_lit 1 refl)) (tt, (omega arith, tt)) refl
    (closed_by dark c (opened_dark, (0, omega arith, refl), are_alike [] dark_numbered (bound 1) one_of_two [] [] refl, omega arith) (
      dark_right c (cut_lit 1 1, (1, omega arith, refl), are_alike [] dark_numbered (bound 1) one_of_two (lit 1 ∷ []) (lit 0 ∷ []) refl, omega arith)
          (cut_lit 1 1, (1, omega arith, refl), are_alike [] dark_numbered (bound 1) one_of_two (lit 1 ∷ []) (lit 1 ∷ []) refl, omega arith),
      (cut_right dark c (state (lit 1 ∷ [])) 1 1 refl (omega arith), tt),
    ))

of_cheaper : IsClosedFor dark (by_exchange (bound 1) dearer_first)
of_cheaper =
    let c = by_exchange (bound 1) dearer_first in
    closed_for [] (bound 1) dearer_first dark_numbered refl
    (AllPairs-cons Differ opened_dark (cut_lit 0 2 ∷ cut_lit 1 1 ∷ []) (All-cons (Differ opened_dark) (cut_lit 0 2) (cut_lit 1 1 ∷ []) (dark_and_lit 0 refl) (All-cons (Differ opened_dark) (cut_lit 1 1) [] (dark_and_lit 1 refl) (All-nil (Differ opened_dark))))
    (two_lines (cut_lit 0 2) (cut_lit 1 1) first_and_second)) (tt, (omega arith, (omega arith, tt))) refl
    (closed_by dark c (opened_dark, (0, omega arith, refl), are_alike [] dark_numbered (bound 1) dearer_first [] [] refl, omega arith) (
      dark_right c (cut_lit 1 1, (2, omega arith, refl), are_alike [] dark_numbered (bound 1) dearer_first (lit 1 ∷ []) (lit 0 ∷ []) refl, omega arith)
          (cut_lit 1 1, (2, omega arith, refl), are_alike [] dark_numbered (bound 1) dearer_first (lit 1 ∷ []) (lit 1 ∷ []) refl, omega arith),
      (cut_right dark c (state (lit 0 ∷ [])) 1 2 refl (omega arith), (cut_right dark c (state (lit 1 ∷ [])) 1 1 refl (omega arith), tt)),
    ))

-- for an initial state in which the second lamp is lit
of_start : (lamp : ℕ) (lines : List StateLine) → lines ≡ cut_at 0 0 (lamp ∷ []) ∷ [] → lines_of second_lit (by_exchange (bound 0) lines) ≡ cut_lit lamp 0 ∷ []
    → images_in lamp_atoms both_ways 4 (lit lamp ∷ []) ≡ images_in lamp_atoms both_ways 4 (lit 1 ∷ []) → IsClosedFor second_lit (by_exchange (bound 0) lines)
of_start lamp lines is listed same =
    let c = by_exchange (bound 0) lines in
    closed_for (lit 1 ∷ []) (bound 0) lines second_lit_numbered refl (subst (AllPairs Differ) (sym listed) (alone (cut_lit lamp 0)))
    (subst (IsEach (IsSupportedLine second_lit c)) (sym is) (omega arith, tt)) (ap (λ lines. dead_by (by_exchange (bound 0) lines)) is)
    (closed_by second_lit c
    (subst (λ l. IsListedWithin (AreAlikeFor second_lit c) l (state (lit 1 ∷ [])) 0) (sym listed) (cut_lit lamp 0, (0, omega arith, refl), are_alike (lit 1 ∷ []) second_lit_numbered (bound 0) lines (lit lamp ∷ []) (lit 1 ∷ []) same, omega arith))
    (subst (IsEach (IsRight second_lit c)) (sym listed) (cut_right second_lit c (state (lit lamp ∷ [])) 0 0 refl (omega arith), tt)))

pub are_exchanges_judged : AreExchangesJudged
are_exchanges_judged = record {
  one_listed = of_one;
  one_missing = (
    opened_dark,
    lighting 0,
    state (lit 0 ∷ []),
    ((0, refl, refl), refl, one_lit 0 refl),
    λ listed. of_each (λ l. l.state ≡ state (lit 0 ∷ []) → ⊥) (opened_dark ∷ cut_lit 1 1 ∷ []) (dark_and_lit 0 refl, (second_and_first, tt)) listed.0 listed.1 listed.2,
  );
  cheaper_counts = of_cheaper;
  dearer_alone = (
    opened_dark,
    lighting 0,
    state (lit 0 ∷ []),
    ((0, refl, refl), refl, one_lit 0 refl),
    (cut_lit 0 2, (1, omega arith, refl), refl),
    λ listed.
        of_each (λ l. l.state ≡ state (lit 0 ∷ []) → l.cost ≤ 1 → ⊥) (opened_dark ∷ cut_lit 0 2 ∷ cut_lit 1 1 ∷ [])
        (λ same _. dark_and_lit 0 refl same, (λ _ within. absurd (omega (arith, within)), (λ same _. second_and_first same, tt))) listed.0 listed.1 listed.2 listed.3,
  );
  both_dearer = (
    opened_dark,
    lighting 0,
    state (lit 0 ∷ []),
    ((0, refl, refl), refl, one_lit 0 refl),
    (cut_lit 0 2, (1, omega arith, refl), are_alike [] dark_numbered (bound 1) both_at_2 (lit 0 ∷ []) (lit 0 ∷ []) refl),
    λ listed.
        of_each (λ l. AreAlikeFor dark (by_exchange (bound 1) both_at_2) l.state (state (lit 0 ∷ [])) → l.cost ≤ 1 → ⊥) (opened_dark ∷ cut_lit 0 2 ∷ cut_lit 1 2 ∷ [])
        (λ alike _. are_not_alike [] dark_numbered (bound 1) both_at_2 [] (lit 0 ∷ []) (lit 0) refl refl alike, (λ _ within. absurd (omega (arith, within)), (λ _ within. absurd (omega (arith, within)), tt)))
        listed.0 listed.1 listed.2 listed.3,
  );
  start_listed = of_start 1 (cut_at 0 0 (1 ∷ []) ∷ []) refl refl refl;
  alike_the_start = of_start 0 (cut_at 0 0 (0 ∷ []) ∷ []) refl refl refl;
  start_missing = λ listed. of_each (λ l. l.state ≡ state (lit 1 ∷ []) → ⊥) (cut_lit 0 0 ∷ []) (first_and_second, tt) listed.0 listed.1 listed.2;
}
  where
    both_at_2 : List StateLine
    both_at_2 = expanded_at 0 [] ∷ cut_at 2 0 (0 ∷ []) ∷ cut_at 2 0 (1 ∷ []) ∷ []
