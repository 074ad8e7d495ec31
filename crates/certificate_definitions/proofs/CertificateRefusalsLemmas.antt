-- A closed certificate has no fault.
use Rattle.std.proofs.Common.{◌≡◌, ℕ, suc, ◌+◌, ◌<◌, ◌&&◌, List, [], ◌∷◌, get_or, Option, None, Some, inl, inr, ⊎_elim, true≢false, refl, sym, ap, ◌∙◌, subst, arith}
use Rattle.std.specs.Prelude.{◌≢◌, IsTrue, AllPairs, Contains, slice_get}
use Rattle.std.proofs.lemmas.Option.{slice_get_within, get_or_from_slice_get}
use Rattle.std.proofs.lemmas.List.Elements.{All-contains}
use Rattle.model.specs.Task.{Atom, Task, Instance}
use Rattle.model.specs.WellTyped.{is_atom}
use Rattle.model.specs.Runs.{Solves}
use Rattle.model.specs.Meaning.{State, cost_of, system_of}
use Rattle.model.specs.StaticallyFalse.{kept_instances}
use Rattle.model.specs.NumberedAtoms.{numbered_atoms}
use Rattle.model.specs.Claims.{Claim, bound, none, Allows, Line}
use Rattle.certificate_definitions.specs.Evidence.{bare}
use Rattle.model.specs.Fluents.{is_fluent}
use Rattle.certificate_definitions.specs.Certificates.{Version, one, two, three, four, dead_by, is_dead_by_landmark, landmark_function, Certificate, StateLine, potentials_of, several_of, lines_of, state_of_line, is_symmetry_for, AreFairIn, IsSupported, IsClosedFor}
use Rattle.lower_bounds.specs.LandmarkFunctions.{LandmarkFunction}
use Rattle.lower_bounds.specs.LandmarkLines.{functions_of as landmark_functions}
use Rattle.lower_bounds.specs.FairLandmarks.{IsFair, IsDeadFair}
use Rattle.symmetries_definitions.specs.Exchanges.{Exchange}
use Rattle.certificate_definitions.specs.CertificateRefusals.{Reason, not_fluent, repeated, no_initial, unfair, unfair_goal, goal_open, successor_missing, successor_dearer, cut_weak, cut_not_allowed, plan_invalid, plan_dearer, limit, dead_unfair, dead_unfair_goal, not_dead, not_symmetry, value_not_dead, value_unfair, MayLose, MayLoseByTables, IsUnfairIn, IsUnfairAtGoalsIn, IsDeadUnfairIn, IsDeadUnfairAtGoalsIn, IsWrongAt, IsWrong, IsPlanWithin}
use Rattle.lower_bounds.specs.PotentialFunctions.{PotentialFunction}
use Rattle.lower_bounds.specs.FairPotentials.{nothing, IsFairAt, AreFairAt}
use Rattle.lower_bounds.specs.TableFunctions.{TableFunction, over_tables, functions_of, dead_ends_of}
use Rattle.lower_bounds.specs.FairTables as fair_tables
use Rattle.lower_bounds.specs.FairTables.{is_asked}
use Rattle.model.proofs.ListLemmas.{Contains-cases, Contains-filter_map, Contains-got, Contains-map, Contains-none}

-- ---- elements at their indices

-- what holds of each two elements holds of those at two indices
pub apart : {X : Type 0} (R : X → X → Type 0) (xs : List X) (i j : ℕ) (x y : X) → AllPairs R xs → i < j → slice_get xs i ≡ Some x → slice_get xs j ≡ Some y → R x y
apart R xs i j x y pairs lt at_i at_j =
    subst (λ b. R x b) (get_or_from_slice_get xs j y x at_j)
    (subst (λ a. R a (get_or xs j x)) (get_or_from_slice_get xs i x x at_i) (pairs i j x lt (slice_get_within xs j y at_j)))

plan_solves : (task : Task) (claim : Claim) (p : List Instance) → IsPlanWithin task claim (Some p) → Solves (system_of task) p
plan_solves task (bound least) p within = within.0
plan_solves task none p within = absurd within

-- ---- fair values

module _ (task : Task) (c : Certificate) where
  none_loses : (allowance : Instance → ℕ) (p : PotentialFunction) → AreFairAt allowance task (numbered_atoms task c.atoms) p → (i : Instance) → MayLose (allowance i) task c p i → ⊥
  none_loses allowance p fair i (kept, wrong) =
      wrong (All-contains (λ (i : Instance). IsFairAt (allowance i) task (numbered_atoms task c.atoms) p.weights i) (kept_instances task) i fair.instances kept)

  none_loses_by_tables : (allowance : Instance → ℕ) (h : TableFunction) → fair_tables.AreFairAt (is_asked task (numbered_atoms task c.atoms) c.tables) allowance task (numbered_atoms task c.atoms) h
      → (i : Instance) → MayLoseByTables (allowance i) task c h i → ⊥
  none_loses_by_tables allowance h fair i (kept, asked, wrong) =
      wrong (All-contains (λ (i : Instance). IsTrue (is_asked task (numbered_atoms task c.atoms) c.tables i) → fair_tables.IsFairAt (allowance i) task (numbered_atoms task c.atoms) h i)
      (kept_instances task) i fair.instances kept asked)

  -- each of several fair values is fair over the certificate's tables
  each_is_fair : fair_tables.AreFair task (numbered_atoms task c.atoms) (several_of c) → (place : ℕ) (h : TableFunction) → slice_get (functions_of (several_of c)) place ≡ Some h
      → fair_tables.AreFairAt (is_asked task (numbered_atoms task c.atoms) c.tables) (cost_of task) task (numbered_atoms task c.atoms) h
  each_is_fair fair place h at =
      let among = Contains-got (functions_of (several_of c)) place h at in
      subst (λ tables. fair_tables.AreFairAt (is_asked task (numbered_atoms task c.atoms) tables) (cost_of task) task (numbered_atoms task c.atoms) h) (tables_are c.values 0 among)
      (All-contains (fair_tables.IsFair task (numbered_atoms task c.atoms)) (functions_of (several_of c)) h fair.values among)
    where
      tables_are : (values : List PotentialFunction) (place : ℕ) → Contains (over_tables c.tables place values) h → h.tables ≡ c.tables
      tables_are [] place among = absurd (Contains-none h among)
      tables_are (p ∷ values) place among =
          ⊎_elim (λ is. ap (λ (h : TableFunction). h.tables) (sym is)) (λ later. tables_are values (suc place) later)
          (Contains-cases (record { potentials = p; tables = c.tables; place = place }) (over_tables c.tables (suc place) values) h among)

  pub none_unfair : (v : Version) → AreFairIn v task c → (place : ℕ) (i : Instance) → IsUnfairIn v task c place i → ⊥
  none_unfair one fair place i (is, wrong) = none_loses (cost_of task) (potentials_of c) fair.values i wrong
  none_unfair two fair place i (is, wrong) = none_loses (cost_of task) (potentials_of c) fair.values i wrong
  none_unfair three fair place i (h, at, wrong) = none_loses_by_tables (cost_of task) h (each_is_fair fair place h at) i wrong
  none_unfair four fair place i (h, at, wrong) = none_loses_by_tables (cost_of task) h (each_is_fair fair place h at) i wrong

  pub goals_fair : (v : Version) → AreFairIn v task c → (place : ℕ) → IsUnfairAtGoalsIn v task c place → ⊥
  goals_fair one fair place (is, wrong) = wrong fair.values.goals
  goals_fair two fair place (is, wrong) = wrong fair.values.goals
  goals_fair three fair place (h, at, wrong) = wrong (each_is_fair fair place h at).goals
  goals_fair four fair place (h, at, wrong) = wrong (each_is_fair fair place h at).goals

  pub none_dead_unfair : (v : Version) → AreFairIn v task c → (i : Instance) → IsDeadUnfairIn v task c i → ⊥
  none_dead_unfair one fair i wrong = none_loses nothing c.dead_ends fair.dead_ends i wrong
  none_dead_unfair two fair i wrong = none_loses nothing c.dead_ends fair.dead_ends i wrong
  none_dead_unfair three fair i wrong = none_loses_by_tables nothing (dead_ends_of (several_of c)) fair.dead_ends i wrong
  none_dead_unfair four fair i wrong = none_loses_by_tables nothing (dead_ends_of (several_of c)) fair.dead_ends i wrong

  pub dead_goals_fair : (v : Version) → AreFairIn v task c → IsDeadUnfairAtGoalsIn v task c → ⊥
  dead_goals_fair one fair wrong = wrong fair.dead_ends.goals
  dead_goals_fair two fair wrong = wrong fair.dead_ends.goals
  dead_goals_fair three fair wrong = wrong fair.dead_ends.goals
  dead_goals_fair four fair wrong = wrong fair.dead_ends.goals

-- ---- a closed certificate's lines

-- what each line says rests on its basis
pub supported_line : (task : Task) (c : Certificate) → IsClosedFor task c → (l : StateLine) → Contains c.lines l → IsSupported task c (state_of_line task c l) l.mark
supported_line task c closed l among = All-contains (λ (l : StateLine). IsSupported task c (state_of_line task c l) l.mark) c.lines l closed.lines_are_supported among

module _ (task : Task) (c : Certificate) (closed : IsClosedFor task c) where
  abbrev listed : List (Line State)
  listed = lines_of task c

  abbrev entry : StateLine → Line State
  entry l = record { state = state_of_line task c l; cost = l.cost; mark = bare l.mark }

  pub right_line : (reason : Reason) (line : ℕ) → IsWrongAt task c reason line → ⊥
  right_line not_fluent line (a, (place, reported, at), wrong) =
      let right = closed.atoms_are_fluent place a (slice_get_within c.atoms place a at) in
      let here : IsTrue (is_atom task a && is_fluent task a.predicate) =
      subst (λ (b : Atom). IsTrue (is_atom task b && is_fluent task b.predicate)) (get_or_from_slice_get c.atoms place a a at) right in
      absurd (cc)
  right_line not_symmetry line (e, (place, reported, at), wrong) =
      let here = closed.exchanges_are_symmetries place e (slice_get_within c.exchanges place e at) in
      let right : IsTrue (is_symmetry_for task c e) = subst (λ (x : Exchange). IsTrue (is_symmetry_for task c x)) (get_or_from_slice_get c.exchanges place e e at) here in
      absurd (cc)
  right_line repeated line (inl (a, before, lt, (j, reported_j, at_j), (k, reported_k, at_k))) =
      apart (λ (a b : Atom). a ≢ b) c.atoms j k a a closed.atoms_are_distinct (omega arith) at_j at_k refl
  right_line repeated line (inr (earlier, l, before, lt, (j, reported_j, at_j), (k, reported_k, at_k), same)) =
      apart (λ (k l : Line State). k.state ≢ l.state) listed j k earlier l closed.states_are_distinct (omega arith) at_j at_k same
  right_line goal_open line (l, (place, reported, at), is_open, goal, denied) =
      denied (closed.listing_is_closed.expanded_goals_allowed l (Contains-got listed place l at) is_open goal)
  right_line successor_missing line (l, i, next, ((place, reported, at), is_open, leads), missing) =
      let there = closed.listing_is_closed.successors_listed l i next (Contains-got listed place l at) is_open leads in
      missing (there.0, there.1, there.2)
  right_line successor_dearer line (l, i, next, ((place, reported, at), is_open, leads), is_listed, dearer) =
      dearer (closed.listing_is_closed.successors_listed l i next (Contains-got listed place l at) is_open leads)
  right_line cut_weak line (l, basis, rest, (place, reported, at), is_cut, inl more) =
      let here = subst (IsSupported task c (state_of_line task c l)) is_cut (supported_line task c closed l (Contains-got c.lines place l at)) in
      absurd (omega (arith, more, here))
  right_line cut_weak line (l, basis, rest, (place, reported, at), is_cut, inr denied) =
      denied (closed.listing_is_closed.cuts_allowed (entry l) rest (Contains-map entry c.lines l (Contains-got c.lines place l at)) (ap bare is_cut))
  right_line cut_not_allowed line (l, rest, (place, reported, at), is_cut, is_none) =
      let allowed = closed.listing_is_closed.cuts_allowed l rest (Contains-got listed place l at) is_cut in
      subst (λ (claim : Claim). Allows claim (l.cost + rest)) is_none allowed
  right_line not_dead line (l, basis, (place, reported, at), is_dead, alive) =
      absurd (true≢false (sym (subst (IsSupported task c (state_of_line task c l)) is_dead (supported_line task c closed l (Contains-got c.lines place l at))) ∙ alive))
  right_line no_initial line wrong = wrong
  right_line unfair place (i, wrong) = none_unfair task c c.version closed.are_fair place i wrong
  right_line unfair_goal place wrong = goals_fair task c c.version closed.are_fair place wrong
  right_line dead_unfair place (is, i, wrong) = none_dead_unfair task c c.version closed.are_fair i wrong
  right_line dead_unfair_goal place (is, wrong) = dead_goals_fair task c c.version closed.are_fair wrong
  right_line plan_invalid line wrong = wrong
  right_line plan_dearer line wrong = wrong
  right_line limit line wrong = wrong
  right_line value_unfair line (place, h, is, at, wrong) =
      let functions : List LandmarkFunction = landmark_functions c.tables c.landmarks in
      wrong (All-contains (IsFair task (numbered_atoms task c.atoms)) functions h closed.landmarks_are_fair.values (Contains-got functions place h at))
  right_line value_not_dead line (l, number, (place, reported, at), is_dead, wrong) =
      wrong (All-contains (λ (number : ℕ). IsDeadFair task (numbered_atoms task c.atoms) (landmark_function c number)) (dead_by c) number closed.landmarks_are_fair.dead_ends
      (Contains-filter_map (λ (l : StateLine). is_dead_by_landmark l.mark) c.lines l number (Contains-got c.lines place l at) (ap is_dead_by_landmark is_dead)))

  -- and there is no other fault except for the number of instances
  pub right : (plan : Option (List Instance)) (most : ℕ) (reason : Reason) → IsPlanWithin task c.claim plan → IsWrong task c plan most reason → reason ≡ limit
  right plan most no_initial within wrong = absurd (wrong closed.listing_is_closed.initial_listed)
  right plan most unfair within wrong = absurd wrong
  right plan most unfair_goal within wrong = absurd wrong
  right plan most dead_unfair within wrong = absurd wrong
  right plan most dead_unfair_goal within wrong = absurd wrong
  right None most plan_invalid within wrong = absurd wrong
  right (Some p) most plan_invalid within wrong = absurd (wrong (plan_solves task c.claim p within))
  right None most plan_dearer within wrong = absurd wrong
  right (Some p) most plan_dearer within (least, claimed, solves, dearer) =
      let most_of = subst (λ (claim : Claim). IsPlanWithin task claim (Some p)) claimed within in
      absurd (omega (arith, most_of.1))
  right plan most limit within wrong = refl
  right plan most not_symmetry within wrong = absurd wrong
  right plan most not_fluent within wrong = absurd wrong
  right plan most repeated within wrong = absurd wrong
  right plan most goal_open within wrong = absurd wrong
  right plan most successor_missing within wrong = absurd wrong
  right plan most successor_dearer within wrong = absurd wrong
  right plan most cut_weak within wrong = absurd wrong
  right plan most cut_not_allowed within wrong = absurd wrong
  right plan most not_dead within wrong = absurd wrong
  right plan most value_unfair within wrong = absurd wrong
  right plan most value_not_dead within wrong = absurd wrong
