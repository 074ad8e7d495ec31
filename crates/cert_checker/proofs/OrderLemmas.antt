-- What is reported for a certificate is the first thing that is wrong: nothing before it is.
use Rattle.std.proofs.Common.{◌≡◌, ◌≢◌, ℕ, ◌<◌, ◌⊎◌, ◌&&◌, true, List, length, Option, None, Some, inl, inr, refl, sym, ap, ◌∙◌, subst, arith}
use Rattle.std.specs.Prelude.{All, IsSome, IsTrue, AllPairs, slice_get}
use Rattle.std.proofs.lemmas.List.Elements.{All-contains}
use Rattle.std.proofs.lemmas.Bool.{cases_eq, false≢true}
use Rattle.std.proofs.lemmas.Option.{slice_get_within, get_or_from_slice_get}
use Rattle.model.specs.Task.{Atom, Task, Instance}
use Rattle.model.specs.WellTyped.{is_atom}
use Rattle.model.specs.Runs.{Solves}
use Rattle.model.specs.Meaning.{State, system_of}
use Rattle.model.specs.Limits.{max_numbered_atoms}
use Rattle.model.specs.Grounding.{exceeded_limit}
use Rattle.model.specs.Claims.{none, Allows, expanded, cut, Line, IsListedWithin}
use Rattle.model.specs.Fluents.{is_fluent}
use Rattle.lower_bounds.specs.LandmarkFunctions.{LandmarkFunction}
use Rattle.lower_bounds.specs.FairLandmarks.{IsFair, IsDeadFair}
use Rattle.model.specs.NumberedAtoms.{numbered_atoms}
use Rattle.model.proofs.ListLemmas.{Contains-filter_map, Contains-got}
use Rattle.certificate_definitions.specs.Evidence.{bare, dead, landmark}
use Rattle.symmetries_definitions.specs.Exchanges.{Exchange}
use Rattle.certificate_definitions.specs.Certificates.{Certificate, StateLine, state_of_line, lines_of, is_symmetry_for, AreAlikeFor, AreFairFor, AreLandmarksFair, IsClosedFor, dead_by, is_dead_by_landmark, landmark_function}
use Rattle.certificate_definitions.specs.CertificateRefusals.{Reason, not_fluent, repeated, no_initial, unfair, unfair_goal, goal_open, successor_missing, successor_dearer, cut_weak, cut_not_allowed, plan_invalid, plan_dearer, limit, dead_unfair, dead_unfair_goal, not_dead, not_symmetry, value_unfair, value_not_dead, landmark_line, HasStateLine, HasExchange, exchange_line, IsUnfairIn, IsUnfairAtGoalsIn, IsDeadUnfairIn, IsWrongAt, IsWrong, IsFirst, stage_of, rank_of, state_line}
use Rattle.cert_checker.specs.FluentAtoms.{AreFluent}
use Rattle.cert_checker.specs.CheckedLines.{AreSymmetries, CutsAreAllowed, IsClosedAs, IsLineClosed, IsRightUpTo}
use Rattle.cert_checker.proofs.CertCheckerLemmas.{entry, got_mapped, open_line, slice_get-map}
use Rattle.certificate_definitions.proofs.CertificateRefusalsLemmas.{apart, dead_goals_fair, goals_fair, none_dead_unfair, none_unfair, right_line}
use Rattle.lower_bounds.specs.LandmarkLines.{functions_of as landmark_functions}

-- ---- what is known of a beginning of the certificate

-- each of the first `count` atoms is well-typed and fluent, and no two are one
pub record AtomsAreRight (task : Task) (c : Certificate) (count : ℕ) : Type 0 where
  pub fluent : (place : ℕ) (a : Atom) → place < count → slice_get c.atoms place ≡ Some a → (is_atom task a && is_fluent task a.predicate) ≡ true
  pub distinct : (i j : ℕ) (a : Atom) → i < j → j < count → slice_get c.atoms i ≡ Some a → slice_get c.atoms j ≡ Some a → ⊥

-- of the first `count` state lines no two list one state, and none is cut where no cut is allowed
pub record StatesAreRight (task : Task) (c : Certificate) (count : ℕ) : Type 0 where
  pub distinct : (i j : ℕ) (k l : Line State) → i < j → j < count → slice_get (lines_of task c) i ≡ Some k → slice_get (lines_of task c) j ≡ Some l → k.state ≡ l.state → ⊥
  pub allowed : (place : ℕ) (l : Line State) (rest : ℕ) → place < count → slice_get (lines_of task c) place ≡ Some l → l.mark ≡ cut rest → c.claim ≡ none → ⊥

pub atoms_right : (task : Task) (c : Certificate) → AreFluent task c.atoms → AtomsAreRight task c (length c.atoms)
atoms_right task c right = record {
  fluent = λ place a lt at.
      subst (λ (b : Atom). (is_atom task b && is_fluent task b.predicate) ≡ true) (get_or_from_slice_get c.atoms place a a at) (right.fluent place a lt);
  distinct = λ i j a lt within at_i at_j. apart (λ (x y : Atom). x ≢ y) c.atoms i j a a right.distinct lt at_i at_j refl;
}

pub states_right_all : (task : Task) (c : Certificate) → AllPairs (λ (k l : Line State). k.state ≢ l.state) (lines_of task c) → CutsAreAllowed task c (length (lines_of task c))
    → StatesAreRight task c (length (lines_of task c))
states_right_all task c pairs allowed = record {
  distinct = λ i j k l lt within at_i at_j same. apart (λ (x y : Line State). x.state ≢ y.state) (lines_of task c) i j k l pairs lt at_i at_j same;
  allowed = allowed;
}

-- Of what is asked of the values before this place, and of that at it before this rank, nothing is wrong; what reports dead ends
-- comes behind them.
abbrev pub AreFairUpTo : Task → Certificate → (place rank : ℕ) → Type 0
AreFairUpTo task c place rank =
    (r : Reason) (k : ℕ) → stage_of r ≡ 3 → (k < place) ⊎ ((k ≡ place) × (rank_of r < rank)) → IsWrongAt task c r k → ⊥

-- nothing is asked before the first
pub none_asked : (task : Task) (c : Certificate) → AreFairUpTo task c 0 0
none_asked task c r k stage (inl before) wrong = absurd (omega arith)
none_asked task c r k stage (inr (there, before)) wrong = absurd (omega arith)

-- none of the instances loses too much of a value before this place, or of that at it
pub instances_asked : (task : Task) (c : Certificate) (place : ℕ) → AreFairUpTo task c place 0 → ((i : Instance) → IsUnfairIn c.version task c place i → ⊥) → AreFairUpTo task c place 1
instances_asked task c place fair unlost r k stage (inl before) wrong = fair r k stage (inl before) wrong
instances_asked task c place fair unlost unfair k stage (inr (there, first)) (i, wrong) = unlost i (subst (λ n. IsUnfairIn c.version task c n i) there wrong)
instances_asked task c place fair unlost unfair_goal k stage (inr (there, first)) wrong = absurd (omega arith)
instances_asked task c place fair unlost dead_unfair k stage (inr (there, first)) wrong = absurd (omega arith)
instances_asked task c place fair unlost dead_unfair_goal k stage (inr (there, first)) wrong = absurd (omega arith)
instances_asked task c place fair unlost _ k stage (inr (there, first)) wrong = absurd (omega arith)

-- nothing is wrong with any value
pub values_asked : (task : Task) (c : Certificate) → ((k : ℕ) (i : Instance) → IsUnfairIn c.version task c k i → ⊥) → ((k : ℕ) → IsUnfairAtGoalsIn c.version task c k → ⊥)
    → AreFairUpTo task c (length c.values) 2
values_asked task c unlost goals unfair k stage before (i, wrong) = unlost k i wrong
values_asked task c unlost goals unfair_goal k stage before wrong = goals k wrong
values_asked task c unlost goals dead_unfair k stage (inl before) (there, i, wrong) = absurd (omega (arith, there))
values_asked task c unlost goals dead_unfair k stage (inr (same, before)) wrong = absurd (omega arith)
values_asked task c unlost goals dead_unfair_goal k stage (inl before) (there, wrong) = absurd (omega (arith, there))
values_asked task c unlost goals dead_unfair_goal k stage (inr (same, before)) wrong = absurd (omega arith)
values_asked task c unlost goals _ k stage before wrong = absurd (omega arith)

-- and none of the instances makes what reports dead ends fall
pub dead_instances_asked : (task : Task) (c : Certificate) → AreFairUpTo task c (length c.values) 2 → ((i : Instance) → IsDeadUnfairIn c.version task c i → ⊥) → AreFairUpTo task c (length c.values) 3
dead_instances_asked task c fair unlost r k stage (inl before) wrong = fair r k stage (inl before) wrong
dead_instances_asked task c fair unlost unfair k stage (inr (there, first)) wrong = fair unfair k stage (inr (there, omega arith)) wrong
dead_instances_asked task c fair unlost unfair_goal k stage (inr (there, first)) wrong = fair unfair_goal k stage (inr (there, omega arith)) wrong
dead_instances_asked task c fair unlost dead_unfair k stage (inr (there, first)) (last, i, wrong) = unlost i wrong
dead_instances_asked task c fair unlost dead_unfair_goal k stage (inr (there, first)) wrong = absurd (omega arith)
dead_instances_asked task c fair unlost _ k stage (inr (there, first)) wrong = absurd (omega arith)

-- nothing is wrong with fair values
fair_wholly : (task : Task) (c : Certificate) → AreFairFor task c → (r : Reason) (k : ℕ) → stage_of r ≡ 3 → IsWrongAt task c r k → ⊥
fair_wholly task c fair unfair k stage (i, wrong) = none_unfair task c c.version fair k i wrong
fair_wholly task c fair unfair_goal k stage wrong = goals_fair task c c.version fair k wrong
fair_wholly task c fair dead_unfair k stage (there, i, wrong) = none_dead_unfair task c c.version fair i wrong
fair_wholly task c fair dead_unfair_goal k stage (there, wrong) = dead_goals_fair task c c.version fair wrong
fair_wholly task c fair _ k stage wrong = absurd (omega arith)

none_reported : {X : Type 0} (o : Option X) → o ≡ None → IsSome o → ⊥
none_reported None is reported = absurd (cc)
none_reported (Some x) is reported = absurd (cc)

module _ (task : Task) (c : Certificate) where
  the_line : (place k : ℕ) (a b : Line State) → k ≡ place → slice_get (lines_of task c) k ≡ Some a → slice_get (lines_of task c) place ≡ Some b → a ≡ b
  the_line place k a b same at_a at_b =
      let at = subst (λ j. slice_get (lines_of task c) j ≡ Some a) same at_a in
      cc

  -- ---- reading

  -- nothing is wrong with the lines of the first states
  states_right : (count line : ℕ) (r : Reason) → AtomsAreRight task c (length c.atoms) → StatesAreRight task c count
      → ((k : ℕ) → line ≡ state_line c k → k < length (lines_of task c) → k < count) → stage_of r ≡ 0 → IsWrongAt task c r line → ⊥
  states_right count line not_fluent atoms right reach stage (a, (place, reported, at), wrong) =
      let fluent = atoms.fluent place a (slice_get_within c.atoms place a at) at in
      absurd (cc)
  states_right count line repeated atoms right reach stage (inl (a, before, earlier, (j, reported_j, at_j), (k, reported_k, at_k))) =
      atoms.distinct j k a (omega arith) (slice_get_within c.atoms k a at_k) at_j at_k
  states_right count line repeated atoms right reach stage (inr (other, l, before, earlier, (j, reported_j, at_j), (k, reported_k, at_k), same)) =
      right.distinct j k other l (omega arith) (reach k reported_k (slice_get_within (lines_of task c) k l at_k)) at_j at_k same
  states_right count line cut_not_allowed atoms right reach stage (l, rest, (k, reported, at), is_cut, claim) =
      right.allowed k l rest (reach k reported (slice_get_within (lines_of task c) k l at)) at is_cut claim
  states_right count line no_initial atoms right reach stage wrong = wrong
  states_right count line goal_open atoms right reach stage wrong = absurd (omega arith)
  states_right count line successor_missing atoms right reach stage wrong = absurd (omega arith)
  states_right count line successor_dearer atoms right reach stage wrong = absurd (omega arith)
  states_right count line cut_weak atoms right reach stage wrong = absurd (omega arith)
  states_right count line plan_invalid atoms right reach stage wrong = wrong
  states_right count line plan_dearer atoms right reach stage wrong = wrong
  states_right count line limit atoms right reach stage wrong = wrong
  states_right count line unfair atoms right reach stage wrong = absurd (omega arith)
  states_right count line unfair_goal atoms right reach stage wrong = absurd (omega arith)
  states_right count line dead_unfair atoms right reach stage wrong = absurd (omega arith)
  states_right count line dead_unfair_goal atoms right reach stage wrong = absurd (omega arith)
  states_right count line not_dead atoms right reach stage wrong = absurd (omega arith)
  states_right count line not_symmetry atoms right reach stage wrong = absurd (omega arith)
  states_right count line value_unfair atoms right reach stage wrong = absurd (omega arith)
  states_right count line value_not_dead atoms right reach stage wrong = absurd (omega arith)

  -- what is looked for in reading is wrong with a line alone
  of_line : (plan : Option (List Instance)) (most : ℕ) (r : Reason) → stage_of r ≡ 0 → IsWrong task c plan most r → ⊥
  of_line plan most not_fluent stage wrong = wrong
  of_line plan most repeated stage wrong = wrong
  of_line plan most cut_not_allowed stage wrong = wrong
  of_line plan most no_initial stage wrong = absurd (omega arith)
  of_line plan most goal_open stage wrong = wrong
  of_line plan most successor_missing stage wrong = wrong
  of_line plan most successor_dearer stage wrong = wrong
  of_line plan most cut_weak stage wrong = wrong
  of_line plan most plan_invalid stage wrong = absurd (omega arith)
  of_line plan most plan_dearer stage wrong = absurd (omega arith)
  of_line plan most limit stage wrong = absurd (omega arith)
  of_line plan most unfair stage wrong = wrong
  of_line plan most unfair_goal stage wrong = wrong
  of_line plan most dead_unfair stage wrong = wrong
  of_line plan most dead_unfair_goal stage wrong = wrong
  of_line plan most not_dead stage wrong = wrong
  of_line plan most not_symmetry stage wrong = wrong
  of_line plan most value_unfair stage wrong = wrong
  of_line plan most value_not_dead stage wrong = wrong

  -- ---- after reading

  read_right : (plan : Option (List Instance)) (most : ℕ) (r : Reason) (l : ℕ) → AtomsAreRight task c (length c.atoms) → StatesAreRight task c (length (lines_of task c)) → stage_of r ≡ 0
      → IsWrongAt task c r l ⊎ IsWrong task c plan most r → ⊥
  read_right plan most r l atoms states stage (inl wrong) = states_right (length (lines_of task c)) l r atoms states (λ j reported within. within) stage wrong
  read_right plan most r l atoms states stage (inr wrong) = of_line plan most r stage wrong

  pub first_limit : (plan : Option (List Instance)) (most : ℕ) → AtomsAreRight task c (length c.atoms) → StatesAreRight task c (length (lines_of task c)) → IsFirst task c plan most limit 0
  first_limit plan most atoms states r l (inl before) wrong = read_right plan most r l atoms states (omega arith) wrong
  first_limit plan most atoms states r l (inr (same, inl before)) wrong = omega arith
  first_limit plan most atoms states r l (inr (same, inr (there, rank))) wrong = omega arith

  in_limit : (plan : Option (List Instance)) (most : ℕ) (r : Reason) (l : ℕ) → exceeded_limit most max_numbered_atoms task c.atoms ≡ None → stage_of r ≡ 1 → IsWrongAt task c r l ⊎ IsWrong task c plan most r → ⊥
  in_limit plan most limit l within stage (inl wrong) = wrong
  in_limit plan most limit l within stage (inr wrong) = none_reported (exceeded_limit most max_numbered_atoms task c.atoms) within wrong
  in_limit plan most not_fluent l within stage wrong = absurd (omega arith)
  in_limit plan most repeated l within stage wrong = absurd (omega arith)
  in_limit plan most cut_not_allowed l within stage wrong = absurd (omega arith)
  in_limit plan most no_initial l within stage wrong = absurd (omega arith)
  in_limit plan most goal_open l within stage wrong = absurd (omega arith)
  in_limit plan most successor_missing l within stage wrong = absurd (omega arith)
  in_limit plan most successor_dearer l within stage wrong = absurd (omega arith)
  in_limit plan most cut_weak l within stage wrong = absurd (omega arith)
  in_limit plan most plan_invalid l within stage wrong = absurd (omega arith)
  in_limit plan most plan_dearer l within stage wrong = absurd (omega arith)
  in_limit plan most unfair l within stage wrong = absurd (omega arith)
  in_limit plan most unfair_goal l within stage wrong = absurd (omega arith)
  in_limit plan most dead_unfair l within stage wrong = absurd (omega arith)
  in_limit plan most dead_unfair_goal l within stage wrong = absurd (omega arith)
  in_limit plan most not_dead l within stage wrong = absurd (omega arith)
  in_limit plan most not_symmetry l within stage wrong = absurd (omega arith)
  in_limit plan most value_unfair l within stage wrong = absurd (omega arith)
  in_limit plan most value_not_dead l within stage wrong = absurd (omega arith)

  before_symmetric : (plan : Option (List Instance)) (most : ℕ) (r : Reason) (l : ℕ) → AtomsAreRight task c (length c.atoms) → StatesAreRight task c (length (lines_of task c)) → exceeded_limit most max_numbered_atoms task c.atoms ≡ None
      → stage_of r < 2 → IsWrongAt task c r l ⊎ IsWrong task c plan most r → ⊥
  before_symmetric plan most r l atoms states within stage wrong =
      elim (cases_eq (stage_of r) 0) [
        | inl reading ↦ read_right plan most r l atoms states reading wrong
        | inr later ↦ in_limit plan most r l within (omega arith) wrong
      ]

  -- the exchange of this line, if it has one, is a symmetry
  abbrev IsSymmetricAt : ℕ → Type 0
  IsSymmetricAt line = (e : Exchange) → HasExchange c line e → is_symmetry_for task c e ≡ true

  at_exchange : (plan : Option (List Instance)) (most : ℕ) (r : Reason) (l : ℕ) → IsSymmetricAt l → stage_of r ≡ 2 → IsWrongAt task c r l ⊎ IsWrong task c plan most r → ⊥
  at_exchange plan most not_symmetry l right stage (inl (e, has, fails)) = false≢true (sym fails ∙ right e has)
  at_exchange plan most not_symmetry l right stage (inr wrong) = wrong
  at_exchange plan most value_unfair l right stage wrong = absurd (omega arith)
  at_exchange plan most value_not_dead l right stage wrong = absurd (omega arith)
  at_exchange plan most not_fluent l right stage wrong = absurd (omega arith)
  at_exchange plan most repeated l right stage wrong = absurd (omega arith)
  at_exchange plan most cut_not_allowed l right stage wrong = absurd (omega arith)
  at_exchange plan most limit l right stage wrong = absurd (omega arith)
  at_exchange plan most no_initial l right stage wrong = absurd (omega arith)
  at_exchange plan most goal_open l right stage wrong = absurd (omega arith)
  at_exchange plan most successor_missing l right stage wrong = absurd (omega arith)
  at_exchange plan most successor_dearer l right stage wrong = absurd (omega arith)
  at_exchange plan most cut_weak l right stage wrong = absurd (omega arith)
  at_exchange plan most plan_invalid l right stage wrong = absurd (omega arith)
  at_exchange plan most plan_dearer l right stage wrong = absurd (omega arith)
  at_exchange plan most unfair l right stage wrong = absurd (omega arith)
  at_exchange plan most unfair_goal l right stage wrong = absurd (omega arith)
  at_exchange plan most dead_unfair l right stage wrong = absurd (omega arith)
  at_exchange plan most dead_unfair_goal l right stage wrong = absurd (omega arith)
  at_exchange plan most not_dead l right stage wrong = absurd (omega arith)

  -- the first exchange that is no symmetry is reported first
  pub first_symmetry : (place : ℕ) (plan : Option (List Instance)) (most : ℕ) → AtomsAreRight task c (length c.atoms) → StatesAreRight task c (length (lines_of task c))
      → exceeded_limit most max_numbered_atoms task c.atoms ≡ None → ((k : ℕ) (e : Exchange) → k < place → slice_get c.exchanges k ≡ Some e → is_symmetry_for task c e ≡ true)
      → IsFirst task c plan most not_symmetry (exchange_line place)
  first_symmetry place plan most atoms states within before r l (inl earlier) wrong = before_symmetric plan most r l atoms states within earlier wrong
  first_symmetry place plan most atoms states within before r l (inr (same, inl earlier)) wrong = at_exchange plan most r l (λ e has. before has.0 e (omega (arith, has.1, earlier)) has.2) same wrong
  first_symmetry place plan most atoms states within before r l (inr (same, inr (there, rank))) wrong = omega arith

  symmetric_each : AreSymmetries task c → (l : ℕ) → IsSymmetricAt l
  symmetric_each symmetric l e has =
      subst (λ (e : Exchange). is_symmetry_for task c e ≡ true) (get_or_from_slice_get c.exchanges has.0 e e has.2) (symmetric has.0 e (slice_get_within c.exchanges has.0 e has.2))

  before_fair : (plan : Option (List Instance)) (most : ℕ) (r : Reason) (l : ℕ) → AtomsAreRight task c (length c.atoms) → StatesAreRight task c (length (lines_of task c)) → exceeded_limit most max_numbered_atoms task c.atoms ≡ None
      → AreSymmetries task c → stage_of r < 3 → IsWrongAt task c r l ⊎ IsWrong task c plan most r → ⊥
  before_fair plan most r l atoms states within symmetric stage wrong =
      elim (cases_eq (stage_of r) 2) [
        | inl exchanged ↦ at_exchange plan most r l (symmetric_each symmetric l) exchanged wrong
        | inr earlier ↦ before_symmetric plan most r l atoms states within (omega arith) wrong
      ]

  -- what is asked of the values is wrong with one of them alone
  of_value : (plan : Option (List Instance)) (most : ℕ) (r : Reason) → stage_of r ≡ 3 → IsWrong task c plan most r → ⊥
  of_value plan most unfair stage wrong = wrong
  of_value plan most unfair_goal stage wrong = wrong
  of_value plan most dead_unfair stage wrong = wrong
  of_value plan most dead_unfair_goal stage wrong = wrong
  of_value plan most not_fluent stage wrong = wrong
  of_value plan most repeated stage wrong = wrong
  of_value plan most cut_not_allowed stage wrong = wrong
  of_value plan most limit stage wrong = absurd (omega arith)
  of_value plan most no_initial stage wrong = absurd (omega arith)
  of_value plan most goal_open stage wrong = wrong
  of_value plan most successor_missing stage wrong = wrong
  of_value plan most successor_dearer stage wrong = wrong
  of_value plan most cut_weak stage wrong = wrong
  of_value plan most not_dead stage wrong = wrong
  of_value plan most not_symmetry stage wrong = wrong
  of_value plan most value_unfair stage wrong = wrong
  of_value plan most value_not_dead stage wrong = wrong
  of_value plan most plan_invalid stage wrong = absurd (omega arith)
  of_value plan most plan_dearer stage wrong = absurd (omega arith)

  -- what is asked of them is reported first where all that is asked before is so
  pub first_asked : (reason : Reason) (place : ℕ) (plan : Option (List Instance)) (most : ℕ) → stage_of reason ≡ 3 → AtomsAreRight task c (length c.atoms) → StatesAreRight task c (length (lines_of task c))
      → exceeded_limit most max_numbered_atoms task c.atoms ≡ None → AreSymmetries task c → AreFairUpTo task c place (rank_of reason) → IsFirst task c plan most reason place
  first_asked reason place plan most stage atoms states within symmetric fair r l (inl before) wrong = before_fair plan most r l atoms states within symmetric (omega (arith, before, stage)) wrong
  first_asked reason place plan most stage atoms states within symmetric fair r l (inr (same, before)) (inl wrong) = fair r l (same ∙ stage) before wrong
  first_asked reason place plan most stage atoms states within symmetric fair r l (inr (same, before)) (inr wrong) = of_value plan most r (same ∙ stage) wrong

  in_fair : (plan : Option (List Instance)) (most : ℕ) (r : Reason) (l : ℕ) → AreFairFor task c → stage_of r ≡ 3 → IsWrongAt task c r l ⊎ IsWrong task c plan most r → ⊥
  in_fair plan most r l fair stage (inl wrong) = fair_wholly task c fair r l stage wrong
  in_fair plan most r l fair stage (inr wrong) = of_value plan most r stage wrong

  before_values : (plan : Option (List Instance)) (most : ℕ) (r : Reason) (l : ℕ) → AtomsAreRight task c (length c.atoms) → StatesAreRight task c (length (lines_of task c)) → exceeded_limit most max_numbered_atoms task c.atoms ≡ None
      → AreSymmetries task c → AreFairFor task c → stage_of r < 4 → IsWrongAt task c r l ⊎ IsWrong task c plan most r → ⊥
  before_values plan most r l atoms states within symmetric fair stage wrong =
      elim (cases_eq (stage_of r) 3) [
        | inl unfair_reported ↦ in_fair plan most r l fair unfair_reported wrong
        | inr earlier ↦ before_fair plan most r l atoms states within symmetric (omega arith) wrong
      ]

  -- ---- landmark values

  abbrev landmarks_in : List LandmarkFunction
  landmarks_in = landmark_functions c.tables c.landmarks

  -- the landmark value of this line, if it has one, is fair
  abbrev IsValueFairAt : ℕ → Type 0
  IsValueFairAt line = (place : ℕ) (h : LandmarkFunction) → line ≡ landmark_line c place → slice_get landmarks_in place ≡ Some h → IsFair task (numbered_atoms task c.atoms) h

  -- the landmark value that the dead end of this line rests on, if it does, is dead-fair
  abbrev IsDeadFairAt : ℕ → Type 0
  IsDeadFairAt line = (l : StateLine) (number : ℕ) → HasStateLine c line l → l.mark ≡ dead (landmark number) → IsDeadFair task (numbered_atoms task c.atoms) (landmark_function c number)

  at_value : (plan : Option (List Instance)) (most : ℕ) (r : Reason) (l : ℕ) → IsValueFairAt l → stage_of r ≡ 4 → IsWrongAt task c r l ⊎ IsWrong task c plan most r → ⊥
  at_value plan most value_unfair l fair stage (inl (place, h, is, at, wrong)) = wrong (fair place h is at)
  at_value plan most value_unfair l fair stage (inr wrong) = wrong
  at_value plan most _ l fair stage wrong = absurd (omega arith)

  at_dead : (plan : Option (List Instance)) (most : ℕ) (r : Reason) (l : ℕ) → IsDeadFairAt l → stage_of r ≡ 5 → IsWrongAt task c r l ⊎ IsWrong task c plan most r → ⊥
  at_dead plan most value_not_dead l fair stage (inl (k, number, has, is, wrong)) = wrong (fair k number has is)
  at_dead plan most value_not_dead l fair stage (inr wrong) = wrong
  at_dead plan most _ l fair stage wrong = absurd (omega arith)

  -- the first landmark value that is not fair is reported first
  pub first_value_unfair : (place : ℕ) (plan : Option (List Instance)) (most : ℕ) → AtomsAreRight task c (length c.atoms) → StatesAreRight task c (length (lines_of task c)) → exceeded_limit most max_numbered_atoms task c.atoms ≡ None
      → AreSymmetries task c → AreFairFor task c → ((k : ℕ) (h : LandmarkFunction) → k < place → slice_get landmarks_in k ≡ Some h → IsFair task (numbered_atoms task c.atoms) h)
      → IsFirst task c plan most value_unfair (landmark_line c place)
  first_value_unfair place plan most atoms states within symmetric fair before r l (inl earlier) wrong = before_values plan most r l atoms states within symmetric fair earlier wrong
  first_value_unfair place plan most atoms states within symmetric fair before r l (inr (same, inl earlier)) wrong = at_value plan most r l (λ k h is at. before k h (omega (arith, is, earlier)) at) same wrong
  first_value_unfair place plan most atoms states within symmetric fair before r l (inr (same, inr (there, rank))) wrong = omega arith

  values_each : All (IsFair task (numbered_atoms task c.atoms)) landmarks_in → (l : ℕ) → IsValueFairAt l
  values_each fair l place h is at = All-contains (IsFair task (numbered_atoms task c.atoms)) landmarks_in h fair (Contains-got landmarks_in place h at)

  before_dead : (plan : Option (List Instance)) (most : ℕ) (r : Reason) (l : ℕ) → AtomsAreRight task c (length c.atoms) → StatesAreRight task c (length (lines_of task c)) → exceeded_limit most max_numbered_atoms task c.atoms ≡ None
      → AreSymmetries task c → AreFairFor task c → All (IsFair task (numbered_atoms task c.atoms)) landmarks_in → stage_of r < 5 → IsWrongAt task c r l ⊎ IsWrong task c plan most r → ⊥
  before_dead plan most r l atoms states within symmetric fair values stage wrong =
      elim (cases_eq (stage_of r) 4) [
        | inl value ↦ at_value plan most r l (values_each values l) value wrong
        | inr earlier ↦ before_values plan most r l atoms states within symmetric fair (omega arith) wrong
      ]

  -- then the first dead end whose landmark value is not dead-fair
  pub first_value_not_dead : (place : ℕ) (plan : Option (List Instance)) (most : ℕ) → AtomsAreRight task c (length c.atoms) → StatesAreRight task c (length (lines_of task c)) → exceeded_limit most max_numbered_atoms task c.atoms ≡ None
      → AreSymmetries task c → AreFairFor task c → All (IsFair task (numbered_atoms task c.atoms)) landmarks_in
      → ((k : ℕ) (l : StateLine) (number : ℕ) → k < place → slice_get c.lines k ≡ Some l → l.mark ≡ dead (landmark number) → IsDeadFair task (numbered_atoms task c.atoms) (landmark_function c number))
      → IsFirst task c plan most value_not_dead (state_line c place)
  first_value_not_dead place plan most atoms states within symmetric fair values before r l (inl earlier) wrong = before_dead plan most r l atoms states within symmetric fair values earlier wrong
  first_value_not_dead place plan most atoms states within symmetric fair values before r l (inr (same, inl earlier)) wrong =
      at_dead plan most r l (λ k number has is. before has.0 k number (omega (arith, has.1, earlier)) has.2 is) same wrong
  first_value_not_dead place plan most atoms states within symmetric fair values before r l (inr (same, inr (there, rank))) wrong = omega arith

  dead_each : AreLandmarksFair task c → (l : ℕ) → IsDeadFairAt l
  dead_each fair line l number (place, reported, at) is =
      All-contains (λ (number : ℕ). IsDeadFair task (numbered_atoms task c.atoms) (landmark_function c number)) (dead_by c) number fair.dead_ends
      (Contains-filter_map (λ (l : StateLine). is_dead_by_landmark l.mark) c.lines l number (Contains-got c.lines place l at) (ap is_dead_by_landmark is))

  before_initial : (plan : Option (List Instance)) (most : ℕ) (r : Reason) (l : ℕ) → AtomsAreRight task c (length c.atoms) → StatesAreRight task c (length (lines_of task c)) → exceeded_limit most max_numbered_atoms task c.atoms ≡ None
      → AreSymmetries task c → AreFairFor task c → AreLandmarksFair task c → stage_of r < 6 → IsWrongAt task c r l ⊎ IsWrong task c plan most r → ⊥
  before_initial plan most r l atoms states within symmetric fair landmarks stage wrong =
      elim (cases_eq (stage_of r) 5) [
        | inl resting ↦ at_dead plan most r l (dead_each landmarks l) resting wrong
        | inr earlier ↦ before_dead plan most r l atoms states within symmetric fair landmarks.values (omega arith) wrong
      ]

  -- ---- the initial state

  pub first_initial : (plan : Option (List Instance)) (most : ℕ) → AtomsAreRight task c (length c.atoms) → StatesAreRight task c (length (lines_of task c)) → exceeded_limit most max_numbered_atoms task c.atoms ≡ None
      → AreSymmetries task c → AreFairFor task c → AreLandmarksFair task c → IsFirst task c plan most no_initial 0
  first_initial plan most atoms states within symmetric fair landmarks r l (inl before) wrong = before_initial plan most r l atoms states within symmetric fair landmarks before wrong
  first_initial plan most atoms states within symmetric fair landmarks r l (inr (same, inl before)) wrong = omega arith
  first_initial plan most atoms states within symmetric fair landmarks r l (inr (same, inr (there, rank))) wrong = omega arith

  in_initial : (plan : Option (List Instance)) (most : ℕ) (r : Reason) (l : ℕ) → IsListedWithin (AreAlikeFor task c) (lines_of task c) (system_of task).initial 0 → stage_of r ≡ 6 → IsWrongAt task c r l ⊎ IsWrong task c plan most r → ⊥
  in_initial plan most no_initial l listed stage (inl wrong) = wrong
  in_initial plan most no_initial l listed stage (inr wrong) = wrong listed
  in_initial plan most not_fluent l listed stage wrong = absurd (omega arith)
  in_initial plan most repeated l listed stage wrong = absurd (omega arith)
  in_initial plan most cut_not_allowed l listed stage wrong = absurd (omega arith)
  in_initial plan most limit l listed stage wrong = absurd (omega arith)
  in_initial plan most unfair l listed stage wrong = absurd (omega arith)
  in_initial plan most unfair_goal l listed stage wrong = absurd (omega arith)
  in_initial plan most dead_unfair l listed stage wrong = absurd (omega arith)
  in_initial plan most dead_unfair_goal l listed stage wrong = absurd (omega arith)
  in_initial plan most not_dead l listed stage wrong = absurd (omega arith)
  in_initial plan most not_symmetry l listed stage wrong = absurd (omega arith)
  in_initial plan most value_unfair l listed stage wrong = absurd (omega arith)
  in_initial plan most value_not_dead l listed stage wrong = absurd (omega arith)
  in_initial plan most goal_open l listed stage wrong = absurd (omega arith)
  in_initial plan most successor_missing l listed stage wrong = absurd (omega arith)
  in_initial plan most successor_dearer l listed stage wrong = absurd (omega arith)
  in_initial plan most cut_weak l listed stage wrong = absurd (omega arith)
  in_initial plan most plan_invalid l listed stage wrong = absurd (omega arith)
  in_initial plan most plan_dearer l listed stage wrong = absurd (omega arith)

  before_lines : (plan : Option (List Instance)) (most place : ℕ) (r : Reason) (l : ℕ) → IsRightUpTo task c most place → stage_of r < 7 → IsWrongAt task c r l ⊎ IsWrong task c plan most r → ⊥
  before_lines plan most place r l right stage wrong =
      elim (cases_eq (stage_of r) 6) [
        | inl initial ↦ in_initial plan most r l right.initial initial wrong
        | inr earlier ↦ before_initial plan most r l (atoms_right task c right.atoms) (states_right_all task c right.distinct right.allowed) right.within right.symmetric right.fair right.landmarks (omega arith) wrong
      ]

  -- ---- the state lines

  line_right : (r : Reason) (line place : ℕ) → line < state_line c place → ((k : ℕ) (l : StateLine) → k < place → slice_get c.lines k ≡ Some l → IsLineClosed task c l) → stage_of r ≡ 7
      → IsWrongAt task c r line → ⊥
  line_right goal_open line place lt right stage (l, (k, reported, at), is_open, goal, denied) =
      let (by, there, is) = got_mapped (entry task c) c.lines k l at in
      denied ((open_line task c by l is is_open (right k by (omega arith) there)).goal_allowed goal)
  line_right successor_missing line place lt right stage (l, i, next, ((k, reported, at), is_open, leads), missing) =
      let (by, there, is) = got_mapped (entry task c) c.lines k l at in
      let listed = (open_line task c by l is is_open (right k by (omega arith) there)).successors_listed i next leads in
      missing (listed.0, listed.1, listed.2)
  line_right successor_dearer line place lt right stage (l, i, next, ((k, reported, at), is_open, leads), is_listed, dearer) =
      let (by, there, is) = got_mapped (entry task c) c.lines k l at in
      dearer ((open_line task c by l is is_open (right k by (omega arith) there)).successors_listed i next leads)
  line_right cut_weak line place lt right stage (l, basis, rest, (k, reported, at), is_cut, inl more) =
      let allowed = subst (IsClosedAs task c (state_of_line task c l) l.cost) is_cut (right k l (omega arith) at) in
      omega (arith, allowed.0, more)
  line_right cut_weak line place lt right stage (l, basis, rest, (k, reported, at), is_cut, inr denied) =
      denied (subst (IsClosedAs task c (state_of_line task c l) l.cost) is_cut (right k l (omega arith) at)).1
  line_right not_fluent line place lt right stage wrong = absurd (omega arith)
  line_right repeated line place lt right stage wrong = absurd (omega arith)
  line_right cut_not_allowed line place lt right stage wrong = absurd (omega arith)
  line_right no_initial line place lt right stage wrong = wrong
  line_right limit line place lt right stage wrong = wrong
  line_right unfair line place lt right stage wrong = absurd (omega arith)
  line_right unfair_goal line place lt right stage wrong = absurd (omega arith)
  line_right dead_unfair line place lt right stage wrong = absurd (omega arith)
  line_right dead_unfair_goal line place lt right stage wrong = absurd (omega arith)
  line_right not_dead line place lt right stage (l, basis, (k, reported, at), is_dead, alive) =
      false≢true (sym alive ∙ subst (IsClosedAs task c (state_of_line task c l) l.cost) is_dead (right k l (omega arith) at))
  line_right not_symmetry line place lt right stage wrong = absurd (omega arith)
  line_right value_unfair line place lt right stage wrong = absurd (omega arith)
  line_right value_not_dead line place lt right stage wrong = absurd (omega arith)
  line_right plan_invalid line place lt right stage wrong = wrong
  line_right plan_dearer line place lt right stage wrong = wrong

  of_state_line : (plan : Option (List Instance)) (most : ℕ) (r : Reason) → stage_of r ≡ 7 → IsWrong task c plan most r → ⊥
  of_state_line plan most not_fluent stage wrong = wrong
  of_state_line plan most repeated stage wrong = wrong
  of_state_line plan most cut_not_allowed stage wrong = wrong
  of_state_line plan most goal_open stage wrong = wrong
  of_state_line plan most successor_missing stage wrong = wrong
  of_state_line plan most successor_dearer stage wrong = wrong
  of_state_line plan most cut_weak stage wrong = wrong
  of_state_line plan most no_initial stage wrong = absurd (omega arith)
  of_state_line plan most limit stage wrong = absurd (omega arith)
  of_state_line plan most unfair stage wrong = absurd (omega arith)
  of_state_line plan most unfair_goal stage wrong = absurd (omega arith)
  of_state_line plan most dead_unfair stage wrong = absurd (omega arith)
  of_state_line plan most dead_unfair_goal stage wrong = absurd (omega arith)
  of_state_line plan most not_dead stage wrong = wrong
  of_state_line plan most not_symmetry stage wrong = wrong
  of_state_line plan most value_unfair stage wrong = wrong
  of_state_line plan most value_not_dead stage wrong = wrong
  of_state_line plan most plan_invalid stage wrong = absurd (omega arith)
  of_state_line plan most plan_dearer stage wrong = absurd (omega arith)

  pub first_in_line : (plan : Option (List Instance)) (most place : ℕ) (reason : Reason) → IsRightUpTo task c most place → stage_of reason ≡ 7
      → ((r : Reason) → stage_of r ≡ 7 → rank_of r < rank_of reason → IsWrongAt task c r (state_line c place) → ⊥) → IsFirst task c plan most reason (state_line c place)
  first_in_line plan most place reason right stage here r l (inl before) wrong = before_lines plan most place r l right (omega arith) wrong
  first_in_line plan most place reason right stage here r l (inr (same, inl before)) (inl wrong) = line_right r l place before right.lines (same ∙ stage) wrong
  first_in_line plan most place reason right stage here r l (inr (same, inl before)) (inr wrong) = of_state_line plan most r (same ∙ stage) wrong
  first_in_line plan most place reason right stage here r l (inr (same, inr (there, rank))) (inl wrong) = here r (same ∙ stage) rank (subst (IsWrongAt task c r) there wrong)
  first_in_line plan most place reason right stage here r l (inr (same, inr (there, rank))) (inr wrong) = of_state_line plan most r (same ∙ stage) wrong

  -- of an expanded state whose goal is as it is to be
  pub open_here : (place : ℕ) (l : Line State) → slice_get (lines_of task c) place ≡ Some l → l.mark ≡ expanded → (IsTrue ((system_of task).meets_goal l.state) → Allows c.claim l.cost)
      → (r : Reason) → stage_of r ≡ 7 → rank_of r < 1 → IsWrongAt task c r (state_line c place) → ⊥
  open_here place l here is_open allowed goal_open stage rank (other, (k, reported, at), has_expanded_mark, goal, denied) =
      let there : k ≡ place = omega arith in
      let same = the_line place k other l there at here in
      denied (subst (λ (a : Line State). Allows c.claim a.cost) (sym same) (allowed (subst (λ (a : Line State). IsTrue ((system_of task).meets_goal a.state)) same goal)))
  open_here place l here is_open allowed cut_weak stage rank (other, basis, rest, (k, reported, at), is_cut, wrong) =
      let there : k ≡ place = omega arith in
      let same = the_line place k (entry task c other) l there (slice_get-map (entry task c) c.lines k other at) here in
      let none_cut = ap (λ (a : Line State). a.mark) same in
      let marked = ap bare is_cut in
      absurd (cc)
  open_here place l here is_open allowed not_dead stage rank (other, basis, (k, reported, at), is_dead, alive) =
      let there : k ≡ place = omega arith in
      let same = the_line place k (entry task c other) l there (slice_get-map (entry task c) c.lines k other at) here in
      let none_dead = ap (λ (a : Line State). a.mark) same in
      let marked = ap bare is_dead in
      absurd (cc)
  open_here place l here is_open allowed successor_missing stage rank wrong = omega arith
  open_here place l here is_open allowed successor_dearer stage rank wrong = omega arith
  open_here place l here is_open allowed not_fluent stage rank wrong = absurd (omega arith)
  open_here place l here is_open allowed repeated stage rank wrong = absurd (omega arith)
  open_here place l here is_open allowed cut_not_allowed stage rank wrong = absurd (omega arith)
  open_here place l here is_open allowed no_initial stage rank wrong = wrong
  open_here place l here is_open allowed limit stage rank wrong = wrong
  open_here place l here is_open allowed unfair stage rank wrong = absurd (omega arith)
  open_here place l here is_open allowed unfair_goal stage rank wrong = absurd (omega arith)
  open_here place l here is_open allowed dead_unfair stage rank wrong = absurd (omega arith)
  open_here place l here is_open allowed dead_unfair_goal stage rank wrong = absurd (omega arith)
  open_here place l here is_open allowed not_symmetry stage rank wrong = absurd (omega arith)
  open_here place l here is_open allowed value_unfair stage rank wrong = absurd (omega arith)
  open_here place l here is_open allowed value_not_dead stage rank wrong = absurd (omega arith)
  open_here place l here is_open allowed plan_invalid stage rank wrong = wrong
  open_here place l here is_open allowed plan_dearer stage rank wrong = wrong

  -- ---- the plan

  before_plan : (plan : Option (List Instance)) (most : ℕ) (r : Reason) (l : ℕ) → IsClosedFor task c → exceeded_limit most max_numbered_atoms task c.atoms ≡ None → stage_of r < 8 → IsWrongAt task c r l ⊎ IsWrong task c plan most r → ⊥
  before_plan plan most r l closed within stage (inl wrong) = right_line task c closed r l wrong
  before_plan plan most limit l closed within stage (inr wrong) = none_reported (exceeded_limit most max_numbered_atoms task c.atoms) within wrong
  before_plan plan most no_initial l closed within stage (inr wrong) = wrong closed.listing_is_closed.initial_listed
  before_plan plan most unfair l closed within stage (inr wrong) = wrong
  before_plan plan most unfair_goal l closed within stage (inr wrong) = wrong
  before_plan plan most dead_unfair l closed within stage (inr wrong) = wrong
  before_plan plan most dead_unfair_goal l closed within stage (inr wrong) = wrong
  before_plan plan most plan_invalid l closed within stage (inr wrong) = omega arith
  before_plan plan most plan_dearer l closed within stage (inr wrong) = omega arith
  before_plan plan most not_fluent l closed within stage (inr wrong) = wrong
  before_plan plan most repeated l closed within stage (inr wrong) = wrong
  before_plan plan most cut_not_allowed l closed within stage (inr wrong) = wrong
  before_plan plan most goal_open l closed within stage (inr wrong) = wrong
  before_plan plan most successor_missing l closed within stage (inr wrong) = wrong
  before_plan plan most successor_dearer l closed within stage (inr wrong) = wrong
  before_plan plan most cut_weak l closed within stage (inr wrong) = wrong
  before_plan plan most not_dead l closed within stage (inr wrong) = wrong
  before_plan plan most not_symmetry l closed within stage (inr wrong) = wrong
  before_plan plan most value_unfair l closed within stage (inr wrong) = wrong
  before_plan plan most value_not_dead l closed within stage (inr wrong) = wrong

  pub first_invalid : (plan : Option (List Instance)) (most : ℕ) → IsClosedFor task c → exceeded_limit most max_numbered_atoms task c.atoms ≡ None → IsFirst task c plan most plan_invalid 0
  first_invalid plan most closed within r l (inl before) wrong = before_plan plan most r l closed within before wrong
  first_invalid plan most closed within r l (inr (same, inl before)) wrong = omega arith
  first_invalid plan most closed within r l (inr (same, inr (there, rank))) wrong = omega arith

  pub first_dearer : (p : List Instance) (most : ℕ) → IsClosedFor task c → exceeded_limit most max_numbered_atoms task c.atoms ≡ None → Solves (system_of task) p → IsFirst task c (Some p) most plan_dearer 0
  first_dearer p most closed within solves r l (inl before) wrong = before_plan (Some p) most r l closed within before wrong
  first_dearer p most closed within solves r l (inr (same, inl before)) wrong = omega arith
  first_dearer p most closed within solves r l (inr (same, inr (there, rank))) wrong = solving r same rank wrong
    where
      solving : (r : Reason) → stage_of r ≡ 8 → rank_of r < 1 → IsWrongAt task c r l ⊎ IsWrong task c (Some p) most r → ⊥
      solving plan_invalid stage rank (inl wrong) = wrong
      solving plan_invalid stage rank (inr wrong) = wrong solves
      solving plan_dearer stage rank wrong = omega arith
      solving not_fluent stage rank wrong = absurd (omega arith)
      solving repeated stage rank wrong = absurd (omega arith)
      solving cut_not_allowed stage rank wrong = absurd (omega arith)
      solving goal_open stage rank wrong = absurd (omega arith)
      solving successor_missing stage rank wrong = absurd (omega arith)
      solving successor_dearer stage rank wrong = absurd (omega arith)
      solving cut_weak stage rank wrong = absurd (omega arith)
      solving no_initial stage rank wrong = absurd (omega arith)
      solving limit stage rank wrong = absurd (omega arith)
      solving unfair stage rank wrong = absurd (omega arith)
      solving unfair_goal stage rank wrong = absurd (omega arith)
      solving dead_unfair stage rank wrong = absurd (omega arith)
      solving dead_unfair_goal stage rank wrong = absurd (omega arith)
      solving not_dead stage rank wrong = absurd (omega arith)
      solving not_symmetry stage rank wrong = absurd (omega arith)
      solving value_unfair stage rank wrong = absurd (omega arith)
      solving value_not_dead stage rank wrong = absurd (omega arith)
