-- What the checker's answers say, of a certificate that was gone through and of a closed one.
use Rattle.std.proofs.Common.{◌≡◌, ℕ, ◌≤◌, arith, List, length, get_or, Option, sym, ap, ◌∙◌, refl}
use Rattle.std.specs.Prelude.{Contains, IfErr, MatchOption, OnOk, Result, Ok, Err, None, Some}
use Rattle.std.proofs.lemmas.Option.{slice_get_within}
use Rattle.std.proofs.lemmas.List.{length-map}
use Rattle.std.proofs.lemmas.List.Elements.{All-contains_itself}
use Rattle.formulas.specs.State.{instance_of}
use Rattle.cert_checker.specs.declared.refusal.Refusal.{Refusal}
use Rattle.cert_checker.specs.declared.refusal.Refusal.TheVariants as refusal
use Rattle.cert_checker.specs.Reasons.{reason_of}
use Rattle.cert_checker.specs.CertChecker.{IsTrueRefusal, IsNoFault, IsWrongSomewhere}
use Rattle.cert_checker.specs.CheckedLines.{IsClosedAs, IsLineClosed, IsRightUpTo}
use Rattle.validator.specs.declared.verdict.Verdict as code_verdict
use Rattle.validator.specs.declared.verdict.Verdict.TheVariants as verdict
use Rattle.validator.specs.Verdict.{verdict_of}
use Rattle.validator.proofs.VerdictLaws.{exactly_one_verdict}
use Rattle.model.specs.Task.{Task, Instance}
use Rattle.model.specs.Runs.{System, cost_of_all, Solves, CostsAtLeast, IsOptimal, valid, IsVerdict}
use Rattle.model.specs.Meaning.{State}
use Rattle.model.specs.Claims.{Line}
use Rattle.certificate_definitions.specs.Evidence.{LineMark, expanded, cut, dead}
use Rattle.certificate_definitions.specs.Certificates.{Certificate, StateLine, is_dead_end_weight, state_of_line, lines_of, IsSupported, IsClosedFor}
use Rattle.certificate_definitions.specs.CertificateRefusals.{Reason, not_fluent, repeated, no_initial, unfair, unfair_goal, goal_open, successor_missing, successor_dearer, cut_weak, cut_not_allowed, plan_invalid, plan_dearer, limit, dead_unfair, dead_unfair_goal, not_dead, not_symmetry, value_unfair, value_not_dead, IsPlanWithin, IsWrongAt}
use Rattle.model.proofs.ListLemmas.{Contains-place, map-Contains}
use Rattle.cert_checker.proofs.CertCheckerLemmas.{cut_line, entry, open_line}
use Rattle.certificate.proofs.LimitsLemmas.{AreLimits, limits_of}
use Rattle.certificate_definitions.proofs.CertificateRefusalsLemmas.{right, right_line}
use Rattle.certificate.proofs.WithinLimits.{one_weight_each, weights_of_each}

pub on_ok : {T E : Type 0} {P : Type 0} (r : Result T E) → P → OnOk r P
on_ok (Ok v) p = p
on_ok (Err e) p = tt

-- where all is right to the last line, the certificate is closed
pub closed_for : (task : Task) (c : Certificate) (most : ℕ) → IsRightUpTo task c most (length (lines_of task c)) → IsClosedFor task c
closed_for task c most right = record {
  as_many_values = limits.value_count;
  one_weight_an_atom = weights_of_each (length c.atoms) c.values limits.values;
  one_dead_end_weight_an_atom = one_weight_each (is_dead_end_weight c.version) (length c.atoms) c.dead_ends limits.dead_ends;
  tables_are_over_atoms = limits.tables;
  exchanges_are_symmetries = right.symmetric;
  landmarks_are_over_atoms = limits.landmarks;
  are_fair = right.fair;
  landmarks_are_fair = right.landmarks;
  atoms_are_fluent = right.atoms.fluent;
  atoms_are_distinct = right.atoms.distinct;
  rows_are_distinct = right.rows;
  states_are_distinct = right.distinct;
  listing_is_closed = record {
    initial_listed = right.initial;
    successors_listed = λ line i next listed is leads.
        let (l, is_line, closed) = line_there line listed in
        (open_line task c l line is_line is closed).successors_listed i next leads;
    expanded_goals_allowed = λ line listed is. let (l, is_line, closed) = line_there line listed in (open_line task c l line is_line is closed).goal_allowed;
    cuts_allowed = λ line rest listed is. let (l, is_line, closed) = line_there line listed in cut_line task c l line rest is_line is closed;
  };
  lines_are_supported = λ place d within.
      let l = get_or c.lines place d in
      supported (state_of_line task c l) l.cost l.mark (line_closed l (All-contains_itself c.lines place d within));
}
  where
    limits : AreLimits c
    limits = limits_of c right.keeps

    supported : (s : State) (cost : ℕ) (mark : LineMark) → IsClosedAs task c s cost mark → IsSupported task c s mark
    supported s cost expanded closed = tt
    supported s cost (cut basis rest) closed = closed.0
    supported s cost (dead basis) closed = closed

    line_closed : (l : StateLine) → Contains c.lines l → IsLineClosed task c l
    line_closed l among =
        let (place, at) = Contains-place c.lines l among in
        right.lines place l (omega (arith, slice_get_within c.lines place l at, length-map c.lines (entry task c))) at

    line_there : (line : Line State) → Contains (lines_of task c) line → (l : StateLine) × (entry task c l ≡ line) × IsLineClosed task c l
    line_there line listed =
        let (l, among, is) = map-Contains (entry task c) c.lines line listed in
        (l, is, line_closed l among)

-- nothing is wrong with a line of a closed certificate, and what else is wrong is a limit of its ground task
no_line : (task : Task) (c : Certificate) → IsClosedFor task c → (line : ℕ) (o : Option Reason) → MatchOption o ⊥ (λ reason. IsWrongAt task c reason line) → ⊥
no_line task c closed line (Some reason) wrong = right_line task c closed reason line wrong
no_line task c closed line None wrong = wrong

only_limit : (task : Task) (c : Certificate) (plan : Option (List Instance)) (most : ℕ) → IsClosedFor task c → IsPlanWithin task c.claim plan → (o : Option Reason)
    → MatchOption o ⊥ (λ reason. IsWrongSomewhere task c plan most reason) → o ≡ Some limit
only_limit task c plan most closed within (Some unfair_goal) (place, wrong) = absurd (right_line task c closed unfair_goal place wrong)
only_limit task c plan most closed within (Some dead_unfair_goal) (place, wrong) = absurd (right_line task c closed dead_unfair_goal place wrong)
only_limit task c plan most closed within (Some not_fluent) wrong = ap Some (right task c closed plan most not_fluent within wrong)
only_limit task c plan most closed within (Some repeated) wrong = ap Some (right task c closed plan most repeated within wrong)
only_limit task c plan most closed within (Some no_initial) wrong = ap Some (right task c closed plan most no_initial within wrong)
only_limit task c plan most closed within (Some unfair) wrong = ap Some (right task c closed plan most unfair within wrong)
only_limit task c plan most closed within (Some goal_open) wrong = ap Some (right task c closed plan most goal_open within wrong)
only_limit task c plan most closed within (Some successor_missing) wrong = ap Some (right task c closed plan most successor_missing within wrong)
only_limit task c plan most closed within (Some successor_dearer) wrong = ap Some (right task c closed plan most successor_dearer within wrong)
only_limit task c plan most closed within (Some cut_weak) wrong = ap Some (right task c closed plan most cut_weak within wrong)
only_limit task c plan most closed within (Some cut_not_allowed) wrong = ap Some (right task c closed plan most cut_not_allowed within wrong)
only_limit task c plan most closed within (Some plan_invalid) wrong = ap Some (right task c closed plan most plan_invalid within wrong)
only_limit task c plan most closed within (Some plan_dearer) wrong = ap Some (right task c closed plan most plan_dearer within wrong)
only_limit task c plan most closed within (Some limit) wrong = refl
only_limit task c plan most closed within (Some dead_unfair) wrong = ap Some (right task c closed plan most dead_unfair within wrong)
only_limit task c plan most closed within (Some not_dead) wrong = ap Some (right task c closed plan most not_dead within wrong)
only_limit task c plan most closed within (Some not_symmetry) wrong = ap Some (right task c closed plan most not_symmetry within wrong)
only_limit task c plan most closed within (Some value_unfair) wrong = ap Some (right task c closed plan most value_unfair within wrong)
only_limit task c plan most closed within (Some value_not_dead) wrong = ap Some (right task c closed plan most value_not_dead within wrong)
only_limit task c plan most closed within None wrong = absurd wrong

-- a true refusal of a closed certificate, with a plan that costs no more than is claimed, is of no fault of theirs
pub no_fault : (task : Task) (c : Certificate) (plan : Option (List Instance)) (most : ℕ) → IsClosedFor task c → IsPlanWithin task c.claim plan → (e : Refusal) → IsTrueRefusal task c plan most e → IsNoFault e
no_fault task c plan most closed within (refusal.Line code line) wrong = no_line task c closed line (reason_of code) wrong
no_fault task c plan most closed within (refusal.Plain code) wrong = only_limit task c plan most closed within (reason_of code) wrong
no_fault task c plan most closed within (refusal.Unfair i) (place, wrong) = absurd (right_line task c closed unfair place (instance_of i, wrong))
no_fault task c plan most closed within (refusal.DeadUnfair i) wrong = absurd (right_line task c closed dead_unfair (length c.values) (refl, instance_of i, wrong))
no_fault task c plan most closed within refusal.NoMemory wrong = tt
no_fault task c plan most closed within _ wrong = absurd wrong

pub no_fault_of : {T : Type 0} (task : Task) (c : Certificate) (plan : Option (List Instance)) (most : ℕ) → IsClosedFor task c → IsPlanWithin task c.claim plan → (r : Result T Refusal)
    → IfErr r (λ e. (m : ℕ) → IsTrueRefusal task c plan m e) → IfErr r IsNoFault
no_fault_of task c plan most closed within (Ok v) wrong = tt
no_fault_of task c plan most closed within (Err e) wrong = no_fault task c plan most closed within e (wrong most)

other_verdict : (v : code_verdict.Verdict) → ((cost : ℕ) → v ≡ verdict.Valid cost → ⊥) → (cost : ℕ) → verdict_of v ≡ valid cost → ⊥
other_verdict (verdict.Valid m) other cost is = other m refl
other_verdict (verdict.NotApplicable step) other cost is = absurd (cc)
other_verdict verdict.GoalMissed other cost is = absurd (cc)

-- a list of which another verdict is true does not solve
pub unsolved : (t : System State Instance) (plan : List Instance) (v : code_verdict.Verdict) → IsVerdict t plan (verdict_of v) → ((cost : ℕ) → v ≡ verdict.Valid cost → ⊥) → ¬ Solves t plan
unsolved t plan v is other solves =
    let one = exactly_one_verdict t plan in
    other_verdict v other (cost_of_all t plan) (one.2 (verdict_of v) is ∙ sym (one.2 (valid (cost_of_all t plan)) (solves, refl)))

-- a list that solves at no more than every list that solves costs at least is optimal, and costs just that
pub optimal : (t : System State Instance) (plan : List Instance) (cost least : ℕ) → Solves t plan × (cost ≡ cost_of_all t plan) → CostsAtLeast t least → cost ≤ least
    → IsOptimal t plan × (cost_of_all t plan ≡ cost)
optimal t plan cost least right at_least within = ((right.0, λ other solves. omega (arith, right.1, within, at_least other solves)), sym right.1)

pub claimed_cost : (t : System State Instance) (plan : List Instance) (cost least : ℕ) → Solves t plan × (cost ≡ cost_of_all t plan) → CostsAtLeast t least → cost ≤ least → least ≡ cost
claimed_cost t plan cost least right at_least within = omega (arith, right.1, within, at_least plan right.0)
