use Rattle.std.proofs.Common.{◌≡◌, ◌∙◌, ℕ, ◌≤◌, List, length, None, Some, refl, sym, subst, arith}
use Rattle.std.specs.Prelude.{slice_get}
use Rattle.std.proofs.lemmas.Option.{slice_get_within}
use Rattle.model.specs.Task.{Task, Atom}
use Rattle.model.specs.NumberedAtoms.{numbered_atoms}
use Rattle.lower_bounds.specs.TableFunctions.{Table}
use Rattle.lower_bounds.specs.LandmarkLines.{NumberedLandmarks, share_count}
use Rattle.landmark_zones.specs.Landmarks.{landmarks_of}
use Rattle.landmarks.specs.declared.testing.Fairness.{Fairness}
use Rattle.landmarks.specs.Breaking.{AreSorted}
use Rattle.landmarks.specs.Fairness.{AreAsked, AreFairness, is_unfair}
use Rattle.landmarks.proofs.Kept.{kept-sorted}
use Rattle.grounding.specs.Ground.{task_in, atoms_in}
use Rattle.tables.specs.Several.{several_of}
use Rattle.certificate.specs.Certificate.{certificate_of}
use Rattle.certificate_definitions.specs.Certificates.{StateLine}
use Rattle.certificate_definitions.specs.CertificateRefusals.{landmark_line, state_line}
use Rattle.cert_checker.specs.declared.refusal.RefusalCode.TheVariants.{ValueUnfair, ValueNotDead}
use Rattle.cert_checker.specs.LandmarkFaults.{IsFirstWhere, rests_on_another}
use Rattle.cert_checker.proofs.FirstLemmas.{reported_first}
use Rattle.cert_checker.proofs.LandmarkFaultsLemmas.{dead_fair_before, fair_all, fair_before, landmarks_fair, landmarks_keep_limits, not_dead_at, unfair_at}
use Rattle.cert_checker.proofs.OrderLemmas.{atoms_right, first_value_not_dead, first_value_unfair, states_right_all}
use Rattle.cert_checker.proofs.RefusalsLemmas.{reported}
use Rattle.cert_checker.proofs.checker.landmark_values.check_landmarks.Goals as goal
use Rattle.cert_checker.proofs.checker.landmark_values.check_landmarks.Goals.{After-first_unfair}

-- what was found for the task of an index was found for this task
found_here : (task there : Task) (atoms those : List Atom) (asked numbers : List ℕ) (beside : List Table) (l : NumberedLandmarks) (found : List Fairness) → there ≡ task → those ≡ atoms → numbers ≡ asked
    → AreAsked task atoms beside asked → ((tables : List Table) → AreAsked there those tables numbers → AreFairness there those tables l found) → AreFairness task atoms beside l found
found_here task there atoms those asked numbers beside l found task_is atoms_are numbers_are are all =
    let are_there : AreAsked there those beside numbers =
    subst (λ t. AreAsked t those beside numbers) (sym task_is) (subst (λ a. AreAsked task a beside numbers) (sym atoms_are) (subst (AreAsked task atoms beside) (sym numbers_are) are)) in
    subst (λ t. AreFairness t atoms beside l found) task_is (subst (λ a. AreFairness there a beside l found) atoms_are (all beside are_there))

pub fairness_of_all-requires-clause-sorted : goal.fairness_of_all-requires-clause-sorted
fairness_of_all-requires-clause-sorted c =
    let cert = certificate_of c.args.cert.now in
    subst (λ (l : NumberedLandmarks). AreSorted l.zones) (sym c.evidence.ensures.landmarks) (kept-sorted (length cert.atoms) cert.landmarks (landmarks_keep_limits cert c.args.cert.now.within_limits)).0

pub fairness_of_all-requires-clause-few : goal.fairness_of_all-requires-clause-few
fairness_of_all-requires-clause-few c =
    let cert = certificate_of c.args.cert.now in
    subst (λ (l : NumberedLandmarks). share_count l.values ≤ 67108864) (sym c.evidence.ensures.landmarks) (kept-sorted (length cert.atoms) cert.landmarks (landmarks_keep_limits cert c.args.cert.now.within_limits)).1

-- what was found of each landmark value of the certificate
judged : (c : After-first_unfair) → AreFairness (task_in c.args.grounded.now) (numbered_atoms (task_in c.args.grounded.now) (certificate_of c.args.cert.now).atoms) (certificate_of c.args.cert.now).tables
    (certificate_of c.args.cert.now).landmarks c.in_ok-found.found.items
judged c =
    let g = c.args.grounded.now in
    let cert = certificate_of c.args.cert.now in
    let found = c.in_ok-found.found.items in
    let here = found_here (task_in g) _ (atoms_in g) _ c.in_ok-asked.asked.items _ (several_of c.args.common.now).tables (landmarks_of c.evidence.result.now.landmarks) found c.in_ok-index.ensures.task c.in_ok-index.ensures.atoms
    (c.in_ok-index.ensures.asked ∙ c.deref.ensures.value) c.in_ok-asked.ensures.asked c.in_ok-found.ensures in
    subst (λ l. AreFairness (task_in g) (numbered_atoms (task_in g) cert.atoms) cert.tables l found) c.evidence.ensures.landmarks
    (subst (λ tables. AreFairness (task_in g) (numbered_atoms (task_in g) cert.atoms) tables (landmarks_of c.evidence.result.now.landmarks) found) c.requires.tables
    (subst (λ atoms. AreFairness (task_in g) atoms (several_of c.args.common.now).tables (landmarks_of c.evidence.result.now.landmarks) found) c.requires.numbered here))

-- the first value that is not fair
first_is : (c : After-first_unfair) → IsFirstWhere is_unfair c.in_ok-found.found.items c.first_unfair.result
first_is c = subst (λ found. IsFirstWhere is_unfair found c.first_unfair.result) c.deref-2.ensures.value c.first_unfair.ensures

pub value_line-requires : goal.value_line-requires
value_line-requires c =
    let here = (goal.at.value_line-requires c).After-first_unfair in
    let (f, at, is, before) = subst (IsFirstWhere is_unfair c.in_ok-found.found.items) c.in-Some.is (first_is here) in
    omega (arith, slice_get_within c.in_ok-found.found.items c.in-Some.number f at, (judged here).as_many)

pub returns-in-Some-clause-wrong : goal.returns-in-Some-clause-wrong
returns-in-Some-clause-wrong c =
    let here = (goal.at.returns-in-Some-clause-wrong c).After-first_unfair in
    let task = task_in c.args.grounded.now in
    let cert = certificate_of c.args.cert.now in
    let number = c.in-Some.number in
    let (h, at, wrong) = unfair_at cert c.args.cert.now.within_limits task c.in_ok-found.found.items (judged here) number (subst (IsFirstWhere is_unfair c.in_ok-found.found.items) c.in-Some.is (first_is here)) in
    reported task cert c.value_line.result ValueUnfair (landmark_line cert number) c.value_line.ensures (number, h, refl, at, wrong)

pub returns-in-Some-clause-first : goal.returns-in-Some-clause-first
returns-in-Some-clause-first c =
    let here = (goal.at.returns-in-Some-clause-first c).After-first_unfair in
    let task = task_in c.args.grounded.now in
    let cert = certificate_of c.args.cert.now in
    let number = c.in-Some.number in
    let found = c.in_ok-found.found.items in
    let (f, at, is, before) = subst (IsFirstWhere is_unfair found) c.in-Some.is (first_is here) in
    λ symmetric distinct allowed plan most within.
    reported_first task cert plan most c.value_line.result ValueUnfair (landmark_line cert number) c.value_line.ensures
    (first_value_unfair task cert number plan most (atoms_right task cert c.requires.fluent) (states_right_all task cert distinct allowed) within symmetric c.requires.fair
    (fair_before cert c.args.cert.now.within_limits task found (judged here) number before)) tt

-- the first dead end whose landmark value is not dead-fair
pub state_line-requires : goal.state_line-requires
state_line-requires c =
    let cert = certificate_of c.args.cert.now in
    let (l, at, is, before) = subst (IsFirstWhere (λ (l : StateLine). rests_on_another c.deref-3.result.now l.mark) cert.lines) c.in-Some-first_not_dead.is c.first_not_dead.ensures in
    slice_get_within cert.lines c.in-Some-first_not_dead.place l at

pub returns-in-Some-first_not_dead-clause-wrong : goal.returns-in-Some-first_not_dead-clause-wrong
returns-in-Some-first_not_dead-clause-wrong c =
    let here = (goal.at.returns-in-Some-first_not_dead-clause-wrong c).After-first_unfair in
    let task = task_in c.args.grounded.now in
    let cert = certificate_of c.args.cert.now in
    let place = c.in-Some-first_not_dead.place in
    let found = c.in_ok-found.found.items in
    let first = subst (λ those. IsFirstWhere (λ (l : StateLine). rests_on_another those l.mark) cert.lines (Some place)) c.deref-3.ensures.value
    (subst (IsFirstWhere (λ (l : StateLine). rests_on_another c.deref-3.result.now l.mark) cert.lines) c.in-Some-first_not_dead.is c.first_not_dead.ensures) in
    let (l, number, at, marked, wrong) = not_dead_at cert c.args.cert.now.within_limits task found (judged here) place first in
    reported task cert c.state_line.result ValueNotDead (state_line cert place) c.state_line.ensures (l, number, (place, refl, at), marked, wrong)

pub returns-in-Some-first_not_dead-clause-first : goal.returns-in-Some-first_not_dead-clause-first
returns-in-Some-first_not_dead-clause-first c =
    let here = (goal.at.returns-in-Some-first_not_dead-clause-first c).After-first_unfair in
    let task = task_in c.args.grounded.now in
    let cert = certificate_of c.args.cert.now in
    let place = c.in-Some-first_not_dead.place in
    let found = c.in_ok-found.found.items in
    let (l, at, is, before) = subst (λ those. IsFirstWhere (λ (l : StateLine). rests_on_another those l.mark) cert.lines (Some place)) c.deref-3.ensures.value
    (subst (IsFirstWhere (λ (l : StateLine). rests_on_another c.deref-3.result.now l.mark) cert.lines) c.in-Some-first_not_dead.is c.first_not_dead.ensures) in
    λ symmetric distinct allowed plan most within.
    reported_first task cert plan most c.state_line.result ValueNotDead (state_line cert place) c.state_line.ensures
    (first_value_not_dead task cert place plan most (atoms_right task cert c.requires.fluent) (states_right_all task cert distinct allowed) within symmetric c.requires.fair
    (fair_all cert c.args.cert.now.within_limits task found (judged here) (subst (IsFirstWhere is_unfair found) c.in_default.is (first_is here)))
    (dead_fair_before cert c.args.cert.now.within_limits task found (judged here) place before)) tt

pub returns-clause-fair : goal.returns-clause-fair
returns-clause-fair c =
    let here = (goal.at.returns-clause-fair c).After-first_unfair in
    let task = task_in c.args.grounded.now in
    let cert = certificate_of c.args.cert.now in
    let found = c.in_ok-found.found.items in
    landmarks_fair cert c.args.cert.now.within_limits task found (judged here) (subst (IsFirstWhere is_unfair found) c.in_default.is (first_is here))
    (subst (λ those. IsFirstWhere (λ (l : StateLine). rests_on_another those l.mark) cert.lines None) c.deref-3.ensures.value
    (subst (IsFirstWhere (λ (l : StateLine). rests_on_another c.deref-3.result.now l.mark) cert.lines) c.in_default-first_not_dead.is c.first_not_dead.ensures))
