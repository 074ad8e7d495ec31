use Rattle.std.proofs.Common.{◌∙◌, ◌≤◌, length, map, sym, ap, subst, refl, arith}
use Rattle.std.specs.Prelude.{All}
use Rattle.std.proofs.lemmas.List.{length-map}
use Rattle.grounding.specs.Ground.{task_in, atoms_in}
use Rattle.certificate.specs.declared.evidence.WrittenPotentials.{WrittenPotentials}
use Rattle.certificate.specs.Certificate.{certificate_of}
use Rattle.certificate.specs.Evidence.{potential_of}
use Rattle.certificate_definitions.specs.Certificates as certificates
use Rattle.certificate_definitions.specs.Certificates.{is_weight}
use Rattle.potentials.specs.Potentials.{potentials_of}
use Rattle.lower_bounds.specs.PotentialFunctions.{AreInRange}
use Rattle.lower_bounds.specs.TableFunctions.{SeveralValues}
use Rattle.tables.specs.Several.{several_of}
use Rattle.cert_checker.specs.Weights.{AreWidened, HasItsWeights, HaveTheirWeights}
use Rattle.cert_checker.proofs.MadeLemmas.{each_as_wide, each_in_range, each_weighed, have_weights}
use Rattle.cert_checker.proofs.PackedListingLemmas.{numbered_after}
use Rattle.cert_checker.proofs.TablesLemmas.{as_many_widened}
use Rattle.cert_checker.proofs.checker.values.fair_with_tables.Goals as goal
use Rattle.cert_checker.proofs.checker.values.fair_with_tables.Goals.{After-deref, In_ok-values, In_ok-functions}
use Rattle.certificate.proofs.WithinLimits.{one_weight_each, potentials_in_range}

pub all_at_width-requires-clause-range : goal.all_at_width-requires-clause-range
all_at_width-requires-clause-range c =
    subst (All (λ (p : WrittenPotentials). AreInRange (potential_of p))) (sym c.deref.ensures.value)
    (each_in_range (length (certificate_of c.args.cert.now).atoms) c.evidence-evidence.result.now.values.items c.evidence-evidence.ensures.values)

pub all_at_width-requires-clause-enough : goal.all_at_width-requires-clause-enough
all_at_width-requires-clause-enough c =
    let cert = certificate_of c.args.cert.now in
    let after = numbered_after (task_in c.args.grounded.now) (atoms_in c.args.grounded.now) cert c.requires.fluent c.requires.numbered in
    subst (All (λ (p : WrittenPotentials). length (potential_of p).weights ≤ c.width-width.result)) (sym c.deref.ensures.value)
    (each_weighed (length cert.atoms) c.width-width.result c.evidence-evidence.result.now.values.items (omega (arith, after, c.width-width.ensures)) c.evidence-evidence.ensures.values)

pub at_width-requires-clause-range : goal.at_width-requires-clause-range
at_width-requires-clause-range c = potentials_in_range (length (certificate_of c.args.cert.now).atoms) (potential_of c.evidence-evidence.result.now.dead_ends) c.evidence-evidence.ensures.dead_ends

pub at_width-requires-clause-enough : goal.at_width-requires-clause-enough
at_width-requires-clause-enough c =
    let cert = certificate_of c.args.cert.now in
    let weighed = one_weight_each is_weight (length cert.atoms) (potential_of c.evidence-evidence.result.now.dead_ends) c.evidence-evidence.ensures.dead_ends in
    omega (arith, numbered_after (task_in c.args.grounded.now) (atoms_in c.args.grounded.now) cert c.requires.fluent c.requires.numbered, c.width-width.ensures, weighed)

pub over_tables-requires-clause-enough : goal.over_tables-requires-clause-enough
over_tables-requires-clause-enough c = numbered_after (task_in c.args.grounded.now) (atoms_in c.args.grounded.now) (certificate_of c.args.cert.now) c.requires.fluent c.requires.numbered

-- they have the certificate's weights
widened : (c : In_ok-values) → AreWidened (certificate_of c.args.cert.now).values (length (atoms_in c.args.grounded.now)) (map potentials_of c.in_ok-values.values.items)
widened c =
    let made = map potentials_of c.in_ok-values.values.items in
    subst (λ width. AreWidened (certificate_of c.args.cert.now).values width made) c.width-width.ensures
    (subst (λ said. AreWidened said c.width-width.result made) (ap (map potential_of) c.deref.ensures.value ∙ ap (λ (s : SeveralValues). s.values) c.evidence-evidence.ensures.evidence) c.in_ok-values.ensures)

pub over_tables-requires-clause-as_many : goal.over_tables-requires-clause-as_many
over_tables-requires-clause-as_many c =
    let made = c.in_ok-values.values.items in
    sym (length-map made potentials_of)
    ∙ as_many_widened (certificate_of c.args.cert.now).values (length (atoms_in c.args.grounded.now)) (map potentials_of made) (widened (goal.at.over_tables-requires-clause-as_many c).In_ok-values)

pub over_tables-requires-clause-values : goal.over_tables-requires-clause-values
over_tables-requires-clause-values c =
    each_as_wide (certificate_of c.args.cert.now).values (length (atoms_in c.args.grounded.now)) c.in_ok-values.values.items (widened (goal.at.over_tables-requires-clause-values c).In_ok-values)

have : (c : In_ok-functions) → HaveTheirWeights (certificates.several_of (certificate_of c.args.cert.now)) (length (atoms_in c.args.grounded.now)) (several_of c.in_ok-functions.functions)
have c =
    let cert = certificate_of c.args.cert.now in
    let width = length (atoms_in c.args.grounded.now) in
    let p = potentials_of c.in_ok-dead_ends.dead_ends in
    let dead_ends : HasItsWeights cert.dead_ends width p =
    subst (λ w. HasItsWeights cert.dead_ends w p) c.width-width.ensures (subst (λ (s : SeveralValues). HasItsWeights s.dead_ends c.width-width.result p) c.evidence-evidence.ensures.evidence c.in_ok-dead_ends.ensures) in
    subst (HaveTheirWeights (certificates.several_of cert) width) (sym c.in_ok-functions.ensures)
    (have_weights (certificates.several_of cert) (record { values = map potentials_of c.in_ok-values.values.items; dead_ends = p; tables = cert.tables }) width
    (subst (λ w. AreWidened cert.values w (map potentials_of c.in_ok-values.values.items)) c.width-width.ensures
    (subst (λ said. AreWidened said c.width-width.result (map potentials_of c.in_ok-values.values.items)) (ap (map potential_of) c.deref.ensures.value ∙ ap (λ (s : SeveralValues). s.values) c.evidence-evidence.ensures.evidence)
    c.in_ok-values.ensures)) dead_ends refl)

pub check_fairness-requires-clause-weights : goal.check_fairness-requires-clause-weights
check_fairness-requires-clause-weights c = have (goal.at.check_fairness-requires-clause-weights c).In_ok-functions

pub returns-clause-weights : goal.returns-clause-weights
returns-clause-weights c = have (goal.at.returns-clause-weights c).In_ok-functions
