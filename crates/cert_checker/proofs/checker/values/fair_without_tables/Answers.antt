use Rattle.std.proofs.Common.{◌∙◌, ◌∷◌, [], length, map, sym, ap, subst, refl, pos}
use Rattle.grounding.specs.Ground.{task_in, atoms_in}
use Rattle.certificate.specs.Certificate.{certificate_of}
use Rattle.certificate_definitions.specs.Certificates as certificates
use Rattle.potentials.specs.Potentials.{potentials_of}
use Rattle.cert_checker.specs.Weights.{HaveTheirWeights}
use Rattle.certificate.proofs.LimitsLemmas.{limits_of}
use Rattle.cert_checker.proofs.MadeLemmas.{have_weights, one_widened}
use Rattle.cert_checker.proofs.PackedListingLemmas.{numbered_after}
use Rattle.cert_checker.proofs.VersionLemmas.{one_value}
use Rattle.cert_checker.proofs.checker.values.fair_without_tables.Goals as goal

pub over_tables-requires-clause-enough : goal.over_tables-requires-clause-enough
over_tables-requires-clause-enough c = numbered_after (task_in c.args.grounded.now) (atoms_in c.args.grounded.now) (certificate_of c.args.cert.now) c.requires.fluent c.requires.numbered

pub over_tables-requires-clause-as_many : goal.over_tables-requires-clause-as_many
over_tables-requires-clause-as_many c =
    let cert = certificate_of c.args.cert.now in
    ap length c.in_ok-values.ensures.items ∙ sym (one_value cert.version (length cert.values) c.requires.version (limits_of cert c.args.cert.now.within_limits).value_count)

pub returns-clause-weights : goal.returns-clause-weights
returns-clause-weights c =
    let cert = certificate_of c.args.cert.now in
    let width = length (atoms_in c.args.grounded.now) in
    let one = one_value cert.version (length cert.values) c.requires.version (limits_of cert c.args.cert.now.within_limits).value_count in
    let p = potentials_of c.in_ok-value.value in
    let dead_ends = potentials_of c.in_ok-dead_ends.dead_ends in
    subst (HaveTheirWeights (certificates.several_of cert) width) (sym (c.in_ok-functions.ensures ∙ (λ i. record { values = map potentials_of (c.in_ok-values.ensures.items i); dead_ends = dead_ends; tables = cert.tables })))
    (have_weights (certificates.several_of cert) (record { values = p ∷ []; dead_ends = dead_ends; tables = cert.tables }) width
    (one_widened cert.values width p (record { constant = pos 0; weights = [] }) one c.in_ok-value.ensures.weights) c.in_ok-dead_ends.ensures.weights refl)
