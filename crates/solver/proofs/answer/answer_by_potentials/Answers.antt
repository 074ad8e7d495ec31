use Rattle.std.proofs.Common.{◌∙◌, ◌≤◌, ap, sym, subst}
use Rattle.certificate_definitions.specs.Certificates.{Version}
use Rattle.certificate_definitions.specs.CertificateText.{version_number}
use Rattle.potentials_improved.specs.Potentials.{potentials_of}
use Rattle.solver.specs.Guidance.{Guidance, estimate_by, reports_dead, version_by}
use Rattle.solver.specs.Guided.{IsEnding, IsGuidanceFor}
use Rattle.solver.specs.Versions.{number_of}
use Rattle.solver.proofs.VersionLemmas.{version_by-potentials}
use Rattle.solver.proofs.answer.answer_by_potentials.Goals as goal

pub answer_of-requires-clause-guidance : goal.answer_of-requires-clause-guidance
answer_of-requires-clause-guidance c = subst (IsGuidanceFor c.args.setting.space) (sym c.in_ok-guidance.ensures) c.requires.guidance

pub answer_of-requires-clause-ending : goal.answer_of-requires-clause-ending
answer_of-requires-clause-ending c =
    subst (λ (g : Guidance). IsEnding c.args.setting.space (estimate_by g) (reports_dead g) c.args.setting.limits c.args.ending) (sym c.in_ok-guidance.ensures) c.requires.ending

pub answer_of-requires-clause-version : goal.answer_of-requires-clause-version
answer_of-requires-clause-version c =
    let given = c.args.given in
    let same = version_by-potentials c.args.setting.space (potentials_of given.potentials.now) (potentials_of given.dead_ends.now) in
    subst (λ (v : Version). version_number v ≤ number_of c.args.setting.limits.version) (sym (ap version_by c.in_ok-guidance.ensures ∙ same)) c.requires.version
