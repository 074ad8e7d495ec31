use Rattle.std.proofs.Common.{◌≡◌, ℕ, List, [], None, refl, sym, subst}
use Rattle.cert_checker.proofs.WrittenLemmas.{closed_is_accepted, closed_reads_back}
use Rattle.cert_checker.specs.declared.checker.Accepted.TheVariants.{AtLeast}
use Rattle.certificate.specs.Certificate.{certificate_of}
use Rattle.certificate.specs.declared.cert.Cert.{Cert}
use Rattle.model.specs.Task.{Task}
use Rattle.model.specs.Claims.{bound}
use Rattle.model.specs.Runs.{CostsAtLeast}
use Rattle.model.specs.Meaning.{system_of}
use Rattle.model.specs.Files.{IsTaskOf}
use Rattle.model.specs.Limits.{max_numbered_atoms}
use Rattle.model.specs.Grounding.{exceeded_limit}
use Rattle.certificate_definitions.specs.CertificateNames.{certificate_text}
use Rattle.certificate_definitions.specs.CertificateRefusals.{IsPlanWithin}
use Rattle.file_answers.specs.Checked.{IsAcceptedAs}
use Rattle.solver.specs.Listing.{IsShownBy}
use Rattle.model.proofs.LimitsLemmas.{limits_alike}
use Rattle.model.proofs.TaskNames.{task_has_atom_names}
use Rattle.typing.proofs.TypedTasks.{task_is_typed}
use Rattle.file_answers.proofs.NamedExchanges.{named_exchanges}
use Rattle.file_answers.proofs.ShortLines.{no_long_line}
use Rattle.file_answers.proofs.laws.solved_certificates_are_accepted.Goals as goal

pub returns-clause-accepted : goal.returns-clause-accepted
returns-clause-accepted c = λ domain problem task claim k most_states most plan read shown reported within.
    let well = task_is_typed domain problem task read in
    let has_names = task_has_atom_names domain problem task read in
    let (exchanged, swaps) = named_exchanges task has_names k.exchanges shown.exchanges in
    let short = no_long_line task k shown.within_limits shown.few_zones swaps in (
      closed_reads_back task k well has_names exchanged short shown.within_limits shown.closed,
      closed_is_accepted task k plan well has_names exchanged short shown.within_limits shown.closed (subst (λ claim. IsPlanWithin task claim plan) (sym shown.claims) within),
      subst (λ atoms. exceeded_limit most max_numbered_atoms task atoms ≡ None) (sym shown.atoms) (limits_alike most max_numbered_atoms task reported),
    )

-- the certificate of a bound is accepted with it
bound_is_accepted : (domain problem : List ℕ) (task : Task) (states instances least : ℕ) (cert : Cert) → IsTaskOf domain problem task → exceeded_limit instances max_numbered_atoms task [] ≡ None
    → CostsAtLeast (system_of task) least → IsShownBy task (bound least) states (certificate_of cert) → IsAcceptedAs task (certificate_text task (certificate_of cert)) None instances (AtLeast least)
bound_is_accepted domain problem task states instances least cert read reported at_least shown =
    let k = certificate_of cert in
    let well = task_is_typed domain problem task read in
    let has_names = task_has_atom_names domain problem task read in
    let (exchanged, swaps) = named_exchanges task has_names k.exchanges shown.exchanges in
    let short = no_long_line task k shown.within_limits shown.few_zones swaps in
    record {
      accepted = record {
        certificate = k;
        is_text = closed_reads_back task k well has_names exchanged short shown.within_limits shown.closed;
        closed = shown.closed;
        within = tt;
      };
      within = subst (λ atoms. exceeded_limit instances max_numbered_atoms task atoms ≡ None) (sym shown.atoms) (limits_alike instances max_numbered_atoms task reported);
      answers = (shown.claims, refl);
      shown = at_least;
    }

pub returns-clause-at_a_limit : goal.returns-clause-at_a_limit
returns-clause-at_a_limit c = λ domain problem task seconds states instances least cert read is_true.
    let (_, reported, at_least, shown, _, _) = is_true in
    bound_is_accepted domain problem task states instances least cert read reported at_least shown

pub returns-clause-in_time : goal.returns-clause-in_time
returns-clause-in_time c = λ domain problem task seconds states instances least cert read is_true.
    let (_, reported, at_least, shown, _, _) = is_true in
    bound_is_accepted domain problem task states instances least cert read reported at_least shown
