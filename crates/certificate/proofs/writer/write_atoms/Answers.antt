use Rattle.std.proofs.Common.{◌≡◌, ◌<◌, ◌∙◌, arith, ap, get_or, length, sym}
use Rattle.std.proofs.lemmas.List.{length-map}
use Rattle.std.specs.Prelude.{Some, slice_get}
use Rattle.task.specs.Task.{task_of}
use Rattle.task.specs.TaskParts.{atom_of}
use Rattle.certificate_definitions.specs.CertificateText.{WeightedAtom}
use Rattle.certificate_definitions.specs.CertificateNames.{named_atom}
use Rattle.certificate_definitions.specs.Certificates.{is_weight}
use Rattle.certificate_reader.specs.Lines.{version_of}
use Rattle.certificate.specs.Evidence.{evidence_of, potential_of, weights_at}
use Rattle.certificate.specs.Gathering.{atom_line, atoms_weighed}
use Rattle.certificate.specs.Certificate.{certificate_of}
use Rattle.certificate.proofs.GatheringLemmas.{added_begun, added_passed, all_passed, atoms_past, next_begun, next_passed, so_far_begun, weighed_at}
use Rattle.certificate.proofs.WithinLimits.{one_weight_each}
use Rattle.certificate.proofs.writer.write_atoms.Goals as goal
use Rattle.certificate.proofs.writer.write_atoms.Goals.{In_ok-add_atom}
use Rattle.certificate.proofs.writer.write_atoms.Given.{Over}

pub add_atom-requires : goal.add_atom-requires
add_atom-requires g c =
    let cert = certificate_of c.args.cert.now in
    let within : c.loop-place.place < length cert.atoms =
    omega (arith, c.loop-place-test.true, ap length c.atoms-atoms.ensures.atoms, length-map c.atoms-atoms.result.now atom_of) in
    record {
      values = λ k d there. omega (arith, within, one_weight_each is_weight (length cert.atoms) (potential_of (get_or c.evidence-evidence.result.now.values.items k d)) (c.evidence-evidence.ensures.values k d there));
      dead_ends = omega (arith, within, one_weight_each is_weight (length cert.atoms) (potential_of c.evidence-evidence.result.now.dead_ends) c.evidence-evidence.ensures.dead_ends);
    }

-- what is written so far is a prefix
pub returns-in_err-add_atom-clause-beginning : goal.returns-in_err-add_atom-clause-beginning
returns-in_err-add_atom-clause-beginning g c =
    so_far_begun atom_line (atoms_weighed (task_of c.args.task.now) (certificate_of c.args.cert.now)) _ _ _ _ c.loop-place.place c.loop-place.invariant.passed

-- the atom whose line is added
abbrev added : (g : Over) → In_ok-add_atom g → WeightedAtom
added g c =
    record { weights = weights_at (version_of c.version-version.result) (evidence_of c.evidence-evidence.result.now) c.loop-place.place; atom = named_atom (task_of c.args.task.now) (atom_of c.index-atoms-place.result) }

there : (g : Over) (c : In_ok-add_atom g) → slice_get (atoms_weighed (task_of c.args.task.now) (certificate_of c.args.cert.now)) c.loop-place.place ≡ Some (added g c)
there g c =
    let i = c.loop-place.place in
    weighed_at (task_of c.args.task.now) (certificate_of c.args.cert.now) atom_of c.atoms-atoms.result.now c.atoms-atoms.ensures.atoms i c.index-atoms-place.result c.loop-place-test.true c.index-atoms-place.is
    ∙ (λ j. Some (record { weights = weights_at (sym c.version-version.ensures j) (sym c.evidence-evidence.ensures.evidence j) i; atom = named_atom (task_of c.args.task.now) (atom_of c.index-atoms-place.result) }))

pub returns-in_err-pass_on-clause-beginning : goal.returns-in_err-pass_on-clause-beginning
returns-in_err-pass_on-clause-beginning g c =
    let at = (goal.at.returns-in_err-pass_on-clause-beginning g c).In_ok-add_atom in
    next_begun atom_line (atoms_weighed (task_of c.args.task.now) (certificate_of c.args.cert.now)) _ _ _ _ c.loop-place.place c.loop-place.invariant.passed (added g at) (there g at) _
    (added_begun _ _ c.loop-place.held.items _ (atom_line (added g at)) c.in_ok-add_atom.ensures c.pass_on.ensures.beginning)

pub loop-place-preserved : goal.loop-place-preserved
loop-place-preserved g c =
    let at = (goal.at.loop-place-preserved g c).In_ok-add_atom in
    record {
      passed = next_passed atom_line (atoms_weighed (task_of c.args.task.now) (certificate_of c.args.cert.now)) _ _ _ _ c.loop-place.place c.loop-place.invariant.passed (added g at) (there g at) _ _
          (added_passed _ _ c.loop-place.held.items _ (atom_line (added g at)) c.in_ok-add_atom.ensures _ c.in_ok-pass_on.ensures.text);
      failures = c.in_ok-pass_on.ensures.failures ∙ c.loop-place.invariant.failures;
      name = c.in_ok-pass_on.ensures.name ∙ c.loop-place.invariant.name;
    }

pub returns-clause-text : goal.returns-clause-text
returns-clause-text g c =
    all_passed atom_line (atoms_weighed (task_of c.args.task.now) (certificate_of c.args.cert.now)) _ _ _ _ c.loop-place.place c.loop-place.invariant.passed
    (atoms_past (task_of c.args.task.now) (certificate_of c.args.cert.now) atom_of c.atoms-atoms.result.now c.atoms-atoms.ensures.atoms c.loop-place.place (omega (arith, c.loop-place-test.false)))

pub returns-clause-beginning : goal.returns-clause-beginning
returns-clause-beginning g c = let passed = returns-clause-text g c in (passed.0, c.loop-place.held.items, passed.2, passed.1)
