use Rattle.std.proofs.Common.{◌++◌, ◌∷◌, [], map, refl, sym, subst}
use Rattle.task.specs.Task.{task_of}
use Rattle.task.specs.TaskParts.{atom_of}
use Rattle.certificate_reader.specs.Lines.{claim_of, named_atom_of, version_of}
use Rattle.certificate_definitions.specs.CertificateText.{WeightedAtom, atom}
use Rattle.certificate_definitions.specs.CertificateChecking.{not_fluent}
use Rattle.certificate.specs.CertificateParts.{exchange_in}
use Rattle.lower_bounds.specs.TableFunctions.{SeveralValues}
use Rattle.landmark_zones.specs.Landmarks.{landmarks_of}
use Rattle.landmark_zones.specs.declared.landmarks.Landmarks.{Landmarks}
use Rattle.certificate.specs.Evidence.{evidence_of}
use Rattle.cert_checker.specs.Given.{HaveGiven, Heading}
use Rattle.cert_checker.specs.Taking.{heading_of}
use Rattle.cert_checker.proofs.AtomsLemmas.{new_is_reported, again_is_wrong}
use Rattle.cert_checker.proofs.header.add_atom.Goals as goal

pub returns-in_default-clause-wrong : goal.returns-in_default-clause-wrong
returns-in_default-clause-wrong c = λ before at reported. (at, not_fluent (record { weights = c.args.weights.now; atom = named_atom_of c.args.name.now }) c.in_default.ensures.none)

pub returns-then-not-branch-clause-wrong : goal.returns-then-not-branch-clause-wrong
returns-then-not-branch-clause-wrong c = λ before at reported.
    let header = c.args.header.now in (
      at,
      again_is_wrong (task_of c.args.task.now) before (heading_of header) header.atoms.keys refl reported
          (record { weights = c.args.weights.now; atom = named_atom_of c.args.name.now }) c.in-Some.atom
          c.in-Some.ensures.names c.in-Some.ensures.typed c.in-Some.ensures.fluent c.in_ok-insert.field-0 c.in_ok-insert.ensures.added c.if-not-branch.true,
    )

pub returns-clause-reported : goal.returns-clause-reported
returns-clause-reported c = λ before begun reported.
    let task = task_of c.args.task.now in
    let header = c.args.header.now in
    let said : WeightedAtom = record { weights = c.args.weights.now; atom = named_atom_of c.args.name.now } in
    let heading : SeveralValues → Landmarks → Heading =
    λ evidence landmarks. record {
      version = version_of header.version;
      claim = claim_of header.claim;
      exchanges = map exchange_in header.exchanges.items;
      atoms = map atom_of c.insert.new.self.keys;
      evidence = evidence;
      landmarks = landmarks_of landmarks;
    } in
    subst (λ landmarks. HaveGiven task (before ++ atom said ∷ []) (heading (evidence_of c.take_weights.new.evidence) landmarks)) (sym c.take_weights.ensures.landmarks)
    (subst (λ evidence. HaveGiven task (before ++ atom said ∷ []) (heading evidence header.evidence.landmarks)) (sym c.in_ok-take_weights.ensures.taken)
    (new_is_reported task before (heading_of header) header.atoms.keys refl reported said c.in-Some.atom
    c.in-Some.ensures.names c.in-Some.ensures.typed c.in-Some.ensures.fluent c.in_ok-insert.field-0 c.in_ok-insert.ensures.added c.if-not-branch.false begun c.insert.new.self.keys c.in_ok-insert.ensures.keys))
