use Rattle.std.proofs.Common.{◌≡◌, ℕ, ◌+◌, List, [], ◌∷◌, ◌++◌, length, map, None, refl, sym, ap, ◌∙◌, subst}
use Rattle.std.specs.Prelude.{ℤ}
use Rattle.std.specs.Global.{Vec}
use Rattle.faults.proofs.Results.{passed_on}
use Rattle.task.specs.Task.{task_of}
use Rattle.task.specs.TaskParts.{atom_of}
use Rattle.certificate_reader.specs.Lines.{claim_of, name_of, named_atom_of, text_line_of, version_of}
use Rattle.certificate_definitions.specs.CertificateText.{TextLine, BeginCertificate, atom, constant, swapped}
use Rattle.symmetries_definitions.specs.Exchanges.{Exchange}
use Rattle.certificate_definitions.specs.CertificateNames.{exchange_said}
use Rattle.model.specs.Task.{Task}
use Rattle.lower_bounds.specs.TableFunctions.{SeveralValues}
use Rattle.landmark_zones.specs.Landmarks.{landmarks_of}
use Rattle.landmark_zones.specs.declared.landmarks.Landmarks.{Landmarks}
use Rattle.certificate.specs.declared.evidence.Evidence.{Evidence}
use Rattle.certificate.specs.declared.header.Header.{Header}
use Rattle.certificate.specs.CertificateParts.{exchange_in}
use Rattle.certificate.specs.Evidence.{evidence_of}
use Rattle.certificate_reader.specs.Parts.{part_of}
use Rattle.cert_checker.specs.Given.{Heading, HaveGiven, begun_with}
use Rattle.cert_checker.specs.Tabled.{AreWeighed, IsFitHead}
use Rattle.cert_checker.specs.Taking.{HasTaken, IsTaken, IsWrongNow, heading_of}
use Rattle.cert_checker.proofs.GivenLemmas.{reported_version, reported_claim, reported_constant, reported_exchange}
use Rattle.cert_checker.proofs.TabledLemmas.{weighed_early, part_is_wrong, reported_part}
use Rattle.cert_checker.proofs.header.take.Goals as goal

pub returns-in-Claim-clause-taken : goal.returns-in-Claim-clause-taken
returns-in-Claim-clause-taken c =
    let task = task_of c.args.task.now in
    let header = c.args.header.now in
    subst (λ line. (before : List TextLine) → BeginCertificate (before ++ text_line_of line ∷ []) → HasTaken task before header
    → IsTaken task before (text_line_of line) (record { version = header.version; claim = c.in-Claim.claim; exchanges = header.exchanges; atoms = header.atoms; evidence = header.evidence }) None)
    (sym c.in-Claim.is) (λ before begun reported. (reported_claim task before (heading_of header) reported (claim_of c.in-Claim.claim) begun, refl))

-- together with the constants the lines have given this evidence
constants_taken : (task : Task) (header : Header) (constants given : List ℤ) (after : Evidence) → given ≡ constants → evidence_of after ≡ begun_with (version_of header.version) given (evidence_of header.evidence)
    → after.landmarks ≡ header.evidence.landmarks
    → (before : List TextLine) → BeginCertificate (before ++ constant constants ∷ []) → HasTaken task before header
    → HasTaken task (before ++ constant constants ∷ []) (record { version = header.version; claim = header.claim; exchanges = header.exchanges; atoms = header.atoms; evidence = after })
constants_taken task header constants given after same evidence_is landmarks_are before begun reported =
    let heading : SeveralValues → Landmarks → Heading =
    λ evidence landmarks. record {
      version = version_of header.version;
      claim = claim_of header.claim;
      exchanges = map exchange_in header.exchanges.items;
      atoms = map atom_of header.atoms.keys;
      evidence = evidence;
      landmarks = landmarks_of landmarks;
    } in
    subst (λ landmarks. HaveGiven task (before ++ constant constants ∷ []) (heading (evidence_of after) landmarks)) (sym landmarks_are)
    (subst (λ evidence. HaveGiven task (before ++ constant constants ∷ []) (heading evidence header.evidence.landmarks)) (sym (evidence_is ∙ ap (λ k. begun_with (version_of header.version) k (evidence_of header.evidence)) same))
    (reported_constant task before (heading_of header) reported constants begun))

pub returns-in_ok-take_constants-in-Constant-clause-taken : goal.returns-in_ok-take_constants-in-Constant-clause-taken
returns-in_ok-take_constants-in-Constant-clause-taken c =
    let task = task_of c.args.task.now in
    let header = c.args.header.now in
    let after = c.take_constants.new.evidence in
    subst (λ line. (before : List TextLine) → BeginCertificate (before ++ text_line_of line ∷ []) → HasTaken task before header
    → IsTaken task before (text_line_of line) (record { version = header.version; claim = header.claim; exchanges = header.exchanges; atoms = header.atoms; evidence = after }) None)
    (sym c.in-Constant.is) (λ before begun reported. (
      constants_taken task header c.in-Constant.constants.items c.deref.result.now after c.deref.ensures.value c.in_ok-take_constants-in-Constant.ensures.taken c.take_constants.ensures.landmarks before begun reported,
      refl,
    ))

pub returns-in_ok-take_exchange-in-Swap-clause-taken : goal.returns-in_ok-take_exchange-in-Swap-clause-taken
returns-in_ok-take_exchange-in-Swap-clause-taken c =
    let task = task_of c.args.task.now in
    let header = c.args.header.now in
    let old : List Exchange = map exchange_in header.exchanges.items in
    let names : List (List ℕ) = map name_of c.in-Swap.objects.items in
    let heading : List Exchange → Heading =
    λ exchanges. record { version = version_of header.version; claim = claim_of header.claim; exchanges = exchanges; atoms = map atom_of header.atoms.keys; evidence = evidence_of header.evidence; landmarks = landmarks_of header.evidence.landmarks } in
    subst (λ line. (before : List TextLine) → BeginCertificate (before ++ text_line_of line ∷ []) → HasTaken task before header
    → IsTaken task before (text_line_of line) (record { version = header.version; claim = header.claim; exchanges = c.take_exchange.new.exchanges; atoms = header.atoms; evidence = header.evidence }) None)
    (sym c.in-Swap.is) (λ before begun reported. (
      subst (λ exchanges. HaveGiven task (before ++ swapped names ∷ []) (heading exchanges))
          (sym (c.in_ok-take_exchange-in-Swap.ensures ∙ ap (λ (objects : List (Vec ℕ)). old ++ exchange_said task (map name_of objects) ∷ []) c.deref-in-Swap.ensures.value))
          (reported_exchange task before (heading_of header) reported names),
      refl,
    ))

pub returns-in_ok-add_atom-in-Weight-clause-taken : goal.returns-in_ok-add_atom-in-Weight-clause-taken
returns-in_ok-add_atom-in-Weight-clause-taken c =
    let task = task_of c.args.task.now in
    let named : List ℤ → TextLine = λ weights. atom (record { weights = weights; atom = named_atom_of (record { predicate = c.in-Weight.predicate; objects = c.in-Weight.objects }) }) in
    subst (λ line. (before : List TextLine) → BeginCertificate (before ++ text_line_of line ∷ []) → HasTaken task before c.args.header.now → IsTaken task before (text_line_of line) c.add_atom.new.header None)
    (sym c.in-Weight.is) (λ before begun reported. (
      subst (λ weights. BeginCertificate (before ++ named weights ∷ []) → HasTaken task before c.args.header.now → HasTaken task (before ++ named weights ∷ []) c.add_atom.new.header)
          c.deref-in-Weight.ensures.value (c.in_ok-add_atom-in-Weight.ensures.reported before) begun reported,
      refl,
    ))

pub returns-in_err-add_atom-in-Weight-clause-wrong : goal.returns-in_err-add_atom-in-Weight-clause-wrong
returns-in_err-add_atom-in-Weight-clause-wrong c =
    let task = task_of c.args.task.now in
    let header = c.args.header.now in
    let named : List ℤ → TextLine = λ weights. atom (record { weights = weights; atom = named_atom_of (record { predicate = c.in-Weight.predicate; objects = c.in-Weight.objects }) }) in
    passed_on (λ refusal. (before : List TextLine) → BeginCertificate (before ++ text_line_of c.args.line ∷ []) → c.args.number ≡ length before + 1 → HasTaken task before header
    → IsWrongNow task before (text_line_of c.args.line) refusal)
    c.from_residual-in_err-add_atom-in-Weight.result c.in_err-add_atom-in-Weight.field-0.0 c.from_residual-in_err-add_atom-in-Weight.ensures.1
    (subst (λ line. (before : List TextLine) → BeginCertificate (before ++ text_line_of line ∷ []) → c.args.number ≡ length before + 1 → HasTaken task before header
    → IsWrongNow task before (text_line_of line) c.in_err-add_atom-in-Weight.field-0.0)
    (sym c.in-Weight.is) (λ before begun at reported.
    subst (λ weights. IsWrongNow task before (named weights) c.in_err-add_atom-in-Weight.field-0.0) c.deref-in-Weight.ensures.value (c.in_err-add_atom-in-Weight.ensures.wrong before at reported)))

pub returns-in-Head-clause-taken : goal.returns-in-Head-clause-taken
returns-in-Head-clause-taken c =
    let task = task_of c.args.task.now in
    let header = c.args.header.now in
    subst (λ line. (before : List TextLine) → BeginCertificate (before ++ text_line_of line ∷ []) → HasTaken task before header
    → IsTaken task before (text_line_of line) (record { version = c.in-Head.version; claim = header.claim; exchanges = header.exchanges; atoms = header.atoms; evidence = header.evidence }) None)
    (sym c.in-Head.is) (λ before begun reported. (reported_version task before (heading_of header) reported (version_of c.in-Head.version) begun, refl))

-- ---- parts

pub take_part-requires : goal.take_part-requires
take_part-requires c = record { fit = subst (λ line. IsFitHead c.args.header.now.evidence (text_line_of line)) c.in-Part.is c.requires.fit }

pub returns-in_ok-take_part-in-Part-clause-taken : goal.returns-in_ok-take_part-in-Part-clause-taken
returns-in_ok-take_part-in-Part-clause-taken c =
    let task = task_of c.args.task.now in
    let header = c.args.header.now in
    let after = c.take_part.new.evidence in
    subst (λ line. (before : List TextLine) → BeginCertificate (before ++ text_line_of line ∷ []) → HasTaken task before header
    → IsTaken task before (text_line_of line) (record { version = header.version; claim = header.claim; exchanges = header.exchanges; atoms = header.atoms; evidence = after }) None)
    (sym c.in-Part.is) (λ before begun reported. (reported_part task before header reported (part_of c.in-Part.part) after c.in_ok-take_part-in-Part.ensures.taken, refl))

pub returns-in_ok-take_part-in-Part-clause-weighed : goal.returns-in_ok-take_part-in-Part-clause-weighed
returns-in_ok-take_part-in-Part-clause-weighed c = λ before begun reported weighed. c.in_ok-take_part-in-Part.ensures.weighed weighed

pub returns-in_err-take_part-in-Part-clause-wrong : goal.returns-in_err-take_part-in-Part-clause-wrong
returns-in_err-take_part-in-Part-clause-wrong c =
    let task = task_of c.args.task.now in
    let header = c.args.header.now in
    let e = c.in_err-take_part-in-Part.field-0.0 in
    passed_on (λ refusal. (before : List TextLine) → BeginCertificate (before ++ text_line_of c.args.line ∷ []) → c.args.number ≡ length before + 1 → HasTaken task before header
    → IsWrongNow task before (text_line_of c.args.line) refusal)
    c.from_residual-in_err-take_part-in-Part.result e c.from_residual-in_err-take_part-in-Part.ensures.1
    (subst (λ line. (before : List TextLine) → BeginCertificate (before ++ text_line_of line ∷ []) → c.args.number ≡ length before + 1 → HasTaken task before header
    → IsWrongNow task before (text_line_of line) e)
    (sym c.in-Part.is) (λ before begun at reported.
    part_is_wrong task before (heading_of header) reported (part_of c.in-Part.part) c.args.number begun at e c.in_err-take_part-in-Part.ensures.wrong))

-- ---- weights of rows

pub returns-in_ok-take_constants-in-Constant-clause-weighed : goal.returns-in_ok-take_constants-in-Constant-clause-weighed
returns-in_ok-take_constants-in-Constant-clause-weighed c =
    let task = task_of c.args.task.now in
    let header = c.args.header.now in
    let after = c.take_constants.new.evidence in
    let constants = c.in-Constant.constants.items in
    subst (λ line. (before : List TextLine) → BeginCertificate (before ++ text_line_of line ∷ []) → HasTaken task before header → AreWeighed header.evidence → AreWeighed after)
    (sym c.in-Constant.is) (λ before begun reported weighed.
    weighed_early task before (constant constants) (record { version = header.version; claim = header.claim; exchanges = header.exchanges; atoms = header.atoms; evidence = after }) refl begun
    (constants_taken task header constants c.deref.result.now after c.deref.ensures.value c.in_ok-take_constants-in-Constant.ensures.taken c.take_constants.ensures.landmarks before begun reported))

pub returns-in_ok-add_atom-in-Weight-clause-weighed : goal.returns-in_ok-add_atom-in-Weight-clause-weighed
returns-in_ok-add_atom-in-Weight-clause-weighed c =
    let task = task_of c.args.task.now in
    let header = c.args.header.now in
    let after = c.add_atom.new.header in
    let named : List ℤ → TextLine = λ weights. atom (record { weights = weights; atom = named_atom_of (record { predicate = c.in-Weight.predicate; objects = c.in-Weight.objects }) }) in
    subst (λ line. (before : List TextLine) → BeginCertificate (before ++ text_line_of line ∷ []) → HasTaken task before header → AreWeighed header.evidence → AreWeighed after.evidence)
    (sym c.in-Weight.is) (λ before begun reported weighed.
    weighed_early task before (named c.in-Weight.weights.items) after refl begun
    (subst (λ weights. BeginCertificate (before ++ named weights ∷ []) → HasTaken task before header → HasTaken task (before ++ named weights ∷ []) after)
    c.deref-in-Weight.ensures.value (c.in_ok-add_atom-in-Weight.ensures.reported before) begun reported))
