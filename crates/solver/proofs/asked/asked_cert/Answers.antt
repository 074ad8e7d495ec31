use Rattle.std.proofs.Common.{◌≡◌, ◌∙◌, ℕ, ap, map, length, sym, true, []}
use Rattle.std.proofs.lemmas.List.{length-map}
use Rattle.task.specs.TaskParts.{atom_of}
use Rattle.certificate_reader.specs.Lines.{claim_of}
use Rattle.certificate_definitions.specs.Certificates.{four, keeps_limits}
use Rattle.certificate.specs.CertificateParts.{listed_of}
use Rattle.certificate.specs.Evidence.{evidence_of, is_evidence}
use Rattle.certificate.specs.ListedSets.{lines_with}
use Rattle.grounding.specs.declared.ground.Ground.{Ground}
use Rattle.grounding.specs.Ground.{task_in, atoms_in}
use Rattle.model.specs.NumberedAtoms.{are_distinct}
use Rattle.model.proofs.GroundTaskLemmas.{numbered-distinct}
use Rattle.search_spaces.specs.GroundListing.{listed_states}
use Rattle.search_spaces.specs.SearchSpace.{ground_in, exchanges_in}
use Rattle.landmark_zones.specs.Landmarks.{landmarks_of}
use Rattle.solver.proofs.AskedShown.{keeps}
use Rattle.solver.proofs.asked.asked_cert.Goals as goal

pub sets_of-requires : goal.sets_of-requires
sets_of-requires c = c.requires.lines.few

pub copied-requires : goal.copied-requires
copied-requires c =
    ap are_distinct (ap (map atom_of) c.as_slice.ensures.keys ∙ c.atoms.ensures ∙ ap atoms_in c.ground-ground.ensures ∙ c.requires.space.atoms) ∙ numbered-distinct (task_in (ground_in c.args.setting.space)) []

pub from_parts-requires-clause-marked : goal.from_parts-requires-clause-marked
from_parts-requires-clause-marked c = sym (length-map c.args.lines.marked.marks.items listed_of) ∙ c.requires.lines.one_for_each ∙ ap length (sym c.in_ok-sets.ensures)

pub from_parts-requires-clause-limits : goal.from_parts-requires-clause-limits
from_parts-requires-clause-limits c =
    let space = c.args.setting.space in
    let known = ground_in space in
    let claim = claim_of c.args.claim in
    let s = evidence_of c.args.evidence in
    let l = landmarks_of c.args.lines.marked.landmarks in
    let marks = map listed_of c.args.lines.marked.marks.items in
    let states = listed_states c.args.lines.states.store in
    let width : c.width.result ≡ length (atoms_in known) = c.width.ensures ∙ ap (λ (k : Ground). length (atoms_in k)) c.ground-ground.ensures in
    let small = sym c.is_claim.ensures ∙ c.if-not-is_claim.false in
    let are : is_evidence four (length (atoms_in known)) s l ≡ true = ap (λ (n : ℕ). is_evidence four n s l) (sym width) ∙ sym c.keep_limits.ensures ∙ c.if-not-keep_limits.false in
    let atoms = c.in_ok-names.ensures ∙ ap (map atom_of) c.as_slice.ensures.keys ∙ c.atoms.ensures ∙ ap atoms_in c.ground-ground.ensures in
    let exchanges = c.in_ok-written_exchanges.ensures in
    let sets = c.in_ok-sets.ensures in
    ap keeps_limits (λ i. record { version = four; claim = claim; exchanges = exchanges i; atoms = atoms i; values = s.values; dead_ends = s.dead_ends; tables = s.tables; landmarks = l; lines = lines_with marks (sets i) })
    ∙ keeps claim (exchanges_in space) (atoms_in known) s l marks states small c.requires.few are c.requires.lines c.requires.space.written c.requires.space.few

pub returns-clause-certificate : goal.returns-clause-certificate
returns-clause-certificate c =
    let s = evidence_of c.args.evidence in
    let atoms = c.in_ok-names.ensures ∙ ap (map atom_of) c.as_slice.ensures.keys ∙ c.atoms.ensures ∙ ap atoms_in c.ground-ground.ensures in
    let exchanges = c.in_ok-written_exchanges.ensures in
    let sets = c.in_ok-sets.ensures in
    c.from_parts.ensures.certificate
    ∙ (λ i. record {
      version = four;
      claim = claim_of c.args.claim;
      exchanges = exchanges i;
      atoms = atoms i;
      values = s.values;
      dead_ends = s.dead_ends;
      tables = s.tables;
      landmarks = landmarks_of c.args.lines.marked.landmarks;
      lines = lines_with (map listed_of c.args.lines.marked.marks.items) (sets i);
    })
