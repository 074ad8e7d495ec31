use Rattle.std.proofs.Common.{◌∙◌, ◌++◌, ap, codes, map}
use Rattle.std.specs.List.{flat_map}
use Rattle.task.specs.Task.{task_of}
use Rattle.task.specs.TaskParts.{atom_of, object_of}
use Rattle.model.specs.PlanWriting.{object_text}
use Rattle.certificate_reader.specs.Lines.{version_of}
use Rattle.certificate_definitions.specs.CertificateNames.{predicate_name}
use Rattle.certificate_definitions.specs.CertificateText.{weights_text}
use Rattle.certificate.specs.Evidence.{evidence_of, weights_at}
use Rattle.certificate.proofs.LineTextLemmas.{where_added, atom_text}
use Rattle.certificate.proofs.line_text.add_atom.Goals as goal

pub returns : goal.returns
returns c =
    let task = task_of c.args.task.now in
    let weights = weights_at (version_of c.args.version) (evidence_of c.args.evidence.now) c.args.place in
    let names = flat_map (object_text task) (map object_of c.args.atom.now.objects.items) in
    let name = predicate_name task c.args.atom.now.predicate.0 in
    let objects = ap (λ os. flat_map (object_text task) (map object_of os)) c.as_slice.ensures.value in
    where_added c.extend_from_slice-4.result _ _ (codes ")\n") _ c.extend_from_slice-4.ensures.items
    (ap (λ xs. xs ++ codes ")\n")
    (c.in_ok-add_names.ensures ∙ ap (λ xs. c.extend_from_slice-3.new.self.items ++ xs) objects
    ∙ ap (λ xs. xs ++ names) (c.in_ok-extend_from_slice-3.ensures.items ∙ ap (λ xs. c.extend_from_slice-2.new.self.items ++ xs) c.name_of_predicate.ensures
    ∙ ap (λ xs. xs ++ name) (c.in_ok-extend_from_slice-2.ensures.items ∙ ap (λ xs. xs ++ codes " (") (c.in_ok-add_weights_at.ensures
    ∙ ap (λ xs. xs ++ weights_text weights) c.in_ok-extend_from_slice.ensures.items))))
    ∙ atom_text task (atom_of c.args.atom.now) weights c.args.text.now.items)
