use Rattle.std.proofs.Common.{◌∙◌, ap}
use Rattle.std.specs.List.{list_all}
use Rattle.task.specs.Task.{task_of}
use Rattle.grounding_instances.proofs.NumberLists.{kept-are}
use Rattle.model.specs.Meaning.{is_instance}
use Rattle.explain_certs.proofs.gap.Listing.gap_from.Goals as goal

pub first_gap-requires : goal.first_gap-requires
first_gap-requires c =
    let t = task_of c.args.self.now.cert.task.now in
    ap (list_all (is_instance t)) (c.instances.ensures ∙ c.in-Ok.ensures.numbering.instances) ∙ kept-are t
