use Rattle.std.proofs.Common.{◌∙◌, ◌++◌, ◌∷◌, [], ap, map}
use Rattle.std.specs.List.{each_same}
use Rattle.std.proofs.lemmas.List.{map_push}
use Rattle.task.specs.TaskParts.{atom_of}
use Rattle.formulas.proofs.States.{copied}
use Rattle.explain_goals.proofs.relaxation.push_copy.Goals as goal

pub returns : goal.returns
returns c =
    let a = c.args.atom.now in
    let copy = c.in_ok-clone.field-0 in
    let same = copied a copy c.in_ok-clone.ensures.cases.0 (each_same a.objects.items copy.objects.items c.in_ok-clone.ensures.cases.1) in
    ap (map atom_of) c.in_ok-push.ensures.items ∙ map_push atom_of c.args.found.now.items copy ∙ ap (λ b. map atom_of c.args.found.now.items ++ b ∷ []) same
