use Rattle.std.proofs.Common.{◌∙◌, ap}
use Rattle.std.specs.FinSet.{insert}
use Rattle.std.specs.List.{each_same}
use Rattle.task.specs.TaskParts.{atom_of}
use Rattle.formulas.specs.State.{state_of}
use Rattle.formulas.proofs.States.{copied}
use Rattle.explain_tasks.proofs.AddedLemmas.{gains_one}
use Rattle.explain_tasks.proofs.added.insert_copy.Goals as goal

pub returns : goal.returns
returns c =
    let a = c.args.atom.now in
    let copy = c.in_ok-clone.field-0 in
    let same = copied a copy c.in_ok-clone.ensures.cases.0 (each_same a.objects.items copy.objects.items c.in_ok-clone.ensures.cases.1) in
    let old = state_of c.args.atoms.now in
    gains_one old (state_of c.insert.new.self) (atom_of a) (c.in_ok-insert.ensures.ok ∙ ap (insert old) same)
