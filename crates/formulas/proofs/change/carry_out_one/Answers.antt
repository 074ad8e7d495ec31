use Rattle.std.proofs.Common.{◌∙◌, ap, sym, ◌∷◌, []}
use Rattle.std.specs.List.{each_same}
use Rattle.std.specs.FinSet.{insert}
use Rattle.task.specs.TaskParts.{atom_of}
use Rattle.formulas.specs.State.{state_of}
use Rattle.formulas.specs.Changes.{after_pass}
use Rattle.formulas.specs.Effects.{ground_literal_of}
use Rattle.model.proofs.Atoms.{difference-none, difference-one, union-none, union-one}
use Rattle.formulas.proofs.States.{copied}
use Rattle.formulas.proofs.change.carry_out_one.Goals as goal

pub returns-in-Deletes-Deletes : goal.returns-in-Deletes-Deletes
returns-in-Deletes-Deletes c =
    let s = state_of c.args.next.now in
    c.remove.ensures
    ∙ sym ((λ i. after_pass (c.in-Deletes-Deletes.is-0 i) s (ground_literal_of (c.in-Deletes-Deletes.is-1 i) ∷ [])) ∙ difference-one s (atom_of c.in-Deletes-Deletes.atom))

pub returns-in-Deletes-Adds : goal.returns-in-Deletes-Adds
returns-in-Deletes-Adds c =
    let s = state_of c.args.next.now in
    sym ((λ i. after_pass (c.in-Deletes-Adds.is-0 i) s (ground_literal_of (c.in-Deletes-Adds.is-1 i) ∷ [])) ∙ difference-none s)

pub returns-in_ok-insert-in-Adds-Adds : goal.returns-in_ok-insert-in-Adds-Adds
returns-in_ok-insert-in-Adds-Adds c =
    let s = state_of c.args.next.now in
    let atom = c.in-Adds-Adds.atom in
    let copy = c.in_ok-clone-in-Adds-Adds.field-0 in
    let same = copied atom copy c.in_ok-clone-in-Adds-Adds.ensures.cases.0 (each_same atom.objects.items copy.objects.items c.in_ok-clone-in-Adds-Adds.ensures.cases.1) in
    c.in_ok-insert-in-Adds-Adds.ensures.ok ∙ ap (insert s) same
    ∙ sym ((λ i. after_pass (c.in-Adds-Adds.is-0 i) s (ground_literal_of (c.in-Adds-Adds.is-1 i) ∷ [])) ∙ union-one s (atom_of atom))

pub returns-in-Adds-Deletes : goal.returns-in-Adds-Deletes
returns-in-Adds-Deletes c =
    let s = state_of c.args.next.now in
    sym ((λ i. after_pass (c.in-Adds-Deletes.is-0 i) s (ground_literal_of (c.in-Adds-Deletes.is-1 i) ∷ [])) ∙ union-none s)
