use Rattle.std.proofs.Common.{◌≡◌, ◌∙◌, Some, ap, sym}
use Rattle.std.specs.Prelude.{slice_get}
use Rattle.std.specs.List.{each_same}
use Rattle.std.proofs.lemmas.Result.{on_ok_weaker}
use Rattle.task.specs.TaskParts.{atom_of}
use Rattle.formulas.specs.State.{state_of}
use Rattle.formulas.proofs.States.{copied}
use Rattle.grounding.specs.Ground.{atoms_in}
use Rattle.explain_goals.proofs.MutexLemmas.{added-atom}
use Rattle.explain_goals.proofs.mutex_groups.add_atom.Goals as goal

pub returns-in_ok-clone-in-Some : goal.returns-in_ok-clone-in-Some
returns-in_ok-clone-in-Some c =
    let atoms = atoms_in c.args.ground.now in
    let a = c.in-Some.atom.now in
    let copy = c.in_ok-clone-in-Some.field-0 in
    let same = copied a copy c.in_ok-clone-in-Some.ensures.cases.0 (each_same a.objects.items copy.objects.items c.in_ok-clone-in-Some.ensures.cases.1) in
    let named : slice_get atoms c.args.number ≡ Some (atom_of copy) = sym c.in-Some.ensures ∙ ap Some (sym same) in
    on_ok_weaker c.insert.result (λ is. added-atom atoms c.args.number (atom_of copy) (state_of c.args.group.now) (state_of c.insert.new.self) named is) c.insert.ensures.ok
