use Rattle.std.proofs.Common.{◌∙◌, ap, arith, map}
use Rattle.std.specs.List.{each_same}
use Rattle.task.specs.TaskParts.{atom_of}
use Rattle.formulas.proofs.States.{copied}
use Rattle.solver.proofs.LoopLemmas.{atoms_next}
use Rattle.solver.proofs.listing.copied.Goals as goal

pub loop-atom-init : goal.loop-atom-init
loop-atom-init c = ap (map atom_of) c.in_ok-copy.ensures.empty

pub loop-atom-preserved : goal.loop-atom-preserved
loop-atom-preserved c =
    let atom = c.atom-item.result in
    let copy = c.in_ok-clone.field-0 in
    let same = copied atom copy c.in_ok-clone.ensures.cases.0 (each_same atom.objects.items copy.objects.items c.in_ok-clone.ensures.cases.1) in
    atoms_next c.loop-atom.copy.keys c.insert.new.self.keys copy c.args.atoms.now c.loop-atom.atom-index atom c.requires (omega arith) c.loop-atom.invariant c.in_ok-insert.ensures.keys (same ∙ ap atom_of c.atom-item.is)
