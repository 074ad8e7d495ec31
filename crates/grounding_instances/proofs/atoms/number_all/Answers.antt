use Rattle.std.proofs.Common.{[], ◌∷◌, ap, map}
use Rattle.faults.proofs.Results.{passed_on}
use Rattle.task.specs.declared.atoms.Atom.{Atom}
use Rattle.task.specs.TaskParts.{atom_of}
use Rattle.model.specs.NumberedAtoms.{with_atoms}
use Rattle.model.proofs.NumberingLemmas.{numbered-end}
use Rattle.grounding_instances.specs.Atoms.{ReportsAtoms}
use Rattle.grounding_instances.proofs.NumberLists.{item-reported, next-numbered, got-item, singles}
use Rattle.grounding_instances.proofs.atoms.number_all.Goals as goal

pub loop-atom-init : goal.loop-atom-init
loop-atom-init c = record { all = ap (with_atoms (map atom_of c.args.atoms.now.keys)) (singles atom_of c.args.list.now); few = c.requires }

pub returns-in_err-number-clause-reported : goal.returns-in_err-number-clause-reported
returns-in_err-number-clause-reported c =
    let now = map atom_of c.loop-atom.atoms.keys in
    let whole = with_atoms (map atom_of c.args.atoms.now.keys) (map atom_of c.args.list.now) in
    let e = c.in_err-number.field-0.0 in
    passed_on (ReportsAtoms whole) c.from_residual.result e c.from_residual.ensures.1
    (item-reported (λ (a : Atom). atom_of a ∷ []) c.args.list.now c.loop-atom.atom-index c.atom-item.result (got-item c.args.list.now c.loop-atom.atom-index c.atom-item.result c.loop-atom-test.true c.atom-item.is)
    now whole c.loop-atom.invariant.all e c.in_err-number.ensures.reported)

pub loop-atom-preserved : goal.loop-atom-preserved
loop-atom-preserved c =
    let f = λ (a : Atom). atom_of a ∷ [] in
    let now = map atom_of c.loop-atom.atoms.keys in
    let whole = with_atoms (map atom_of c.args.atoms.now.keys) (map atom_of c.args.list.now) in
    let got = got-item c.args.list.now c.loop-atom.atom-index c.atom-item.result c.loop-atom-test.true c.atom-item.is in
    record {
      all = next-numbered f c.args.list.now c.loop-atom.atom-index c.atom-item.result got now whole c.loop-atom.invariant.all (map atom_of c.number.new.atoms.keys) c.in_ok-number.ensures.numbered;
      few = c.in_ok-number.ensures.few;
    }

pub returns-clause-numbered : goal.returns-clause-numbered
returns-clause-numbered c =
    numbered-end (λ (a : Atom). atom_of a ∷ []) c.args.list.now c.loop-atom.atom-index (map atom_of c.loop-atom.atoms.keys) _ c.loop-atom-test.false c.loop-atom.invariant.all
