use Rattle.std.proofs.Common.{◌≡◌, ◌∙◌, Some, None, sym}
use Rattle.packed_state.specs.Packed.{bits_of}
use Rattle.landmarks.specs.CutIndex.{atoms_of, task_of}
use Rattle.guides.specs.Shown.{kept_at}
use Rattle.guides.proofs.ShownLemmas.{one_in, tested_at, value_of_none, value_of_one}
use Rattle.guides.proofs.on_demand.LandmarksOnDemand.value_at.Goals as goal

pub value-requires : goal.value-requires
value-requires c =
    let s = c.args.self.now in
    let v = c.in-Some.value.now in
    let at : kept_at s.values.items c.args.basis.0 ≡ Some v = rw c.in-Some.is at c.kept.ensures in
    let tested = tested_at (task_of s.index.now) (atoms_of s.index.now) s.values.items s.tested c.args.basis.0 v at in
    one_in (task_of s.index.now) (atoms_of s.index.now) v (bits_of c.args.state.now) tested c.requires

pub returns-in-Some-clause-value : goal.returns-in-Some-clause-value
returns-in-Some-clause-value c =
    let s = c.args.self.now in
    let v = c.in-Some.value.now in
    let at : kept_at s.values.items c.args.basis.0 ≡ Some v = rw c.in-Some.is at c.kept.ensures in
    c.value.ensures.value ∙ sym (value_of_one s.values.items c.args.basis.0 v (bits_of c.args.state.now) at)

pub returns-in-None-clause-value : goal.returns-in-None-clause-value
returns-in-None-clause-value c =
    let s = c.args.self.now in
    let at : kept_at s.values.items c.args.basis.0 ≡ None = rw c.in-None.is at c.kept.ensures in
    sym (value_of_none s.values.items c.args.basis.0 (bits_of c.args.state.now) at)
