use Rattle.std.proofs.Common.{◌≡◌, ◌∙◌, Some, None, sym}
use Rattle.packed_state.specs.Packed.{bits_of}
use Rattle.landmarks.specs.CutIndex.{atoms_of, task_of}
use Rattle.guides.specs.Shown.{kept_at}
use Rattle.guides.proofs.ShownLemmas.{dead_of_none, dead_of_one, one_in, tested_at}
use Rattle.guides.proofs.on_demand.LandmarksOnDemand.shows_dead_end.Goals as goal

pub shows_dead_end-requires : goal.shows_dead_end-requires
shows_dead_end-requires c =
    let s = c.args.self.now in
    let v = c.in-Some.value.now in
    let at : kept_at s.values.items c.args.basis.0 ≡ Some v = rw c.in-Some.is at c.kept.ensures in
    let tested = tested_at (task_of s.index.now) (atoms_of s.index.now) s.values.items s.tested c.args.basis.0 v at in
    one_in (task_of s.index.now) (atoms_of s.index.now) v (bits_of c.args.state.now) tested c.requires

pub returns-in-Some : goal.returns-in-Some
returns-in-Some c =
    let s = c.args.self.now in
    let v = c.in-Some.value.now in
    let at : kept_at s.values.items c.args.basis.0 ≡ Some v = rw c.in-Some.is at c.kept.ensures in
    c.shows_dead_end.ensures ∙ sym (dead_of_one s.values.items c.args.basis.0 v (bits_of c.args.state.now) at)

pub returns-in-None : goal.returns-in-None
returns-in-None c =
    let s = c.args.self.now in
    let at : kept_at s.values.items c.args.basis.0 ≡ None = rw c.in-None.is at c.kept.ensures in
    sym (dead_of_none s.values.items c.args.basis.0 (bits_of c.args.state.now) at)
