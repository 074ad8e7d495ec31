use Rattle.std.proofs.Common.{◌≡◌, Some}
use Rattle.landmarks.specs.CutIndex.{atoms_of, task_of}
use Rattle.guides.specs.Shown.{kept_at}
use Rattle.guides.proofs.ShownLemmas.{tested_at}
use Rattle.guides.proofs.on_demand.LandmarksOnDemand.landmarks.Goals as goal

pub returns-in-Some : goal.returns-in-Some
returns-in-Some c =
    let s = c.args.self.now in
    let v = c.in-Some.value.now in
    let at : kept_at s.values.items c.args.basis.0 ≡ Some v = rw c.in-Some.is at c.kept.ensures in
    (tested_at (task_of s.index.now) (atoms_of s.index.now) s.values.items s.tested c.args.basis.0 v at).one.one
