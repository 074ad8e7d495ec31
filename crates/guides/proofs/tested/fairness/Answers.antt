use Rattle.std.proofs.Common.{[], length, arith}
use Rattle.landmark_zones.specs.Landmarks.{landmarks_of}
use Rattle.landmarks.specs.CutIndex.{atoms_of, task_of}
use Rattle.landmarks.proofs.Kept.{kept-sorted}
use Rattle.guides.proofs.TestedLemmas.{first-found, one-found}
use Rattle.guides.proofs.tested.fairness.Goals as goal

pub fairness_of_all-requires-clause-sorted : goal.fairness_of_all-requires-clause-sorted
fairness_of_all-requires-clause-sorted c = (kept-sorted (length (atoms_of c.args.index.now)) (landmarks_of c.args.landmarks.now) c.requires.one.limits).0

pub fairness_of_all-requires-clause-few : goal.fairness_of_all-requires-clause-few
fairness_of_all-requires-clause-few c = (kept-sorted (length (atoms_of c.args.index.now)) (landmarks_of c.args.landmarks.now) c.requires.one.limits).1

pub index-requires : goal.index-requires
index-requires c =
    let found = c.in_ok-found.found in
    omega (arith, one-found (task_of c.args.index.now) (atoms_of c.args.index.now) (landmarks_of c.args.landmarks.now) found.items c.requires.one.one (c.in_ok-found.ensures [] c.requires.asked), found.ok.0)

pub returns : goal.returns
returns c =
    first-found (task_of c.args.index.now) (atoms_of c.args.index.now) (landmarks_of c.args.landmarks.now) c.in_ok-found.found.items c.index.result.now c.requires.one.one c.index.ensures
    (c.in_ok-found.ensures [] c.requires.asked)
