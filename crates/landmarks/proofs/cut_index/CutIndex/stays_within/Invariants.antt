use Rattle.std.proofs.Common.{◌≡◌, ◌≤◌, ◌+◌, take}
use Rattle.landmark_zones.specs.Landmarks.{landmarks_of}
use Rattle.landmarks.specs.Counters.{AreCounters}
use Rattle.landmarks.specs.CutIndex.{allowed_at, asked_in, atoms_of, count_in, task_of, total_at, AreStanding}
use Rattle.landmarks.proofs.cut_index.CutIndex.stays_within.Given as goal

-- the shares so far have been charged
abbrev pub invariant-loop-share : goal.invariant-loop-share
invariant-loop-share l = record {
  counted : AreCounters (count_in l.self) l.counters;
  early : l.counters.start ≤ 2147483648;
  clock : l.counters.clock ≡ l.counters.start + l.share-index;
  standing : AreStanding (asked_in l.self) (allowed_at (task_of l.self) (atoms_of l.self) l.allowance) (total_at (task_of l.self) (atoms_of l.self) (landmarks_of l.landmarks).zones (take l.share-index l.shares)) l.counters;
}
