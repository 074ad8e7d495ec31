use Rattle.std.proofs.Common.{◌≡◌, ℕ, List, [], get_or, length, Some}
use Rattle.std.specs.Prelude.{slice_get}
use Rattle.lower_bounds.specs.TableFunctions.{Table}
use Rattle.landmark_zones.specs.Landmarks.{landmarks_of}
use Rattle.landmarks.specs.declared.testing.Fairness.{Fairness}
use Rattle.landmarks.specs.Counters.{AreCounters}
use Rattle.landmarks.specs.CutIndex.{asked_in, atoms_of, count_in, task_of}
use Rattle.landmarks.specs.Fairness.{AreAsked, IsFairness, function_over}
use Rattle.landmarks.proofs.cut_index.CutIndex.fairness_of_all.Given as goal

-- what was found of each value so far
abbrev pub invariant-loop-number : goal.invariant-loop-number
invariant-loop-number l = record {
  counted : AreCounters (count_in l.self) l.counters;
  as_many : length l.found.items ≡ l.number;
  each : (beside : List Table) → AreAsked (task_of l.self) (atoms_of l.self) beside (asked_in l.self) → (k : ℕ) (f : Fairness) → slice_get l.found.items k ≡ Some f
      → IsFairness (task_of l.self) (atoms_of l.self) (function_over beside (landmarks_of l.landmarks).zones (get_or (landmarks_of l.landmarks).values k [])) f;
}
