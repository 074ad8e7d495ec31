use Rattle.std.proofs.Common.{◌≡◌, ℕ, ◌<◌, ◌≤◌, false, [], length, Some}
use Rattle.std.specs.Prelude.{All, slice_get}
use Rattle.grounding.specs.Ground.{task_in, atoms_in}
use Rattle.model.specs.Task.{Instance}
use Rattle.model.specs.StaticallyFalse.{kept_instances}
use Rattle.lower_bounds.specs.TableFunctions.{is_among}
use Rattle.lower_bounds.specs.FairTables.{is_asked}
use Rattle.guides.proofs.asked.tested_instances.Given as goal

-- of the instances so far, those that may be applicable
abbrev pub invariant-loop-number : goal.invariant-loop-number
invariant-loop-number l = record {
  kept : All (λ number. number < length (kept_instances (task_in l.ground))) l.asked.items;
  asked : (number : ℕ) (i : Instance) → number < l.number → slice_get (kept_instances (task_in l.ground)) number ≡ Some i
      → is_among l.asked.items number ≡ is_asked (task_in l.ground) (atoms_in l.ground) [] i;
  later : (number : ℕ) → l.number ≤ number → is_among l.asked.items number ≡ false;
}
