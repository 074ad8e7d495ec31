-- Tests of exchanges, in the model's terms.
use Rattle.task.specs.Task.{task_of}
use Rattle.symmetries.specs.declared.symmetry_test.SymmetryTest.{SymmetryTest}
use Rattle.model.specs.Task.{Task}

abbrev pub task_tested : SymmetryTest → Task
task_tested t = task_of t.task.now
