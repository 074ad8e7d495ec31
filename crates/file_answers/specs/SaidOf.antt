-- Progress reports while the task of two texts is solved, or a certificate for it is checked.
use Rattle.std.specs.Prelude.{ℕ, List, Option}
use Rattle.cert_checker.specs.CheckProgress.{IsCheckLine}
use Rattle.model.specs.Task.{Task}
use Rattle.model.specs.Files.{IsTaskOf}
use Rattle.solver.specs.Said.{IsTrueLine}

-- the texts are a task, and the line is true of it, within these limits
abbrev pub IsTrueLineOf : (domain problem : List ℕ) → (seconds : Option ℕ) → (states instances : ℕ) → List ℕ → Type 0
IsTrueLineOf domain problem seconds states instances line = (task : Task) × IsTaskOf domain problem task × IsTrueLine task seconds states instances line

-- the same for a certificate whose text is known to this extent
abbrev pub IsCheckLineOf : (domain problem : List ℕ) → (known : Option (List ℕ)) → List ℕ → Type 0
IsCheckLineOf domain problem known line = (task : Task) × IsTaskOf domain problem task × IsCheckLine task known line
