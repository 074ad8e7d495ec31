-- Types of which there is no object.
use Rattle.std.specs.Prelude.{Bool, true, false, ℕ, List, [], ◌∷◌}
use Rattle.model.specs.Task.{Task, Union}
use Rattle.model.specs.Meaning.{objects_of}

abbrev pub is_none : List ℕ → Bool
is_none [] = true
is_none (first ∷ rest) = false

-- no object is of one of these types
abbrev pub is_uninhabited : Task → Union → Bool
is_uninhabited t types = is_none (objects_of t types)
