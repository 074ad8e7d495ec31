-- The names in a table, in the model's terms.
use Rattle.std.specs.Prelude.{ℕ, List, map}
use Rattle.std.specs.Global.{Vec}
use Rattle.std.specs.Map.{keys_of}
use Rattle.model.specs.Task as task

-- the names in a table
abbrev pub names_in : List (Vec ℕ) → List task.Name
names_in keys = map (λ name. name.items) keys

-- the keys of a table
abbrev pub keys_in : {V : Type 0} → List (Vec ℕ × V) → List task.Name
keys_in entries = names_in (keys_of entries)
