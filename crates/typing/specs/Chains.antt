-- The types that a domain declares, in the model's terms.
use Rattle.std.specs.Prelude.{◌≡◌, ℕ, List, [], map}
use Rattle.std.specs.Global.{Vec}
use Rattle.task.specs.declared.atoms.TypeId.{TypeId}
use Rattle.typing.specs.Scope.{keys_in}
use Rattle.task.specs.TaskParts.{type_entry_of}
use Rattle.model.specs.Task as task
use Rattle.model.specs.Typing.{Declared, TypingFault, parents_in, types_from, cycle_faults_from}

-- the faults of cyclic chains, if the types have these names
abbrev pub cycles : List task.Name → List Declared → List TypingFault
cycles names xs = cycle_faults_from (parents_in names xs) 1 xs

-- no chain is cyclic, and these are the types
pub record AreTypes (names : List task.Name) (xs : List Declared) (entries : List (Vec ℕ × Vec TypeId)) : Type 0 where
  pub right : cycles names xs ≡ []
  pub names_are : keys_in entries ≡ names
  pub types : map type_entry_of entries ≡ types_from (parents_in names xs) 0 names
