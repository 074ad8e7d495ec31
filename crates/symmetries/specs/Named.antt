-- The objects that actions name, as a list and as a table.
use Rattle.std.specs.Prelude.{◌≡◌, ℕ, Bool, ◌==◌, List, [], ◌∷◌, ◌++◌, map}
use Rattle.std.specs.List.{list_any}
use Rattle.formulas.specs.Marks.{is_marked}
use Rattle.formulas.specs.Mentions.{Mention, asked, named}
use Rattle.task.specs.declared.atoms.ObjectId.{ObjectId}
use Rattle.task.specs.TaskParts.{object_of}
use Rattle.model.specs.Task.{Task}
use Rattle.symmetries_definitions.specs.NamedObjects.{named_in_actions}

abbrev pub is_among : List ℕ → ℕ → Bool
is_among numbers n = list_any (λ other. other == n) numbers

-- these objects are added to the list
abbrev pub AreAdded : List ℕ → (old new : List ObjectId) → Type 0
AreAdded numbers old new = map object_of new ≡ map object_of old ++ numbers

-- the table contains exactly the objects that actions name
abbrev pub AreNamedIn : Task → List Bool → Type 0
AreNamedIn task table = (o : ℕ) → is_marked table o ≡ is_among (named_in_actions task) o

-- the object that a mention names, if it names one
abbrev pub named_by : Mention → List ℕ
named_by (asked predicate) = []
named_by (named object) = object ∷ []
