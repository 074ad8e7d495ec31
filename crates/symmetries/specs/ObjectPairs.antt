-- Pairs of objects, in the definitions' terms.
use Rattle.std.specs.Prelude.{ℕ, Bool, nat_lt, ◌&&◌, ◌==◌, List, [], ◌∷◌, length, map, if◌then◌else◌, Option, None, Some}
use Rattle.std.specs.List.{list_all}
use Rattle.std.specs.Option.{option_map}
use Rattle.task.specs.declared.atoms.ObjectId.{ObjectId}
use Rattle.task.specs.TaskParts.{object_of}
use Rattle.model.specs.Task.{Task}
use Rattle.symmetries_definitions.specs.Exchanges.{Exchange, are_different}

abbrev pub pair_of : ObjectId × ObjectId → ℕ × ℕ
pair_of pair = (object_of pair.0, object_of pair.1)

abbrev pub pairs_in : List (ObjectId × ObjectId) → Exchange
pairs_in pairs = map pair_of pairs

-- the table's entry for an object, or the object itself if there is none
abbrev pub image_in : List (ObjectId × ObjectId) → ℕ → ℕ
image_in [] o = o
image_in (entry ∷ rest) o = if object_of entry.0 == o then object_of entry.1 else image_in rest o

-- the numbers in pairs, if none is left over
abbrev pub two_by_two : List ℕ → Option Exchange
two_by_two [] = Some []
two_by_two (last ∷ []) = None
two_by_two (first ∷ second ∷ rest) = option_map (λ pairs. (first, second) ∷ pairs) (two_by_two rest)

abbrev pub is_object : Task → ℕ → Bool
is_object task o = nat_lt o (length task.objects)

-- The exchange of these objects, in pairs: it exists if they are different objects of the task, and none is left over.
abbrev pub exchange_among : Task → List ℕ → Option Exchange
exchange_among task objects = if list_all (is_object task) objects && are_different objects then two_by_two objects else None
