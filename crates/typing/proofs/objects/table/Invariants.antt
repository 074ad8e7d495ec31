use Rattle.std.proofs.Common.{◌≡◌, [], ◌++◌, map, drop}
use Rattle.typing.specs.Walk.{found, found_by}
use Rattle.task.specs.TaskParts as parts
use Rattle.typing.specs.TypedLists.{declared_of, placed_of}
use Rattle.typing.specs.Scope.{keys_in}
use Rattle.model.specs.Typing as typing
use Rattle.typing.proofs.objects.table.Given as goal

abbrev pub invariant-loop-one : goal.invariant-loop-one
invariant-loop-one l = record {
  finds : found (found_by l.walk) (typing.refused 16 (typing.repeated_after (keys_in l.objects.entries) (map placed_of (drop l.one-index l.declared))))
      ≡ found (found_by l.initial.walk) (typing.refused 16 (typing.repeated_after [] (map placed_of l.declared)));
  table : typing.repeated_after [] (map placed_of l.declared) ≡ []
      → (typing.repeated_after (keys_in l.objects.entries) (map placed_of (drop l.one-index l.declared)) ≡ [])
      × (map parts.object_entry_of l.objects.entries ++ map (λ x. typing.object_in (keys_in l.types.by_name.entries) (declared_of x)) (drop l.one-index l.declared)
      ≡ map (λ x. typing.object_in (keys_in l.types.by_name.entries) (declared_of x)) l.declared);
}
