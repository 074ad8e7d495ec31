use Rattle.std.proofs.Common.{◌≡◌, length, map, take}
use Rattle.task.specs.TaskParts as parts
use Rattle.typing.specs.Scope.{keys_in}
use Rattle.model.specs.Typing as typing
use Rattle.typing.proofs.chains.fill.Given as goal

abbrev pub invariant-loop-index : goal.invariant-loop-index
invariant-loop-index l = record {
  count : length l.types.entries ≡ length l.initial.types.entries;
  names : keys_in l.types.entries ≡ keys_in l.initial.types.entries;
  types : take l.index (map parts.type_entry_of l.types.entries) ≡ take l.index (typing.types_from (map parts.type_of l.parents) 0 (keys_in l.initial.types.entries));
}
