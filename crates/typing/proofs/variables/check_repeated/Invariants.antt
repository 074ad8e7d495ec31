use Rattle.std.proofs.Common.{◌≡◌, [], map, drop}
use Rattle.typing.specs.TypedLists.{placed_of}
use Rattle.typing.specs.Scope.{keys_in}
use Rattle.typing.specs.Walk.{found, found_by}
use Rattle.model.specs.Typing as typing
use Rattle.typing.proofs.variables.check_repeated.Given as goal

abbrev pub invariant-loop-one : goal.invariant-loop-one
invariant-loop-one l =
    found (found_by l.walk) (typing.refused 16 (typing.repeated_after (keys_in l.names.entries) (map placed_of (drop l.one-index l.declared))))
    ≡ found (found_by l.initial.walk) (typing.refused 16 (typing.repeated_after [] (map placed_of l.declared)))
