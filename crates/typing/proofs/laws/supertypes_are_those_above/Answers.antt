use Rattle.typing.proofs.TypedTasks as proved
use Rattle.typing.proofs.laws.supertypes_are_those_above.Goals as goal

pub returns : goal.returns
returns c = proved.supertypes_are_those_above
