use Rattle.std.proofs.Common.{◌≡◌, [], ◌∷◌, map, fold, drop, codes}
use Rattle.typing.specs.Walk.{found, found_by}
use Rattle.typing.specs.TypedLists.{placed_of}
use Rattle.typing.specs.Scope.{keys_in}
use Rattle.pddl_tree.specs.Tree as read
use Rattle.model.specs.Typing as typing
use Rattle.typing.proofs.domain.type_names.Given as goal

abbrev pub invariant-loop-one : goal.invariant-loop-one
invariant-loop-one l = record {
  names : fold typing.with_name (keys_in l.names.entries) (map (λ x. read.name_of x.placed.name) (drop l.one-index l.declared)) ≡ fold typing.with_name (codes "object" ∷ []) (map (λ x. read.name_of x.placed.name) l.declared);
  finds : found (found_by l.walk) (typing.refused 16 (typing.repeated_after (keys_in l.names.entries) (map placed_of (drop l.one-index l.declared))))
      ≡ found (found_by l.initial.walk) (typing.refused 16 (typing.repeated_after (codes "object" ∷ []) (map placed_of l.declared)));
}
