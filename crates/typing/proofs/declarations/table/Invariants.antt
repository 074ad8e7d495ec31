use Rattle.std.proofs.Common.{◌≡◌, [], ◌++◌, map, fold, drop}
use Rattle.typing.specs.Walk.{found, found_by}
use Rattle.task.specs.TaskParts as parts
use Rattle.typing.specs.Scope.{keys_in}
use Rattle.pddl_tree.specs.Tree as read
use Rattle.model.specs.Trees.{domain_file}
use Rattle.model.specs.Typing as typing
use Rattle.typing.proofs.declarations.table.Given as goal

abbrev pub invariant-loop-declaration : goal.invariant-loop-declaration
invariant-loop-declaration l = record {
  finds : found (found_by l.walk) (typing.refused 16 (typing.repeated_after (keys_in l.predicates.entries) (map (λ q. typing.placed domain_file (read.name_of q.name)) (drop l.declaration-index l.declarations))))
      ≡ found (found_by l.initial.walk) (typing.refused 16 (typing.repeated_after [] (map (λ q. typing.placed domain_file (read.name_of q.name)) l.declarations)));
  names : fold typing.with_name (keys_in l.predicates.entries) (map (λ q. read.name_of q.name) (drop l.declaration-index l.declarations))
      ≡ fold typing.with_name [] (map (λ q. read.name_of q.name) l.declarations);
  table : typing.repeated_after [] (map (λ q. typing.placed domain_file (read.name_of q.name)) l.declarations) ≡ []
      → (typing.repeated_after (keys_in l.predicates.entries) (map (λ q. typing.placed domain_file (read.name_of q.name)) (drop l.declaration-index l.declarations)) ≡ [])
      × (map parts.predicate_of l.predicates.entries ++ map (λ q. typing.predicate_in (keys_in l.types.by_name.entries) (read.predicate_of q)) (drop l.declaration-index l.declarations)
      ≡ map (λ q. typing.predicate_in (keys_in l.types.by_name.entries) (read.predicate_of q)) l.declarations);
}
