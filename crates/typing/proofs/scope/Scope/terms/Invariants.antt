use Rattle.std.proofs.Common.{◌≡◌, map, take, drop}
use Rattle.pddl_tree.specs.Tree.{file_of}
use Rattle.typing.specs.Scope.{arguments_at, known_of}
use Rattle.typing.specs.Walk.{found, found_by}
use Rattle.task.specs.TaskParts as parts
use Rattle.pddl_tree.specs.Tree as read
use Rattle.model.specs.Typing as typing
use Rattle.typing.proofs.scope.Scope.terms.Given as goal

abbrev pub invariant-loop-index : goal.invariant-loop-index
invariant-loop-index l = record {
  terms : map parts.term_of l.terms.items ≡ map (λ t. typing.term_in (known_of l.self) (read.term_of t)) (take l.index l.given);
  finds : found (found_by l.walk) (typing.terms_faults (file_of l.self.globals.now.file) (known_of l.self) (drop l.index (arguments_at (known_of l.self) l.predicate.0)) (map read.term_of (drop l.index l.given)))
      ≡ found (found_by l.initial.walk) (typing.terms_faults (file_of l.self.globals.now.file) (known_of l.self) (arguments_at (known_of l.self) l.predicate.0) (map read.term_of l.given));
}
