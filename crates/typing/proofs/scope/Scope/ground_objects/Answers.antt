use Rattle.std.proofs.Common.{◌∙◌, map, take, ap, arith}
use Rattle.std.proofs.lemmas.List.{take_all}
use Rattle.pddl_tree.specs.Tree.{file_of}
use Rattle.typing.specs.Scope.{arguments_at, known_of}
use Rattle.typing.specs.Walk.{found_by}
use Rattle.task.specs.TaskParts as parts
use Rattle.pddl_tree.specs.Tree as read
use Rattle.model.specs.Trees as tree
use Rattle.model.specs.Typing as typing
use Rattle.pddl_tree.specs.declared.terms.Name.{Name}
use Rattle.typing.proofs.Lists as lists
use Rattle.typing.proofs.Arguments.{argument_step, argument_end}
use Rattle.typing.proofs.scope.Scope.ground_objects.Goals.{then-len-lt-MAX_ARGUMENTS, else-len-lt-MAX_ARGUMENTS}
use Rattle.typing.proofs.scope.Scope.ground_objects.Goals as goal

pub loop-index-preserved : goal.loop-index-preserved
loop-index-preserved c =
    let known = known_of c.args.self.now in let xs = c.args.given.now in let i = c.loop-index.index in
    let number = λ (n : Name). typing.number_in (typing.names_of_objects known.objects) (read.name_of n) in
    record {
      objects = elim c.if-len-lt-MAX_ARGUMENTS.branch [
        | then-len-lt-MAX_ARGUMENTS w ↦ ap (λ v. map parts.object_of v.items) w.objects-is ∙ ap (map parts.object_of) w.push.ensures.items
            ∙ lists.kept_push number parts.object_of 8 xs i _ c.loop-index-test.true c.loop-index.objects.items c.in_ok-object.object c.in_ok-object.ensures.value c.loop-index.invariant.objects (omega (arith, w.if-len-lt-MAX_ARGUMENTS.true, c.len.ensures.value))
        | else-len-lt-MAX_ARGUMENTS w ↦ ap (λ v. map parts.object_of v.items) w.objects-is
            ∙ lists.kept_full number parts.object_of 8 xs i c.loop-index-test.true c.loop-index.objects.items c.loop-index.invariant.objects (omega (arith, w.if-len-lt-MAX_ARGUMENTS.false, c.len.ensures.value))
      ];
      finds = argument_step (file_of c.args.self.now.globals.now.file) known (arguments_at known c.args.predicate.0) (λ (n : Name). tree.object (read.name_of n)) xs i _ c.loop-index-test.true
          _ c.required_types-required_types.ensures (found_by c.loop-index.walk) _ _ c.in_ok-object.ensures.finds c.loop-index.invariant.finds;
    }

pub returns-clause-value : goal.returns-clause-value
returns-clause-value c =
    let number = λ (n : Name). typing.number_in (typing.names_of_objects (known_of c.args.self.now).objects) (read.name_of n) in
    c.loop-index.invariant.objects ∙ ap (λ ns. take 8 (map number ns)) (take_all c.loop-index.index c.args.given.now c.loop-index-test.false)

pub returns-clause-finds : goal.returns-clause-finds
returns-clause-finds c =
    let known = known_of c.args.self.now in
    argument_end (file_of c.args.self.now.globals.now.file) known (arguments_at known c.args.predicate.0) (λ (n : Name). tree.object (read.name_of n)) c.args.given.now c.loop-index.index c.loop-index-test.false (found_by c.loop-index.walk) _ c.loop-index.invariant.finds
