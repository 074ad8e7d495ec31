use Rattle.std.proofs.Common.{◌∙◌, [], ◌∷◌, ◌++◌, map, ap, sym}
use Rattle.std.proofs.lemmas.List.{map_push, map_more}
use Rattle.pddl_tree.specs.Tree.{file_of}
use Rattle.typing.specs.Scope.{arguments_at, known_of}
use Rattle.typing.specs.Walk.{found_by}
use Rattle.task.specs.TaskParts as parts
use Rattle.pddl_tree.specs.Tree as read
use Rattle.model.specs.Typing as typing
use Rattle.pddl_tree.specs.declared.terms.Term.{Term}
use Rattle.typing.proofs.Arguments.{argument_step, argument_end}
use Rattle.typing.proofs.scope.Scope.terms.Goals as goal

pub loop-index-preserved : goal.loop-index-preserved
loop-index-preserved c =
    let known = known_of c.args.self.now in let xs = c.args.given.now in let i = c.loop-index.index in
    record {
      terms = ap (map parts.term_of) c.in_ok-push.ensures.items ∙ map_push parts.term_of c.loop-index.terms.items _
          ∙ (λ j. c.loop-index.invariant.terms j ++ c.in_ok-argument.ensures.value j ∷ []) ∙ sym (map_more (λ (t : Term). typing.term_in known (read.term_of t)) xs i _ c.loop-index-test.true);
      finds = argument_step (file_of c.args.self.now.globals.now.file) known (arguments_at known c.args.predicate.0) read.term_of xs i _ c.loop-index-test.true
          _ c.required_types-required_types.ensures (found_by c.loop-index.walk) _ _ c.in_ok-argument.ensures.finds c.loop-index.invariant.finds;
    }

pub returns-clause-finds : goal.returns-clause-finds
returns-clause-finds c =
    let known = known_of c.args.self.now in
    argument_end (file_of c.args.self.now.globals.now.file) known (arguments_at known c.args.predicate.0) read.term_of c.args.given.now c.loop-index.index c.loop-index-test.false (found_by c.loop-index.walk) _ c.loop-index.invariant.finds
