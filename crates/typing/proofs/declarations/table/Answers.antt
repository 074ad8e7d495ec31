use Rattle.std.proofs.Common.{map}
use Rattle.typing.specs.Walk.{found_by}
use Rattle.task.specs.TaskParts as parts
use Rattle.typing.specs.Scope.{keys_in}
use Rattle.pddl_tree.specs.Tree as read
use Rattle.model.specs.Trees.{domain_file}
use Rattle.model.specs.Typing as typing
use Rattle.typing.proofs.TableSteps as tables
use Rattle.typing.proofs.Found as finding
use Rattle.pddl_tree.specs.declared.tree.Predicate.{Predicate}
use Rattle.typing.proofs.declarations.table.Goals as goal

pub loop-declaration-preserved : goal.loop-declaration-preserved
loop-declaration-preserved c =
    let xs = c.args.declarations.now in let i = c.loop-declaration.declaration-index in let x = c.declaration-item.result in
    let placed_as = λ (q : Predicate). typing.placed domain_file (read.name_of q.name) in
    let made = λ (q : Predicate). typing.predicate_in (keys_in c.args.types.now.by_name.entries) (read.predicate_of q) in
    let before = c.loop-declaration.predicates.entries in
    let after = c.declare.new.table.entries in
    record {
      finds = finding.found_declared placed_as xs i x c.loop-declaration-test.true c.declaration-item.is (keys_in before) (keys_in after)
          (found_by c.loop-declaration.walk) (found_by c.declare.new.walk) _ c.in_ok-declare.ensures.names c.in_ok-declare.ensures.finds c.loop-declaration.invariant.finds;
      names = tables.names_step (λ (q : Predicate). read.name_of q.name) xs i x c.loop-declaration-test.true c.declaration-item.is (keys_in before) (keys_in after) _
          c.in_ok-declare.ensures.names c.loop-declaration.invariant.names;
      table = λ once. tables.table_step placed_as made parts.predicate_of xs i x c.loop-declaration-test.true c.declaration-item.is
          before after (record { arguments = c.in_ok-arguments.arguments }) (map made xs) (λ key is j. record { name = is j; arguments = c.in_ok-arguments.ensures j })
          c.in_ok-declare.ensures.names c.in_ok-declare.ensures.added (c.loop-declaration.invariant.table once);
    }

pub returns-clause-names : goal.returns-clause-names
returns-clause-names c =
    tables.names_end (λ (q : Predicate). read.name_of q.name) c.args.declarations.now c.loop-declaration.declaration-index c.loop-declaration-test.false
    (keys_in c.loop-declaration.predicates.entries) _ c.loop-declaration.invariant.names
