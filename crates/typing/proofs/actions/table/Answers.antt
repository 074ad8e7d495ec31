use Rattle.std.proofs.Common.{◌∙◌, map, ap, Bor}
use Rattle.typing.specs.Walk.{found, found_by}
use Rattle.task.specs.TaskParts as parts
use Rattle.pddl_tree.specs.Tree.{file_of}
use Rattle.typing.specs.declared.scope.Globals.{Globals}
use Rattle.typing.specs.QuantifiedNames.{quantified_names}
use Rattle.typing.specs.Scope.{known_outside}
use Rattle.pddl_tree.specs.Tree as read
use Rattle.model.specs.Trees.{domain_file}
use Rattle.model.specs.Typing as typing
use Rattle.typing.proofs.TableSteps as tables
use Rattle.typing.proofs.Found as finding
use Rattle.pddl_tree.specs.declared.tree.Action.{Action}
use Rattle.typing.proofs.actions.table.Goals as goal

pub loop-action-preserved : goal.loop-action-preserved
loop-action-preserved c =
    let xs = c.args.actions.now in let i = c.loop-action.action-index in let x = c.action-item.result in
    let known = known_outside c.args.resolver.now.globals.now in
    let placed_as = λ (a : Action). typing.placed domain_file (read.name_of a.name) in
    let made = λ (a : Action). typing.schema_in known (read.action_of a) in
    let names_in = λ (a : Action). quantified_names (read.action_of a).precondition in
    let same = ap (λ (b : Bor Globals). known_outside b.now) c.loop-action.invariant.globals in
    let shape = c.in_ok-schema.ensures.shape ∙ ap (λ k. parts.shape_of_schema (typing.schema_in k (read.action_of x))) same in
    record {
      globals = c.in_ok-schema.ensures.globals ∙ c.loop-action.invariant.globals;
      outside = c.in_ok-schema.ensures.variables;
      finds = finding.found_step (λ (a : Action). typing.schema_faults known (read.action_of a)) xs i x c.loop-action-test.true c.action-item.is
          (found_by c.loop-action.resolver.walk) (found_by c.schema.new.resolver.walk) _ (c.in_ok-schema.ensures.finds ∙ ap (λ k. found (found_by c.loop-action.resolver.walk) (typing.schema_faults k (read.action_of x))) same) c.loop-action.invariant.finds;
      table = λ once. tables.table_step placed_as made parts.schema_of xs i x c.loop-action-test.true c.action-item.is
          c.loop-action.schemas.entries c.put.new.table.entries c.in_ok-schema.schema (map made xs)
          (λ key is j. record { name = is j; parameters = (shape j).0; precondition = (shape j).1; effect = (shape j).2; increase = (shape j).3 })
          c.in_ok-put.ensures.names c.in_ok-put.ensures.added (c.loop-action.invariant.table once);
      names = λ once. tables.table_step placed_as names_in parts.precondition_names_of xs i x c.loop-action-test.true c.action-item.is
          c.loop-action.schemas.entries c.put.new.table.entries c.in_ok-schema.schema (map names_in xs) (λ key is. c.in_ok-schema.ensures.names)
          c.in_ok-put.ensures.names c.in_ok-put.ensures.added (c.loop-action.invariant.names once);
    }

pub schema-requires : goal.schema-requires
schema-requires c = record {
  file = ap (λ (b : Bor Globals). file_of b.now.file) c.loop-action.invariant.globals ∙ c.requires.file;
  outside = c.loop-action.invariant.outside;
}
