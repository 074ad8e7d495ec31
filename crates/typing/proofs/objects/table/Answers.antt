use Rattle.std.proofs.Common.{◌∙◌, [], map, ap, sym}
use Rattle.typing.specs.Walk.{found, found_by}
use Rattle.task.specs.TaskParts as parts
use Rattle.typing.specs.TypedLists.{declared_of, placed_of}
use Rattle.typing.specs.Scope.{keys_in}
use Rattle.model.specs.Typing as typing
use Rattle.std.proofs.lemmas.List.{drop_all}
use Rattle.typing.specs.declared.typed_lists.Declared.{Declared}
use Rattle.typing.proofs.TableSteps as tables
use Rattle.typing.proofs.Found as finding
use Rattle.typing.proofs.objects.table.Goals as goal

pub loop-one-preserved : goal.loop-one-preserved
loop-one-preserved c =
    let xs = c.args.declared.now in let i = c.loop-one.one-index in
    let made = λ (y : Declared). typing.object_in (keys_in c.args.types.now.by_name.entries) (declared_of y) in
    let before = c.loop-one.objects.entries in
    let after = c.declare.new.table.entries in
    record {
      finds = finding.found_declared_at placed_of xs i _ c.loop-one-test.true (keys_in before) (keys_in after)
          (found_by c.loop-one.walk) (found_by c.declare.new.walk) _ c.in_ok-declare.ensures.names c.in_ok-declare.ensures.finds c.loop-one.invariant.finds;
      table = λ once. tables.table_step_at placed_of made parts.object_entry_of xs i _ c.loop-one-test.true
          before after c.in_ok-of_type.of_type (map made xs) (λ key is j. record { name = is j; type = c.in_ok-of_type.ensures j })
          c.in_ok-declare.ensures.names c.in_ok-declare.ensures.added (c.loop-one.invariant.table once);
    }

pub returns-clause-table : goal.returns-clause-table
returns-clause-table c = λ once.
    let xs = c.args.declared.now in
    let make = typing.object_in (keys_in c.args.types.now.by_name.entries) in
    tables.table_end (λ (y : Declared). make (declared_of y)) xs c.loop-one.one-index c.loop-one-test.false _ _
    (c.loop-one.invariant.table (ap (typing.repeated_after []) (sym (finding.map-map (λ (y : typing.Declared). typing.placed y.file y.name) declared_of xs)) ∙ once)).1
    ∙ sym (finding.map-map make declared_of xs)

pub returns-clause-finds : goal.returns-clause-finds
returns-clause-finds c =
    let xs = c.args.declared.now in
    sym (ap (λ ys. found (found_by c.loop-one.walk) (typing.refused 16 (typing.repeated_after (keys_in c.loop-one.objects.entries) (map placed_of ys)))) (drop_all c.loop-one.one-index xs c.loop-one-test.false))
    ∙ c.loop-one.invariant.finds
    ∙ ap (λ ws. found (found_by c.args.walk.now) (typing.refused 16 (typing.repeated_after [] ws))) (sym (finding.map-map (λ (y : typing.Declared). typing.placed y.file y.name) declared_of xs))
