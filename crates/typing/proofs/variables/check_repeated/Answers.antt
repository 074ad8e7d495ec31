use Rattle.std.proofs.Common.{◌∙◌, [], ap, sym, map}
use Rattle.std.proofs.lemmas.List.{drop_all}
use Rattle.typing.specs.Walk.{found, found_by}
use Rattle.typing.specs.TypedLists.{declared_of, placed_of}
use Rattle.typing.specs.Scope.{keys_in}
use Rattle.model.specs.Typing as typing
use Rattle.typing.proofs.Found as finding
use Rattle.typing.proofs.variables.check_repeated.Goals as goal

pub loop-one-preserved : goal.loop-one-preserved
loop-one-preserved c =
    finding.found_declared_at placed_of c.args.declared.now c.loop-one.one-index _ c.loop-one-test.true (keys_in c.loop-one.names.entries) (keys_in c.declare.new.table.entries)
    (found_by c.loop-one.walk) (found_by c.declare.new.walk) _ c.in_ok-declare.ensures.names c.in_ok-declare.ensures.finds c.loop-one.invariant

pub returns : goal.returns
returns c =
    let xs = c.args.declared.now in
    sym (ap (λ ys. found (found_by c.loop-one.walk) (typing.refused 16 (typing.repeated_after (keys_in c.loop-one.names.entries) (map placed_of ys)))) (drop_all c.loop-one.one-index xs c.loop-one-test.false))
    ∙ c.loop-one.invariant
    ∙ ap (λ ws. found (found_by c.args.walk.now) (typing.refused 16 (typing.repeated_after [] ws))) (sym (finding.map-map (λ (y : typing.Declared). typing.placed y.file y.name) declared_of xs))
