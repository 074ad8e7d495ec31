use Rattle.std.proofs.Common.{◌∙◌, ◌∷◌, [], ap, sym, map, fold, drop, codes, ◌+◌}
use Rattle.std.proofs.lemmas.List.{drop_more, drop_all}
use Rattle.typing.specs.Walk.{found, found_by}
use Rattle.typing.specs.TypedLists.{declared_of, placed_of}
use Rattle.typing.specs.Scope.{keys_in}
use Rattle.pddl_tree.specs.Tree as read
use Rattle.model.specs.Typing as typing
use Rattle.typing.specs.declared.typed_lists.Declared.{Declared}
use Rattle.typing.proofs.Found as finding
use Rattle.typing.proofs.domain.type_names.Goals as goal

pub loop-one-preserved : goal.loop-one-preserved
loop-one-preserved c =
    let xs = c.args.declared.now in let i = c.loop-one.one-index in
    let named = λ (y : Declared). read.name_of y.placed.name in
    record {
      names = ap (λ ks. fold typing.with_name ks (map named (drop (i + 1) xs))) c.in_ok-declare.ensures.names
          ∙ ap (λ ys. fold typing.with_name (keys_in c.loop-one.names.entries) (map named ys)) (sym (drop_more xs i _ c.loop-one-test.true))
          ∙ c.loop-one.invariant.names;
      finds = finding.found_declared_at placed_of xs i _ c.loop-one-test.true (keys_in c.loop-one.names.entries) (keys_in c.declare.new.table.entries)
          (found_by c.loop-one.walk) (found_by c.declare.new.walk) _ c.in_ok-declare.ensures.names c.in_ok-declare.ensures.finds c.loop-one.invariant.finds;
    }

pub returns-clause-names : goal.returns-clause-names
returns-clause-names c =
    let xs = c.args.declared.now in let named = λ (y : Declared). read.name_of y.placed.name in
    sym (ap (λ ys. fold typing.with_name (keys_in c.loop-one.names.entries) (map named ys)) (drop_all c.loop-one.one-index xs c.loop-one-test.false))
    ∙ c.loop-one.invariant.names ∙ ap (fold typing.with_name (codes "object" ∷ [])) (sym (finding.map-map (λ (y : typing.Declared). y.name) declared_of xs))

pub returns-clause-finds : goal.returns-clause-finds
returns-clause-finds c =
    let xs = c.args.declared.now in
    sym (ap (λ ys. found (found_by c.loop-one.walk) (typing.refused 16 (typing.repeated_after (keys_in c.loop-one.names.entries) (map placed_of ys)))) (drop_all c.loop-one.one-index xs c.loop-one-test.false))
    ∙ c.loop-one.invariant.finds
    ∙ ap (λ ws. found (found_by c.args.walk.now) (typing.refused 16 (typing.repeated_after (codes "object" ∷ []) ws))) (sym (finding.map-map (λ (y : typing.Declared). typing.placed y.file y.name) declared_of xs))
