use Rattle.std.proofs.Common.{◌∙◌, ◌+◌, [], refl, ap, sym, map, fold, drop}
use Rattle.std.proofs.lemmas.List.{drop_more, drop_all, append-nil}
use Rattle.typing.specs.TypedLists.{declared_of}
use Rattle.typing.specs.Scope.{keys_in, variable_entry_of}
use Rattle.typing.specs.declared.typed_lists.Declared.{Declared}
use Rattle.model.specs.Typing as typing
use Rattle.typing.proofs.Found.{map-map}
use Rattle.typing.proofs.Declared.{begins_further}
use Rattle.typing.proofs.variables.add_variables.Goals as goal

pub loop-one-init : goal.loop-one-init
loop-one-init c = record { variables = refl; kept = ([], sym (append-nil _)); found = refl }

pub loop-one-preserved : goal.loop-one-preserved
loop-one-preserved c =
    let xs = c.args.declared.now in let i = c.loop-one.one-index in
    let made = λ (y : Declared). typing.variable_in (keys_in c.args.types.now.by_name.entries) (declared_of y) in
    record {
      variables = ap (λ vs. fold typing.with_variable vs (map made (drop (i + 1) xs))) c.in_ok-add_variable.ensures.variables
          ∙ ap (λ ys. fold typing.with_variable (map variable_entry_of c.loop-one.variables.entries) (map made ys)) (sym (drop_more xs i _ c.loop-one-test.true))
          ∙ c.loop-one.invariant.variables;
      kept = begins_further _ _ _ c.loop-one.invariant.kept c.in_ok-add_variable.ensures.kept;
      found = c.in_ok-add_variable.ensures.found ∙ c.loop-one.invariant.found;
    }

pub returns : goal.returns
returns c =
    let xs = c.args.declared.now in
    let make = typing.variable_in (keys_in c.args.types.now.by_name.entries) in
    let made = λ (y : Declared). make (declared_of y) in
    record {
      variables = sym (ap (λ ys. fold typing.with_variable (map variable_entry_of c.loop-one.variables.entries) (map made ys)) (drop_all c.loop-one.one-index xs c.loop-one-test.false))
          ∙ c.loop-one.invariant.variables ∙ ap (fold typing.with_variable (map variable_entry_of c.args.variables.now.entries)) (sym (map-map make declared_of xs));
      kept = c.loop-one.invariant.kept;
      found = c.loop-one.invariant.found;
    }
