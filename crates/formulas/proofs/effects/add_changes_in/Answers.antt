use Rattle.std.proofs.Common.{◌∙◌, sym, map}
use Rattle.task.specs.Task.{task_of}
use Rattle.task.specs.declared.schemas.EffectLiteral.{EffectLiteral}
use Rattle.task.specs.TaskParts.{object_of, effect_literal_of}
use Rattle.formulas.specs.Effects.{condition_of, change_of}
use Rattle.model.specs.Meaning.{Change, change_under}
use Rattle.model.specs.WellTyped.{is_effect_literal}
use Rattle.model.proofs.Tests.{passes_at, passes_map}
use Rattle.formulas.proofs.ChangeLists.{mapped_more, mapped_whole}
use Rattle.formulas.proofs.effects.add_changes_in.Goals as goal

pub add_change-requires : goal.add_change-requires
add_change-requires c =
    let typed = is_effect_literal (task_of c.args.task.now) c.requires.scope in
    record {
      scope = c.requires.scope;
      typed = passes_at (λ one. typed (effect_literal_of one)) c.args.literals.now c.loop-literal.literal-index c.literal-item.result c.loop-literal-test.true c.literal-item.is
          (sym (passes_map typed effect_literal_of c.args.literals.now) ∙ c.requires.typed);
      fits = c.requires.fits;
    }

pub loop-literal-preserved : goal.loop-literal-preserved
loop-literal-preserved c =
    let gives : EffectLiteral → Change = λ one. change_under (condition_of c.args.context.now.condition) (map object_of c.args.context.now.binding.now.items) (effect_literal_of one) in
    mapped_more gives (map change_of c.args.found.now.items) c.args.literals.now c.loop-literal.literal-index c.literal-item.result
    (map change_of c.loop-literal.found.items) (map change_of c.add_change.new.found.items) c.loop-literal-test.true c.literal-item.is c.loop-literal.invariant c.in_ok-add_change.ensures

pub returns : goal.returns
returns c =
    let gives : EffectLiteral → Change = λ one. change_under (condition_of c.args.context.now.condition) (map object_of c.args.context.now.binding.now.items) (effect_literal_of one) in
    mapped_whole gives (map change_of c.args.found.now.items) c.args.literals.now c.loop-literal.literal-index (map change_of c.loop-literal.found.items) c.loop-literal-test.false c.loop-literal.invariant
