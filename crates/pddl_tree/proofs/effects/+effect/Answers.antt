use Rattle.pddl_tree.proofs.Names.{refl, sym, ◌∙◌, ap, arith, effect_of, effects, effect_list, name_of, from, made, bind}
use Rattle.model.specs.Trees as tree
use Rattle.pddl_tree.proofs.Rows.{effect_of-And}
use Rattle.pddl_tree.proofs.Looks.{by_reserved, one_inside, on_more}
use Rattle.pddl_tree.proofs.effects.+effect.Goals as goal

pub effects-parts-preserved : goal.effects-parts-preserved
effects-parts-preserved t c = record {
  moved = omega (arith, c.in_ok-part.ensures.1, c.in_ok-inside.ensures.1);
  read = on_more effect_of c.parts.parts.items _ _ c.parts.invariant.read (one_inside effect_list c.args.words.now c.parts.next c.in_ok-inside.inside c.in_ok-part.after _ c.in_ok-inside.ensures.0 c.in_ok-inside.ensures.1.0 c.in_ok-part.ensures.0) c.in_ok-push.ensures.items;
}

pub effect-returns-in_ok-parts-in-Reserved-And-default : goal.effect-returns-in_ok-parts-in-Reserved-And-default
effect-returns-in_ok-parts-in-Reserved-And-default t c =
    let words = c.args.words.now in let word = c.in-Reserved-And-default in let read = c.in_ok-parts-in-Reserved-And-default in (
      by_reserved effect_list words c.args.at (name_of word.field-1) word.ensures.first word.field-0-is refl ∙ ap (λ r. bind r (λ es w. made (tree.both (effects es)) w)) read.ensures.0 ∙ ap (λ e. made e (from words read.next)) (sym (effect_of-And read.parts)),
      (omega (arith, read.ensures.1), read.ensures.1.1),
    )
