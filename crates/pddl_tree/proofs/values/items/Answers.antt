use Rattle.pddl_tree.proofs.Names.{◌+◌, map, sym, ◌∙◌, ap, arith, rules, item, effect_of, increase_of, from, made}
use Rattle.pddl_tree.proofs.Rows.{effect_of-And}
use Rattle.pddl_tree.proofs.Looks.{one_inside}
use Rattle.pddl_tree.proofs.EffectValues.{increase_here, effect_here, items_start, changes_more, increases_more, items_end}
use Rattle.pddl_tree.proofs.values.items.Goals as goal

pub items-init : goal.items-init
items-init c = record { moved = omega arith; read = items_start (ap (map effect_of) c.new-effects.ensures.items) (ap (map increase_of) c.new-increases.ensures.items) }

pub returns : goal.returns
returns c =
    let words = c.args.words.now in let within = c.is_close.ensures.within (search rules) in (
      items_end c.items.invariant.read (sym c.is_close.ensures.first ∙ c.items-test.false)
          ∙ (λ i. made (record { effect = sym (effect_of-And c.items.effects) i; increases = map increase_of c.items.increases.items }) (from words (c.items.next + 1))),
      (omega (arith, c.items.invariant.moved), omega (arith, within)),
    )

pub items-preserved-in-Some : goal.items-preserved-in-Some
items-preserved-in-Some c =
    let words = c.args.words.now in let inside = c.in_ok-inside.inside in let read = c.in_ok-increase-in-Some in record {
      moved = omega (arith, read.ensures.1, c.in_ok-inside.ensures.1);
      read = increases_more increase_of c.items.increases.items c.push.new.self.items read.increase c.items.invariant.read (one_inside item words c.items.next inside read.after _ c.in_ok-inside.ensures.0 c.in_ok-inside.ensures.1.0 (increase_here words inside read.after _ _ c.in-Some.ensures.word read.ensures.0)) c.in_ok-push-in-Some.ensures.items;
    }

pub items-preserved : goal.items-preserved
items-preserved c =
    let words = c.args.words.now in let inside = c.in_ok-inside.inside in let read = c.in_ok-effect-in-None in record {
      moved = omega (arith, read.ensures.1, c.in_ok-inside.ensures.1);
      read = changes_more effect_of c.items.effects.items c.push-in-None.new.self.items read.effect c.items.invariant.read (one_inside item words c.items.next inside read.after _ c.in_ok-inside.ensures.0 c.in_ok-inside.ensures.1.0 (effect_here words inside read.after _ c.in-None.ensures.word read.ensures.0)) c.in_ok-push-in-None.ensures.items;
    }
