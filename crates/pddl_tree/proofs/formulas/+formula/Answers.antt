use Rattle.pddl_tree.proofs.Names.{refl, sym, ◌∙◌, ap, arith, formula_of, formulas, formula, name_of, from, made, bind}
use Rattle.model.specs.Trees as tree
use Rattle.pddl_tree.proofs.Rows.{formula_of-And, formula_of-Or}
use Rattle.pddl_tree.proofs.Looks.{by_reserved, one_inside, on_more}
use Rattle.pddl_tree.proofs.formulas.+formula.Goals as goal

pub formulas-parts-preserved : goal.formulas-parts-preserved
formulas-parts-preserved t c = record {
  moved = omega (arith, c.in_ok-part.ensures.1, c.in_ok-inside.ensures.1);
  read = on_more formula_of c.parts.parts.items _ _ c.parts.invariant.read (one_inside formula c.args.words.now c.parts.next c.in_ok-inside.inside c.in_ok-part.after _ c.in_ok-inside.ensures.0 c.in_ok-inside.ensures.1.0 c.in_ok-part.ensures.0) c.in_ok-push.ensures.items;
}

pub formula-returns-in_ok-parts-in-Reserved-And-default : goal.formula-returns-in_ok-parts-in-Reserved-And-default
formula-returns-in_ok-parts-in-Reserved-And-default t c =
    let words = c.args.words.now in let word = c.in-Reserved-And-default in let read = c.in_ok-parts-in-Reserved-And-default in (
      by_reserved formula words c.args.at (name_of word.field-1) word.ensures.first word.field-0-is refl ∙ ap (λ r. bind r (λ fs w. made (tree.and (formulas fs)) w)) read.ensures.0 ∙ ap (λ f. made f (from words read.next)) (sym (formula_of-And read.parts)),
      (omega (arith, read.ensures.1), read.ensures.1.1),
    )

pub formula-returns-in_ok-parts-in-Reserved-Or-default : goal.formula-returns-in_ok-parts-in-Reserved-Or-default
formula-returns-in_ok-parts-in-Reserved-Or-default t c =
    let words = c.args.words.now in let word = c.in-Reserved-Or-default in let read = c.in_ok-parts-in-Reserved-Or-default in (
      by_reserved formula words c.args.at (name_of word.field-1) word.ensures.first word.field-0-is refl ∙ ap (λ r. bind r (λ fs w. made (tree.or (formulas fs)) w)) read.ensures.0 ∙ ap (λ f. made f (from words read.next)) (sym (formula_of-Or read.parts)),
      (omega (arith, read.ensures.1), read.ensures.1.1),
    )
