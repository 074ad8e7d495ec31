use Rattle.pddl_tree.proofs.Names.{◌∙◌, map, sym, ap, arith, rules, from, part_view, has_part, action_of, phrase, stops}
use Rattle.model.specs.GrammarWords.{parameters}
use Rattle.pddl_tree.specs.Sections.{parts_on}
use Rattle.pddl_tree.proofs.Parts.{parts_end, parameters_missing}
use Rattle.pddl_tree.proofs.action.parts.Goals as goal

pub parts-init : goal.parts-init
parts-init c = record { moved = omega arith; read = ap (λ seen. phrase (parts_on (map part_view seen) (action_of c.args.action.now)) (from c.args.words.now c.args.at)) (sym c.new-seen.ensures.items) }

pub parts-preserved : goal.parts-preserved
parts-preserved c = record { moved = omega (arith, c.in_ok-next.ensures.1); read = c.parts.invariant.read ∙ c.in_ok-next.ensures.0 }

pub returns-then-has_part : goal.returns-then-has_part
returns-then-has_part c =
    let within = c.is_close.ensures.within (search rules) in
    let all = ap (λ l. has_part (map part_view l) parameters) (sym c.deref.ensures.value) ∙ sym c.has_part.ensures ∙ c.if-has_part.true in
    (c.parts.invariant.read ∙ parts_end (map part_view c.parts.seen.items) (action_of c.parts.action) c.args.words.now c.parts.next (sym c.is_close.ensures.first ∙ c.parts-test.false) all, (omega (arith, c.parts.invariant.moved), omega (arith, within)))

pub returns : goal.returns
returns c =
    let words = c.args.words.now in
    let missing = ap (λ l. has_part (map part_view l) parameters) (sym c.deref.ensures.value) ∙ sym c.has_part.ensures ∙ c.if-has_part.false in
    c.parts.invariant.read ∙ parameters_missing (map part_view c.parts.seen.items) (action_of c.parts.action) words c.parts.next (sym c.is_close.ensures.first ∙ c.parts-test.false) missing
    ∙ (λ i. stops (sym c.refusal.ensures.number i) (from words (sym c.refusal.ensures.at i)))
