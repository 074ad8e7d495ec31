use Rattle.pddl_tree.proofs.Names.{refl, sym, ◌∙◌, ap, made, bind, free, name_of}
use Rattle.model.specs.Grammar.{valued, the_total_cost, a_function}
use Rattle.pddl_tree.proofs.Read.{taken}
use Rattle.pddl_tree.proofs.Looks.{by_reserved}
use Rattle.pddl_tree.proofs.InitialFacts.{number_reported}
use Rattle.pddl_tree.proofs.costs.initial_fact.Goals as goal

pub returns-in_err-amount-in-Reserved-TotalCost-default :
    goal.returns-in_err-amount-in-Reserved-TotalCost-default
returns-in_err-amount-in-Reserved-TotalCost-default c =
    let words = c.args.words.now in let inside = c.in_ok-inside in let word = c.in-Reserved-TotalCost-default in
    let read = by_reserved valued words inside.inside (name_of word.function) word.ensures.first word.field-0-is refl ∙ ap (λ r. bind r (λ _ w. made (the_total_cost (name_of word.function)) w)) c.in_ok-next-in-Reserved-TotalCost-default.ensures.0 in
    number_reported words c.args.at inside.inside _ (name_of c.args.equals) _ _ inside.ensures.0 inside.ensures.1.0 read c.in_err-amount-in-Reserved-TotalCost-default.ensures c.from_residual-in_err-amount-in-Reserved-TotalCost-default.ensures.1

pub returns-in_err-value-in-Free : goal.returns-in_err-value-in-Free
returns-in_err-value-in-Free c =
    let words = c.args.words.now in let inside = c.in_ok-inside in let word = c.in-Free in
    let read = taken valued words inside.inside (free _ (name_of word.predicate)) (sym word.ensures.first) refl ∙ ap (λ r. bind r (λ ns w. made (a_function (record { predicate = name_of word.predicate; objects = ns })) w)) c.in_ok-objects-in-Free.ensures.0 in
    number_reported words c.args.at inside.inside _ (name_of c.args.equals) _ _ inside.ensures.0 inside.ensures.1.0 read c.in_err-value-in-Free.ensures c.from_residual-in_err-value-in-Free.ensures.1
