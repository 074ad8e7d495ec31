use Rattle.pddl_tree.proofs.Names.{[], ◌∙◌, sym, ap, arith, from, action_of, made, bind, phrase, Reads}
use Rattle.model.specs.Grammar.{bare_action}
use Rattle.pddl_tree.specs.Sections.{the_action, parts_on}
use Rattle.pddl_tree.proofs.Looks.{passed, reported_along}
use Rattle.pddl_tree.proofs.action.action.Goals as goal

pub returns : goal.returns
returns c =
    let words = c.args.words.now in let next = c.in_ok-name.next in
    let bare = ap action_of (c.deref_mut.ensures.value ∙ c.in_ok-action.ensures.ok) ∙ c.bare.ensures in (
      ap (λ r. bind r (λ n w. phrase (parts_on [] (bare_action n)) w)) c.in_ok-name.ensures.0 ∙ ap (λ a. phrase (parts_on [] a) (from words next)) (sym bare) ∙ c.in_ok-end.ensures.0 ∙ ap (λ a. made (action_of a) (from words c.in_ok-end.end)) (sym c.into_inner.ensures),
      (omega (arith, c.in_ok-name.ensures.1, c.in_ok-end.ensures.1), omega (arith, c.in_ok-end.ensures.1)),
    )

pub returns-in_err-end : goal.returns-in_err-end
returns-in_err-end c =
    let words = c.args.words.now in let next = c.in_ok-name.next in
    let bare = ap action_of (c.deref_mut.ensures.value ∙ c.in_ok-action.ensures.ok) ∙ c.bare.ensures in
    passed (Reads (phrase the_action) words c.args.at action_of) c.from_residual-in_err-end.result c.from_residual-in_err-end.ensures.1
    (reported_along words _ _ c.in_err-end.field-0.0 (ap (λ r. bind r (λ n w. phrase (parts_on [] (bare_action n)) w)) c.in_ok-name.ensures.0 ∙ ap (λ a. phrase (parts_on [] a) (from words next)) (sym bare)) c.in_err-end.ensures)
