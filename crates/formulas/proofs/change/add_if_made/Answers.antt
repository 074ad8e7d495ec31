use Rattle.std.proofs.Common.{◌∙◌, ◌++◌, ap, sym, map, append-nil}
use Rattle.task.specs.Task.{task_of}
use Rattle.formulas.specs.State.{state_of}
use Rattle.formulas.specs.Effects.{change_of, lent_literal}
use Rattle.std.proofs.lemmas.List.{map_push}
use Rattle.formulas.proofs.CarriedOut.{literal_in, no_literal_in}
use Rattle.formulas.proofs.change.add_if_made.Goals as goal

pub returns-then-not-is_made : goal.returns-then-not-is_made
returns-then-not-is_made c =
    let first = map lent_literal c.args.made.now.items in
    sym (ap (λ l. first ++ l) (no_literal_in (task_of c.args.task.now) (state_of c.args.before.now) (change_of c.args.change.now) (sym c.is_made.ensures ∙ c.if-not-is_made.true)) ∙ append-nil first)

pub returns : goal.returns
returns c =
    let first = map lent_literal c.args.made.now.items in
    ap (map lent_literal) c.in_ok-push.ensures.items ∙ map_push lent_literal c.args.made.now.items _
    ∙ sym (ap (λ l. first ++ l) (literal_in (task_of c.args.task.now) (state_of c.args.before.now) (change_of c.args.change.now) (sym c.is_made.ensures ∙ c.if-not-is_made.false)))
