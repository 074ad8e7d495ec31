use Rattle.std.proofs.Common.{◌∙◌, ◌++◌, sym, ap, append-nil}
use Rattle.task.specs.Task.{task_of}
use Rattle.symmetries.specs.ObjectPairs.{pairs_in}
use Rattle.cert_checker.proofs.NamedExchanges.{none_left}
use Rattle.cert_checker.proofs.exchanges.exchange_said.Goals as goal

pub returns : goal.returns
returns c =
    let made = pairs_in c.loop-left.pairs.items in
    sym (append-nil made) ∙ ap (λ e. made ++ e) (sym (none_left (task_of c.args.task.now) c.loop-left.left.now c.in_default.len_below)) ∙ c.loop-left.invariant
