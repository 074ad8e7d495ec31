use Rattle.std.proofs.Common.{inl, inr, arith}
use Rattle.std.proofs.lemmas.Bool.{cases_lt}
use Rattle.search.specs.OpenList.{waiting_in}
use Rattle.search.proofs.OpenList.{least_taken, least_alone}
use Rattle.search.proofs.progress.Progress.least_with.Goals as goal

pub returns-in-Some-clause-least : goal.returns-in-Some-clause-least
returns-in-Some-clause-least g c =
    least_taken (waiting_in c.args.self.now.open_list) (waiting_in c.next_waiting.new.self.open_list) c.args.self.now.nodes.items c.in-Some.next c.in-Some.ensures.some c.args.sum c.min.result
    (omega (arith, c.min.ensures)) (omega (arith, c.min.ensures))
    (elim (cases_lt c.args.sum c.in-Some.next.sum) [
      | inl less ↦ inl (omega (arith, c.min.ensures, less))
      | inr no_less ↦ inr (omega (arith, c.min.ensures, no_less))
    ])

pub returns-in-None-clause-least : goal.returns-in-None-clause-least
returns-in-None-clause-least g c = least_alone (waiting_in c.args.self.now.open_list) c.args.self.now.nodes.items c.args.sum c.in-None.ensures.none
