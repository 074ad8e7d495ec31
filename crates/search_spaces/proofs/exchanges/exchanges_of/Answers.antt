use Rattle.grounding.specs.Ground.{task_in}
use Rattle.symmetries_definitions.specs.Symmetries.{is_symmetry}
use Rattle.search_spaces.proofs.ExchangeLemmas.{first_of_left}
use Rattle.search_spaces.proofs.exchanges.exchanges_of.Goals as goal

pub keep-requires-clause-symmetry : goal.keep-requires-clause-symmetry
keep-requires-clause-symmetry c =
    (first_of_left (is_symmetry (task_in c.args.ground.now)) c.in-Some.exchange c.next.new.self.rest.items c.loop-exchange.exchange-iterator.rest.items c.in-Some.ensures.steps.0 c.loop-exchange.invariant.1).0

pub loop-exchange-preserved-in-Continue-branch-2 : goal.loop-exchange-preserved-in-Continue-branch-2
loop-exchange-preserved-in-Continue-branch-2 c = (
  c.in_ok-keep.ensures c.loop-exchange.invariant.0,
  (first_of_left (is_symmetry (task_in c.args.ground.now)) c.in-Some.exchange c.next.new.self.rest.items c.loop-exchange.exchange-iterator.rest.items c.in-Some.ensures.steps.0 c.loop-exchange.invariant.1).1,
)

pub loop-exchange-preserved : goal.loop-exchange-preserved
loop-exchange-preserved c = (
  c.loop-exchange.invariant.0,
  (first_of_left (is_symmetry (task_in c.args.ground.now)) c.in-Some.exchange c.next.new.self.rest.items c.loop-exchange.exchange-iterator.rest.items c.in-Some.ensures.steps.0 c.loop-exchange.invariant.1).1,
)
