use Rattle.std.proofs.Common.{map, sym, subst}
use Rattle.symmetries.specs.Exchange.{exchange_of}
use Rattle.search_spaces.specs.Exchanges.{AreExchangesFor}
use Rattle.solver.proofs.VersionLemmas.{at_least_two}
use Rattle.solver.proofs.answer.solve_in_version.Goals as goal

pub solve_listed-requires-clause-version : goal.solve_listed-requires-clause-version
solve_listed-requires-clause-version g c = at_least_two c.args.limits.version

pub solve_by_exchanges-requires-clause-exchanges : goal.solve_by_exchanges-requires-clause-exchanges
solve_by_exchanges-requires-clause-exchanges g c = subst (λ l. AreExchangesFor c.args.ground.now (map exchange_of l)) (sym c.deref.ensures.value) c.in_ok-exchanges.ensures
