use Rattle.std.proofs.Common.{◌≡◌, true, map}
use Rattle.std.specs.List.{list_all}
use Rattle.grounding.specs.Ground.{task_in}
use Rattle.symmetries_definitions.specs.Symmetries.{is_symmetry}
use Rattle.symmetries.specs.Exchange.{exchange_of}
use Rattle.search_spaces.specs.Exchanges.{AreExchangesFor}
use Rattle.search_spaces.proofs.exchanges.exchanges_of.Given as goal

-- those so far may be searched by, and those that are left are symmetries
abbrev pub invariant-loop-exchange : goal.invariant-loop-exchange
invariant-loop-exchange l =
    AreExchangesFor l.ground (map exchange_of l.kept.items)
    × (list_all (is_symmetry (task_in l.ground)) (map exchange_of l.exchange-iterator.rest.items) ≡ true)
