use Rattle.std.proofs.Common.{◌≡◌, true, map, take}
use Rattle.std.specs.List.{list_all}
use Rattle.grounding.specs.Ground.{atoms_in}
use Rattle.symmetries_definitions.specs.Orbits.{keeps_atoms}
use Rattle.symmetries.specs.declared.exchange.Exchange.{Exchange}
use Rattle.symmetries.specs.Exchange.{exchange_of}
use Rattle.symmetries.specs.SwappedPlaces.{swap_of}
use Rattle.symmetries.specs.NumberPairs.{swaps_in}
use Rattle.symmetries.proofs.representatives.Representatives.new.Given as goal

-- the pairs of the exchanges so far are there, all of which keep the numbered atoms
abbrev pub invariant-loop-exchange : goal.invariant-loop-exchange
invariant-loop-exchange l = record {
  made : swaps_in l.swaps.items ≡ map (λ (e : Exchange). swap_of (atoms_in l.ground) (exchange_of e)) (take l.exchange-index l.exchanges);
  kept : list_all (λ (e : Exchange). keeps_atoms (atoms_in l.ground) (exchange_of e)) (take l.exchange-index l.exchanges) ≡ true;
}
