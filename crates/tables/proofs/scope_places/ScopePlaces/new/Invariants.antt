use Rattle.std.proofs.Common.{◌≡◌, length, map, take}
use Rattle.table_rows.specs.Losses.{indexed_of}
use Rattle.tables.specs.ScopePlaces.{scopes_of, AreScopePlaces}
use Rattle.tables.proofs.scope_places.ScopePlaces.new.Given as goal

abbrev pub invariant-loop-number : goal.invariant-loop-number
invariant-loop-number l = record {
  width : length l.places.lists.items ≡ l.width;
  places : AreScopePlaces (take l.number (scopes_of (map indexed_of l.tables))) l.places;
}
