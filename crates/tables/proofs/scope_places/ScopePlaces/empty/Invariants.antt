use Rattle.std.proofs.Common.{◌≡◌, ℕ, [], length}
use Rattle.std.specs.Prelude.{slice_get}
use Rattle.std.specs.Option.{option_map_or}
use Rattle.std.specs.Global.{Vec}
use Rattle.tables.specs.declared.scope_places.ScopePlace.{ScopePlace}
use Rattle.tables.proofs.scope_places.ScopePlaces.empty.Given as goal

abbrev pub invariant-loop : goal.invariant-loop
invariant-loop l = record {
  width : length l.lists.items ≡ l.counter;
  empty : (atom : ℕ) → option_map_or (λ (v : Vec ScopePlace). v.items) (slice_get l.lists.items atom) [] ≡ [];
}
