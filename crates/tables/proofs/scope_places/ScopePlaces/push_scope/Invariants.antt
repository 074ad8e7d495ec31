use Rattle.std.proofs.Common.{◌≡◌, ℕ, List, [], ◌∷◌, ◌++◌, length, take}
use Rattle.tables.specs.ScopePlaces.{AreScopePlaces}
use Rattle.tables.proofs.scope_places.ScopePlaces.push_scope.Given as goal

abbrev pub invariant-loop-place : goal.invariant-loop-place
invariant-loop-place l = record {
  width : length l.self.lists.items ≡ length l.initial.self.lists.items;
  places : (scopes : List (List ℕ)) → l.table ≡ length scopes → AreScopePlaces scopes l.initial.self → AreScopePlaces (scopes ++ take l.place l.scope ∷ []) l.self;
}
