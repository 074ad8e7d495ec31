-- A way from parent to child takes no place twice, so it is no longer than the places are many.
use Rattle.std.proofs.Common.{◌≡◌, ℕ, zero, suc, ◌+◌, ◌<◌, ◌≤◌, List, [], ◌∷◌, length, get_or, true, sym, ap, ◌∙◌, subst, arith}
use Rattle.std.specs.List.{list_any, IsDistinct}
use Rattle.std.proofs.Math.Dec.{eqb}
use Rattle.std.proofs.lemmas.Bool.{eqb-true, ne_eqb}
use Rattle.std.proofs.lemmas.Option.{same_Some, slice_get_within}
use Rattle.std.proofs.lemmas.List.{length-append}
use Rattle.std.proofs.lemmas.List.Folds.{Any-from_list_any}
use Rattle.std.proofs.lemmas.Map.Keys.{IsDistinct-from_apart}
use Rattle.std.proofs.lemmas.Map.Steps.{length-le_from_distinct_below}
use Rattle.search.specs.declared.nodes.Node.{Node}
use Rattle.search.specs.Nodes.{parent_of, IsPathBy, begins, follows}

module _ {X : Type 0} (node_of : X → Node) (nodes : List X) where
  -- the places to which the way comes, from its end on, but for the first state's
  places : (k : ℕ) (path : List ℕ) → IsPathBy node_of nodes k path → List ℕ
  places k path (begins first none) = []
  places k path (follows x before elsewhere at earlier is) = k ∷ places (parent_of (node_of x)) before earlier

  length-places : (k : ℕ) (path : List ℕ) (way : IsPathBy node_of nodes k path) → length (places k path way) ≡ length path
  unfolding places
  length-places k path (begins first none) = sym (ap length none)
  length-places k path (follows x before elsewhere at earlier is) =
      omega (arith, length-places (parent_of (node_of x)) before earlier, ap length is, length-append before ((node_of x).action ∷ []))

  -- two ways to one place are as long
  as_long : (k : ℕ) (path other : List ℕ) → IsPathBy node_of nodes k path → IsPathBy node_of nodes k other → length path ≡ length other
  as_long k path other (begins first none) (begins first' none') = ap length none ∙ sym (ap length none')
  as_long k path other (begins first none) (follows y before' elsewhere' at' earlier' is') = absurd (elsewhere' first)
  as_long k path other (follows x before elsewhere at earlier is) (begins first' none') = absurd (elsewhere first')
  as_long k path other (follows x before elsewhere at earlier is) (follows y before' elsewhere' at' earlier' is') =
      let same : y ≡ x = same_Some y x (sym at' ∙ at) in
      let rest = as_long (parent_of (node_of x)) before before' earlier (subst (λ (z : X). IsPathBy node_of nodes (parent_of (node_of z)) before') same earlier') in
      omega (arith, rest, ap length is, ap length is', length-append before ((node_of x).action ∷ []), length-append before' ((node_of y).action ∷ []))

  -- the place is one of the nodes', and the way to it is shorter by as many steps as come after it
  abbrev IsOnWay : (index : ℕ) (place : ℕ) (path : List ℕ) → Type 0
  IsOnWay index place path = (place < length nodes) × (p : List ℕ) × IsPathBy node_of nodes place p × (length p + index ≡ length path)

  on_way : (k : ℕ) (path : List ℕ) (way : IsPathBy node_of nodes k path) (index d : ℕ) → index < length (places k path way) → IsOnWay index (get_or (places k path way) index d) path
  unfolding places
  on_way k path (begins first none) index d within = absurd (omega (arith, within))
  on_way k path (follows x before elsewhere at earlier is) zero d within = (slice_get_within nodes k x at, path, follows x before elsewhere at earlier is, omega arith)
  on_way k path (follows x before elsewhere at earlier is) (suc index) d within =
      let (below, p, way, long) = on_way (parent_of (node_of x)) before earlier index d (omega (arith, within)) in
      (below, p, way, omega (arith, long, ap length is, length-append before ((node_of x).action ∷ [])))

  -- so no place comes twice
  distinct : (k : ℕ) (path : List ℕ) (way : IsPathBy node_of nodes k path) → IsDistinct eqb (places k path way)
  distinct k path way = IsDistinct-from_apart eqb (places k path way) (λ i j d before within.
      let xs = places k path way in
      let (_, p, to_p, long_p) = on_way k path way i d (omega (arith, before, within)) in
      let (_, q, to_q, long_q) = on_way k path way j d within in
      ne_eqb (get_or xs i d) (get_or xs j d) (λ same.
      let equal = as_long (get_or xs j d) p q (subst (λ (place : ℕ). IsPathBy node_of nodes place p) same to_p) to_q in
      omega (arith, equal, long_p, long_q, before)))

  below_all : (xs : List ℕ) (n q : ℕ) → ((index d : ℕ) → index < length xs → get_or xs index d < n) → list_any (eqb q) xs ≡ true → q < n
  below_all xs n q each among =
      let (i, x, within, at, is) = Any-from_list_any (eqb q) xs among in
      let same : q ≡ x = eqb-true q x is in
      omega (arith, each i x within, at, same)

  pub short_way : (k : ℕ) (path : List ℕ) → IsPathBy node_of nodes k path → length path ≤ length nodes
  short_way k path way =
      let xs = places k path way in
      let few = length-le_from_distinct_below xs (length nodes) (distinct k path way) (λ q among. below_all xs (length nodes) q (λ index d within. (on_way k path way index d within).0) among) in
      omega (arith, few, length-places k path way)
