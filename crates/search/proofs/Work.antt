-- How often a search may still turn to its states: no more once one is new or reached more cheaply, and less once one is expanded.
use Rattle.std.proofs.Common.{◌≡◌, ℕ, suc, ◌+◌, ◌-◌, ◌*◌, ◌<◌, ◌≤◌, List, [], ◌∷◌, ◌++◌, length, set, get_or, Some, true, false, sym, ap, ◌∙◌, subst, arith}
use Rattle.std.specs.Prelude.{slice_get, if◌then◌else◌, sum_by}
use Rattle.std.proofs.lemmas.Option.{get_or_from_slice_get, slice_get_within}
use Rattle.std.proofs.lemmas.List.{length-set, length-append}
use Rattle.std.proofs.lemmas.List.Sums.{sum_by-append, sum_by-set}
use Rattle.std.proofs.Math.Nat.{suc-mul}
use Rattle.search.specs.Outcome.{is_expanded}
use Rattle.search.specs.Nodes.{Found, dearest, work_at, work_left}

pub less_then : (a b c : ℕ) → a ≤ b → b < c → a < c
less_then a b c le lt = omega (arith, le, lt)

one_less : (each a a' sum one : ℕ) → a ≡ suc a' → one ≤ each → a' * each + (sum + one) ≤ a * each + sum
one_less each a a' sum one is fits =
    let product : a * each ≡ a' * each + each = ap (λ (n : ℕ). n * each) is ∙ suc-mul a' each in
    omega (arith, product, fits)

on_top : (base sum sum' one one' : ℕ) → sum' + one ≡ sum + one' → base + sum' + one ≡ base + sum + one'
on_top base sum sum' one one' is = omega (arith, is)

no_more : (w w' one one' : ℕ) → w' + one ≡ w + one' → one' ≤ one → w' ≤ w
no_more w w' one one' is le = omega (arith, is, le)

less_by_one : (w w' one one' : ℕ) → w' + one ≡ w + one' → one' + 1 ≡ one → w' < w
less_by_one w w' one one' is less = omega (arith, is, less)

same_work : (w w' one one' : ℕ) → w' + one ≡ w + one' → one' ≡ one → w' ≡ w
same_work w w' one one' is same = omega (arith, is, same)

module _ {S : Type 0} where
  -- a node that waits may be turned to once more than one that is expanded
  work_waits : (n : Found S) → is_expanded n.node ≡ false → work_at n ≡ n.node.cost * 2 + 1
  work_waits n waits = ap (λ b. n.node.cost * 2 + (if b then 0 else 1)) waits

  work_expanded : (n : Found S) → is_expanded n.node ≡ true → work_at n ≡ n.node.cost * 2 + 0
  work_expanded n expanded = ap (λ b. n.node.cost * 2 + (if b then 0 else 1)) expanded

  work_some : (n : Found S) → n.node.cost * 2 ≤ work_at n
  work_some n = omega arith

  -- a node is new
  pub work_push : (nodes : List (Found S)) (m : Found S) (most : ℕ) → is_expanded m.node ≡ false → length (nodes ++ m ∷ []) ≤ most → m.node.cost ≤ most * dearest
      → work_left most (nodes ++ m ∷ []) ≤ work_left most nodes
  work_push nodes m most waits within cheap =
      let left = most - length (nodes ++ m ∷ []) in
      let one_more : most - length nodes ≡ suc (most - length (nodes ++ m ∷ [])) = omega (arith, length-append nodes (m ∷ []), within) in
      let summed : sum_by work_at (nodes ++ m ∷ []) ≡ sum_by work_at nodes + work_at m = sum_by-append work_at nodes (m ∷ []) ∙ omega arith in
      let fits : work_at m ≤ most * dearest * 2 + 2 = omega (arith, work_waits m waits, cheap) in
      subst (λ (sum : ℕ). left * (most * dearest * 2 + 2) + sum ≤ work_left most nodes) (sym summed)
      (one_less (most * dearest * 2 + 2) (most - length nodes) left (sum_by work_at nodes) (work_at m) one_more fits)

  -- what a set changes
  work_set : (nodes : List (Found S)) (j : ℕ) (n m : Found S) (most : ℕ) → slice_get nodes j ≡ Some n → work_left most (set nodes j m) + work_at n ≡ work_left most nodes + work_at m
  work_set nodes j n m most at =
      let here : work_at (get_or nodes j n) ≡ work_at n = ap work_at (get_or_from_slice_get nodes j n n at) in
      let summed : sum_by work_at (set nodes j m) + work_at n ≡ sum_by work_at nodes + work_at m = omega (arith, here, sum_by-set work_at nodes j m n (slice_get_within nodes j n at)) in
      subst (λ (l : ℕ). (most - l) * (most * dearest * 2 + 2) + sum_by work_at (set nodes j m) + work_at n ≡ work_left most nodes + work_at m) (sym (length-set nodes j m))
      (on_top ((most - length nodes) * (most * dearest * 2 + 2)) (sum_by work_at nodes) (sum_by work_at (set nodes j m)) (work_at n) (work_at m) summed)

  -- a node is reached more cheaply
  pub work_cheaper : (nodes : List (Found S)) (j : ℕ) (n m : Found S) (most : ℕ) → slice_get nodes j ≡ Some n → is_expanded m.node ≡ false → m.node.cost < n.node.cost
      → work_left most (set nodes j m) ≤ work_left most nodes
  work_cheaper nodes j n m most at waits cheaper =
      let less : work_at m ≤ work_at n = omega (arith, work_waits m waits, work_some n, cheaper) in
      no_more (work_left most nodes) (work_left most (set nodes j m)) (work_at n) (work_at m) (work_set nodes j n m most at) less

  -- a node is expanded
  pub work_marked : (nodes : List (Found S)) (j : ℕ) (n m : Found S) (most : ℕ) → slice_get nodes j ≡ Some n → is_expanded n.node ≡ false → is_expanded m.node ≡ true → m.node.cost ≡ n.node.cost
      → work_left most (set nodes j m) < work_left most nodes
  work_marked nodes j n m most at waits expanded same =
      let less : work_at m + 1 ≡ work_at n = omega (arith, work_waits n waits, work_expanded m expanded, same) in
      less_by_one (work_left most nodes) (work_left most (set nodes j m)) (work_at n) (work_at m) (work_set nodes j n m most at) less

  -- a node that waits has another status, and is not expanded
  pub work_same : (nodes : List (Found S)) (j : ℕ) (n m : Found S) (most : ℕ) → slice_get nodes j ≡ Some n → is_expanded n.node ≡ false → is_expanded m.node ≡ false → m.node.cost ≡ n.node.cost
      → work_left most (set nodes j m) ≡ work_left most nodes
  work_same nodes j n m most at waits still same =
      let equal : work_at m ≡ work_at n = omega (arith, work_waits n waits, work_waits m still, same) in
      same_work (work_left most nodes) (work_left most (set nodes j m)) (work_at n) (work_at m) (work_set nodes j n m most at) equal

-- a turn takes something of what is left: an answer, or an expansion
pub less_by_ask : (work work' asks asks' : ℕ) → work' ≡ work → asks' < asks → work' * 4294967296 + asks' < work * 4294967296 + asks
less_by_ask work work' asks asks' same fewer = omega (arith, same, fewer)

pub less_by_work : (work work' asks asks' : ℕ) → work' < work → asks' ≡ asks → work' * 4294967296 + asks' < work * 4294967296 + asks
less_by_work work work' asks asks' less same = omega (arith, less, same)
