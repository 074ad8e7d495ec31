-- At most one entry of the open list is of one place and one cost.
use Rattle.std.proofs.Common.{◌≡◌, ℕ, ◌+◌, ◌<◌, ◌≤◌, inl, inr, List, [], ◌∷◌, Bool, Some, true, false, refl, sym, ap, ◌∙◌, subst, arith}
use Rattle.std.specs.Prelude.{◌==◌, slice_get, if◌then◌else◌, Contains, All, IsPermutation}
use Rattle.std.proofs.lemmas.Bool.{cases_eq, eqb-true, eq-eqb}
use Rattle.std.proofs.lemmas.List.Elements.{All-contains}
use Rattle.std.proofs.lemmas.List.Sorted.{sum_by-IsPermutation}
use Rattle.std.proofs.lemmas.List.Sums.{sum_by-cons}
use Rattle.model.proofs.ListLemmas.{Contains-here, Contains-there, Contains-cases, Contains-none}
use Rattle.search.specs.Nodes.{Waiting, sum_of, estimate_of, place_of, entry, IsEntryOf, Found, times_at, entries_at, AreSingle}
use Rattle.search.proofs.NodesLemmas.{IsJoined}

at_one : (place cost : ℕ) (w : Waiting) → place_of w ≡ place → cost + estimate_of w ≡ sum_of w → times_at place cost w ≡ 1
at_one place cost w is costs =
    ap (λ (b : Bool). if b then (if cost + estimate_of w == sum_of w then 1 else 0) else 0) (eq-eqb (place_of w) place is)
    ∙ ap (λ (b : Bool). if b then 1 else 0) (eq-eqb (cost + estimate_of w) (sum_of w) costs)

at_none : (place cost : ℕ) (w : Waiting) → (place_of w ≡ place → cost + estimate_of w ≡ sum_of w → ⊥) → times_at place cost w ≡ 0
at_none place cost w other =
    elim (place_of w == place) as (λ (b : Bool). (place_of w == place) ≡ b → ◌≡◌ {A = ℕ} (if b then (if cost + estimate_of w == sum_of w then 1 else 0) else 0) 0) [
      | true ↦ λ is.
          elim (cost + estimate_of w == sum_of w) as (λ (d : Bool). (cost + estimate_of w == sum_of w) ≡ d → ◌≡◌ {A = ℕ} (if d then 1 else 0) 0) [
            | true ↦ λ costs. absurd (other (eqb-true (place_of w) place is) (eqb-true (cost + estimate_of w) (sum_of w) costs))
            | false ↦ λ _. refl
          ] refl
      | false ↦ λ _. refl
    ] refl

at_most : (place cost : ℕ) (w : Waiting) → times_at place cost w ≤ 1
at_most place cost w =
    elim (place_of w == place) as (λ (b : Bool). (if b then (if cost + estimate_of w == sum_of w then 1 else 0) else 0) ≤ 1) [
      | true ↦ elim (cost + estimate_of w == sum_of w) as (λ (d : Bool). (if d then 1 else 0) ≤ 1) [ true ↦ omega arith | false ↦ omega arith ]
      | false ↦ omega arith
    ]

pub none_at : (place cost : ℕ) (ws : List Waiting) → ((w : Waiting) → Contains ws w → place_of w ≡ place → cost + estimate_of w ≡ sum_of w → ⊥) → entries_at place cost ws ≡ 0
none_at place cost [] other = refl
none_at place cost (w ∷ ws) other =
    omega (arith, sum_by-cons (times_at place cost) w ws, at_none place cost w (other w (Contains-here w ws)), none_at place cost ws (λ x at. other x (Contains-there w ws x at)))

some_at : (place cost : ℕ) (ws : List Waiting) (w : Waiting) → Contains ws w → place_of w ≡ place → cost + estimate_of w ≡ sum_of w → 1 ≤ entries_at place cost ws
some_at place cost [] w at is costs = absurd (Contains-none w at)
some_at place cost (x ∷ ws) w at is costs =
    elim (Contains-cases x ws w at) [
      | inl same ↦
          let here : times_at place cost x ≡ 1 = ap (times_at place cost) same ∙ at_one place cost w is costs in
          omega (arith, sum_by-cons (times_at place cost) x ws, here)
      | inr later ↦ omega (arith, sum_by-cons (times_at place cost) x ws, some_at place cost ws w later is costs)
    ]

-- where none is left at a place and cost, no entry is of them
pub not_at : (place cost : ℕ) (ws : List Waiting) → entries_at place cost ws ≡ 0 → (w : Waiting) → Contains ws w → place_of w ≡ place → cost + estimate_of w ≡ sum_of w → ⊥
not_at place cost ws none w at is costs = absurd (omega (arith, none, some_at place cost ws w at is costs))

pub single_permutation : (xs ys : List Waiting) → IsPermutation xs ys → AreSingle xs → AreSingle ys
single_permutation xs ys moved single place cost = omega (arith, sum_by-IsPermutation (times_at place cost) xs ys moved, single place cost)

pub single_cons : (w : Waiting) (ws : List Waiting) (cost : ℕ) → cost + estimate_of w ≡ sum_of w → entries_at (place_of w) cost ws ≡ 0 → AreSingle ws → AreSingle (w ∷ ws)
single_cons w ws cost costs none single place cost' =
    elim (cases_eq (place_of w) place) [
      | inl is ↦
          elim (cases_eq cost cost') [
            | inl same ↦
                let gone : entries_at place cost' ws ≡ 0 = subst (λ (p : ℕ). entries_at p cost' ws ≡ 0) is (subst (λ (c : ℕ). entries_at (place_of w) c ws ≡ 0) same none) in
                omega (arith, sum_by-cons (times_at place cost') w ws, at_one place cost' w is (omega (arith, costs, same)), gone)
            | inr other ↦ omega (arith, sum_by-cons (times_at place cost') w ws, at_none place cost' w (λ _ costs'. other (omega (arith, costs, costs'))), single place cost')
          ]
      | inr other ↦ omega (arith, sum_by-cons (times_at place cost') w ws, at_none place cost' w (λ is _. other is), single place cost')
    ]

pub single_tail : (w : Waiting) (ws : List Waiting) → AreSingle (w ∷ ws) → AreSingle ws
single_tail w ws single place cost = omega (arith, sum_by-cons (times_at place cost) w ws, single place cost)

-- once the entry of a place and cost is taken, none is left
pub single_gone : (w : Waiting) (ws : List Waiting) → AreSingle (w ∷ ws) → (place cost : ℕ) → place_of w ≡ place → cost + estimate_of w ≡ sum_of w → entries_at place cost ws ≡ 0
single_gone w ws single place cost is costs = omega (arith, sum_by-cons (times_at place cost) w ws, single place cost, at_one place cost w is costs)

pub single_none : AreSingle []
single_none place cost = omega arith

module _ {S : Type 0} (value : S → ℕ) (is_dead : S → Bool) (nodes : List (Found S)) (open_list open_list' : List Waiting) (entries : All (IsEntryOf value is_dead nodes) open_list) where
  -- a state's entry joins the others at a cost that is below that of its place
  pub single_joined : (dead : Bool) (cost estimate place : ℕ) → ((n : Found S) → slice_get nodes place ≡ Some n → cost < n.node.cost) → IsJoined dead (entry cost estimate place) open_list open_list'
      → AreSingle open_list → AreSingle open_list'
  single_joined true cost estimate place lower same single = subst AreSingle (sym same) single
  single_joined false cost estimate place lower joins single =
      let w = entry cost estimate place in
      single_permutation (w ∷ open_list) open_list' joins
      (single_cons w open_list cost refl
      (none_at place cost open_list
      (λ x at is costs.
      let of = All-contains (IsEntryOf value is_dead nodes) open_list x entries at in
      absurd (omega (arith, of.no_dearer, costs, lower of.found (ap (slice_get nodes) (sym is) ∙ of.occurs)))))
      single)

one_single : (w : Waiting) → AreSingle (w ∷ [])
one_single w place cost = omega (arith, sum_by-cons (times_at place cost) w [], at_most place cost w)

-- the first entry
pub single_first : (dead : Bool) (w : Waiting) (open_list open_list' : List Waiting) → open_list ≡ [] → IsJoined dead w open_list open_list' → AreSingle open_list'
single_first true w open_list open_list' empty same = subst AreSingle (sym (same ∙ empty)) single_none
single_first false w open_list open_list' empty joins =
    single_permutation (w ∷ open_list) open_list' joins (subst (λ (ws : List Waiting). AreSingle (w ∷ ws)) (sym empty) (one_single w))
