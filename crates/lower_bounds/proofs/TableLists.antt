-- Lists: tests of all elements and of some, membership of numbers, and sums over tables.
use Rattle.std.proofs.Common.{◌≡◌, ◌∙◌, ℕ, inl, inr, Bool, true, false, true≢false, ◌&&◌, ◌||◌, List, [], ◌∷◌, Option, None, Some, refl, sym, ap, subst, arith, ℤ, ◌+ℤ◌, ◌≤ℤ◌}
use Rattle.std.specs.Prelude.{Contains, ◌==◌, cond, filter, is_some}
use Rattle.std.specs.List.{list_any, list_all}
use Rattle.std.specs.Cmp.Lexicographic.{pointwise}
use Rattle.std.proofs.lemmas.Bool.{and_parts, and_from, or_left, or_right, eqb-true, eq-eqb, false_from_ne_true}
use Rattle.std.proofs.lemmas.Int.{ints}
use Rattle.model.proofs.ListLemmas.{Contains-here, Contains-there, Contains-none, Contains-cases}
use Rattle.model.proofs.StaticLemmas.{and_false}
use Rattle.lower_bounds.specs.TableFunctions.{Table, is_among, sum_over}

-- ---- tests

pub all-from : {X : Type 0} (p : X → Bool) (xs : List X) → ((x : X) → Contains xs x → p x ≡ true) → list_all p xs ≡ true
all-from p [] each = refl
all-from p (x ∷ xs) each = and_from (p x) (list_all p xs) (each x (Contains-here x xs)) (all-from p xs (λ y at. each y (Contains-there x xs y at)))

pub all-at : {X : Type 0} (p : X → Bool) (xs : List X) (x : X) → list_all p xs ≡ true → Contains xs x → p x ≡ true
all-at p [] x all at = absurd (Contains-none x at)
all-at p (first ∷ xs) x all at =
    let parts = and_parts (p first) (list_all p xs) all in
    elim (Contains-cases first xs x at) [
      | inl is ↦ subst (λ y. p y ≡ true) is parts.0
      | inr later ↦ all-at p xs x parts.1 later
    ]

pub any-at : {X : Type 0} (p : X → Bool) (xs : List X) (x : X) → Contains xs x → p x ≡ true → list_any p xs ≡ true
any-at p [] x at passes = absurd (Contains-none x at)
any-at p (first ∷ xs) x at passes =
    elim (Contains-cases first xs x at) [
      | inl is ↦ or_left (p first) (list_any p xs) (ap p is ∙ passes)
      | inr later ↦ or_right (p first) (list_any p xs) (any-at p xs x later passes)
    ]

pub none-passes : {X : Type 0} (p : X → Bool) (xs : List X) → ((x : X) → Contains xs x → p x ≡ false) → list_any p xs ≡ false
none-passes p [] each = refl
none-passes p (x ∷ xs) each = ap (λ b. b || list_any p xs) (each x (Contains-here x xs)) ∙ none-passes p xs (λ y at. each y (Contains-there x xs y at))

pub is_some-is : {X : Type 0} (o : Option X) → is_some o ≡ true → (x : X) × (o ≡ Some x)
is_some-is None none = absurd (true≢false (sym none))
is_some-is (Some x) some = (x, refl)

-- ---- membership of numbers

pub among-here : (x : ℕ) (xs : List ℕ) → is_among (x ∷ xs) x ≡ true
among-here x xs = or_left (x == x) (is_among xs x) (eq-eqb x x refl)

pub among-there : (x : ℕ) (xs : List ℕ) (k : ℕ) → is_among xs k ≡ true → is_among (x ∷ xs) k ≡ true
among-there x xs k there = or_right (x == k) (is_among xs k) there

pub all-among : (p : ℕ → Bool) (xs : List ℕ) (k : ℕ) → list_all p xs ≡ true → is_among xs k ≡ true → p k ≡ true
all-among p [] k all at = absurd (true≢false (sym at))
all-among p (x ∷ xs) k all at =
    let parts = and_parts (p x) (list_all p xs) all in
    elim (x == k) as (λ b. (x == k) ≡ b → (b || is_among xs k) ≡ true → p k ≡ true) [
      | true ↦ λ same _. subst (λ j. p j ≡ true) (eqb-true x k same) parts.0
      | false ↦ λ _ later. all-among p xs k parts.1 later
    ] refl at

pub none-among : (p : ℕ → Bool) (xs : List ℕ) (k : ℕ) → list_any p xs ≡ false → is_among xs k ≡ true → p k ≡ false
none-among p [] k none at = absurd (true≢false (sym at))
none-among p (x ∷ xs) k none at =
    elim (x == k) as (λ b. (x == k) ≡ b → (b || is_among xs k) ≡ true → p k ≡ false) [
      | true ↦ λ same _. subst (λ j. p j ≡ false) (eqb-true x k same) (false_from_ne_true (p x) (λ is. true≢false (sym (or_left (p x) (list_any p xs) is) ∙ none)))
      | false ↦ λ _ later. none-among p xs k (false_from_ne_true (list_any p xs) (λ is. true≢false (sym (or_right (p x) (list_any p xs) is) ∙ none))) later
    ] refl at

pub filter-alike : (p q : ℕ → Bool) (xs : List ℕ) → ((k : ℕ) → is_among xs k ≡ true → p k ≡ q k) → filter p xs ≡ filter q xs
filter-alike p q [] each = refl
filter-alike p q (x ∷ xs) each =
    let rest = filter-alike p q xs (λ k there. each k (among-there x xs k there)) in
    let first = each x (among-here x xs) in
    (λ i. cond (first i) (x ∷ rest i) (rest i))

-- the numbers that pass, and are among these
among-filter : (p : ℕ → Bool) (xs : List ℕ) (k : ℕ) → is_among (filter p xs) k ≡ (is_among xs k && p k)
among-filter p [] k = refl
among-filter p (x ∷ xs) k =
    let rest = among-filter p xs k in
    elim (x == k) as (λ e. (x == k) ≡ e → is_among (filter p (x ∷ xs)) k ≡ ((e || is_among xs k) && p k)) [
      | true ↦ λ same.
          let is = ap p (eqb-true x k same) in
          elim (p x) as (λ b. p x ≡ b → is_among (cond b (x ∷ filter p xs) (filter p xs)) k ≡ p k) [
            | true ↦ λ passes. or_left (x == k) (is_among (filter p xs) k) same ∙ sym (sym is ∙ passes)
            | false ↦ λ fails. rest ∙ ap (λ b. is_among xs k && b) (sym is ∙ fails) ∙ and_false (is_among xs k) ∙ sym (sym is ∙ fails)
          ] refl
      | false ↦ λ differ.
          elim (p x) as (λ b. is_among (cond b (x ∷ filter p xs) (filter p xs)) k ≡ (is_among xs k && p k)) [
            | true ↦ ap (λ b. b || is_among (filter p xs) k) differ ∙ rest
            | false ↦ rest
          ]
    ] refl

pub passes-among : (p : ℕ → Bool) (xs : List ℕ) (k : ℕ) → is_among xs k ≡ true → is_among (filter p xs) k ≡ p k
passes-among p xs k at = among-filter p xs k ∙ ap (λ b. b && p k) at

pub same-numbers : (xs ys : List ℕ) → pointwise (λ k number. k == number) xs ys ≡ true → xs ≡ ys
same-numbers [] [] is = refl
same-numbers [] (y ∷ ys) is = absurd (true≢false (sym is))
same-numbers (x ∷ xs) [] is = absurd (true≢false (sym is))
same-numbers (x ∷ xs) (y ∷ ys) is =
    let parts = and_parts (x == y) (pointwise (λ k number. k == number) xs ys) is in
    let first = eqb-true x y parts.0 in
    let rest = same-numbers xs ys parts.1 in
    (λ i. first i ∷ rest i)

-- ---- sums over tables

pub over-least_both : (tables : List Table) (f g h : Table → ℤ) → ((t : Table) → Contains tables t → f t ≤ℤ (g t +ℤ h t)) → sum_over tables f ≤ℤ (sum_over tables g +ℤ sum_over tables h)
over-least_both [] f g h each = omega (arith, ints)
over-least_both (t ∷ tables) f g h each =
    let rest = over-least_both tables f g h (λ u at. each u (Contains-there t tables u at)) in
    let first = each t (Contains-here t tables) in
    omega (arith, ints)

pub over-least : (tables : List Table) (f g : Table → ℤ) → ((t : Table) → Contains tables t → f t ≤ℤ g t) → sum_over tables f ≤ℤ sum_over tables g
over-least [] f g each = omega (arith, ints)
over-least (t ∷ tables) f g each =
    let rest = over-least tables f g (λ u at. each u (Contains-there t tables u at)) in
    let first = each t (Contains-here t tables) in
    omega (arith, ints)

pub over-alike : (tables : List Table) (f g : Table → ℤ) → ((t : Table) → Contains tables t → f t ≡ g t) → sum_over tables f ≡ sum_over tables g
over-alike [] f g each = refl
over-alike (t ∷ tables) f g each =
    let rest = over-alike tables f g (λ u at. each u (Contains-there t tables u at)) in
    let first = each t (Contains-here t tables) in
    (λ i. first i +ℤ rest i)
