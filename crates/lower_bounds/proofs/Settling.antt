-- A single changed weight, and when a potential function is settled.
use Rattle.std.proofs.Common.{◌≡◌, ◌∙◌, ℕ, zero, suc, ◌<◌, ◌≤◌, ◌≢◌, inl, inr, Bool, true, false, List, [], ◌∷◌, set, get_or, length, length-set, refl, sym, ap, subst, arith, ℤ, pos, ◌+ℤ◌, neg_ℤ, ◌≤ℤ◌}
use Rattle.std.specs.Prelude.{if◌then◌else◌, All}
use Rattle.std.specs.Int.{int_max}
use Rattle.std.proofs.lemmas.Bool.{cases_eq, cases_lt}
use Rattle.std.proofs.lemmas.List.{get_or-set_same, get_or-set_other}
use Rattle.std.proofs.lemmas.Int.{ints, by_lt_z}
use Rattle.model.specs.Task.{Atom, Task, Instance}
use Rattle.model.specs.NumberedLiterals.{NumberedLiteral}
use Rattle.lower_bounds.specs.PotentialFunctions.{PotentialFunction, weight, sum_below, given, IsInRange}
use Rattle.lower_bounds.specs.FairPotentials.{says, goal_gives, goal_gives_at_most, AreFairAt}
use Rattle.lower_bounds.specs.Settled.{AreNear, initial_value, IsSettledAt}
use Rattle.lower_bounds.proofs.Sums.{sum-changed}

-- ---- one weight changed

pub weight-here : (weights : List ℤ) (n : ℕ) (w : ℤ) → n < length weights → weight (set weights n w) n ≡ w
weight-here weights n w within = get_or-set_same weights n w (pos 0) within

pub weight-other : (weights : List ℤ) (n k : ℕ) (w : ℤ) → k ≢ n → weight (set weights n w) k ≡ weight weights k
weight-other weights n k w other = get_or-set_other weights n k w (pos 0) other

weight-past : (weights : List ℤ) (n : ℕ) → length weights ≤ n → weight weights n ≡ pos 0
weight-past [] n past = refl
weight-past (w ∷ weights) zero past = absurd (omega arith)
weight-past (w ∷ weights) (suc n) past = weight-past weights n (omega arith)

-- a weight after it is set; past the end it can only be 0
weight-set : (weights : List ℤ) (n : ℕ) (w : ℤ) → (length weights ≤ n → w ≡ pos 0) → weight (set weights n w) n ≡ w
weight-set [] n w past = sym (past (omega arith))
weight-set (v ∷ weights) zero w past = refl
weight-set (v ∷ weights) (suc n) w past = weight-set weights n w (λ le. past (omega arith))

pub gives-set : (count : ℕ) (weights : List ℤ) (n : ℕ) (w : ℤ) (literals : List NumberedLiteral) → n < count → count ≡ length weights
    → (goal_gives_at_most count (set weights n w) literals +ℤ goal_gives literals weights n) ≡ (goal_gives_at_most count weights literals +ℤ goal_gives literals (set weights n w) n)
gives-set count weights n w literals within is =
    sum-changed count (goal_gives literals (set weights n w)) (goal_gives literals weights) n within
    (λ k below other. ap (λ v. if says literals k false then pos 0 else if says literals k true then v else int_max (pos 0) v) (weight-other weights n k w other))

pub given-set : (count : ℕ) (weights : List ℤ) (n : ℕ) (w : ℤ) (bits : List Bool) → n < count → count ≡ length weights
    → (sum_below count (given (set weights n w) bits) +ℤ given weights bits n) ≡ (sum_below count (given weights bits) +ℤ given (set weights n w) bits n)
given-set count weights n w bits within is =
    sum-changed count (given (set weights n w) bits) (given weights bits) n within
    (λ k below other. ap (λ v. if get_or bits k false then v else pos 0) (weight-other weights n k w other))

pub set-range : (weights : List ℤ) (n : ℕ) (w : ℤ) → All IsInRange weights → IsInRange w → All IsInRange (set weights n w)
set-range weights n w all fits k d below =
    elim (cases_eq k n) [
      | inl is ↦ subst IsInRange (sym (ap (λ j. get_or (set weights n w) j d) is ∙ get_or-set_same weights n w d (subst (λ j. j < length weights) is (omega (arith, length-set {A = ℤ} weights n w))))) fits
      | inr other ↦ subst IsInRange (sym (get_or-set_other weights n k w d other)) (all k d (omega (arith, length-set {A = ℤ} weights n w)))
    ]

-- ---- neighbours

-- lists of the same length with the same weights are equal
same-weights : (ws vs : List ℤ) → length ws ≡ length vs → ((n : ℕ) → weight ws n ≡ weight vs n) → ws ≡ vs
same-weights [] [] e each = refl
same-weights [] (v ∷ vs) e each = absurd (omega arith)
same-weights (w ∷ ws) [] e each = absurd (omega arith)
same-weights (w ∷ ws) (v ∷ vs) e each =
    let first = each 0 in
    let rest = same-weights ws vs (omega arith) (λ n. each (suc n)) in
    cc

abbrev pub potentials : ℤ → List ℤ → PotentialFunction
potentials constant weights = record { constant = constant; weights = weights }

near-weights : (p q : PotentialFunction) (near : AreNear p q) → q.weights ≡ set p.weights near.number (weight q.weights near.number)
near-weights p q near =
    let long = near.as_many in
    same-weights q.weights (set p.weights near.number (weight q.weights near.number)) (omega (arith, length-set {A = ℤ} p.weights near.number (weight q.weights near.number)))
    (λ k. elim (cases_eq k near.number) [
      | inl is ↦ ap (weight q.weights) is
          ∙ sym (weight-set p.weights near.number (weight q.weights near.number) (λ past. weight-past q.weights near.number (omega arith)))
          ∙ ap (weight (set p.weights near.number (weight q.weights near.number))) (sym is)
      | inr other ↦ near.others k other ∙ sym (weight-other p.weights near.number k (weight q.weights near.number) other)
    ])

set-same : (weights : List ℤ) (n : ℕ) → set weights n (weight weights n) ≡ weights
set-same [] n = refl
set-same (w ∷ weights) zero = refl
set-same (w ∷ weights) (suc n) = ap (λ l. w ∷ l) (set-same weights n)

-- ---- settled

-- with these weights, no constant gives potentials that are fair at this allowance and better
pub record IsNoneBetter (allowance : Instance → ℕ) (task : Task) (atoms : List Atom) (p : PotentialFunction) (weights : List ℤ) : Type 0 where
  pub none : (constant : ℤ) → IsInRange constant → AreFairAt allowance task atoms (potentials constant weights) → initial_value task atoms (potentials constant weights) ≤ initial_value task atoms p

-- one less and one more are tried
pub record IsTried (allowance : Instance → ℕ) (task : Task) (atoms : List Atom) (p : PotentialFunction) (n : ℕ) : Type 0 where
  pub less : IsInRange (weight p.weights n +ℤ neg_ℤ (pos 1)) → IsNoneBetter allowance task atoms p (set p.weights n (weight p.weights n +ℤ neg_ℤ (pos 1)))
  pub more : IsInRange (weight p.weights n +ℤ pos 1) → IsNoneBetter allowance task atoms p (set p.weights n (weight p.weights n +ℤ pos 1))

by-one : {P : Type 0} (x w : ℤ) → w ≤ℤ (x +ℤ pos 1) → x ≤ℤ (w +ℤ pos 1) → (x ≡ (w +ℤ neg_ℤ (pos 1)) → P) → (x ≡ w → P) → (x ≡ (w +ℤ pos 1) → P) → P
by-one x w low high less same more =
    by_lt_z x w (λ below. less (omega (arith, ints))) (λ above. by_lt_z w x (λ over. more (omega (arith, ints))) (λ under. same (omega (arith, ints))))

-- potentials for which the constant and each weight was tried are settled
pub settled : (allowance : Instance → ℕ) (task : Task) (atoms : List Atom) (p : PotentialFunction) → IsNoneBetter allowance task atoms p p.weights → ((n : ℕ) → n < length p.weights → IsTried allowance task atoms p n) → IsSettledAt allowance task atoms p
settled allowance task atoms p constant tried = record {
  none_better = λ q in_range fair near.
      let n = near.number in
      let w = weight p.weights n in
      let x = weight q.weights n in
      let are = near-weights p q near in
      let long = near.as_many in
      let done = λ (weights : List ℤ) (is : q.weights ≡ weights) (none : IsNoneBetter allowance task atoms p weights).
      subst (λ l. initial_value task atoms (potentials q.constant l) ≤ initial_value task atoms p) (sym is) (none.none q.constant in_range.constant (subst (λ l. AreFairAt allowance task atoms (potentials q.constant l)) is fair)) in
      let fits = λ (below : n < length p.weights). in_range.weights n (pos 0) (omega arith) in
      elim (cases_lt n (length p.weights)) [
        | inl below ↦
            by-one x w near.least near.most
            (λ e. done (set p.weights n (w +ℤ neg_ℤ (pos 1))) (are ∙ ap (set p.weights n) e) ((tried n below).less (subst IsInRange e (fits below))))
            (λ e. done p.weights (are ∙ ap (set p.weights n) e ∙ set-same p.weights n) constant)
            (λ e. done (set p.weights n (w +ℤ pos 1)) (are ∙ ap (set p.weights n) e) ((tried n below).more (subst IsInRange e (fits below))))
        | inr past ↦
            let e : x ≡ w = weight-past q.weights n (omega arith) ∙ sym (weight-past p.weights n past) in
            done p.weights (are ∙ ap (set p.weights n) e ∙ set-same p.weights n) constant
      ];
}
