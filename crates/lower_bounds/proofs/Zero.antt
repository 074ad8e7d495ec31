-- The potential function whose constant and weights are 0 is fair, and dead-fair.
use Rattle.std.proofs.Common.{◌≡◌, ◌∙◌, ℕ, zero, suc, Bool, true, false, List, [], ◌∷◌, length, get_or, refl, ap, arith, ℤ, pos}
use Rattle.std.specs.Prelude.{if◌then◌else◌, All, map, fold, replicate}
use Rattle.std.specs.Int.{int_max}
use Rattle.std.proofs.lemmas.Int.{ints, clamps}
use Rattle.model.specs.Task.{Atom, Task, Instance}
use Rattle.model.specs.Meaning.{cost_of}
use Rattle.model.specs.StaticallyFalse.{kept_instances}
use Rattle.model.specs.NumberedLiterals.{NumberedLiteral, NumberedChange, literals_of_instance, literals_of_goal, counting_of_instance}
use Rattle.lower_bounds.specs.PotentialFunctions.{PotentialFunction, weight, IsInRange}
use Rattle.lower_bounds.specs.FairPotentials.{says, touches, Pair, pairs, loss, greatest, worst, loses, loses_at_most, goal_gives, goal_gives_at_most, AreFairAt, AreFair, nothing, AreDeadFair}
use Rattle.lower_bounds.proofs.Sums.{sum-alike, sum-zero}
use Rattle.lower_bounds.proofs.Ranges.{zero-range}

abbrev zeros : ℕ → List ℤ
zeros count = replicate count (pos 0)

weight-zeros : (count n : ℕ) → weight (zeros count) n ≡ pos 0
weight-zeros zero n = refl
weight-zeros (suc count) zero = refl
weight-zeros (suc count) (suc n) = weight-zeros count n

loss-zero : (p : Pair) → loss (pos 0) p ≡ pos 0
loss-zero p = of_bits p.before p.after
  where
    of_bits : (before after : Bool) → loss (pos 0) (record { before = before; after = after }) ≡ pos 0
    of_bits true true = refl
    of_bits true false = refl
    of_bits false true = refl
    of_bits false false = refl

greatest-zero : (ps : List Pair) → greatest (map (loss (pos 0)) ps) ≡ pos 0
greatest-zero [] = refl
greatest-zero (p ∷ ps) = from (loss (pos 0) p) (loss-zero p) ps
  where
    from : (first : ℤ) → first ≡ pos 0 → (ps : List Pair) → fold int_max first (map (loss (pos 0)) ps) ≡ pos 0
    from first is [] = is
    from first is (q ∷ qs) =
        let e = loss-zero q in
        from (int_max first (loss (pos 0) q)) (omega (arith, ints, clamps)) qs

loses-zero : (literals : List NumberedLiteral) (changes : List NumberedChange) (count : ℕ) → loses_at_most count (zeros count) literals changes ≡ pos 0
loses-zero literals changes count =
    sum-alike count (loses literals changes (zeros count)) (λ n. pos 0) (λ n below. each n (touches changes n)) ∙ sum-zero count
  where
    each : (n : ℕ) (touched : Bool) → (if touched then worst literals changes (weight (zeros count) n) n else pos 0) ≡ pos 0
    each n true = ap (λ w. worst literals changes w n) (weight-zeros count n) ∙ greatest-zero (pairs literals changes n)
    each n false = refl

gives-zero : (literals : List NumberedLiteral) (count : ℕ) → goal_gives_at_most count (zeros count) literals ≡ pos 0
gives-zero literals count =
    sum-alike count (goal_gives literals (zeros count)) (λ n. pos 0) (λ n below. each (says literals n false) (says literals n true) (weight (zeros count) n) (weight-zeros count n)) ∙ sum-zero count
  where
    each : (says_false says_true : Bool) (w : ℤ) → w ≡ pos 0 → (if says_false then pos 0 else if says_true then w else int_max (pos 0) w) ≡ pos 0
    each true says_true w is = refl
    each false true w is = is
    each false false w is = omega (arith, ints, clamps)

abbrev pub zero_potentials : ℕ → PotentialFunction
zero_potentials count = record { constant = pos 0; weights = zeros count }

-- for any allowances of the instances
pub zero-fair_at : (allowance : Instance → ℕ) (task : Task) (atoms : List Atom) → AreFairAt allowance task atoms (zero_potentials (length atoms))
zero-fair_at allowance task atoms = record {
  instances = λ k d below.
      let i = get_or (kept_instances task) k d in
      let e = loses-zero (literals_of_instance task atoms i) (counting_of_instance task atoms i) (length atoms) in
      record { within = omega (arith, ints) };
  goals =
      let e = gives-zero (literals_of_goal task atoms) (length atoms) in
      record { within = omega (arith, ints) };
}

pub zero-fair : (task : Task) (atoms : List Atom) → AreFair task atoms (zero_potentials (length atoms))
zero-fair task atoms = zero-fair_at (cost_of task) task atoms

pub zero-dead_fair : (task : Task) (atoms : List Atom) → AreDeadFair task atoms (zero_potentials (length atoms))
zero-dead_fair task atoms = zero-fair_at nothing task atoms

pub zeros-range : (count : ℕ) → All IsInRange (zeros count)
zeros-range zero k d below = absurd (omega arith)
zeros-range (suc count) zero d below = zero-range
zeros-range (suc count) (suc k) d below = zeros-range count k d (omega arith)
