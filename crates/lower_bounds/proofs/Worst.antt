-- The greatest loss by an atom, depending on what may happen to it.
use Rattle.std.proofs.Common.{◌≡◌, ℕ, Bool, true, false, ◌||◌, List, [], ◌∷◌, arith, ℤ, pos, neg_ℤ}
use Rattle.std.specs.Prelude.{if◌then◌else◌, map}
use Rattle.std.specs.Int.{int_max}
use Rattle.std.proofs.lemmas.Int.{ints, clamps}
use Rattle.model.specs.NumberedLiterals.{NumberedLiteral, NumberedChange}
use Rattle.lower_bounds.specs.PotentialFunctions.{IsInRange}
use Rattle.lower_bounds.specs.FairPotentials.{Pair, is_pair, loss, greatest, worst}
use Rattle.lower_bounds.proofs.Ranges.{zero-range}

-- the greatest loss for this weight, given whether the atom may fall, stay, or rise
abbrev pub worst_by : Bool → Bool → Bool → ℤ → ℤ
worst_by true stays true w = int_max w (neg_ℤ w)
worst_by true true false w = int_max w (pos 0)
worst_by true false false w = w
worst_by false true true w = int_max (neg_ℤ w) (pos 0)
worst_by false false true w = neg_ℤ w
worst_by false stays false w = pos 0

abbrev chosen : Bool → Pair → List Pair → List Pair
chosen is p rest = if is then p ∷ rest else rest

abbrev from : Bool → Bool → Pair
from before after = record { before = before; after = after }

abbrev among : Bool → Bool → Bool → Bool → List Pair
among ff ft tf tt = chosen ff (from false false) (chosen ft (from false true) (chosen tf (from true false) (chosen tt (from true true) [])))

worst-among : (ff ft tf tt : Bool) (w : ℤ) → worst_by tf (ff || tt) ft w ≡ greatest (map (loss w) (among ff ft tf tt))
worst-among true true true true w = omega (arith, ints, clamps)
worst-among true true true false w = omega (arith, ints, clamps)
worst-among true true false true w = omega (arith, ints, clamps)
worst-among true true false false w = omega (arith, ints, clamps)
worst-among true false true true w = omega (arith, ints, clamps)
worst-among true false true false w = omega (arith, ints, clamps)
worst-among true false false true w = omega (arith, ints, clamps)
worst-among true false false false w = omega (arith, ints, clamps)
worst-among false true true true w = omega (arith, ints, clamps)
worst-among false true true false w = omega (arith, ints, clamps)
worst-among false true false true w = omega (arith, ints, clamps)
worst-among false true false false w = omega (arith, ints, clamps)
worst-among false false true true w = omega (arith, ints, clamps)
worst-among false false true false w = omega (arith, ints, clamps)
worst-among false false false true w = omega (arith, ints, clamps)
worst-among false false false false w = omega (arith, ints, clamps)

pub worst-is : (literals : List NumberedLiteral) (changes : List NumberedChange) (w : ℤ) (n : ℕ)
    → worst_by (is_pair literals changes n (from true false)) (is_pair literals changes n (from false false) || is_pair literals changes n (from true true)) (is_pair literals changes n (from false true)) w
    ≡ worst literals changes w n
worst-is literals changes w n =
    worst-among (is_pair literals changes n (from false false)) (is_pair literals changes n (from false true)) (is_pair literals changes n (from true false)) (is_pair literals changes n (from true true)) w

-- the loss for a weight in range is in range
pub worst-range : (falls stays rises : Bool) (w : ℤ) → IsInRange w → IsInRange (worst_by falls stays rises w)
worst-range true true true w is = let l = is.least in let m = is.most in record { least = omega (arith, ints, clamps); most = omega (arith, ints, clamps) }
worst-range true false true w is = let l = is.least in let m = is.most in record { least = omega (arith, ints, clamps); most = omega (arith, ints, clamps) }
worst-range true true false w is = let l = is.least in let m = is.most in record { least = omega (arith, ints, clamps); most = omega (arith, ints, clamps) }
worst-range true false false w is = is
worst-range false true true w is = let l = is.least in let m = is.most in record { least = omega (arith, ints, clamps); most = omega (arith, ints, clamps) }
worst-range false false true w is = let l = is.least in let m = is.most in record { least = omega (arith, ints); most = omega (arith, ints) }
worst-range false true false w is = zero-range
worst-range false false false w is = zero-range
