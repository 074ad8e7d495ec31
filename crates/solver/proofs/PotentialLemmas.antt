-- What is known of potentials in range, and of the values that they give to packed states.
use Rattle.std.proofs.Common.{◌≡◌, ℕ, suc, Bool, true, ◌&&◌, List, [], ◌∷◌, length, refl, ap, ◌∙◌, arith, ℤ, pos, negsuc}
use Rattle.std.specs.Prelude.{◌==◌, All, IsTrue}
use Rattle.std.specs.List.{list_all}
use Rattle.std.proofs.lemmas.Bool.{and_from, lt-ltb, le-leb, eq-eqb}
use Rattle.std.proofs.lemmas.Int.{ints}
use Rattle.model.specs.Task.{Task, Atom}
use Rattle.model.specs.Fluents.{is_fluent}
use Rattle.model.specs.NumberedAtoms.{numbered_atoms}
use Rattle.model.specs.Grounding.{state_of_bits, bits_of_state}
use Rattle.model.proofs.GroundTaskLemmas.{packs_states}
use Rattle.lower_bounds.specs.PotentialFunctions.{PotentialFunction, score, or_zero, value, IsInRange, AreInRange}
use Rattle.search.specs.Estimates.{above_zero, value_by}
use Rattle.certificate_definitions.specs.Certificates.{is_weight, are_potentials}

-- ---- the estimate of a search and the value are one

above-or : (z : ℤ) → above_zero z ≡ or_zero z
above-or (pos n) = refl
above-or (negsuc n) = refl

estimate-value : (p : PotentialFunction) → value_by (score p) ≡ value p
estimate-value p = λ i bits. above-or (score p bits) i

-- where the estimate goes by the score of potentials
pub value_by-value : (by : List Bool → ℤ) (p : PotentialFunction) → by ≡ score p → value_by by ≡ value p
value_by-value by p is = ap (λ (s : List Bool → ℤ). value_by s) is ∙ estimate-value p

-- ---- range

weight-passes : (w : ℤ) → IsInRange w → is_weight w ≡ true
weight-passes (pos n) range = let most = range.most in le-leb n 2147483647 (omega (arith, ints))
weight-passes (negsuc n) range = let least = range.least in lt-ltb n 2147483647 (omega (arith, ints))

weights-pass : (weights : List ℤ) → All IsInRange weights → list_all is_weight weights ≡ true
weights-pass [] all = refl
weights-pass (w ∷ weights) all =
    and_from (is_weight w) (list_all is_weight weights) (weight-passes w (all 0 (pos 0) (omega arith))) (weights-pass weights (λ k d below. all (suc k) d (omega (arith, below))))

-- so they keep the limits of a certificate
pub potentials-pass : (p : PotentialFunction) (count : ℕ) → AreInRange p → length p.weights ≡ count → are_potentials is_weight count p ≡ true
potentials-pass p count range width =
    and_from (is_weight p.constant && (length p.weights == count)) (list_all is_weight p.weights)
    (and_from (is_weight p.constant) (length p.weights == count) (weight-passes p.constant range.constant) (eq-eqb (length p.weights) count width))
    (weights-pass p.weights range.weights)

-- ---- of the ground task

module _ (task : Task) (p : PotentialFunction) where
  abbrev atoms : List Atom
  atoms = numbered_atoms task []

  abbrev none_more : All (λ (a : Atom). IsTrue (is_fluent task a.predicate)) []
  none_more = λ k d below. absurd (omega (arith, below))

  -- a packed state has the value of the state that it stands for
  pub value-packed : (bits : List Bool) → length bits ≡ length atoms → value p (bits_of_state atoms (state_of_bits task atoms bits)) ≡ value p bits
  value-packed bits long = ap (value p) ((packs_states task [] none_more).one_packed bits long)
