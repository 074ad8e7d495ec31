-- Values begin with the constants, and then get weights.
use Rattle.std.proofs.Common.{◌≡◌, ℕ, zero, suc, ◌+◌, ◌<◌, ◌≤◌, List, [], ◌∷◌, ◌++◌, map, length, slice_set, Some, refl, sym, ap, ◌∙◌, arith}
use Rattle.std.specs.Prelude.{ℤ, slice_get}
use Rattle.std.specs.List.{range_with_len}
use Rattle.lower_bounds.specs.PotentialFunctions.{PotentialFunction}
use Rattle.certificate_definitions.specs.CertificateNames.{weight_said}
use Rattle.certificate.specs.declared.evidence.WrittenPotentials.{WrittenPotentials}
use Rattle.certificate.specs.Evidence.{potential_of}
use Rattle.cert_checker.specs.Given.{push_at, value_given, with_weight, with_weights_from}

pub set_pushes : (xs : List WrittenPotentials) (place : ℕ) (x y : WrittenPotentials) (w : ℤ) → slice_get xs place ≡ Some x → potential_of y ≡ with_weight (potential_of x) w
    → map potential_of (slice_set xs place y) ≡ push_at place w (map potential_of xs)
set_pushes [] place x y w at is = absurd (cc)
set_pushes (z ∷ xs) zero x y w at is = let same : x ≡ z = cc in ap (λ p. p ∷ map potential_of xs) (is ∙ ap (λ x. with_weight (potential_of x) w) same)
set_pushes (z ∷ xs) (suc place) x y w at is = ap (λ values. potential_of z ∷ values) (set_pushes xs place x y w at is)

-- the first `count` values have one more weight each; the first is at this index
abbrev pub pushed_to : (start count : ℕ) → List ℤ → List PotentialFunction → List PotentialFunction
pushed_to start zero weights values = values
pushed_to start (suc count) weights [] = []
pushed_to start (suc count) weights (p ∷ values) = with_weight p (weight_said start weights) ∷ pushed_to (start + 1) count weights values

pub pushed_more : (start count : ℕ) (weights : List ℤ) (values : List PotentialFunction) → count < length values
    → push_at count (weight_said (start + count) weights) (pushed_to start count weights values) ≡ pushed_to start (suc count) weights values
pushed_more start zero weights [] below = absurd (omega (arith, below))
pushed_more start zero weights (p ∷ values) below = let same : start + 0 ≡ start = omega arith in ap (λ n. with_weight p (weight_said n weights) ∷ values) same
pushed_more start (suc count) weights [] below = absurd (omega (arith, below))
pushed_more start (suc count) weights (p ∷ values) below =
    let same : start + suc count ≡ (start + 1) + count = omega arith in
    ap (λ n. with_weight p (weight_said start weights) ∷ push_at count (weight_said n weights) (pushed_to (start + 1) count weights values)) same
    ∙ ap (λ values. with_weight p (weight_said start weights) ∷ values) (pushed_more (start + 1) count weights values (omega (arith, below)))

pub pushed_all : (start count : ℕ) (weights : List ℤ) (values : List PotentialFunction) → length values ≤ count → pushed_to start count weights values ≡ with_weights_from start weights values
pushed_all start zero weights [] past = refl
pushed_all start zero weights (p ∷ values) past = absurd (omega (arith, past))
pushed_all start (suc count) weights [] past = refl
pushed_all start (suc count) weights (p ∷ values) past =
    ap (λ values. with_weight p (weight_said start weights) ∷ values) (pushed_all (start + 1) count weights values (omega (arith, past)))

pub length-pushed : (start count : ℕ) (weights : List ℤ) (values : List PotentialFunction) → length (pushed_to start count weights values) ≡ length values
length-pushed start zero weights values = refl
length-pushed start (suc count) weights [] = refl
length-pushed start (suc count) weights (p ∷ values) = ap suc (length-pushed (start + 1) count weights values)

-- one value more begins
pub begun_more : (constants : List ℤ) (start count : ℕ)
    → map (value_given constants []) (range_with_len start (suc count)) ≡ map (value_given constants []) (range_with_len start count) ++ record { constant = weight_said (start + count) constants; weights = [] } ∷ []
begun_more constants start zero = let same : start + 0 ≡ start = omega arith in ap (λ n. value_given constants [] n ∷ []) (sym same)
begun_more constants start (suc count) =
    let same : (start + 1) + count ≡ start + suc count = omega arith in
    ap (λ values. value_given constants [] start ∷ values) (begun_more constants (start + 1) count)
    ∙ ap (λ n. value_given constants [] start ∷ (map (value_given constants []) (range_with_len (start + 1) count) ++ value_given constants [] n ∷ [])) same
