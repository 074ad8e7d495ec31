-- What follows from the estimate of a state by what it stands on.
use Rattle.std.proofs.Common.{ℕ, ◌+◌, ◌<◌, Bool, Option, sym, subst}
use Rattle.std.specs.Prelude.{◌^◌, IfSome}
use Rattle.search.specs.declared.turns.Standing.{Standing}
use Rattle.search.specs.declared.turns.Standing.TheVariants.{Dead, Based}
use Rattle.search.specs.OnDemand.{value_on}
use Rattle.search.specs.Standing.{IsEstimateBy}
use Rattle.search.proofs.Steps.{value_fits}

-- its sum with a cost fits
pub estimate_fits : {S : Type 0} (estimate : S → ℕ) (reported : S → Bool) (s : S) (standing : Standing) (result : Option ℕ) (cost : ℕ) → IsEstimateBy estimate reported s standing result
    → cost < 2 ^ 63 → IfSome result (λ v. cost + v < 2 ^ 64)
estimate_fits estimate reported s Dead result cost none small = subst (λ (r : Option ℕ). IfSome r (λ v. cost + v < 2 ^ 64)) (sym none) tt
estimate_fits estimate reported s (Based rest) result cost of small = value_fits (value_on estimate rest.value) reported s result cost of small
