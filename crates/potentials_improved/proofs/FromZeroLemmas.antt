-- What improving makes of the potentials that are 0.
use Rattle.std.proofs.Common.{◌≡◌, ℕ, List, length, inl, inr, ap, ◌∙◌, arith, pos}
use Rattle.std.proofs.lemmas.List.{length-replicate}
use Rattle.model.specs.Task.{Task, Atom, Instance}
use Rattle.lower_bounds.specs.PotentialFunctions.{PotentialFunction}
use Rattle.lower_bounds.specs.FairPotentials.{AreFairAt}
use Rattle.lower_bounds.specs.Settled.{IsImprovedAt}
use Rattle.lower_bounds.proofs.Zero.{zero_potentials}
use Rattle.potentials_improved.specs.SettledOrHigh.{AreSettledOrHighAt}

-- what improving gives in 8 rounds
pub improved_end : (allowance : Instance → ℕ) (task : Task) (atoms : List Atom) (p q : PotentialFunction) → AreFairAt allowance task atoms q → IsImprovedAt allowance task atoms 8 p q
    → AreSettledOrHighAt allowance task atoms q
improved_end allowance task atoms p q fair improved = record {
  fair = fair;
  settled_or_high = elim improved.end [
    | inl settled ↦ inl settled
    | inr higher ↦ inr (omega (arith, higher))
  ];
}

-- there are as many weights as it is begun with
pub zero-width : (p : PotentialFunction) (count : ℕ) → p ≡ zero_potentials count → length p.weights ≡ count
zero-width p count is = ap (λ (q : PotentialFunction). length q.weights) is ∙ length-replicate count (pos 0)
