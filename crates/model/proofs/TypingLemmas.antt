-- The lists of faults, phase by phase; and types that are their own ancestors.
use Rattle.std.proofs.Common.{◌≡◌, ℕ, zero, suc, List, [], ◌∷◌, Some, refl}
use Rattle.std.specs.Prelude.{slice_get}
use Rattle.model.specs.Typing.{TypingFault, CyclesAreOfAncestors, first_filled, parents_of}
use Rattle.model.proofs.TypeDescent.{comes_back_from, descends_from_itself}

-- if no list is filled, each is empty
pub each_empty : (lists : List (List TypingFault)) → first_filled lists ≡ [] → (place : ℕ) (faults : List TypingFault) → slice_get lists place ≡ Some faults → faults ≡ []
each_empty [] none place faults at = absurd (cc)
each_empty ([] ∷ later) none zero faults at = cc
each_empty ([] ∷ later) none (suc place) faults at = each_empty later none place faults at
each_empty ((f ∷ more) ∷ later) none place faults at = absurd (cc)

pub cycles_are_of_ancestors : CyclesAreOfAncestors
cycles_are_of_ancestors d number positive low =
    (descends_from_itself (parents_of d) number positive low, comes_back_from (parents_of d) refl number positive)
