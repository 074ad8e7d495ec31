-- Lists of literals of which each is of a bit that a packed state has.
use Rattle.std.proofs.Common.{◌≡◌, ℕ, ◌<◌, List, length, map, get_or, subst, arith}
use Rattle.std.specs.List.{All}
use Rattle.std.proofs.lemmas.List.{length-map, get_or-map}
use Rattle.grounding_instances.specs.declared.numbers.NumberedLiteral.{NumberedLiteral}
use Rattle.grounding_instances.specs.Numbers.{numbered_of}
use Rattle.model.specs.NumberedLiterals as model

-- one of them
pub below-at : (width : ℕ) (literals : List NumberedLiteral) (i : ℕ) (d : NumberedLiteral) → i < length literals
    → All (λ (n : model.NumberedLiteral). n.atom < width) (map numbered_of literals) → (get_or literals i d).atom < width
below-at width literals i d below all =
    subst (λ (n : model.NumberedLiteral). n.atom < width) (get_or-map numbered_of literals i d (numbered_of d) below)
    (all i (numbered_of d) (omega (arith, below, length-map literals numbered_of)))

-- so is it in a list that is as long
pub below-as_long : (a width long : ℕ) → long ≡ width → a < width → a < long
below-as_long a width long same below = omega (arith, same, below)
