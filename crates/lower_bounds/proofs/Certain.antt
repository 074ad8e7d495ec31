-- If no change under a `when` affects an atom of the scope, each row has exactly one successor.
use Rattle.std.proofs.Common.{◌≡◌, ◌∙◌, ℕ, Bool, true, false, not, ◌&&◌, ◌||◌, List, [], ◌∷◌, ◌++◌, map, refl}
use Rattle.std.specs.Prelude.{if◌then◌else◌, cond}
use Rattle.std.specs.Bool.{beq}
use Rattle.lower_bounds.specs.FairPotentials.{makes}
use Rattle.lower_bounds.specs.TableFunctions.{is_among}
use Rattle.lower_bounds.specs.TableLaws.{after_certain, CertainChangesHaveOneAfter}
use Rattle.lower_bounds.proofs.TableLists.{among-here, among-there}

one-after : (added deleted before : Bool) (number : ℕ) (rest : List ℕ)
    → (let may = λ (after : Bool). (if added then after else beq after (before && not deleted) || false) in
    (if may true then (number ∷ rest) ∷ [] else []) ++ (if may false then rest ∷ [] else [])) ≡ cond (added || (before && not deleted)) (number ∷ rest) rest ∷ []
one-after true deleted before number rest = refl
one-after false true true number rest = refl
one-after false true false number rest = refl
one-after false false true number rest = refl
one-after false false false number rest = refl

pub certain_changes : CertainChangesHaveOneAfter
certain_changes changes [] before none = refl
certain_changes changes (n ∷ scope) before none =
    let rest = certain_changes changes scope before (λ k value there. none k value (among-there n scope k there)) in
    let never = λ (value : Bool). none n value (among-here n scope) in
    let was = is_among before n in
    let parts = λ (r f : Bool) (l : List (List ℕ)).
    (if (if makes changes true true n then true else beq true (was && not (makes changes true false n)) || r) then map (λ x. n ∷ x) l else [])
    ++ (if (if makes changes true true n then false else beq false (was && not (makes changes true false n)) || f) then l else []) in
    (λ i. parts (never true i) (never false i) (rest i)) ∙ one-after (makes changes true true n) (makes changes true false n) was n (after_certain changes scope before)
