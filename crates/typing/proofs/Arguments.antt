-- The faults of the terms of an atom, found one after another.
use Rattle.std.proofs.Common.{◌≡◌, ℕ, ◌+◌, ◌<◌, ◌≤◌, List, [], ◌∷◌, ◌++◌, map, length, get_or, drop, slice_get, Option, refl, ap, sym, ◌∙◌, arith, zero, suc}
use Rattle.std.proofs.lemmas.List.{drop_more, drop_all}
use Rattle.model.specs.Task as task
use Rattle.model.specs.Trees as tree
use Rattle.model.specs.Trees.{TaskFile}
use Rattle.model.specs.Typing.{Known, terms_faults, term_faults, misfit_faults}
use Rattle.typing.specs.Scope.{argument_faults}
use Rattle.typing.specs.Walk.{Findings, found}
use Rattle.typing.proofs.Found.{found-append}

drop-nil : {X : Type 0} (n : ℕ) → drop {A = X} n [] ≡ []
drop-nil zero = refl
drop-nil (suc n) = refl

-- the first remaining element is the one at the index
first_left : {X : Type 0} (xs : List X) (i : ℕ) → slice_get (drop i xs) 0 ≡ slice_get xs i
first_left [] zero = refl
first_left [] (suc i) = refl
first_left (x ∷ xs) zero = refl
first_left (x ∷ xs) (suc i) = first_left xs i

-- and the rest without it is what remains after the index
rest_left : {X : Type 0} (xs : List X) (i : ℕ) → drop 1 (drop i xs) ≡ drop (i + 1) xs
rest_left [] i = ap (drop 1) (drop-nil i) ∙ sym (drop-nil (i + 1))
rest_left (x ∷ xs) zero = refl
rest_left (x ∷ xs) (suc i) =
    let same : suc (i + 1) ≡ suc i + 1 = omega arith in
    rest_left xs i ∙ ap (λ n. drop n (x ∷ xs)) same

-- one more term
pub argument_step : {X : Type 0} (file : TaskFile) (known : Known) (arguments : List task.Union) (seen : X → tree.Term) (xs : List X) (i : ℕ) (d : X) → i < length xs
    → (required_types : Option task.Union) → required_types ≡ slice_get arguments i → (least new whole : Findings) → new ≡ found least (argument_faults file known required_types (seen (get_or xs i d)))
    → found least (terms_faults file known (drop i arguments) (map seen (drop i xs))) ≡ whole
    → found new (terms_faults file known (drop (i + 1) arguments) (map seen (drop (i + 1) xs))) ≡ whole
argument_step file known arguments seen xs i d l required_types is least new whole finds h =
    let x = seen (get_or xs i d) in
    let rest = terms_faults file known (drop (i + 1) arguments) (map seen (drop (i + 1) xs)) in
    let own = term_faults file known x in let misfit = misfit_faults file known (slice_get arguments i) x in
    let parts : terms_faults file known (drop i arguments) (map seen (drop i xs)) ≡ (own ++ misfit) ++ rest =
    ap (λ ys. terms_faults file known (drop i arguments) (map seen ys)) (drop_more xs i d l)
    ∙ (λ j. (own ++ misfit_faults file known (first_left arguments i j) x) ++ terms_faults file known (rest_left arguments i j) (map seen (drop (i + 1) xs))) in
    ap (λ o. found o rest) (finds ∙ ap (λ w. found least (argument_faults file known w x)) is) ∙ sym (found-append least (own ++ misfit) rest) ∙ sym (ap (found least) parts) ∙ h

-- and the end
pub argument_end : {X : Type 0} (file : TaskFile) (known : Known) (arguments : List task.Union) (seen : X → tree.Term) (xs : List X) (i : ℕ) → length xs ≤ i
    → (least whole : Findings) → found least (terms_faults file known (drop i arguments) (map seen (drop i xs))) ≡ whole → least ≡ whole
argument_end file known arguments seen xs i l least whole h =
    sym (ap (λ ys. found least (terms_faults file known (drop i arguments) (map seen ys))) (drop_all i xs l)) ∙ h
