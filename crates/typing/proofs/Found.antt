-- How the faults found grow along a list.
use Rattle.std.proofs.Common.{◌≡◌, ℕ, zero, suc, arith, ◌+◌, ◌<◌, ◌≤◌, List, [], ◌∷◌, ◌++◌, map, length, get_or, drop, take, refl, ap, sym, ◌∙◌, if◌then◌else◌}
use Rattle.std.proofs.lemmas.List.{at_drop_more, at_drop_all, drop_more, drop_all, map-append, take_all, append_assoc, append-nil}
use Rattle.std.proofs.lemmas.List.Folds.{flat_map-map}
use Rattle.std.proofs.lemmas.List.Sums.{fold-append}
use Rattle.std.specs.List.{flat_map}
use Rattle.model.specs.Task as task
use Rattle.model.specs.Typing.{Placed, TypingFault, refused, repeated_after, with_name, is_known}
use Rattle.typing.specs.Walk.{Findings, found, with_fault}

pub map-map : {X Y Z : Type 0} (F : Y → Z) (g : X → Y) (xs : List X) → map F (map g xs) ≡ map (λ x. F (g x)) xs
map-map F g [] = refl
map-map F g (x ∷ xs) = ap (λ ys. F (g x) ∷ ys) (map-map F g xs)

pub found-append : (least : Findings) (fs gs : List TypingFault) → found least (fs ++ gs) ≡ found (found least fs) gs
found-append least fs gs = fold-append with_fault least fs gs

-- what was found, followed by more
pub found_after : (before middle last : Findings) (fs gs : List TypingFault) → middle ≡ found before fs → last ≡ found middle gs → last ≡ found before (fs ++ gs)
found_after before middle last fs gs m l = l ∙ ap (λ o. found o gs) m ∙ sym (found-append before fs gs)

-- one more element, and the end
pub found_more : {X : Type 0} (F : X → List TypingFault) (least : Findings) (xs : List X) (i : ℕ) (d : X) → i < length xs
    → found least (flat_map F (drop i xs)) ≡ found (found least (F (get_or xs i d))) (flat_map F (drop (i + 1) xs))
found_more F least xs i d l =
    at_drop_more (λ ys. found least (flat_map F ys)) xs i d l ∙ found-append least (F (get_or xs i d)) (flat_map F (drop (i + 1) xs))

pub found_all : {X : Type 0} (F : X → List TypingFault) (least : Findings) (xs : List X) (i : ℕ) → length xs ≤ i
    → found least (flat_map F (drop i xs)) ≡ least
found_all F least xs i l = at_drop_all (λ ys. found least (flat_map F ys)) xs i l

-- one step of a walk over a list
pub found_step : {X : Type 0} (F : X → List TypingFault) (xs : List X) (i : ℕ) (x : X) → i < length xs → x ≡ get_or xs i x
    → (least new whole : Findings) → new ≡ found least (F x)
    → found least (flat_map F (drop i xs)) ≡ whole → found new (flat_map F (drop (i + 1) xs)) ≡ whole
found_step F xs i x l is least new whole finds h =
    ap (λ o. found o (flat_map F (drop (i + 1) xs))) (finds ∙ ap (λ y. found least (F y)) is) ∙ sym (found_more F least xs i x l) ∙ h

-- the same, by the index of the element
pub found_at : {X : Type 0} (F : X → List TypingFault) (xs : List X) (i : ℕ) (d : X) → i < length xs
    → (least new whole : Findings) → new ≡ found least (F (get_or xs i d))
    → found least (flat_map F (drop i xs)) ≡ whole → found new (flat_map F (drop (i + 1) xs)) ≡ whole
found_at F xs i d l least new whole finds h =
    ap (λ o. found o (flat_map F (drop (i + 1) xs))) finds ∙ sym (found_more F least xs i d l) ∙ h

-- one more declaration
pub found_repeated : (least : Findings) (before : List task.Name) (w : Placed) (rest : List Placed)
    → found least (refused 16 (repeated_after before (w ∷ rest)))
    ≡ found (found least (refused 16 (if is_known before w.word then w ∷ [] else []))) (refused 16 (repeated_after (with_name before w.word) rest))
found_repeated least before w rest =
    ap (found least) (map-append _ (if is_known before w.word then w ∷ [] else []) (repeated_after (with_name before w.word) rest))
    ∙ found-append least (refused 16 (if is_known before w.word then w ∷ [] else [])) (refused 16 (repeated_after (with_name before w.word) rest))

-- what is found after one more declaration of a list
pub found_declared : {X : Type 0} (placed_as : X → Placed) (xs : List X) (i : ℕ) (x : X) → i < length xs → x ≡ get_or xs i x
    → (before after : List task.Name) (least new whole : Findings)
    → after ≡ with_name before (placed_as x).word
    → new ≡ found least (refused 16 (if is_known before (placed_as x).word then placed_as x ∷ [] else []))
    → found least (refused 16 (repeated_after before (map placed_as (drop i xs)))) ≡ whole
    → found new (refused 16 (repeated_after after (map placed_as (drop (i + 1) xs)))) ≡ whole
found_declared placed_as xs i x l is before after least new whole names finds h =
    let rest = drop (i + 1) xs in
    let split : drop i xs ≡ x ∷ rest = drop_more xs i x l ∙ ap (λ y. y ∷ rest) (sym is) in
    ap (λ ks. found new (refused 16 (repeated_after ks (map placed_as rest)))) names
    ∙ ap (λ o. found o (refused 16 (repeated_after (with_name before (placed_as x).word) (map placed_as rest)))) finds
    ∙ sym (found_repeated least before (placed_as x) (map placed_as rest))
    ∙ ap (λ ys. found least (refused 16 (repeated_after before (map placed_as ys)))) (sym split)
    ∙ h

-- the element at an index, whatever the default
pub got_twice : {X : Type 0} (xs : List X) (i : ℕ) (d : X) → i < length xs → get_or xs i d ≡ get_or xs i (get_or xs i d)
got_twice [] i d l = absurd (omega (arith, l))
got_twice (x ∷ xs) zero d l = refl
got_twice (x ∷ xs) (suc i) d l = other d (get_or xs i d) xs i (omega (arith, l))
  where
    other : {X : Type 0} (d e : X) (ys : List X) (k : ℕ) → k < length ys → get_or ys k d ≡ get_or ys k e
    other d e [] k m = absurd (omega (arith, m))
    other d e (y ∷ ys) zero m = refl
    other d e (y ∷ ys) (suc k) m = other d e ys k (omega (arith, m))

pub found_declared_at : {X : Type 0} (placed_as : X → Placed) (xs : List X) (i : ℕ) (d : X) → i < length xs
    → (before after : List task.Name) (least new whole : Findings)
    → after ≡ with_name before (placed_as (get_or xs i d)).word
    → new ≡ found least (refused 16 (if is_known before (placed_as (get_or xs i d)).word then placed_as (get_or xs i d) ∷ [] else []))
    → found least (refused 16 (repeated_after before (map placed_as (drop i xs)))) ≡ whole
    → found new (refused 16 (repeated_after after (map placed_as (drop (i + 1) xs)))) ≡ whole
found_declared_at placed_as xs i d l = found_declared placed_as xs i (get_or xs i d) l (got_twice xs i d l)

-- a list that grows by what each element gives, by one more element, and at the end
pub grown_more : {X Z : Type 0} (F : X → List Z) (xs : List X) (i : ℕ) (x : X) → i < length xs → x ≡ get_or xs i x
    → (old new whole : List Z) → new ≡ old ++ F x
    → old ++ flat_map F (drop i xs) ≡ whole → new ++ flat_map F (drop (i + 1) xs) ≡ whole
grown_more F xs i x l is old new whole adds h =
    let rest = drop (i + 1) xs in
    let split : drop i xs ≡ x ∷ rest = drop_more xs i x l ∙ ap (λ y. y ∷ rest) (sym is) in
    ap (λ zs. zs ++ flat_map F rest) adds ∙ append_assoc old (F x) (flat_map F rest) ∙ ap (λ ys. old ++ flat_map F ys) (sym split) ∙ h

pub grown_all : {X Z : Type 0} (F : X → List Z) (xs : List X) (i : ℕ) → length xs ≤ i → (old whole : List Z)
    → old ++ flat_map F (drop i xs) ≡ whole → old ≡ whole
grown_all F xs i l old whole h = sym (append-nil old) ∙ ap (λ ys. old ++ flat_map F ys) (sym (drop_all i xs l)) ∙ h

pub mapped_more : {X Z : Type 0} (F : X → Z) (xs : List X) (i : ℕ) (d : X) → i < length xs
    → (z : Z) → z ≡ F (get_or xs i d) → (old new whole : List Z) → new ≡ old ++ z ∷ []
    → old ++ map F (drop i xs) ≡ whole → new ++ map F (drop (i + 1) xs) ≡ whole
mapped_more F xs i d l z is old new whole adds h =
    let rest = drop (i + 1) xs in
    ap (λ zs. zs ++ map F rest) (adds ∙ ap (λ y. old ++ y ∷ []) is) ∙ append_assoc old (F (get_or xs i d) ∷ []) (map F rest) ∙ ap (λ ys. old ++ map F ys) (sym (drop_more xs i d l)) ∙ h

pub mapped_all : {X Z : Type 0} (F : X → Z) (xs : List X) (i : ℕ) → length xs ≤ i → (old whole : List Z)
    → old ++ map F (drop i xs) ≡ whole → old ≡ whole
mapped_all F xs i l old whole h = sym (append-nil old) ∙ ap (λ ys. old ++ map F ys) (sym (drop_all i xs l)) ∙ h

-- a list built element by element, at the end
pub map_to_end : {X Z : Type 0} (F : X → Z) (xs ys : List X) (i : ℕ) (zs : List Z) → zs ≡ map F (take i xs) → length xs ≤ i → xs ≡ ys → zs ≡ map F ys
map_to_end F xs ys i zs e l s = e ∙ ap (map F) (take_all i xs l ∙ s)

pub map_taken : {X Y Z : Type 0} (F : Y → Z) (g : X → Y) (xs ys : List X) (i : ℕ) (zs : List Z) → zs ≡ map (λ x. F (g x)) (take i xs) → length xs ≤ i → xs ≡ ys
    → zs ≡ map F (map g ys)
map_taken F g xs ys i zs e l s = map_to_end (λ x. F (g x)) xs ys i zs e l s ∙ sym (map-map F g ys)

-- what a walk over a list has found at the end
pub found_to_end : {X : Type 0} (F : X → List TypingFault) (xs ys : List X) (i : ℕ) (least before : Findings)
    → found least (flat_map F (drop i xs)) ≡ found before (flat_map F xs) → length xs ≤ i → xs ≡ ys → least ≡ found before (flat_map F ys)
found_to_end F xs ys i least before e l s = sym (found_all F least xs i l) ∙ e ∙ ap (λ zs. found before (flat_map F zs)) s

-- the same for a list that is read
pub found_walked : {X Y : Type 0} (F : Y → List TypingFault) (g : X → Y) (xs ys : List X) (i : ℕ) (least before : Findings)
    → found least (flat_map (λ x. F (g x)) (drop i xs)) ≡ found before (flat_map (λ x. F (g x)) xs) → length xs ≤ i → xs ≡ ys
    → least ≡ found before (flat_map F (map g ys))
found_walked F g xs ys i least before e l s =
    found_to_end (λ x. F (g x)) xs ys i least before e l s ∙ ap (found before) (sym (flat_map-map F g ys))
