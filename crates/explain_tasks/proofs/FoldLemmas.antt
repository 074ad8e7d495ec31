-- Lists filled up to a limit, element by element.
use Rattle.std.proofs.Common.{◌≡◌, ℕ, ◌+◌, ◌<◌, ◌≤◌, Bool, true, false, ◌&&◌, cond, List, [], ◌∷◌, ◌++◌, length, take, get_or, refl, sym, ◌∙◌, ap, append_assoc, append-nil, arith}
use Rattle.std.specs.Prelude.{filter, nat_lt}
use Rattle.std.specs.List.{flat_map, fold, range_with_len}
use Rattle.std.proofs.lemmas.Grind.{flat_map-append, fold-append}
use Rattle.std.proofs.lemmas.List.{take_all, take_more, length-append, take-append-le}
use Rattle.std.proofs.lemmas.Bool.Decides.{nat_tests}
use Rattle.task.proofs.Lists.{filter_range_more}

module _ {X Y B : Type 0} (step : B → Y → B) (f : X → List Y) (xs : List X) (i : ℕ) (start : B) where
  -- those so far, and those of the next element
  pub folded_next : (x : X) (now next : B) → i < length xs → x ≡ get_or xs i x → next ≡ fold step now (f x) → now ≡ fold step start (flat_map f (take i xs))
      → next ≡ fold step start (flat_map f (take (i + 1) xs))
  folded_next x now next within at here before =
      here ∙ ap (λ b. fold step b (f x)) before
      ∙ sym (fold-append step start (flat_map f (take i xs)) (f x))
      ∙ ap (λ l. fold step start (flat_map f (take i xs) ++ l)) (sym (append-nil (f x)))
      ∙ ap (fold step start) (sym (flat_map-append f (take i xs) (x ∷ [])))
      ∙ ap (λ l. fold step start (flat_map f l)) (ap (λ y. take i xs ++ y ∷ []) at ∙ sym (take_more xs i x within))

  pub folded_all : (now : B) → length xs ≤ i → now ≡ fold step start (flat_map f (take i xs)) → now ≡ fold step start (flat_map f xs)
  folded_all now past before = before ∙ ap (λ l. fold step start (flat_map f l)) (take_all i xs past)

module _ {X Y B : Type 0} (step : B → Y → B) (f : X → List Y) where
  -- together with those of the remaining elements, the whole list is filled
  pub folded_left : (left rest : List X) (x : X) (now next whole : B) → left ≡ x ∷ rest → next ≡ fold step now (f x) → fold step now (flat_map f left) ≡ whole → fold step next (flat_map f rest) ≡ whole
  folded_left left rest x now next whole steps here so =
      ap (λ b. fold step b (flat_map f rest)) here ∙ sym (fold-append step now (f x) (flat_map f rest)) ∙ ap (λ l. fold step now (flat_map f l)) (sym steps) ∙ so

  pub folded_end : (left : List X) (now whole : B) → left ≡ [] → fold step now (flat_map f left) ≡ whole → now ≡ whole
  folded_end left now whole none so = ap (λ l. fold step now (flat_map f l)) (sym none) ∙ so

-- numbers from 0 on
all_pass : {X : Type 0} (xs : List X) → filter (λ _. true) xs ≡ xs
all_pass [] = refl
all_pass (x ∷ xs) = ap (λ l. x ∷ l) (all_pass xs)

range_more : (n : ℕ) → range_with_len 0 (n + 1) ≡ range_with_len 0 n ++ n ∷ []
range_more n =
    sym (all_pass (range_with_len 0 (n + 1))) ∙ filter_range_more (λ _. true) n ∙ ap (λ l. l ++ n ∷ []) (all_pass (range_with_len 0 n))

pub folded_number : {Y B : Type 0} (step : B → Y → B) (f : ℕ → List Y) (n : ℕ) (start now next : B) → next ≡ fold step now (f n) → now ≡ fold step start (flat_map f (range_with_len 0 n))
    → next ≡ fold step start (flat_map f (range_with_len 0 (n + 1)))
folded_number step f n start now next here before =
    here ∙ ap (λ b. fold step b (f n)) before
    ∙ sym (fold-append step start (flat_map f (range_with_len 0 n)) (f n))
    ∙ ap (λ l. fold step start (flat_map f (range_with_len 0 n) ++ l)) (sym (append-nil (f n)))
    ∙ ap (fold step start) (sym (flat_map-append f (range_with_len 0 n) (n ∷ [])))
    ∙ ap (λ l. fold step start (flat_map f l)) (sym (range_more n))

-- ---- up to a limit

abbrev pub capped : {X : Type 0} → (X → Bool) → ℕ → List X → X → List X
capped p limit found x = cond (nat_lt (length found) limit && p x) (found ++ x ∷ []) found

module _ {X : Type 0} (p : X → Bool) (limit : ℕ) where
  full_stays : (found : List X) → limit ≤ length found → (xs : List X) → fold (capped p limit) found xs ≡ found
  full_stays found full [] = refl
  full_stays found full (x ∷ xs) =
      let no : nat_lt (length found) limit ≡ false = grind (arith, nat_tests) in
      ap (λ b. fold (capped p limit) (cond (b && p x) (found ++ x ∷ []) found) xs) no ∙ full_stays found full xs

  take_full : (found more : List X) → length found ≡ limit → take limit (found ++ more) ≡ found
  take_full found more full =
      let within : limit ≤ length found = omega (arith, full) in
      let past : length found ≤ limit = omega (arith, full) in
      take-append-le limit found more within ∙ take_all limit found past

  -- the list has the first elements that pass
  pub gathered : (found : List X) → length found ≤ limit → (xs : List X) → fold (capped p limit) found xs ≡ take limit (found ++ filter p xs)
  gathered found few [] = sym (ap (take limit) (append-nil found) ∙ take_all limit found few)
  gathered found few (x ∷ xs) =
      elim (p x) as (λ b. p x ≡ b → fold (capped p limit) (cond (nat_lt (length found) limit && b) (found ++ x ∷ []) found) xs ≡ take limit (found ++ cond b (x ∷ filter p xs) (filter p xs))) [
        | false ↦ λ _.
            elim (nat_lt (length found) limit) as (λ c. fold (capped p limit) (cond (c && false) (found ++ x ∷ []) found) xs ≡ take limit (found ++ filter p xs)) [
              | true ↦ gathered found few xs
              | false ↦ gathered found few xs
            ]
        | true ↦ λ _.
            elim (nat_lt (length found) limit) as (λ c. nat_lt (length found) limit ≡ c → fold (capped p limit) (cond (c && true) (found ++ x ∷ []) found) xs ≡ take limit (found ++ x ∷ filter p xs)) [
              | true ↦ λ less.
                  let below : length found < limit = grind (arith, nat_tests) in
                  let room : length (found ++ x ∷ []) ≤ limit = omega (arith, length-append found (x ∷ []), below) in
                  gathered (found ++ x ∷ []) room xs ∙ ap (take limit) (append_assoc found (x ∷ []) (filter p xs))
              | false ↦ λ no.
                  let above : limit ≤ length found = grind (arith, nat_tests) in
                  let full : length found ≡ limit = omega (arith, few, above) in
                  full_stays found above xs ∙ sym (take_full found (x ∷ filter p xs) full)
            ] refl
      ] refl
