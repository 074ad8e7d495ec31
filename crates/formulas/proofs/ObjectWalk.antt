-- A walk over the objects of a variable's types, object by object: the remaining objects decide the rest.
use Rattle.std.proofs.Common.{◌≡◌, ℕ, ◌+◌, ◌-◌, ◌<◌, ◌≤◌, Bool, true, false, ◌&&◌, ◌||◌, cond, List, [], ◌∷◌, ◌++◌, length, refl, sym, ap, ◌∙◌, arith, suc, append_assoc, append-nil}
use Rattle.std.specs.Prelude.{filter}
use Rattle.std.specs.Cmp.{first_so, second_so}
use Rattle.std.specs.List.{list_all, list_any, flat_map, range_with_len}
use Rattle.model.specs.Task as task
use Rattle.model.specs.Meaning.{is_of, objects_of}

-- ---- the numbers from one on that pass a test

module _ (p : ℕ → Bool) (count : ℕ) where
  abbrev pub from_on : ℕ → List ℕ
  from_on n = filter p (range_with_len n (count - n))

  from_here : (n : ℕ) → n < count → range_with_len n (count - n) ≡ n ∷ range_with_len (n + 1) (count - (n + 1))
  from_here n lt =
      let more : count - n ≡ suc (count - (n + 1)) = omega (arith, lt) in
      ap (range_with_len n) more

  pub from_passing : (n : ℕ) → n < count → p n ≡ true → from_on n ≡ n ∷ from_on (n + 1)
  from_passing n lt so = ap (filter p) (from_here n lt) ∙ ap (λ b. cond b (n ∷ from_on (n + 1)) (from_on (n + 1))) so

  pub from_failing : (n : ℕ) → n < count → p n ≡ false → from_on n ≡ from_on (n + 1)
  from_failing n lt not_so = ap (filter p) (from_here n lt) ∙ ap (λ b. cond b (n ∷ from_on (n + 1)) (from_on (n + 1))) not_so

  pub from_end : (n : ℕ) → count ≤ n → from_on n ≡ []
  from_end n past =
      let none : count - n ≡ 0 = omega (arith, past) in
      ap (λ k. filter p (range_with_len n k)) none

filter_passes : (p : ℕ → Bool) (xs : List ℕ) → list_all p (filter p xs) ≡ true
filter_passes p [] = refl
filter_passes p (x ∷ xs) =
    elim (p x) as (λ b. p x ≡ b → list_all p (cond b (x ∷ filter p xs) (filter p xs)) ≡ true) [
      | true ↦ λ is i. is i && filter_passes p xs i
      | false ↦ λ _. filter_passes p xs
    ] refl

-- each of them is of the types
pub all_of : (t : task.Task) (types : task.Union) (left : List ℕ) → left ≡ objects_of t types → list_all (is_of t types) left ≡ true
all_of t types left is = ap (list_all (is_of t types)) is ∙ filter_passes (is_of t types) (range_with_len 0 (length t.objects))

-- ---- the next one, and the rest after it

-- what holds of all holds of the rest
abbrev pub AreAmong : List ℕ → List ℕ → Type 0
AreAmong all left = (p : ℕ → Bool) → list_all p all ≡ true → list_all p left ≡ true

module _ (left rest : List ℕ) (x : ℕ) (steps : left ≡ x ∷ rest) where
  next_passes : (p : ℕ → Bool) → list_all p left ≡ true → p x ≡ true
  next_passes p all = first_so (p x) (list_all p rest) (sym (ap (list_all p) steps) ∙ all)

  pub rest_among : (all : List ℕ) → AreAmong all left → AreAmong all rest
  rest_among all among p so = second_so (p x) (list_all p rest) (sym (ap (list_all p) steps) ∙ among p so)

  -- the next one is of the types
  pub next_of : (t : task.Task) (types : task.Union) (all : List ℕ) → all ≡ objects_of t types → AreAmong all left → is_of t types x ≡ true
  next_of t types all is among = next_passes (is_of t types) (among (is_of t types) (all_of t types all is))

  module _ (test : ℕ → Bool) (whole : Bool) where
    pub all_next : test x ≡ true → list_all test left ≡ whole → list_all test rest ≡ whole
    all_next here so = sym (ap (λ b. b && list_all test rest) here) ∙ sym (ap (list_all test) steps) ∙ so

    pub fails_here : test x ≡ false → list_all test left ≡ whole → false ≡ whole
    fails_here here so = sym (ap (λ b. b && list_all test rest) here) ∙ sym (ap (list_all test) steps) ∙ so

    pub any_next : test x ≡ false → list_any test left ≡ whole → list_any test rest ≡ whole
    any_next here so = sym (ap (λ b. b || list_any test rest) here) ∙ sym (ap (list_any test) steps) ∙ so

    pub passes_here : test x ≡ true → list_any test left ≡ whole → true ≡ whole
    passes_here here so = sym (ap (λ b. b || list_any test rest) here) ∙ sym (ap (list_any test) steps) ∙ so

  pub added_next : {Y : Type 0} (f : ℕ → List Y) (whole before after : List Y) → after ≡ before ++ f x → before ++ flat_map f left ≡ whole → after ++ flat_map f rest ≡ whole
  added_next f whole before after here so =
      ap (λ l. l ++ flat_map f rest) here ∙ append_assoc before (f x) (flat_map f rest) ∙ ap (λ l. before ++ flat_map f l) (sym steps) ∙ so

-- at the end
pub added_all : {Y : Type 0} (f : ℕ → List Y) (whole before : List Y) (left : List ℕ) → left ≡ [] → before ++ flat_map f left ≡ whole → before ≡ whole
added_all f whole before left none so = sym (append-nil before) ∙ ap (λ l. before ++ flat_map f l) (sym none) ∙ so
