-- Empty lists of faults, and what they imply for declarations.
use Rattle.std.proofs.Common.{◌≡◌, ℕ, ◌≤◌, Bool, true, false, ◌&&◌, List, [], ◌∷◌, ◌++◌, map, length, fold, refl, ap, sym, ◌∙◌, if◌then◌else◌, arith, zero, suc}
use Rattle.std.proofs.lemmas.Bool.Decides.{nat_tests}
use Rattle.std.proofs.lemmas.List.{append_assoc, append-nil}
pub use Rattle.task.proofs.Lists.{nil_left, nil_right}
use Rattle.model.specs.Task as task
use Rattle.model.specs.Typing.{Placed, folded, is_known, with_name, repeated_after, one_after, refused}

pub not_refused : (code : ℕ) (words : List Placed) → refused code words ≡ [] → words ≡ []
not_refused code [] e = refl
not_refused code (w ∷ ws) e = absurd (cc)

none_after : (n : ℕ) (words : List Placed) → one_after n words ≡ [] → length words ≤ n
none_after zero [] e = omega arith
none_after zero (x ∷ xs) e = absurd (cc)
none_after (suc n) [] e = omega arith
none_after (suc n) (x ∷ xs) e = omega (arith, none_after n xs e)

-- a limit that is respected
pub within : (code n : ℕ) (words : List Placed) → refused code (one_after n words) ≡ [] → length words ≤ n
within code n words e = none_after n words (not_refused code (one_after n words) e)

-- names that are not repeated are all kept
pub not_repeated : (before : List task.Name) (words : List Placed) → repeated_after before words ≡ []
    → fold with_name before (map (λ (w : Placed). w.word) words) ≡ before ++ map (λ (w : Placed). folded w.word) words
not_repeated before [] e = sym (append-nil before)
not_repeated before (w ∷ rest) e = by (is_known before w.word) refl e (not_repeated (with_name before w.word) rest)
  where
    by : (b : Bool) → is_known before w.word ≡ b → (if b then w ∷ [] else []) ++ repeated_after (with_name before w.word) rest ≡ []
        → (repeated_after (with_name before w.word) rest ≡ [] → fold with_name (with_name before w.word) (map (λ (v : Placed). v.word) rest) ≡ with_name before w.word ++ map (λ (v : Placed). folded v.word) rest)
        → fold with_name (with_name before w.word) (map (λ (v : Placed). v.word) rest) ≡ before ++ folded w.word ∷ map (λ (v : Placed). folded v.word) rest
    by true t f next = absurd (cc)
    by false t f next =
        next f ∙ ap (λ ks. ks ++ map (λ (v : Placed). folded v.word) rest) (ap (λ b. if b then before else before ++ folded w.word ∷ []) t)
        ∙ append_assoc before (folded w.word ∷ []) (map (λ (v : Placed). folded v.word) rest)

pub and_true : (a b : Bool) → a ≡ true → b ≡ true → (a && b) ≡ true
and_true a b p q = grind (arith, nat_tests)

-- the first of some words that are not repeated are not repeated either
pub first_once : (before : List task.Name) (words more : List Placed) → repeated_after before (words ++ more) ≡ [] → repeated_after before words ≡ []
first_once before [] more e = refl
first_once before (w ∷ words) more e =
    (λ i. sym head i ++ first_once (with_name before w.word) words more (nil_right (if is_known before w.word then w ∷ [] else []) (repeated_after (with_name before w.word) (words ++ more)) e) i)
    ∙ refl
  where
    head : [] ≡ (if is_known before w.word then w ∷ [] else [])
    head = sym (nil_left (if is_known before w.word then w ∷ [] else []) (repeated_after (with_name before w.word) (words ++ more)) e)
