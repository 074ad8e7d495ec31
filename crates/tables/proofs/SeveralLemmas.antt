-- Several values over the same tables, one after another.
use Rattle.std.proofs.Common.{◌≡◌, ◌∙◌, ℕ, zero, suc, ◌+◌, ◌<◌, List, [], ◌∷◌, length, take, get_or, Some, refl, sym, ap, subst, arith}
use Rattle.std.specs.Prelude.{All, slice_get}
use Rattle.std.proofs.lemmas.List.Elements.{All-append, All-cons, All-nil}
use Rattle.std.proofs.lemmas.Option.{slice_get-get_or}
use Rattle.lower_bounds.specs.PotentialFunctions.{PotentialFunction}
use Rattle.lower_bounds.specs.TableFunctions.{Table, TableFunction, SeveralValues, over_tables, functions_of}
use Rattle.table_rows.proofs.FateLemmas.{take-at}
use Rattle.tables.specs.Unfair.{function_in}

abbrev pub function_at : List Table → PotentialFunction → ℕ → TableFunction
function_at tables p place = record { potentials = p; tables = tables; place = place }

pub over-at : (tables : List Table) (first : ℕ) (values : List PotentialFunction) (k : ℕ) (p : PotentialFunction) → slice_get values k ≡ Some p
    → slice_get (over_tables tables first values) k ≡ Some (function_at tables p (first + k))
over-at tables first [] k p at = absurd (cc)
over-at tables first (q ∷ others) zero p at =
    let is : q ≡ p = cc in
    let same : first ≡ first + 0 = omega arith in
    (λ i. Some (function_at tables (is i) (same i)))
over-at tables first (q ∷ others) (suc k) p at =
    let same : suc first + k ≡ first + suc k = omega arith in
    over-at tables (suc first) others k p at ∙ ap (λ n. Some (function_at tables p n)) same

pub length-over : (tables : List Table) (first : ℕ) (values : List PotentialFunction) → length (over_tables tables first values) ≡ length values
length-over tables first [] = refl
length-over tables first (p ∷ others) = ap suc (length-over tables (suc first) others)

-- a value by its place
pub named : (s : SeveralValues) (k : ℕ) → k < length s.values → slice_get (functions_of s) k ≡ Some (function_in s k)
named s k below =
    let same : 0 + k ≡ k = omega arith in
    over-at s.tables 0 s.values k (get_or s.values k s.dead_ends) (slice_get-get_or s.values k s.dead_ends below) ∙ ap (λ n. Some (function_at s.tables (get_or s.values k s.dead_ends) n)) same

-- one more of which it holds
pub one-more-holds : {X : Type 0} (P : X → Type 0) (xs : List X) (k : ℕ) (x : X) → slice_get xs k ≡ Some x → All P (take k xs) → P x → All P (take (k + 1) xs)
one-more-holds P xs k x at all here = subst (All P) (sym (take-at xs k x at)) (All-append P (take k xs) (x ∷ []) all (All-cons P x [] here (All-nil P)))
