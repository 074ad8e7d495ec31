-- Which rows agree with literals, by the sets of the rows.
use Rattle.std.proofs.Common.{◌≡◌, ◌∙◌, ℕ, ◌+◌, Bool, true, false, ◌||◌, List, [], ◌∷◌, length, take, drop, map, Some, refl, ap, ℤ}
use Rattle.std.specs.Prelude.{IsTrue, Contains, slice_get}
use Rattle.std.specs.List.{list_any, list_all, filter_map}
use Rattle.std.proofs.lemmas.List.Folds.{list_any_more}
use Rattle.std.proofs.lemmas.Option.{get_or_from_slice_get, slice_get_within}
use Rattle.model.specs.NumberedLiterals.{NumberedLiteral}
use Rattle.model.proofs.ListLemmas.{Contains-here, Contains-there, Contains-got}
use Rattle.lower_bounds.specs.TableFunctions.{Row}
use Rattle.lower_bounds.specs.FairTables.{agrees}
use Rattle.lower_bounds.proofs.TableLists.{any-at}
use Rattle.table_rows.specs.Placed.{placed_in, is_so}
use Rattle.table_rows.specs.Rows.{are_rising, rows_from}
use Rattle.table_rows.proofs.PlacedLemmas.{placed-agree}

-- ---- some element of a list

module _ {X : Type 0} (p : X → Bool) where
  -- one more that does not pass
  pub none-more : (xs : List X) (i : ℕ) (x : X) → slice_get xs i ≡ Some x → list_any p (take i xs) ≡ false → p x ≡ false → list_any p (take (i + 1) xs) ≡ false
  none-more xs i x at before fails =
      list_any_more p xs i x (slice_get_within xs i x at) ∙ (λ j. before j || p (get_or_from_slice_get xs i x x at j)) ∙ fails

  pub some-here : (xs : List X) (i : ℕ) (x : X) → slice_get xs i ≡ Some x → p x ≡ true → list_any p xs ≡ true
  some-here xs i x at passes = any-at p xs x (Contains-got xs i x at) passes

pub any-map : {X Y : Type 0} (p : Y → Bool) (f : X → Y) (xs : List X) → list_any p (map f xs) ≡ list_any (λ x. p (f x)) xs
any-map p f [] = refl
any-map p f (x ∷ xs) = ap (λ b. p (f x) || b) (any-map p f xs)

-- ---- rows

module _ (scope : List ℕ) (rising : IsTrue (are_rising scope)) (literals : List NumberedLiteral) where
  -- a row agrees where the literals are true of its set
  pub rows-agree : (count : ℕ) (sets : List (List Bool)) (weights : List ℤ) → ((set : List Bool) → Contains sets set → length set ≡ length scope)
      → list_any (λ set. list_all (is_so set) (filter_map (placed_in scope) literals)) sets ≡ list_any (λ (r : Row). agrees literals scope r.atoms) (rows_from count scope sets weights)
  rows-agree count [] weights wide = refl
  rows-agree count (set ∷ sets) weights wide =
      let rest = rows-agree count sets (drop count weights) (λ s at. wide s (Contains-there set sets s at)) in
      let first = placed-agree scope set rising (wide set (Contains-here set sets)) literals in
      (λ i. first i || rest i)
