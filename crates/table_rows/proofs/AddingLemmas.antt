-- A row by its atoms: whether a table has it, and what is added.
use Rattle.std.proofs.Common.{◌≡◌, ◌∙◌, ℕ, zero, suc, ◌+◌, ◌<◌, Bool, true, false, true≢false, List, [], ◌∷◌, ◌++◌, length, map, get_or, Option, None, Some, refl, sym, ap, subst, arith, ℤ}
use Rattle.std.specs.Prelude.{IsTrue, All, MatchBool, ◌==◌, ◌≢◌, cond, is_some}
use Rattle.std.specs.List.{list_all, find, Any}
use Rattle.std.specs.Cmp.Lexicographic.{pointwise}
use Rattle.std.proofs.lemmas.List.Elements.{All-append, All-cons, All-nil}
use Rattle.lower_bounds.specs.TableFunctions.{Row, Table, is_among, row_of}
use Rattle.lower_bounds.proofs.TableLists.{same-numbers}
use Rattle.table_rows.specs.Rows.{are_rising, atoms_at}
use Rattle.table_rows.specs.Tables.{IsInserted}
use Rattle.table_rows.specs.Adding.{IsNew, IsRepeated, IsAdded}
use Rattle.table_rows.specs.declared.by_atoms.Added.{Added}
use Rattle.table_rows.specs.declared.by_atoms.Added.TheVariants.{New, OutsideScope, Repeated}
use Rattle.table_rows.proofs.RowLemmas.{same-themselves}
use Rattle.table_rows.proofs.PlacesLemmas.{picked}

module _ (atoms : List ℕ) where
  abbrev is_same : Row → Bool
  is_same r = pointwise (λ k number. k == number) r.atoms atoms

  found : (r : Row) (rows : List Row) → find is_same (r ∷ rows) ≡ None → (is_same r ≡ false) × (find is_same rows ≡ None)
  found r rows none = elim (is_same r) as (λ b. cond b (Some r) (find is_same rows) ≡ None → (b ≡ false) × (find is_same rows ≡ None)) [
    | true ↦ λ is. absurd (cc)
    | false ↦ λ is. (refl, is)
  ] none

  -- where none is found, all have other atoms
  all-differ : (rows : List Row) → find is_same rows ≡ None → All (λ (r : Row). r.atoms ≢ atoms) rows
  all-differ [] none k d below same = absurd (omega (arith, below))
  all-differ (r ∷ rows) none zero d below same = true≢false (sym (ap (λ l. pointwise (λ k number. k == number) l atoms) same ∙ same-themselves atoms) ∙ (found r rows none).0)
  all-differ (r ∷ rows) none (suc k) d below same = all-differ rows (found r rows none).1 k d (omega (arith, below)) same

  one-same : (rows : List Row) → is_some (find is_same rows) ≡ true → Any (λ (r : Row). r.atoms ≡ atoms) rows
  one-same [] some = absurd (true≢false (sym some))
  one-same (r ∷ rows) some = elim (is_same r) as (λ b. is_same r ≡ b → is_some (cond b (Some r) (find is_same rows)) ≡ true → Any (λ (q : Row). q.atoms ≡ atoms) (r ∷ rows)) [
    | true ↦ λ same _. (0, r, omega arith, refl, same-numbers r.atoms atoms same)
    | false ↦ λ _ later. let it = one-same rows later in (suc it.0, it.1, omega (arith, it.2), it.3, it.4)
  ] refl some

-- what is inserted by the set of its atoms is added by its atoms
pub added : (old new : Table) (atoms : List ℕ) (weights : List ℤ) (bits : List Bool) (is_new : Bool) → IsTrue (are_rising old.scope) → IsTrue (are_rising atoms)
    → (list_all (is_among old.scope) atoms ≡ true) → bits ≡ map (is_among atoms) old.scope
    → IsInserted old new (record { atoms = atoms_at old.scope bits; weights = weights }) is_new
    → MatchBool is_new (IsNew old new (record { atoms = atoms; weights = weights })) (IsRepeated old new (record { atoms = atoms; weights = weights }))
added old new atoms weights bits is_new rising atoms_rise of_scope set inserted =
    let are : atoms_at old.scope bits ≡ atoms = ap (atoms_at old.scope) set ∙ picked old.scope atoms rising atoms_rise of_scope in
    both is_new (subst (λ l. IsInserted old new (record { atoms = l; weights = weights }) is_new) are inserted)
  where
    both : (is_new : Bool) → IsInserted old new (record { atoms = atoms; weights = weights }) is_new
        → MatchBool is_new (IsNew old new (record { atoms = atoms; weights = weights })) (IsRepeated old new (record { atoms = atoms; weights = weights }))
    both true (none, put) = record { of_scope = of_scope; differs = all-differ atoms old.rows none; put = put }
    both false (some, kept) = record { of_scope = of_scope; same = one-same atoms old.rows some; kept = kept }

-- ---- after a row was to be added

pub same-scope : (old new : Table) (row : Row) (a : Added) → IsAdded old new row a → new.scope ≡ old.scope
same-scope old new row New it = ap (λ (t : Table). t.scope) it.put
same-scope old new row OutsideScope it = ap (λ (t : Table). t.scope) it.kept
same-scope old new row Repeated it = ap (λ (t : Table). t.scope) it.kept

-- what holds of the rows before and of that row holds of all
pub still-all : (P : Row → Type 0) (old new : Table) (row : Row) (a : Added) → IsAdded old new row a → All P old.rows → P row → All P new.rows
still-all P old new row New it all here =
    subst (All P) (sym (ap (λ (t : Table). t.rows) it.put)) (All-append P old.rows (row ∷ []) all (All-cons P row [] here (All-nil P)))
still-all P old new row OutsideScope it all here = subst (All P) (sym (ap (λ (t : Table). t.rows) it.kept)) all
still-all P old new row Repeated it all here = subst (All P) (sym (ap (λ (t : Table). t.rows) it.kept)) all
