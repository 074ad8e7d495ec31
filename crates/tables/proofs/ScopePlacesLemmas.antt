-- Places of atoms in the scopes of tables, one after another.
use Rattle.std.proofs.Common.{◌≡◌, ◌∙◌, ◌≢◌, ℕ, zero, suc, ◌≤◌, inl, inr, Bool, true, false, true≢false, ◌&&◌, ◌||◌, List, [], ◌∷◌, ◌++◌, length, Some, refl, sym, ap, subst, arith}
use Rattle.std.specs.Prelude.{◌==◌, slice_get, if◌then◌else◌}
use Rattle.std.proofs.lemmas.Bool.{cases_eq, eq-eqb, ne_eqb}
use Rattle.lower_bounds.specs.TableFunctions.{Table}
use Rattle.tables.specs.declared.scope_places.ScopePlace.{ScopePlace}
use Rattle.tables.specs.declared.scope_places.ScopePlaces.{ScopePlaces}
use Rattle.tables.specs.ScopePlaces.{places_of, scopes_of, is_listed, passes_at, is_placed, AreScopePlaces}

or_none : (b : Bool) → (b || false) ≡ b
or_none true = refl
or_none false = refl

and_none : (b : Bool) → (b && false) ≡ false
and_none true = refl
and_none false = refl

and_yes : (b : Bool) → (b && true) ≡ b
and_yes true = refl
and_yes false = refl

turned : (m n : ℕ) → (m == n) ≡ (n == m)
turned m n = elim (cases_eq m n) [
  | inl same ↦ eq-eqb m n same ∙ sym (eq-eqb n m (sym same))
  | inr other ↦ ne_eqb m n other ∙ sym (ne_eqb n m (λ e. other (sym e)))
]

-- ---- tests at an index

pub passes-got : {X : Type 0} (p : X → Bool) (xs : List X) (k : ℕ) (x : X) → slice_get xs k ≡ Some x → passes_at p xs k ≡ p x
passes-got p [] k x at = absurd (cc)
passes-got p (y ∷ xs) zero x at = let same : y ≡ x = cc in ap p same
passes-got p (y ∷ xs) (suc k) x at = passes-got p xs k x at

pub passes-found : {X : Type 0} (p : X → Bool) (xs : List X) (k : ℕ) → passes_at p xs k ≡ true → (x : X) × ((slice_get xs k ≡ Some x) × (p x ≡ true))
passes-found p [] k at = absurd (true≢false (sym at))
passes-found p (x ∷ xs) zero at = (x, (refl, at))
passes-found p (x ∷ xs) (suc k) at = passes-found p xs k at

passes-past : {X : Type 0} (p : X → Bool) (xs : List X) (k : ℕ) → length xs ≤ k → passes_at p xs k ≡ false
passes-past p [] k past = refl
passes-past p (x ∷ xs) zero past = absurd (omega (arith, past))
passes-past p (x ∷ xs) (suc k) past = passes-past p xs k (omega (arith, past))

passes-last : {X : Type 0} (p : X → Bool) (xs : List X) (x : X) → passes_at p (xs ++ x ∷ []) (length xs) ≡ p x
passes-last p [] x = refl
passes-last p (y ∷ xs) x = passes-last p xs x

passes-earlier : {X : Type 0} (p : X → Bool) (xs : List X) (x : X) (k : ℕ) → k ≢ length xs → passes_at p (xs ++ x ∷ []) k ≡ passes_at p xs k
passes-earlier p [] x zero other = absurd (other refl)
passes-earlier p [] x (suc k) other = refl
passes-earlier p (y ∷ xs) x zero other = refl
passes-earlier p (y ∷ xs) x (suc k) other = passes-earlier p xs x k (λ e. other (ap suc e))

-- ---- one atom more in the last scope

scope-more : (scope : List ℕ) (n a place : ℕ) → passes_at (λ m. m == a) (scope ++ n ∷ []) place ≡ (passes_at (λ m. m == a) scope place || (a == n && length scope == place))
scope-more scope n a place = elim (cases_eq place (length scope)) [
  | inl last ↦
      subst (λ k. passes_at (λ m. m == a) (scope ++ n ∷ []) k ≡ (passes_at (λ m. m == a) scope k || (a == n && length scope == k))) (sym last)
      (passes-last (λ m. m == a) scope n ∙ turned n a ∙ sym (and_yes (a == n))
      ∙ (λ i. sym (passes-past (λ m. m == a) scope (length scope) (omega arith)) i || (a == n && sym (eq-eqb (length scope) (length scope) refl) i)))
  | inr other ↦
      passes-earlier (λ m. m == a) scope n place other ∙ sym (or_none (passes_at (λ m. m == a) scope place))
      ∙ (λ i. passes_at (λ m. m == a) scope place || (sym (and_none (a == n)) ∙ (λ j. a == n && sym (ne_eqb (length scope) place (λ e. other (sym e))) j)) i)
]

placed-more : (scopes : List (List ℕ)) (scope : List ℕ) (n a table place : ℕ)
    → is_placed (scopes ++ (scope ++ n ∷ []) ∷ []) a table place ≡ (is_placed (scopes ++ scope ∷ []) a table place || (a == n && (length scopes == table && length scope == place)))
placed-more scopes scope n a table place =
    let at = λ (l : List ℕ). passes_at (λ m. m == a) l place in
    elim (cases_eq table (length scopes)) [
      | inl last ↦
          subst (λ k. is_placed (scopes ++ (scope ++ n ∷ []) ∷ []) a k place ≡ (is_placed (scopes ++ scope ∷ []) a k place || (a == n && (length scopes == k && length scope == place)))) (sym last)
          (passes-last at scopes (scope ++ n ∷ []) ∙ scope-more scope n a place
          ∙ (λ i. sym (passes-last at scopes scope) i || (a == n && (sym (eq-eqb (length scopes) (length scopes) refl) i && length scope == place))))
      | inr other ↦
          passes-earlier at scopes (scope ++ n ∷ []) table other ∙ sym (passes-earlier at scopes scope table other) ∙ sym (or_none (is_placed (scopes ++ scope ∷ []) a table place))
          ∙ (λ i. is_placed (scopes ++ scope ∷ []) a table place || (sym (and_none (a == n)) ∙ (λ j. a == n && (sym (ne_eqb (length scopes) table (λ e. other (sym e))) j && length scope == place))) i)
    ]

pub listed-more : (list : List ScopePlace) (at : ScopePlace) (table place : ℕ) → is_listed (list ++ at ∷ []) table place ≡ (is_listed list table place || (at.table == table && at.place == place))
listed-more [] at table place = or_none (at.table == table && at.place == place)
listed-more (p ∷ list) at table place =
    ap (λ b. (p.table == table && p.place == place) || b) (listed-more list at table place) ∙ assoc (p.table == table && p.place == place) (is_listed list table place) (at.table == table && at.place == place)
  where
    assoc : (a b c : Bool) → (a || (b || c)) ≡ ((a || b) || c)
    assoc true b c = refl
    assoc false b c = refl

pub places-more : (scopes : List (List ℕ)) (scope : List ℕ) (n : ℕ) (at : ScopePlace) (old new : ScopePlaces) → at.table ≡ length scopes → at.place ≡ length scope
    → ((k : ℕ) → places_of new k ≡ (if k == n then places_of old k ++ at ∷ [] else places_of old k)) → AreScopePlaces (scopes ++ scope ∷ []) old → AreScopePlaces (scopes ++ (scope ++ n ∷ []) ∷ []) new
places-more scopes scope n at old new in_table at_place lists before = record {
  are = λ a table place.
      ap (λ l. is_listed l table place) (lists a)
      ∙ (elim (a == n) as (λ b. is_listed (if b then places_of old a ++ at ∷ [] else places_of old a) table place ≡ (is_listed (places_of old a) table place || (b && (length scopes == table && length scope == place)))) [
        | true ↦ listed-more (places_of old a) at table place ∙ (λ i. is_listed (places_of old a) table place || (in_table i == table && at_place i == place))
        | false ↦ sym (or_none (is_listed (places_of old a) table place))
      ])
      ∙ ap (λ b. b || (a == n && (length scopes == table && length scope == place))) (before.are a table place)
      ∙ sym (placed-more scopes scope n a table place);
}

-- a scope without atoms
pub places-begun : (scopes : List (List ℕ)) (l : ScopePlaces) → AreScopePlaces scopes l → AreScopePlaces (scopes ++ [] ∷ []) l
places-begun scopes l before = record { are = λ a table place. before.are a table place ∙ same scopes a table place }
  where
    same : (scopes : List (List ℕ)) (a table place : ℕ) → is_placed scopes a table place ≡ is_placed (scopes ++ [] ∷ []) a table place
    same [] a zero place = refl
    same [] a (suc table) place = refl
    same (scope ∷ scopes) a zero place = refl
    same (scope ∷ scopes) a (suc table) place = same scopes a table place

pub places-none : (l : ScopePlaces) → ((a : ℕ) → places_of l a ≡ []) → AreScopePlaces [] l
places-none l none = record { are = λ a table place. ap (λ list. is_listed list table place) (none a) }

-- ---- what is listed

-- the atom is at a place that is listed
pub listed-there : (tables : List Table) (l : ScopePlaces) (a k place : ℕ) → AreScopePlaces (scopes_of tables) l → is_listed (places_of l a) k place ≡ true
    → (t : Table) × ((slice_get tables k ≡ Some t) × (slice_get t.scope place ≡ Some a))
listed-there tables l a k place are listed =
    let it = passes-found (λ scope. passes_at (λ n. n == a) scope place) (scopes_of tables) k (sym (are.are a k place) ∙ listed) in
    let table = scope-found tables k it.0 it.1.0 in
    let at = passes-found (λ n. n == a) it.0 place it.1.1 in
    (table.0, (table.1.0, subst (λ scope. slice_get scope place ≡ Some a) (sym table.1.1) (at.1.0 ∙ ap Some (eqb-is at.0 a at.1.1))))
  where
    scope-found : (tables : List Table) (k : ℕ) (scope : List ℕ) → slice_get (scopes_of tables) k ≡ Some scope → (t : Table) × ((slice_get tables k ≡ Some t) × (t.scope ≡ scope))
    scope-found [] k scope at = absurd (cc)
    scope-found (t ∷ tables) zero scope at = (t, (refl, let same : t.scope ≡ scope = cc in same))
    scope-found (t ∷ tables) (suc k) scope at = scope-found tables k scope at

    eqb-is : (m n : ℕ) → (m == n) ≡ true → m ≡ n
    eqb-is m n is = elim (cases_eq m n) [
      | inl same ↦ same
      | inr other ↦ absurd (true≢false (sym is ∙ ne_eqb m n other))
    ]

-- whether an atom is where a scope has this one
pub placed-at : (tables : List Table) (a k place n : ℕ) (t : Table) → slice_get tables k ≡ Some t → slice_get t.scope place ≡ Some n → is_placed (scopes_of tables) a k place ≡ (n == a)
placed-at tables a k place n t at there =
    passes-got (λ scope. passes_at (λ m. m == a) scope place) (scopes_of tables) k t.scope (mapped tables k t at) ∙ passes-got (λ m. m == a) t.scope place n there
  where
    mapped : (tables : List Table) (k : ℕ) (t : Table) → slice_get tables k ≡ Some t → slice_get (scopes_of tables) k ≡ Some t.scope
    mapped [] k t at = absurd (cc)
    mapped (u ∷ tables) zero t at = let same : u ≡ t = cc in ap (λ (v : Table). Some v.scope) same
    mapped (u ∷ tables) (suc k) t at = mapped tables k t at
