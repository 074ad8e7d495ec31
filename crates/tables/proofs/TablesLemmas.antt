-- All tables: which of them an atom names, and sums over them.
use Rattle.std.proofs.Common.{◌≡◌, ◌∙◌, ℕ, zero, suc, ◌+◌, ◌*◌, ◌<◌, inl, inr, Bool, true, false, true≢false, not, ◌&&◌, ◌||◌, List, [], ◌∷◌, ◌++◌, length, take, map, get_or, Some, refl, sym, ap, subst, arith, ℤ, pos, ◌+ℤ◌, neg_ℤ, ◌≤ℤ◌}
use Rattle.std.specs.Prelude.{IsTrue, All, ◌==◌, slice_get, nat_lt}
use Rattle.std.specs.Bool.{beq}
use Rattle.std.specs.List.{list_any, list_all}
use Rattle.std.proofs.lemmas.Int.{ints}
use Rattle.std.proofs.lemmas.Bool.{cases_eq, and_from, or_left, or_right, eqb-true, eq-eqb, lt-ltb, ltb-true, false_from_ne_true}
use Rattle.std.proofs.lemmas.List.{length-map}
use Rattle.std.proofs.lemmas.List.Folds.{list_all-append}
use Rattle.std.proofs.lemmas.Option.{slice_get_within, slice_get-get_or, get_or_from_slice_get}
use Rattle.model.specs.NumberedLiterals.{NumberedLiteral, NumberedChange}
use Rattle.model.proofs.ListLemmas.{Contains-got, Contains-map}
use Rattle.packed_state.specs.Sets.{has, set_of}
use Rattle.packed_state.proofs.PackedLemmas.{length-set_of}
use Rattle.lower_bounds.specs.FairPotentials.{touches}
use Rattle.lower_bounds.specs.TableFunctions.{Row, Table, is_among, sum_over}
use Rattle.lower_bounds.specs.FairTables.{agrees, ConditionalChange, changes_in, touches_scope, is_closed, table_loses, table_gives}
use Rattle.lower_bounds.proofs.TableLists.{all-from, all-at, none-passes}
use Rattle.table_rows.specs.declared.lists.Lists.{Lists}
use Rattle.tables.specs.ByAtom.{IsByAtom, AreMarked}
use Rattle.table_rows.specs.Lists.{list_at, IsFiledAt}
use Rattle.table_rows.specs.Losses.{indexed_of, LosesByTable}
use Rattle.table_rows.specs.Fates.{IsLoss}
use Rattle.lower_bounds.specs.TableLaws.{are_over}
use Rattle.table_rows.specs.declared.indexed.IndexedTable.{IndexedTable}
use Rattle.tables.specs.declared.tables.IndexedTables.{IndexedTables}
use Rattle.tables.specs.AllTables.{tables_of}
use Rattle.table_rows.proofs.AgreeingLemmas.{any-map}
use Rattle.table_rows.proofs.FateLemmas.{take-at, taken-more, among-more, Contains-among}

-- ---- lists by atoms

pub by-atom-none : (tables : List Table) (l : Lists) → ((place : ℕ) → list_at l place ≡ []) → IsByAtom tables 0 l
by-atom-none tables l empty = record {
  covers = λ atom number t below. absurd (omega (arith, below));
  within = λ atom number at. absurd (true≢false (sym (subst (λ list. is_among list number ≡ true) (empty atom) at)));
}

-- one table more
pub by-atom-more : (tables : List Table) (n : ℕ) (t : Table) (old new : Lists) → slice_get tables n ≡ Some t → IsByAtom tables n old → IsFiledAt t.scope n old new → IsByAtom tables (n + 1) new
by-atom-more tables n t old new at so filed = record {
  covers = λ atom number other below is there. elim (cases_eq number n) [
    | inl same ↦
        let it : other ≡ t = some-same (sym is ∙ ap (slice_get tables) same ∙ at) in
        let here : is_among t.scope atom ≡ true = subst (λ (u : Table). is_among u.scope atom ≡ true) it there in
        filed.lists atom number ∙ or_right (is_among (list_at old atom) number) (is_among t.scope atom && n == number) (and_from (is_among t.scope atom) (n == number) here (eq-eqb n number (sym same)))
    | inr earlier ↦ filed.lists atom number ∙ or_left (is_among (list_at old atom) number) (is_among t.scope atom && n == number) (so.covers atom number other (omega (arith, below, earlier)) is there)
  ];
  within = λ atom number there.
      elim (is_among (list_at old atom) number) as (λ b. is_among (list_at old atom) number ≡ b → (b || (is_among t.scope atom && n == number)) ≡ true → number < n + 1) [
        | true ↦ λ is _. let e = so.within atom number is in omega (arith, e)
        | false ↦ λ _ is. let e = eqb-true n number (second (is_among t.scope atom) (n == number) is) in omega (arith, e)
      ] refl (sym (filed.lists atom number) ∙ there);
}
  where
    some-same : {x y : Table} → Some x ≡ Some y → x ≡ y
    some-same e = cc

    second : (a b : Bool) → (a && b) ≡ true → b ≡ true
    second true b is = is
    second false b is = absurd (true≢false (sym is))

-- ---- what is named

pub marked-none : (l : Lists) (count : ℕ) → AreMarked l count [] (set_of count [])
marked-none l count = record { width = length-set_of count []; covers = λ atom number none. absurd (true≢false (sym none)) }

-- one atom more
pub marked-more : {X : Type 0} (f : X → ℕ) (xs : List X) (i : ℕ) (x : X) (l : Lists) (count : ℕ) (old new : List Bool) → slice_get xs i ≡ Some x → AreMarked l count (map f (take i xs)) old → length new ≡ length old
    → ((k : ℕ) → has old k ≡ true → has new k ≡ true) → ((k : ℕ) → is_among (list_at l (f x)) k ≡ true → has new k ≡ true) → AreMarked l count (map f (take (i + 1) xs)) new
marked-more f xs i x l count old new at so width kept marked = record {
  width = width ∙ so.width;
  covers = λ atom number among there.
      elim (is_among (map f (take i xs)) atom) as (λ b. is_among (map f (take i xs)) atom ≡ b → (b || f x == atom) ≡ true → has new number ≡ true) [
        | true ↦ λ earlier _. kept number (so.covers atom number earlier there)
        | false ↦ λ _ here. marked number (subst (λ a. is_among (list_at l a) number ≡ true) (sym (eqb-true (f x) atom here)) there)
      ] refl (sym (ap (λ ys. is_among ys atom) (taken-more f xs i x at) ∙ among-more (map f (take i xs)) (f x) atom) ∙ among);
}

module _ (tables : List Table) (l : Lists) (by_atom : IsByAtom tables (length tables) l) (k : ℕ) (t : Table) (at : slice_get tables k ≡ Some t) (named : List Bool) (absent : has named k ≡ false) where
  -- an atom of the scope of a table that is not named is none of those
  not-named : (atoms : List ℕ) → AreMarked l (length tables) atoms named → (atom : ℕ) → is_among t.scope atom ≡ true → is_among atoms atom ≡ false
  not-named atoms marked atom there =
      false_from_ne_true (is_among atoms atom) (λ among.
      true≢false (sym (marked.covers atom k among (by_atom.covers atom k t (slice_get_within tables k t at) at there)) ∙ absent))

  pub not-touched : (changes : List ConditionalChange) → AreMarked l (length tables) (map (λ (c : NumberedChange). c.atom) (changes_in changes)) named → touches_scope changes t ≡ false
  not-touched changes marked =
      none-passes (touches (changes_in changes)) t.scope (λ n there.
      sym (any-map (λ j. j == n) (λ (c : NumberedChange). c.atom) (changes_in changes)) ∙ not-named (map (λ (c : NumberedChange). c.atom) (changes_in changes)) marked n (Contains-among t.scope n there))

  pub all-agree : (literals : List NumberedLiteral) → AreMarked l (length tables) (map (λ (x : NumberedLiteral). x.atom) literals) named
      → list_any (λ (r : Row). agrees literals t.scope r.atoms) t.rows ≡ nat_lt 0 (length t.rows)
  all-agree literals marked = some-row t.rows
    where
      agree : (r : Row) → agrees literals t.scope r.atoms ≡ true
      agree r = all-from (λ (x : NumberedLiteral). not (is_among t.scope x.atom) || beq (is_among r.atoms x.atom) x.value) literals (λ x among.
          elim (is_among t.scope x.atom) as (λ b. is_among t.scope x.atom ≡ b → (not b || beq (is_among r.atoms x.atom) x.value) ≡ true) [
            | true ↦ λ there. absurd (true≢false (sym (Contains-among (map (λ (y : NumberedLiteral). y.atom) literals) x.atom (Contains-map (λ (y : NumberedLiteral). y.atom) literals x among))
                ∙ not-named (map (λ (y : NumberedLiteral). y.atom) literals) marked x.atom there))
            | false ↦ λ _. refl
          ] refl)

      some-row : (rows : List Row) → list_any (λ (r : Row). agrees literals t.scope r.atoms) rows ≡ nat_lt 0 (length rows)
      some-row [] = refl
      some-row (r ∷ rows) = ap (λ b. b || list_any (λ (r : Row). agrees literals t.scope r.atoms) rows) (agree r) ∙ sym (lt-ltb 0 (suc (length rows)) (omega arith))

-- ---- sums

sum-push : (tables : List Table) (t : Table) (f : Table → ℤ) → sum_over (tables ++ t ∷ []) f ≡ (sum_over tables f +ℤ f t)
sum-push [] t f = omega (arith, ints)
sum-push (u ∷ tables) t f = let rest = sum-push tables t f in omega (arith, ints)

pub sum-more : (tables : List Table) (k : ℕ) (t : Table) (f : Table → ℤ) → slice_get tables k ≡ Some t → sum_over (take (k + 1) tables) f ≡ (sum_over (take k tables) f +ℤ f t)
sum-more tables k t f at = ap (λ l. sum_over l f) (take-at tables k t at) ∙ sum-push (take k tables) t f

pub all-more : (p : Table → Bool) (tables : List Table) (k : ℕ) (t : Table) → slice_get tables k ≡ Some t → list_all p (take k tables) ≡ true → p t ≡ true → list_all p (take (k + 1) tables) ≡ true
all-more p tables k t at so here =
    ap (list_all p) (take-at tables k t at) ∙ list_all-append p (take k tables) (t ∷ []) ∙ and_from (list_all p (take k tables)) (p t && true) so (ap (λ b. b && true) here)

pub not-all : (p : Table → Bool) (tables : List Table) (k : ℕ) (t : Table) → slice_get tables k ≡ Some t → p t ≡ false → list_all p tables ≡ false
not-all p tables k t at fails = false_from_ne_true (list_all p tables) (λ all. true≢false (sym (all-at p tables t all (Contains-got tables k t at)) ∙ fails))

pub mapped-at : {X Y : Type 0} (f : X → Y) (xs : List X) (k : ℕ) (x : X) → slice_get xs k ≡ Some x → slice_get (map f xs) k ≡ Some (f x)
mapped-at f [] k x at = absurd (cc)
mapped-at f (y ∷ xs) zero x at = let same : y ≡ x = cc in ap (λ z. Some (f z)) same
mapped-at f (y ∷ xs) (suc k) x at = mapped-at f xs k x at

-- ---- what is read of the tables

-- what is read at a place is the table there
pub read-at : (items : List IndexedTable) (k : ℕ) (read : IndexedTable) (t : Table) → slice_get items k ≡ Some read → slice_get (map indexed_of items) k ≡ Some t → indexed_of read ≡ t
read-at items k read t at there = some-same (sym (mapped-at indexed_of items k read at) ∙ there)
  where
    some-same : {x y : Table} → Some x ≡ Some y → x ≡ y
    some-same e = cc

-- one table more, that loses so much
pub loses-more : (place : ℕ) (literals : List NumberedLiteral) (changes : List ConditionalChange) (tables : List Table) (k : ℕ) (t : Table) (total lost new : ℤ) → slice_get tables k ≡ Some t
    → list_all (is_closed literals changes) (take k tables) ≡ true → total ≡ sum_over (take k tables) (table_loses place literals changes)
    → neg_ℤ (pos (4294967294 * k)) ≤ℤ total → total ≤ℤ pos (4294967294 * k) → LosesByTable place literals changes t lost → new ≡ (total +ℤ lost)
    → (list_all (is_closed literals changes) (take (k + 1) tables) ≡ true) × (new ≡ sum_over (take (k + 1) tables) (table_loses place literals changes))
    × (neg_ℤ (pos (4294967294 * (k + 1))) ≤ℤ new) × (new ≤ℤ pos (4294967294 * (k + 1)))
loses-more place literals changes tables k t total lost new at closed so_far least most loses is =
    let range = loses.range in
    let low = range.least in
    let high = range.most in
    let more = sum-more tables k t (table_loses place literals changes) at in
    let here = loses.is in
    (all-more (is_closed literals changes) tables k t at closed loses.closed, omega (arith, ints), omega (arith, ints), omega (arith, ints))

pub by-all : (all : IndexedTables) → IsByAtom (tables_of all) (length (tables_of all)) all.by_atom
by-all all = subst (λ n. IsByAtom (tables_of all) n all.by_atom) (sym (length-map all.tables.items indexed_of)) all.named

-- each atom of a table's scope is below the width
pub scope-below : (width : ℕ) (tables : List Table) (k : ℕ) (t : Table) → IsTrue (are_over width tables) → slice_get tables k ≡ Some t → All (λ n. n < width) t.scope
scope-below width tables k t all at =
    let here = all-at (λ (u : Table). list_all (λ number. nat_lt number width) u.scope) tables t all (Contains-got tables k t at) in
    λ i d below. ltb-true (get_or t.scope i d) width (all-at (λ number. nat_lt number width) t.scope (get_or t.scope i d) here (Contains-got t.scope i (get_or t.scope i d) (slice_get-get_or t.scope i d below)))

-- one table more, that gives so much
pub gives-more : (place : ℕ) (literals : List NumberedLiteral) (tables : List Table) (k : ℕ) (t : Table) (total given new : ℤ) → slice_get tables k ≡ Some t
    → total ≡ sum_over (take k tables) (table_gives place literals) → neg_ℤ (pos (4294967294 * k)) ≤ℤ total → total ≤ℤ pos (4294967294 * k)
    → given ≡ table_gives place literals t → IsLoss given → new ≡ (total +ℤ given)
    → (new ≡ sum_over (take (k + 1) tables) (table_gives place literals)) × (neg_ℤ (pos (4294967294 * (k + 1))) ≤ℤ new) × (new ≤ℤ pos (4294967294 * (k + 1)))
gives-more place literals tables k t total given new at so_far least most here range is =
    let low = range.least in
    let high = range.most in
    let more = sum-more tables k t (table_gives place literals) at in
    (omega (arith, ints), omega (arith, ints), omega (arith, ints))

pub each-at : {X : Type 0} (P : X → Type 0) (xs : List X) (k : ℕ) (x : X) → slice_get xs k ≡ Some x → All P xs → P x
each-at P xs k x at all = subst P (get_or_from_slice_get xs k x x at) (all k x (slice_get_within xs k x at))
