-- Rows of tables, and what they give.
use Rattle.std.proofs.Common.{◌≡◌, ◌∙◌, ℕ, zero, suc, ◌+◌, ◌*◌, ◌<◌, ◌≤◌, ◌^◌, inl, inr, List, [], ◌∷◌, length, get_or, Option, None, Some, refl, sym, ap, subst, arith, ℤ, pos, ◌+ℤ◌, neg_ℤ, ◌≤ℤ◌}
use Rattle.std.specs.Prelude.{IfSome, All, Contains, replicate, slice_get, slice_set}
use Rattle.std.proofs.lemmas.Int.{ints}
use Rattle.std.proofs.lemmas.Bool.{cases_eq, cases_lt}
use Rattle.std.proofs.lemmas.List.{get_or-set_same, get_or-set_other, get_or_past, get_or_default, get_or-replicate, length-map, length-replicate, length-set}
use Rattle.std.proofs.lemmas.Option.{slice_get_within}
use Rattle.model.proofs.ListLemmas.{Contains-here, Contains-there, map-Contains}
use Rattle.lower_bounds.specs.PotentialFunctions.{IsInRange}
use Rattle.lower_bounds.proofs.Ranges.{zero-range}
use Rattle.lower_bounds.specs.TableFunctions.{Row, Table, given_by, weight_at}
use Rattle.table_rows.specs.Fates.{IsLoss}
use Rattle.table_rows.specs.Losses.{indexed_of}
use Rattle.table_rows.proofs.FateLemmas.{row-range}
use Rattle.tables.specs.AllTables.{tables_of}
use Rattle.tables.specs.RowSums.{row_at, given_rows, lacking, AreSums, AreAdded, IsSmall}
use Rattle.tables.specs.declared.row_sums.RowSums.{RowSums}
use Rattle.tables.specs.declared.tables.IndexedTables.{IndexedTables}

-- ---- another row

pub given-set : (place : ℕ) (tables : List Table) (rows : List (Option ℕ)) (k : ℕ) (t : Table) (row : Option ℕ) → slice_get tables k ≡ Some t → length rows ≡ length tables
    → (given_rows place tables (slice_set rows k row) +ℤ given_by place (row_at t (get_or rows k None))) ≡ (given_rows place tables rows +ℤ given_by place (row_at t row))
given-set place [] rows k t row at long = absurd (cc)
given-set place (u ∷ tables) [] k t row at long = absurd (omega (arith, long))
given-set place (u ∷ tables) (r ∷ rows) zero t row at long =
    let same : u ≡ t = cc in
    subst (λ (v : Table). ((given_by place (row_at u row) +ℤ given_rows place tables rows) +ℤ given_by place (row_at v r)) ≡ ((given_by place (row_at u r) +ℤ given_rows place tables rows) +ℤ given_by place (row_at v row))) same
    (omega (arith, ints))
given-set place (u ∷ tables) (r ∷ rows) (suc k) t row at long =
    let rest = given-set place tables rows k t row at (omega (arith, long)) in
    omega (arith, ints)

abbrev lacks : Option ℕ → ℕ
lacks None = 1
lacks (Some row) = 0

lacking-put : (row : Option ℕ) (rows : List (Option ℕ)) → lacking (row ∷ rows) ≡ lacks row + lacking rows
lacking-put None rows = omega arith
lacking-put (Some row) rows = omega arith

pub lacking-set : (rows : List (Option ℕ)) (k : ℕ) (row : Option ℕ) → k < length rows → lacking (slice_set rows k row) + lacks (get_or rows k None) ≡ lacking rows + lacks row
lacking-set [] k row below = absurd (omega (arith, below))
lacking-set (r ∷ rows) zero row below = omega (arith, lacking-put row rows, lacking-put r rows)
lacking-set (r ∷ rows) (suc k) row below =
    let rest = lacking-set rows k row (omega (arith, below)) in
    omega (arith, lacking-put r (slice_set rows k row), lacking-put r rows, rest)

pub lacking-most : (rows : List (Option ℕ)) → lacking rows ≤ length rows
lacking-most [] = omega arith
lacking-most (None ∷ rows) = let rest = lacking-most rows in omega (arith, rest)
lacking-most (Some row ∷ rows) = let rest = lacking-most rows in omega (arith, rest)

pub lacking-all : (n : ℕ) → lacking (replicate n None) ≡ n
lacking-all zero = refl
lacking-all (suc n) = ap suc (lacking-all n)

pub given-none : (place : ℕ) (tables : List Table) (n : ℕ) → given_rows place tables (replicate n None) ≡ pos 0
given-none place [] n = refl
given-none place (t ∷ tables) zero = refl
given-none place (t ∷ tables) (suc n) = let rest = given-none place tables n in omega (arith, ints)

-- ---- how much rows give

abbrev pub AreRanged : List Table → Type 0
AreRanged tables = (t : Table) → Contains tables t → All (λ (r : Row). All IsInRange r.weights) t.rows

given-in-range : (t : Table) (place : ℕ) (row : Option ℕ) → All (λ (r : Row). All IsInRange r.weights) t.rows → IsInRange (given_by place (row_at t row))
given-in-range t place None all = zero-range
given-in-range t place (Some row) all =
    elim (slice_get t.rows row) as (λ o. slice_get t.rows row ≡ o → IsInRange (given_by place o)) [
      | None ↦ λ _. zero-range
      | Some r ↦ λ is. row-range t.rows row place r all is
    ] refl

pub given-range : (place : ℕ) (tables : List Table) (rows : List (Option ℕ)) → AreRanged tables
    → (neg_ℤ (pos (2147483647 * length tables)) ≤ℤ given_rows place tables rows) × (given_rows place tables rows ≤ℤ pos (2147483647 * length tables))
given-range place [] rows ranged = (omega (arith, ints), omega (arith, ints))
given-range place (t ∷ tables) [] ranged = (omega (arith, ints), omega (arith, ints))
given-range place (t ∷ tables) (row ∷ rows) ranged =
    let rest = given-range place tables rows (λ u at. ranged u (Contains-there t tables u at)) in
    let low = rest.0 in
    let high = rest.1 in
    let first = given-in-range t place row (ranged t (Contains-here t tables)) in
    let least = first.least in
    let most = first.most in
    (omega (arith, ints), omega (arith, ints))

pub totals-range : (tables : List Table) (count place : ℕ) (s : RowSums) → AreRanged tables → length tables < 2 ^ 24 → place < count → AreSums tables count s
    → (neg_ℤ (pos 36028797018963968) ≤ℤ get_or s.totals.items place (pos 0)) × (get_or s.totals.items place (pos 0) ≤ℤ pos 36028797018963968)
totals-range tables count place s ranged few below are =
    let range = given-range place tables s.rows.items ranged in
    let low = range.0 in
    let high = range.1 in
    let is = are.totals place below in
    (omega (arith, ints), omega (arith, ints))

pub all-small : (tables : List Table) (count : ℕ) (s : RowSums) → AreRanged tables → length tables < 2 ^ 24 → AreSums tables count s → All IsSmall s.totals.items
all-small tables count s ranged few are place d below =
    let range = totals-range tables count place s ranged few (omega (arith, below, are.long)) are in
    let low = range.0 in
    let high = range.1 in
    let same = get_or_default s.totals.items place d (pos 0) below in
    record { least = omega (arith, ints); most = omega (arith, ints) }

pub all-ranged : (all : IndexedTables) → AreRanged (tables_of all)
all-ranged all t at =
    let it = map-Contains indexed_of all.tables.items t at in
    subst (λ (u : Table). All (λ (r : Row). All IsInRange r.weights) u.rows) it.2 it.0.in_range

pub few-tables : (all : IndexedTables) → length (tables_of all) < 2 ^ 24
few-tables all = let few = all.few in omega (arith, few, length-map all.tables.items indexed_of)

-- weights are as small as losses
pub as-losses : (weights : List ℤ) → All IsInRange weights → All IsLoss weights
as-losses weights all k d below =
    let range = all k d below in
    let low = range.least in
    let high = range.most in
    record { least = omega (arith, ints); most = omega (arith, ints) }

-- ---- a row is taken off, or put on

module _ (tables : List Table) (count : ℕ) (old new : RowSums) (k : ℕ) (t : Table) (r : Row) (row : ℕ) (at : slice_get tables k ≡ Some t) (there : slice_get t.rows row ≡ Some r) (before : AreSums tables count old) where
  in-rows : k < length old.rows.items
  in-rows = let within = slice_get_within tables k t at in omega (arith, within, before.rows)

  within-set : (o : Option ℕ) → IfSome o (λ row. row < length t.rows) → new.rows.items ≡ slice_set old.rows.items k o
      → (j : ℕ) (u : Table) → slice_get tables j ≡ Some u → IfSome (get_or new.rows.items j None) (λ row. row < length u.rows)
  within-set o inside is j u here = elim (cases_eq j k) [
    | inl same ↦
        let it : t ≡ u = some-same (sym at ∙ ap (slice_get tables) (sym same) ∙ here) in
        let read : get_or new.rows.items j None ≡ o = ap (λ l. get_or l j None) is ∙ ap (λ n. get_or (slice_set old.rows.items k o) n None) same ∙ get_or-set_same old.rows.items k o None in-rows in
        subst (λ p. IfSome p (λ row. row < length u.rows)) (sym read) (subst (λ (v : Table). IfSome o (λ row. row < length v.rows)) it inside)
    | inr other ↦
        subst (λ p. IfSome p (λ row. row < length u.rows)) (sym (ap (λ l. get_or l j None) is ∙ get_or-set_other old.rows.items k j o None other)) (before.within j u here)
  ]
    where
      some-same : {x y : Table} → Some x ≡ Some y → x ≡ y
      some-same e = cc

  pub sums-off : get_or old.rows.items k None ≡ Some row → AreAdded new.totals.items r.weights old.totals.items → new.missing ≡ old.missing + 1 → new.rows.items ≡ slice_set old.rows.items k None → AreSums tables count new
  sums-off was added one_more is =
      let lost = lacking-set old.rows.items k None in-rows in
      let had : lacks (get_or old.rows.items k None) ≡ 0 = ap lacks was in
      record {
        rows = ap length is ∙ length-set old.rows.items k None ∙ before.rows;
        within = within-set None tt is;
        missing = omega (arith, one_more, before.missing, lost, had, ap lacking is);
        long = sym added.long ∙ before.long;
        totals = λ place below.
            let changed = given-set place tables old.rows.items k t None at before.rows in
            let gave : given_by place (row_at t (get_or old.rows.items k None)) ≡ weight_at place r = ap (λ o. given_by place (row_at t o)) was ∙ ap (given_by place) there in
            let each = added.each place in
            let so_far = before.totals place below in
            let now = ap (given_rows place tables) is in
            omega (arith, ints);
      }

  pub sums-on : get_or old.rows.items k None ≡ None → AreAdded old.totals.items r.weights new.totals.items → new.missing + 1 ≡ old.missing → new.rows.items ≡ slice_set old.rows.items k (Some row) → AreSums tables count new
  sums-on was added one_less is =
      let won = lacking-set old.rows.items k (Some row) in-rows in
      let had : lacks (get_or old.rows.items k None) ≡ 1 = ap lacks was in
      record {
        rows = ap length is ∙ length-set old.rows.items k (Some row) ∙ before.rows;
        within = within-set (Some row) (slice_get_within t.rows row r there) is;
        missing = omega (arith, one_less, before.missing, won, had, ap lacking is);
        long = added.long ∙ before.long;
        totals = λ place below.
            let changed = given-set place tables old.rows.items k t (Some row) at before.rows in
            let gave : given_by place (row_at t (get_or old.rows.items k None)) ≡ pos 0 = ap (λ o. given_by place (row_at t o)) was in
            let gives : given_by place (row_at t (Some row)) ≡ weight_at place r = ap (given_by place) there in
            let each = added.each place in
            let so_far = before.totals place below in
            let now = ap (given_rows place tables) is in
            omega (arith, ints);
      }

  -- some table has none, if this one has none
  pub some-missing : get_or old.rows.items k None ≡ None → 0 < old.missing
  some-missing was =
      let won = lacking-set old.rows.items k (Some row) in-rows in
      let had : lacks (get_or old.rows.items k None) ≡ 1 = ap lacks was in
      omega (arith, won, had, before.missing)

-- what is there already
pub set-same : (rows : List (Option ℕ)) (k : ℕ) (row : Option ℕ) → get_or rows k None ≡ row → k < length rows → slice_set rows k row ≡ rows
set-same [] k row same below = absurd (omega (arith, below))
set-same (r ∷ rows) zero row same below = ap (λ x. x ∷ rows) (sym same)
set-same (r ∷ rows) (suc k) row same below = ap (λ l. r ∷ l) (set-same rows k row same (omega (arith, below)))

pub set-twice : (rows : List (Option ℕ)) (k : ℕ) (one other : Option ℕ) → slice_set (slice_set rows k one) k other ≡ slice_set rows k other
set-twice [] k one other = refl
set-twice (r ∷ rows) zero one other = refl
set-twice (r ∷ rows) (suc k) one other = ap (λ l. r ∷ l) (set-twice rows k one other)

-- ---- sums at each place

-- the first `count` numbers have their weights added
pub record AreAddedBelow (old weights : List ℤ) (count : ℕ) (new : List ℤ) : Type 0 where
  pub long : length new ≡ length old
  pub done : (place : ℕ) → place < count → get_or new place (pos 0) ≡ (get_or old place (pos 0) +ℤ get_or weights place (pos 0))
  pub left : (place : ℕ) → count ≤ place → get_or new place (pos 0) ≡ get_or old place (pos 0)

pub added-none : (old weights : List ℤ) → AreAddedBelow old weights 0 old
added-none old weights = record { long = refl; done = λ place below. absurd (omega (arith, below)); left = λ place _. refl }

pub added-more : (old weights : List ℤ) (k : ℕ) (mid new : List ℤ) (sum : ℤ) → k < length mid → length new ≡ length mid → new ≡ slice_set mid k sum → sum ≡ (get_or mid k (pos 0) +ℤ get_or weights k (pos 0))
    → AreAddedBelow old weights k mid → AreAddedBelow old weights (k + 1) new
added-more old weights k mid new sum within long set is before = record {
  long = long ∙ before.long;
  done = λ place below. elim (cases_eq place k) [
    | inl same ↦ ap (λ l. get_or l place (pos 0)) set ∙ ap (λ j. get_or (slice_set mid k sum) j (pos 0)) same ∙ get_or-set_same mid k sum (pos 0) within ∙ is
        ∙ ap (λ z. z +ℤ get_or weights k (pos 0)) (before.left k (omega arith)) ∙ ap (λ j. get_or old j (pos 0) +ℤ get_or weights j (pos 0)) (sym same)
    | inr other ↦ ap (λ l. get_or l place (pos 0)) set ∙ get_or-set_other mid k place sum (pos 0) other ∙ before.done place (omega (arith, below, other))
  ];
  left = λ place above. ap (λ l. get_or l place (pos 0)) set ∙ get_or-set_other mid k place sum (pos 0) (λ same. absurd (omega (arith, same, above))) ∙ before.left place (omega (arith, above));
}

pub added-all : (old weights new : List ℤ) (count : ℕ) → length weights ≡ length old → length weights ≤ count → AreAddedBelow old weights count new → AreAdded old weights new
added-all old weights new count as_long all before = record {
  long = before.long;
  each = λ place. elim (cases_lt place count) [
    | inl below ↦ before.done place below
    | inr above ↦
        let past : length old ≤ place = omega (arith, above, all, as_long) in
        get_or_past new place (pos 0) (omega (arith, past, before.long)) ∙ sym (λ i. get_or_past old place (pos 0) past i +ℤ get_or_past weights place (pos 0) (omega (arith, past, as_long)) i)
  ];
}

-- the first `count` numbers have their weights subtracted
pub record AreTakenBelow (old weights : List ℤ) (count : ℕ) (new : List ℤ) : Type 0 where
  pub long : length old ≡ length new
  pub done : (place : ℕ) → place < count → get_or old place (pos 0) ≡ (get_or new place (pos 0) +ℤ get_or weights place (pos 0))
  pub left : (place : ℕ) → count ≤ place → get_or old place (pos 0) ≡ get_or new place (pos 0)

pub taken-none : (old weights : List ℤ) → AreTakenBelow old weights 0 old
taken-none old weights = record { long = refl; done = λ place below. absurd (omega (arith, below)); left = λ place _. refl }

pub taken-more : (old weights : List ℤ) (k : ℕ) (mid new : List ℤ) (rest : ℤ) → k < length mid → length new ≡ length mid → new ≡ slice_set mid k rest → get_or mid k (pos 0) ≡ (rest +ℤ get_or weights k (pos 0))
    → AreTakenBelow old weights k mid → AreTakenBelow old weights (k + 1) new
taken-more old weights k mid new rest within long set is before = record {
  long = before.long ∙ sym long;
  done = λ place below. elim (cases_eq place k) [
    | inl same ↦ ap (λ j. get_or old j (pos 0)) same ∙ before.left k (omega arith) ∙ is
        ∙ sym (ap (λ l. get_or l place (pos 0) +ℤ get_or weights place (pos 0)) set ∙ ap (λ j. get_or (slice_set mid k rest) j (pos 0) +ℤ get_or weights j (pos 0)) same
        ∙ ap (λ z. z +ℤ get_or weights k (pos 0)) (get_or-set_same mid k rest (pos 0) within))
    | inr other ↦ before.done place (omega (arith, below, other)) ∙ ap (λ z. z +ℤ get_or weights place (pos 0)) (sym (ap (λ l. get_or l place (pos 0)) set ∙ get_or-set_other mid k place rest (pos 0) other))
  ];
  left = λ place above. before.left place (omega (arith, above)) ∙ sym (ap (λ l. get_or l place (pos 0)) set ∙ get_or-set_other mid k place rest (pos 0) (λ same. absurd (omega (arith, same, above))));
}

pub taken-all : (old weights new : List ℤ) (count : ℕ) → length weights ≡ length old → length weights ≤ count → AreTakenBelow old weights count new → AreAdded new weights old
taken-all old weights new count as_long all before = record {
  long = before.long;
  each = λ place. elim (cases_lt place count) [
    | inl below ↦ before.done place below
    | inr above ↦
        let past : length old ≤ place = omega (arith, above, all, as_long) in
        get_or_past old place (pos 0) past ∙ sym (λ i. get_or_past new place (pos 0) (omega (arith, past, before.long)) i +ℤ get_or_past weights place (pos 0) (omega (arith, past, as_long)) i)
  ];
}

-- ---- a row of none

get-same : {X : Type 0} (n k : ℕ) (x : X) → get_or (replicate n x) k x ≡ x
get-same n k x = elim (cases_lt k n) [
  | inl within ↦ get_or-replicate n k x x within
  | inr past ↦ get_or_past (replicate n x) k x (omega (arith, past, length-replicate n x))
]

pub no-sums : (tables : List Table) (count n : ℕ) (s : RowSums) → s.rows.items ≡ replicate n None → s.missing ≡ n → n ≡ length tables → s.totals.items ≡ replicate count (pos 0) → AreSums tables count s
no-sums tables count n s rows missing many totals = record {
  rows = ap length rows ∙ length-replicate n None ∙ many;
  within = λ k t at. subst (λ o. IfSome o (λ row. row < length t.rows)) (sym (ap (λ l. get_or l k None) rows ∙ get-same n k None)) tt;
  missing = missing ∙ sym (ap lacking rows ∙ lacking-all n);
  long = ap length totals ∙ length-replicate count (pos 0);
  totals = λ place below. ap (λ l. get_or l place (pos 0)) totals ∙ get-same count place (pos 0) ∙ sym (ap (given_rows place tables) rows ∙ given-none place tables n);
}
