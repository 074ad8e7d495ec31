-- Tables in memory as given by lines, and lines of tables.
use Rattle.std.proofs.Common.{◌≡◌, ◌∙◌, ℕ, zero, suc, ◌+◌, ◌<◌, ◌≤◌, true, List, [], ◌∷◌, ◌++◌, map, length, length-append, get_or, refl, sym, ap, arith}
use Rattle.std.specs.Prelude.{IfOk, IsTrue, Result, Ok, Err, nat_lt, slice_set}
use Rattle.std.proofs.lemmas.Bool.{and_from, lt-ltb}
use Rattle.std.proofs.lemmas.List.{map-append}
use Rattle.std.proofs.lemmas.List.Elements.{All-set}
use Rattle.lower_bounds.specs.TableFunctions.{Row}
use Rattle.table_rows.specs.Rows.{are_rising}
use Rattle.table_rows.specs.Tables.{table_of, weight_count_of}
use Rattle.table_rows.specs.Adding.{IsAdded}
use Rattle.table_rows.specs.declared.by_atoms.Added.{Added}
use Rattle.table_rows.specs.declared.table.Table.{Table}
use Rattle.certificate_definitions.specs.Certificates.{rise, rows_of}
use Rattle.certificate_definitions.specs.CertificateText.{TableLine, scope, row}
use Rattle.certificate_reader.proofs.NumbersRead.{rise_parts}
use Rattle.cert_checker.specs.Tabled.{HaveWeights, IsAddedToLast}

-- ---- the last of a list

pub record IsLast {X : Type 0} (xs : List X) (k : ℕ) (x : X) : Type 0 where
  pub front : List X
  pub are : xs ≡ front ++ x ∷ []
  pub put : (y : X) → slice_set xs k y ≡ front ++ y ∷ []

pub last_of : {X : Type 0} (xs : List X) (k : ℕ) (d : X) → length xs ≡ suc k → IsLast xs k (get_or xs k d)
last_of [] k d long = absurd (omega (arith, long))
last_of (x ∷ []) zero d long = record { front = []; are = refl; put = λ y. refl }
last_of (x ∷ []) (suc k) d long = absurd (omega (arith, long))
last_of (x ∷ z ∷ xs) zero d long = absurd (omega (arith, long))
last_of (x ∷ z ∷ xs) (suc k) d long =
    let rest = last_of (z ∷ xs) k d (omega (arith, long)) in
    record { front = x ∷ rest.front; are = ap (λ xs. x ∷ xs) rest.are; put = λ y. ap (λ xs. x ∷ xs) (rest.put y) }

-- ---- tables in memory

-- what is added to the table at the last index is added to the last table
added_to_last : (old : List Table) (k : ℕ) (before after : Table) (r : Row) (a : Added) → length old ≡ suc k → before ≡ get_or old k before → IsAdded (table_of before) (table_of after) r a
    → IsAddedToLast (map table_of old) (map table_of (slice_set old k after)) r a
added_to_last old k before after r a long is added =
    let last = last_of old k before long in
    record {
      front = map table_of last.front;
      before = table_of before;
      after = table_of after;
      old_are = ap (map table_of) (last.are ∙ ap (λ t. last.front ++ t ∷ []) (sym is)) ∙ map-append table_of last.front (before ∷ []);
      new_are = ap (map table_of) (last.put after) ∙ map-append table_of last.front (after ∷ []);
      added = added;
    }

pub if_added : {E : Type 0} (old : List Table) (k : ℕ) (before after : Table) (r : Row) (result : Result Added E) → length old ≡ suc k → before ≡ get_or old k before
    → IfOk result (IsAdded (table_of before) (table_of after) r) → IfOk result (IsAddedToLast (map table_of old) (map table_of (slice_set old k after)) r)
if_added old k before after r (Ok a) long is added = added_to_last old k before after r a long is added
if_added old k before after r (Err e) long is added = tt

-- and all rows have as many weights as before
pub still_weighed : (count : ℕ) (old : List Table) (k : ℕ) (before after : Table) → k < length old → before ≡ get_or old k before → weight_count_of after ≡ weight_count_of before → HaveWeights count old
    → HaveWeights count (slice_set old k after)
still_weighed count old k before after below is same weighed =
    All-set (λ (t : Table). weight_count_of t ≡ count) old k after (same ∙ ap weight_count_of is ∙ weighed k before below) weighed

-- no table has more rows than all tables together
pub rows_of_one : (tables : List Table) (k : ℕ) (d : Table) → k < length tables → length (table_of (get_or tables k d)).rows ≤ length (rows_of (map table_of tables))
rows_of_one [] k d below = absurd (omega (arith, below))
rows_of_one (t ∷ tables) zero d below = omega (arith, length-append (table_of t).rows (rows_of (map table_of tables)))
rows_of_one (t ∷ tables) (suc k) d below =
    let rest = rows_of_one tables k d (omega (arith, below)) in
    omega (arith, rest, length-append (table_of t).rows (rows_of (map table_of tables)))

-- ---- ascending numbers

pub rising_from : (count least : ℕ) (numbers : List ℕ) → rise count least numbers ≡ true → IsTrue (are_rising numbers)
rising_from count least [] all = refl
rising_from count least (n ∷ []) all = refl
rising_from count least (n ∷ m ∷ rest) all =
    let (_, _, more) = rise_parts count least n (m ∷ rest) all in
    let (above, _, _) = rise_parts count (n + 1) m rest more in
    and_from (nat_lt n m) (are_rising (m ∷ rest)) (lt-ltb n m (omega (arith, above))) (rising_from count (n + 1) (m ∷ rest) more)

-- there are no more than from the least one to the count
pub rising_few : (count least : ℕ) (numbers : List ℕ) → rise count least numbers ≡ true → least ≤ count → length numbers + least ≤ count
rising_few count least [] all low = omega (arith, low)
rising_few count least (n ∷ rest) all low =
    let (above, below, more) = rise_parts count least n rest all in
    let few = rising_few count (n + 1) rest more (omega (arith, below)) in
    omega (arith, few, above)

-- ---- lines of tables

table_parts : (x y : TableLine) (xs ys : List TableLine) → x ∷ xs ≡ y ∷ ys → (x ≡ y) × (xs ≡ ys)
table_parts x y xs ys same = (cc same, cc same)

scope_same : (a b : List ℕ) → scope a ≡ scope b → a ≡ b
scope_same a b same = cc same

row_same : (q r : Row) → row q ≡ row r → q ≡ r
row_same q r same = cc same

rows_same : (rows more : List Row) → map row rows ≡ map row more → rows ≡ more
rows_same [] [] same = refl
rows_same [] (r ∷ more) same = absurd (cc same)
rows_same (q ∷ rows) [] same = absurd (cc same)
rows_same (q ∷ rows) (r ∷ more) same =
    let (here, rest) = table_parts (row q) (row r) (map row rows) (map row more) same in
    let first = row_same q r here in
    let others = rows_same rows more rest in
    λ i. first i ∷ others i

-- there is no scope among rows
no_scope : (rows : List Row) (front : List TableLine) (atoms : List ℕ) (more : List TableLine) → map row rows ≡ front ++ scope atoms ∷ more → ⊥
no_scope [] [] atoms more same = absurd (cc same)
no_scope [] (t ∷ front) atoms more same = absurd (cc same)
no_scope (r ∷ rows) [] atoms more same = absurd (cc (table_parts (row r) (scope atoms) (map row rows) more same).0)
no_scope (r ∷ rows) (t ∷ front) atoms more same = no_scope rows front atoms more (table_parts (row r) t (map row rows) (front ++ scope atoms ∷ more) same).1

-- lines end in only one table
pub one_end : (xs ys : List TableLine) (a b : List ℕ) (rows more : List Row) → xs ++ scope a ∷ map row rows ≡ ys ++ scope b ∷ map row more → (a ≡ b) × (rows ≡ more)
one_end [] [] a b rows more same = let (here, rest) = table_parts (scope a) (scope b) (map row rows) (map row more) same in (scope_same a b here, rows_same rows more rest)
one_end [] (y ∷ ys) a b rows more same = absurd (no_scope rows ys b (map row more) (table_parts (scope a) y (map row rows) (ys ++ scope b ∷ map row more) same).1)
one_end (x ∷ xs) [] a b rows more same = absurd (no_scope more xs a (map row rows) (sym (table_parts x (scope b) (xs ++ scope a ∷ map row rows) (map row more) same).1))
one_end (x ∷ xs) (y ∷ ys) a b rows more same = one_end xs ys a b rows more (table_parts x y (xs ++ scope a ∷ map row rows) (ys ++ scope b ∷ map row more) same).1
