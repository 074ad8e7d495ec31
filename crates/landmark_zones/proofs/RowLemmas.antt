-- Rows in one list: what is appended is the last row, and where a row is.
use Rattle.std.proofs.Common.{◌≡◌, ◌∙◌, ℕ, zero, suc, ◌+◌, ◌-◌, ◌<◌, ◌≤◌, true, List, [], ◌∷◌, ◌++◌, length, take, drop, get_or, map, Some, refl, sym, ap, arith}
use Rattle.std.specs.Prelude.{◌==◌, nat_le, slice_get, Result, Ok, Err, is_ok}
use Rattle.std.specs.Option.{option_map}
use Rattle.std.specs.Result.{OnOk}
use Rattle.std.proofs.lemmas.Bool.{and_parts, and_from, eqb-true, eq-eqb, leb-true, le-leb}
use Rattle.std.proofs.lemmas.List.{length-drop, take_all, take-append-le, drop_at, drop-append-le}
use Rattle.landmark_zones.specs.Rows.{between, rows_from, are_ends, row_start}

-- ---- entries between two places

pub between-append : {X : Type 0} (start end : ℕ) (xs ys : List X) → start ≤ end → end ≤ length xs → between start end (xs ++ ys) ≡ between start end xs
between-append start end xs ys up within =
    ap (take (end - start)) (drop-append-le start xs ys (omega arith)) ∙ take-append-le (end - start) (drop start xs) ys (omega (arith, length-drop start xs))

pub between-rest : {X : Type 0} (start end : ℕ) (xs ys : List X) → start ≡ length xs → end ≡ length xs + length ys → between start end (xs ++ ys) ≡ ys
between-rest start end xs ys begins ends =
    ap (take (end - start)) (drop_at xs ys start (sym begins)) ∙ take_all (end - start) ys (omega (arith, begins, ends))

-- ---- ends

pub ends-up : (start : ℕ) (ends : List ℕ) (last : ℕ) → are_ends start ends last ≡ true → start ≤ last
ends-up start [] last are = let is = eqb-true start last are in omega arith
ends-up start (end ∷ ends) last are =
    let parts = and_parts (nat_le start end) (are_ends end ends last) are in
    let first = leb-true start end parts.0 in
    let rest = ends-up end ends last parts.1 in
    omega arith

pub ends-more : (start : ℕ) (ends : List ℕ) (last more : ℕ) → are_ends start ends last ≡ true → last ≤ more → are_ends start (ends ++ more ∷ []) more ≡ true
ends-more start [] last more are up =
    let is = eqb-true start last are in
    and_from (nat_le start more) (more == more) (le-leb start more (omega arith)) (eq-eqb more more refl)
ends-more start (end ∷ ends) last more are up =
    let parts = and_parts (nat_le start end) (are_ends end ends last) are in
    and_from (nat_le start end) (are_ends end (ends ++ more ∷ []) more) parts.0 (ends-more end ends last more parts.1 up)

-- a row is within the entries
pub row-within : (start : ℕ) (ends : List ℕ) (last number d : ℕ) → are_ends start ends last ≡ true → number < length ends
    → (row_start start ends number ≤ get_or ends number d) × (get_or ends number d ≤ last)
row-within start [] last number d are there = absurd (omega arith)
row-within start (end ∷ ends) last zero d are there =
    let parts = and_parts (nat_le start end) (are_ends end ends last) are in
    (leb-true start end parts.0, ends-up end ends last parts.1)
row-within start (end ∷ ends) last (suc number) d are there =
    row-within end ends last number d (and_parts (nat_le start end) (are_ends end ends last) are).1 (omega arith)

-- where a row begins the one before it ends
pub start-after : (start : ℕ) (ends : List ℕ) (number d : ℕ) → number < length ends → row_start start ends (suc number) ≡ get_or ends number d
start-after start [] number d there = absurd (omega arith)
start-after start (end ∷ ends) zero d there = refl
start-after start (end ∷ ends) (suc number) d there = start-after end ends number d (omega arith)

-- ---- rows

pub length-rows : {X : Type 0} (start : ℕ) (ends : List ℕ) (xs : List X) → length (rows_from start ends xs) ≡ length ends
length-rows start [] xs = refl
length-rows start (end ∷ ends) xs = ap suc (length-rows end ends xs)

pub rows-more : {X : Type 0} (start : ℕ) (ends : List ℕ) (xs ys : List X) → are_ends start ends (length xs) ≡ true
    → rows_from start (ends ++ (length xs + length ys) ∷ []) (xs ++ ys) ≡ rows_from start ends xs ++ ys ∷ []
rows-more start [] xs ys are = ap (λ row. row ∷ []) (between-rest start (length xs + length ys) xs ys (eqb-true start (length xs) are) refl)
rows-more start (end ∷ ends) xs ys are =
    let parts = and_parts (nat_le start end) (are_ends end ends (length xs)) are in
    let first = between-append start end xs ys (leb-true start end parts.0) (ends-up end ends (length xs) parts.1) in
    let rest = rows-more end ends xs ys parts.1 in
    (λ i. first i ∷ rest i)

pub row-at : {X : Type 0} (start : ℕ) (ends : List ℕ) (xs : List X) (number d : ℕ) → number < length ends
    → slice_get (rows_from start ends xs) number ≡ Some (between (row_start start ends number) (get_or ends number d) xs)
row-at start [] xs number d there = absurd (omega arith)
row-at start (end ∷ ends) xs zero d there = refl
row-at start (end ∷ ends) xs (suc number) d there = row-at end ends xs number d (omega arith)

-- where a row after the first begins
pub start-before : (ends : List ℕ) (number d : ℕ) → (number ≡ 0 → ⊥) → number < length ends → row_start 0 ends number ≡ get_or ends (number - 1) d
start-before ends zero d later there = absurd (later refl)
start-before ends (suc number) d later there =
    let same : number ≡ suc number - 1 = omega arith in
    start-after 0 ends number d (omega arith) ∙ ap (λ k. get_or ends k d) same

-- ---- what a call ensures that succeeded

pub ok_fact : {T E : Type 0} (P : Type 0) (r : Result T E) → is_ok r ≡ true → OnOk r P → P
ok_fact P (Ok x) is fact = fact
ok_fact P (Err e) is fact = absurd (cc)

pub slice_get-map : {X Y : Type 0} (f : X → Y) (xs : List X) (k : ℕ) → slice_get (map f xs) k ≡ option_map f (slice_get xs k)
slice_get-map f [] zero = refl
slice_get-map f [] (suc k) = refl
slice_get-map f (x ∷ xs) zero = refl
slice_get-map f (x ∷ xs) (suc k) = slice_get-map f xs k
