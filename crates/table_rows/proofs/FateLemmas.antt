-- What is lost from rows, by their sets.
use Rattle.std.proofs.Common.{◌≡◌, ◌∙◌, ℕ, zero, suc, ◌+◌, ◌-◌, ◌<◌, ◌≤◌, inl, inr, Bool, true, false, true≢false, not, ◌&&◌, ◌||◌, List, [], ◌∷◌, ◌++◌, length, take, drop, map, get_or, Option, None, Some, refl, sym, ap, subst, arith, ℤ, pos, ◌+ℤ◌, neg_ℤ}
use Rattle.std.specs.Prelude.{Contains, All, ◌⊎◌, ◌==◌, fold, if◌then◌else◌, slice_get, is_some}
use Rattle.std.specs.Bool.{beq}
use Rattle.std.specs.List.{list_all, flat_map, filter_map, range_with_len}
use Rattle.std.specs.Option.{option_map_or}
use Rattle.std.proofs.lemmas.Int.{ints}
use Rattle.std.proofs.lemmas.Bool.{and_parts, and_from, eqb-true, eq-eqb, false_from_ne_true}
use Rattle.std.proofs.lemmas.List.{length_push, take_more, take_all, take-append-drop, map-append, map_push, append-nil}
use Rattle.std.proofs.lemmas.List.Sums.{fold-append}
use Rattle.std.proofs.lemmas.List.FromFn.{get_or-range_with_len, length-range_with_len}
use Rattle.std.proofs.lemmas.List.Folds.{list_all-append}
use Rattle.std.proofs.lemmas.Grind.{flat_map-append}
use Rattle.std.proofs.lemmas.Option.{slice_get-get_or, slice_get_within, get_or_from_slice_get}
use Rattle.std.proofs.lemmas.List.Elements.{All-contains, All-nil, All-cons, All-head, All-tail}
use Rattle.model.proofs.ListLemmas.{Contains-here, Contains-there, Contains-none, Contains-got, Contains-map, map-Contains, filter_map-Contains, Contains-flat_map, flat_map-Contains, Contains-range, range-Contains}
use Rattle.lower_bounds.proofs.TableLists.{all-from, all-at, any-at}
use Rattle.lower_bounds.specs.PotentialFunctions.{IsInRange}
use Rattle.lower_bounds.proofs.Ranges.{weight-range, zero-range}
use Rattle.lower_bounds.proofs.TableRows.{row-is}
use Rattle.lower_bounds.specs.TableFunctions.{Row, Table, is_among, row_of, weight_at}
use Rattle.table_rows.specs.Rows.{atoms_at}
use Rattle.table_rows.specs.Afters.{When, losses_to, most_of, turns, is_open_at, freed, free_places, ways, ways_of, turned}
use Rattle.table_rows.specs.Fates.{IsLoss, are_rows, Question, weight_in, is_closed_from, closed_at, lost_from, lost_at, rows_of, LosesInAll}
use Rattle.table_rows.specs.Candidates.{AreCandidates}
use Rattle.table_rows.specs.Lists.{list_at, IsIndexOf}
use Rattle.table_rows.specs.declared.lists.Lists.{Lists}
use Rattle.table_rows.specs.declared.placed.PlacedLiteral as code_of_literal
use Rattle.packed_state.specs.Sets.{has}
use Rattle.table_rows.specs.Placed.{placed_of, is_so}
use Rattle.table_rows.specs.PlacedChanges.{when_of, FitsWhen}
use Rattle.table_rows.specs.declared.afters.When as code_of_when
use Rattle.table_rows.proofs.MostLemmas.{most-alike}

-- ---- lists

All-push : (n : ℕ) (xs : List ℕ) (x : ℕ) → All (λ k. k < n) xs → x < n → All (λ k. k < n) (xs ++ x ∷ [])
All-push n [] x all here = All-cons (λ k. k < n) x [] here (All-nil (λ k. k < n))
All-push n (y ∷ xs) x all here = All-cons (λ k. k < n) y (xs ++ x ∷ []) (All-head (λ k. k < n) y xs all) (All-push n xs x (All-tail (λ k. k < n) y xs all) here)

fold-push : {A X : Type 0} (f : A → X → A) (a : A) (xs : List X) (x : X) → fold f a (xs ++ x ∷ []) ≡ f (fold f a xs) x
fold-push f a [] x = refl
fold-push f a (y ∷ xs) x = fold-push f (f a y) xs x

pub item-at : {X : Type 0} (xs : List X) (i : ℕ) (d : X) → i < length xs → slice_get xs i ≡ Some (get_or xs i d)
item-at xs i d below = slice_get-get_or xs i d below

pub taken-more : {X Y : Type 0} (g : X → Y) (xs : List X) (i : ℕ) (x : X) → slice_get xs i ≡ Some x → map g (take (i + 1) xs) ≡ map g (take i xs) ++ g x ∷ []
taken-more g xs i x at =
    ap (map g) (take_more xs i x (slice_get_within xs i x at) ∙ ap (λ y. take i xs ++ y ∷ []) (get_or_from_slice_get xs i x x at)) ∙ map_push g (take i xs) x

-- one change more
pub freed-more : (row left : List Bool) (items : List code_of_when.When) (i : ℕ) (w : code_of_when.When) (free new : List ℕ) → slice_get items i ≡ Some w
    → free ≡ fold (freed row left) [] (map when_of (take i items)) → new ≡ freed row left free (when_of w) → new ≡ fold (freed row left) [] (map when_of (take (i + 1) items))
freed-more row left items i w free new at so_far is =
    is ∙ ap (λ f. freed row left f (when_of w)) so_far ∙ sym (ap (fold (freed row left) []) (taken-more when_of items i w at) ∙ fold-push (freed row left) [] (map when_of (take i items)) (when_of w))

-- no place is left out again
freed-longer : (row left : List Bool) (found : List ℕ) (w : When) → length found ≤ length (freed row left found w)
freed-longer row left found w =
    elim (is_among found w.place) as (λ b. length found ≤ length (if b then found else if turns row left w then found ++ w.place ∷ [] else found)) [
      | true ↦ omega arith
      | false ↦ elim (turns row left w) as (λ b. length found ≤ length (if b then found ++ w.place ∷ [] else found)) [
        | true ↦ let more = length_push found w.place in omega (arith, more)
        | false ↦ omega arith
      ]
    ]

freed-grow : (row left : List Bool) (found : List ℕ) (ws : List When) → length found ≤ length (fold (freed row left) found ws)
freed-grow row left found [] = omega arith
freed-grow row left found (w ∷ ws) = let here = freed-longer row left found w in let rest = freed-grow row left (freed row left found w) ws in omega (arith, here, rest)

pub freed-before : (row left : List Bool) (items : List code_of_when.When) (i : ℕ) → length (fold (freed row left) [] (map when_of (take i items))) ≤ length (fold (freed row left) [] (map when_of items))
freed-before row left items i =
    let whole : fold (freed row left) (fold (freed row left) [] (map when_of (take i items))) (map when_of (drop i items)) ≡ fold (freed row left) [] (map when_of items) =
    sym (fold-append (freed row left) [] (map when_of (take i items)) (map when_of (drop i items))) ∙ ap (fold (freed row left) []) (sym (map-append when_of (take i items) (drop i items)) ∙ ap (map when_of) (take-append-drop i items)) in
    let grown = freed-grow row left (fold (freed row left) [] (map when_of (take i items))) (map when_of (drop i items)) in
    subst (λ (l : List ℕ). length (fold (freed row left) [] (map when_of (take i items))) ≤ length l) whole grown

pub fits-at : (width : ℕ) (whens items : List code_of_when.When) (i : ℕ) (w : code_of_when.When) → items ≡ whens → slice_get items i ≡ Some w → All (FitsWhen width) (map when_of whens) → FitsWhen width (when_of w)
fits-at width whens items i w are at all =
    All-contains (FitsWhen width) (map when_of whens) (when_of w) all
    (Contains-map when_of whens w (subst (λ l. Contains l w) are (Contains-got items i w at)))

-- ---- weights

pub row-range : (rows : List Row) (row place : ℕ) (r : Row) → All (λ (r : Row). All IsInRange r.weights) rows → slice_get rows row ≡ Some r → IsInRange (weight_at place r)
row-range rows row place r all at = weight-range r.weights place (All-contains (λ (r : Row). All IsInRange r.weights) rows r all (Contains-got rows row r at))

pub row-there : {X : Type 0} (rows : List X) (row : ℕ) → row < length rows → (r : X) × (slice_get rows row ≡ Some r)
row-there [] row below = absurd (omega (arith, below))
row-there (r ∷ rows) zero below = (r, refl)
row-there (r ∷ rows) (suc row) below = row-there rows row (omega (arith, below))

-- ---- sets

module _ (t : Table) (kept changed : List (List Bool)) where
  pub first-leaves : are_rows t kept ≡ false → are_rows t (kept ++ changed) ≡ false
  first-leaves none = list_all-append (λ (set : List Bool). is_some (row_of t (atoms_at t.scope set))) kept changed ∙ ap (λ b. b && are_rows t changed) none

  pub then-leaves : are_rows t changed ≡ false → are_rows t (kept ++ changed) ≡ false
  then-leaves none = list_all-append (λ (set : List Bool). is_some (row_of t (atoms_at t.scope set))) kept changed ∙ ap (λ b. are_rows t kept && b) none ∙ and_no (are_rows t kept)
    where
      and_no : (b : Bool) → (b && false) ≡ false
      and_no true = refl
      and_no false = refl

  pub both-rows : are_rows t kept ≡ true → are_rows t changed ≡ true → are_rows t (kept ++ changed) ≡ true
  both-rows one other =
      list_all-append (λ (set : List Bool). is_some (row_of t (atoms_at t.scope set))) kept changed ∙ and_from (are_rows t kept) (are_rows t changed) one other

-- the ways by the first place
pub ways-first : (set : List Bool) (free : List ℕ) → 1 ≤ length free
    → ways set free ≡ ways set (take (length free - 1) (drop 1 free)) ++ ways (turned set (get_or free 0 0)) (take (length free - 1) (drop 1 free))
ways-first set [] some = absurd (omega (arith, some))
ways-first set (place ∷ free) some =
    let rest : take (length (place ∷ free) - 1) free ≡ free = take_all (length (place ∷ free) - 1) free (omega arith) in
    (λ i. ways set (sym rest i) ++ ways (turned set place) (sym rest i))

-- ---- rows

module _ (q : Question) (row : ℕ) (set : List Bool) (at : slice_get q.sets row ≡ Some set) where
  -- a row that does not agree
  pub apart-closed : list_all (is_so set) q.literals ≡ false → closed_at q row ≡ true
  apart-closed differs = ap (λ o. option_map_or (is_closed_from q) o true) at ∙ ap (λ b. not b || are_rows q.table (ways_of q.changes set)) differs

  pub apart-lost : (place : ℕ) → list_all (is_so set) q.literals ≡ false → lost_at q place row ≡ []
  apart-lost place differs =
      ap (λ o. option_map_or (lost_from q place (weight_in q place row)) o []) at
      ∙ ap (λ b. if b then losses_to q.table place (weight_in q place row) (ways_of q.changes set) else []) differs

  -- one that agrees
  module _ (agrees : list_all (is_so set) q.literals ≡ true) where
    pub agreeing-closed : closed_at q row ≡ are_rows q.table (ways_of q.changes set)
    agreeing-closed = ap (λ o. option_map_or (is_closed_from q) o true) at ∙ ap (λ b. not b || are_rows q.table (ways_of q.changes set)) agrees

    pub agreeing-lost : (place : ℕ) (r : Row) → slice_get q.table.rows row ≡ Some r → lost_at q place row ≡ losses_to q.table place (weight_at place r) (ways_of q.changes set)
    agreeing-lost place r there =
        ap (λ o. option_map_or (lost_from q place (weight_in q place row)) o []) at
        ∙ ap (λ b. if b then losses_to q.table place (weight_in q place row) (ways_of q.changes set) else []) agrees
        ∙ ap (λ o. losses_to q.table place (option_map_or (weight_at place) o (pos 0)) (ways_of q.changes set)) there

-- ---- free places

free-from : (row left : List Bool) (width : ℕ) (found : List ℕ) (whens : List When) → All (FitsWhen width) whens → All (λ k. k < width) found → All (λ k. k < width) (fold (freed row left) found whens)
free-from row left width found [] fits below = below
free-from row left width found (w ∷ whens) fits below =
    free-from row left width (freed row left found w) whens (All-tail (FitsWhen width) w whens fits) (one (is_among found w.place) (turns row left w))
  where
    pushed : All (λ k. k < width) (found ++ w.place ∷ [])
    pushed = All-push width found w.place below (All-head (FitsWhen width) w whens fits).place

    one : (b c : Bool) → All (λ k. k < width) (if b then found else if c then found ++ w.place ∷ [] else found)
    one true c = below
    one false true = pushed
    one false false = below

pub free-below : (row left : List Bool) (width : ℕ) (whens : List When) (free : List ℕ) → free ≡ free_places whens row left → All (FitsWhen width) whens → All (λ k. k < width) free
free-below row left width whens free is fits = subst (All (λ k. k < width)) (sym is) (free-from row left width [] whens fits (All-nil (λ k. k < width)))

-- the places are those that are open
pub among-more : (found : List ℕ) (x k : ℕ) → is_among (found ++ x ∷ []) k ≡ (is_among found k || x == k)
among-more [] x k = or_none (x == k)
  where
    or_none : (b : Bool) → (b || false) ≡ b
    or_none true = refl
    or_none false = refl
among-more (y ∷ found) x k = ap (λ b. y == k || b) (among-more found x k) ∙ assoc (y == k) (is_among found k) (x == k)
  where
    assoc : (a b c : Bool) → (a || (b || c)) ≡ ((a || b) || c)
    assoc true b c = refl
    assoc false b c = refl

freed-among : (row left : List Bool) (found : List ℕ) (w : When) (k : ℕ) → is_among (freed row left found w) k ≡ (is_among found k || (w.place == k && turns row left w))
freed-among row left found w k =
    elim (is_among found w.place) as (λ b. is_among found w.place ≡ b
    → is_among (if b then found else if turns row left w then found ++ w.place ∷ [] else found) k ≡ (is_among found k || (w.place == k && turns row left w))) [
      | true ↦ λ there. elim (w.place == k) as (λ e. (w.place == k) ≡ e → is_among found k ≡ (is_among found k || (e && turns row left w))) [
        | true ↦ λ same. let here : is_among found k ≡ true = subst (λ j. is_among found j ≡ true) (eqb-true w.place k same) there in here ∙ sym (ap (λ b. b || turns row left w) here)
        | false ↦ λ _. sym (or_none (is_among found k))
      ] refl
      | false ↦ λ _. elim (turns row left w) as (λ t. is_among (if t then found ++ w.place ∷ [] else found) k ≡ (is_among found k || (w.place == k && t))) [
        | true ↦ among-more found w.place k ∙ ap (λ b. is_among found k || b) (sym (and_yes (w.place == k)))
        | false ↦ sym (ap (λ b. is_among found k || b) (and_none (w.place == k)) ∙ or_none (is_among found k))
      ]
    ] refl
  where
    or_none : (b : Bool) → (b || false) ≡ b
    or_none true = refl
    or_none false = refl

    and_yes : (b : Bool) → (b && true) ≡ b
    and_yes true = refl
    and_yes false = refl

    and_none : (b : Bool) → (b && false) ≡ false
    and_none true = refl
    and_none false = refl

free-after : (row left : List Bool) (found : List ℕ) (whens : List When) (k : ℕ) → is_among (fold (freed row left) found whens) k ≡ (is_among found k || is_open_at whens row left k)
free-after row left found [] k = or_none (is_among found k)
  where
    or_none : (b : Bool) → b ≡ (b || false)
    or_none true = refl
    or_none false = refl
free-after row left found (w ∷ whens) k =
    free-after row left (freed row left found w) whens k ∙ ap (λ b. b || is_open_at whens row left k) (freed-among row left found w k)
    ∙ assoc (is_among found k) (w.place == k && turns row left w) (is_open_at whens row left k)
  where
    assoc : (a b c : Bool) → ((a || b) || c) ≡ (a || (b || c))
    assoc true b c = refl
    assoc false b c = refl

pub free-is : (whens : List When) (row left : List Bool) (k : ℕ) → is_among (free_places whens row left) k ≡ is_open_at whens row left k
free-is whens row left k = free-after row left [] whens k

-- ---- all rows

pub take-at : {X : Type 0} (xs : List X) (i : ℕ) (x : X) → slice_get xs i ≡ Some x → take (i + 1) xs ≡ take i xs ++ x ∷ []
take-at xs i x at = take_more xs i x (slice_get_within xs i x at) ∙ ap (λ y. take i xs ++ y ∷ []) (get_or_from_slice_get xs i x x at)

flat-push : {X Y : Type 0} (f : X → List Y) (xs : List X) (x : X) → flat_map f (xs ++ x ∷ []) ≡ flat_map f xs ++ f x
flat-push f xs x = flat_map-append f xs (x ∷ []) ∙ ap (λ l. flat_map f xs ++ l) (append-nil (f x))

pub among-Contains : (xs : List ℕ) (k : ℕ) → is_among xs k ≡ true → Contains xs k
among-Contains [] k at = absurd (true≢false (sym at))
among-Contains (x ∷ xs) k at =
    elim (x == k) as (λ b. (x == k) ≡ b → (b || is_among xs k) ≡ true → Contains (x ∷ xs) k) [
      | true ↦ λ is _. subst (Contains (x ∷ xs)) (eqb-true x k is) (Contains-here x xs)
      | false ↦ λ _ later. Contains-there x xs k (among-Contains xs k later)
    ] refl at

pub Contains-among : (xs : List ℕ) (k : ℕ) → Contains xs k → is_among xs k ≡ true
Contains-among xs k at = any-at (λ j. j == k) xs k at (eq-eqb k k refl)

module _ (q : Question) (rows : List ℕ) (k row : ℕ) (at : slice_get rows k ≡ Some row) where
  pub closed-more : list_all (closed_at q) (take k rows) ≡ true → closed_at q row ≡ true → list_all (closed_at q) (take (k + 1) rows) ≡ true
  closed-more so here =
      ap (list_all (closed_at q)) (take-at rows k row at) ∙ list_all-append (closed_at q) (take k rows) (row ∷ [])
      ∙ and_from (list_all (closed_at q) (take k rows)) (closed_at q row && true) so (ap (λ b. b && true) here)

  pub lost-more : (place : ℕ) → flat_map (lost_at q place) (take (k + 1) rows) ≡ flat_map (lost_at q place) (take k rows) ++ lost_at q place row
  lost-more place = ap (flat_map (lost_at q place)) (take-at rows k row at) ∙ flat-push (lost_at q place) (take k rows) row

-- what is lost by weights in range
module _ (q : Question) (all : All (λ (r : Row). All IsInRange r.weights) q.table.rows) (place : ℕ) where
  weight-in-range : (row : ℕ) → IsInRange (weight_in q place row)
  weight-in-range row = of_row (slice_get q.table.rows row) refl
    where
      of_row : (o : Option Row) → slice_get q.table.rows row ≡ o → IsInRange (option_map_or (weight_at place) o (pos 0))
      of_row None _ = zero-range
      of_row (Some r) is = row-range q.table.rows row place r all is

  losses-range : (weight : ℤ) (sets : List (List Bool)) (z : ℤ) → IsInRange weight → Contains (losses_to q.table place weight sets) z → IsLoss z
  losses-range weight sets z range at =
      let row_at = λ (set : List Bool). row_of q.table (atoms_at q.table.scope set) in
      let it = map-Contains (λ (r : Row). weight +ℤ neg_ℤ (weight_at place r)) (filter_map row_at sets) z at in
      let found = filter_map-Contains row_at sets it.0 it.1 in
      let other = weight-range it.0.weights place (All-contains (λ (r : Row). All IsInRange r.weights) q.table.rows it.0 all (row-is q.table.rows (atoms_at q.table.scope found.0) it.0 found.2).0) in
      let least = range.least in
      let most = range.most in
      let other_least = other.least in
      let other_most = other.most in
      let is = it.2 in
      record { least = omega (arith, ints); most = omega (arith, ints) }

  pub lost-range : (row : ℕ) (z : ℤ) → Contains (lost_at q place row) z → IsLoss z
  lost-range row z at = of_set (slice_get q.sets row) at
    where
      of_set : (o : Option (List Bool)) → Contains (option_map_or (lost_from q place (weight_in q place row)) o []) z → IsLoss z
      of_set None among = absurd (Contains-none z among)
      of_set (Some set) among = of_bit (list_all (is_so set) q.literals) among
        where
          of_bit : (b : Bool) → Contains (if b then losses_to q.table place (weight_in q place row) (ways_of q.changes set) else []) z → IsLoss z
          of_bit true there = losses-range (weight_in q place row) (ways_of q.changes set) z (weight-in-range row) there
          of_bit false there = absurd (Contains-none z there)

  pub all-lost-range : (rows : List ℕ) (z : ℤ) → Contains (flat_map (lost_at q place) rows) z → IsLoss z
  all-lost-range rows z at = let it = flat_map-Contains (lost_at q place) rows z at in lost-range it.0 z it.2

pub range-at : (count place : ℕ) → place < count → slice_get (range_with_len 0 count) place ≡ Some place
range-at count place below =
    let e = get_or-range_with_len 0 count place 0 below in
    slice_get-get_or (range_with_len 0 count) place 0 (omega (arith, below, length-range_with_len 0 count)) ∙ ap Some (let is : get_or (range_with_len 0 count) place 0 ≡ place = omega (arith, e) in is)

module _ (q : Question) (rows : List ℕ) (are : AreCandidates q.sets q.literals rows) where
  in-rows : (row : ℕ) → Contains rows row → Contains (rows_of q) row
  in-rows row at = Contains-range 0 (length q.sets) row (omega arith) (let within = are.within row (Contains-among rows row at) in omega (arith, within))

  pub leaves-all : (row : ℕ) → Contains rows row → closed_at q row ≡ false → list_all (closed_at q) (rows_of q) ≡ false
  leaves-all row at leaves = false_from_ne_true (list_all (closed_at q) (rows_of q)) (λ all. true≢false (sym (all-at (closed_at q) (rows_of q) row all (in-rows row at)) ∙ leaves))

  -- a row of the table agrees, and is one of these, or it is of no account
  covered : (row : ℕ) → Contains (rows_of q) row → Contains rows row ⊎ ((closed_at q row ≡ true) × ((place : ℕ) → lost_at q place row ≡ []))
  covered row at =
      let below = range-Contains 0 (length q.sets) row at in
      let it = row-there q.sets row (omega (arith, below.1)) in
      elim (list_all (is_so it.0) q.literals) as (λ b. list_all (is_so it.0) q.literals ≡ b → Contains rows row ⊎ ((closed_at q row ≡ true) × ((place : ℕ) → lost_at q place row ≡ []))) [
        | true ↦ λ agrees. inl (among-Contains rows row (are.covers row it.0 it.1 agrees))
        | false ↦ λ differs. inr (apart-closed q row it.0 it.1 differs, λ place. apart-lost q row it.0 it.1 place differs)
      ] refl

  pub closed-all : list_all (closed_at q) rows ≡ true → list_all (closed_at q) (rows_of q) ≡ true
  closed-all so = all-from (closed_at q) (rows_of q) (λ row at. elim (covered row at) [
    | inl among ↦ all-at (closed_at q) rows row so among
    | inr apart ↦ apart.0
  ])

  pub loses-all : (place : ℕ) (lost : ℤ) → list_all (closed_at q) rows ≡ true → lost ≡ option_map_or (λ (z : ℤ). z) (most_of (flat_map (lost_at q place) rows)) (pos 0) → IsLoss lost → LosesInAll q place lost
  loses-all place lost so is range = record {
    closed = closed-all so;
    is = is ∙ ap (λ o. option_map_or (λ (z : ℤ). z) o (pos 0)) (most-alike (flat_map (lost_at q place) rows) (flat_map (lost_at q place) (rows_of q))
        (λ z at. let it = flat_map-Contains (lost_at q place) rows z at in Contains-flat_map (lost_at q place) (rows_of q) it.0 z (in-rows it.0 it.1) it.2)
        (λ z at. let it = flat_map-Contains (lost_at q place) (rows_of q) z at in elim (covered it.0 it.1) [
          | inl among ↦ Contains-flat_map (lost_at q place) rows it.0 z among it.2
          | inr apart ↦ absurd (Contains-none z (subst (λ l. Contains l z) (apart.1 place) it.2))
        ]));
    range = range;
  }

-- ---- candidates

pub all-candidates : (sets : List (List Bool)) (count : ℕ) → count ≡ length sets → AreCandidates sets [] (range_with_len 0 count)
all-candidates sets count is = record {
  covers = λ row set at _. Contains-among (range_with_len 0 count) row (Contains-range 0 count row (omega arith) (let within = slice_get_within sets row set at in omega (arith, within, is)));
  within = λ row at. let below = range-Contains 0 count row (among-Contains (range_with_len 0 count) row at) in let e = below.1 in omega (arith, e, is);
}

pub narrower : (sets : List (List Bool)) (index : Lists) (given : List code_of_literal.PlacedLiteral) (k : ℕ) (l : code_of_literal.PlacedLiteral) (best new : List ℕ) → slice_get given k ≡ Some l
    → IsIndexOf sets (length sets) index → (new ≡ best) ⊎ ((new ≡ list_at index l.place) × (l.value ≡ true)) → AreCandidates sets (map placed_of (take k given)) best
    → AreCandidates sets (map placed_of (take (k + 1) given)) new
narrower sets index given k l best new at indexed is are = record {
  covers = λ row set there agrees.
      let parts = and_parts (list_all (is_so set) (map placed_of (take k given))) (is_so set (placed_of l) && true)
      (sym (list_all-append (is_so set) (map placed_of (take k given)) (placed_of l ∷ [])) ∙ sym (ap (list_all (is_so set)) (taken-more placed_of given k l at)) ∙ agrees) in
      elim is [
        | inl same ↦ subst (λ rows. is_among rows row ≡ true) (sym same) (are.covers row set there parts.0)
        | inr narrowed ↦
            let holds = (and_parts (is_so set (placed_of l)) true parts.1).0 in
            let has_it : has set l.place ≡ true = is-true (has set l.place) (subst (λ v. beq (has set l.place) v ≡ true) narrowed.1 holds) in
            subst (λ rows. is_among rows row ≡ true) (sym narrowed.0) (indexed.covers l.place row set (slice_get_within sets row set there) there has_it)
      ];
  within = λ row there. elim is [
    | inl same ↦ are.within row (subst (λ rows. is_among rows row ≡ true) same there)
    | inr narrowed ↦ indexed.within l.place row (subst (λ rows. is_among rows row ≡ true) narrowed.0 there)
  ];
}
  where
    is-true : (b : Bool) → beq b true ≡ true → b ≡ true
    is-true true is = refl
    is-true false is = absurd (true≢false (sym is))
