-- The most that is lost, by the weights at each place.
use Rattle.std.proofs.Common.{◌≡◌, ◌∙◌, ℕ, ◌+◌, ◌<◌, ◌≤◌, inl, inr, Bool, true, false, ◌&&◌, List, [], ◌∷◌, ◌++◌, length, take, map, get_or, Some, refl, sym, ap, subst, arith, ℤ, pos, negsuc, ◌+ℤ◌, ◌-ℤ◌, neg_ℤ, ◌≤ℤ◌, to_z, of_z, w64}
use Rattle.std.specs.Prelude.{All, Contains, FitsSigned, fold, is_some, slice_get, slice_set}
use Rattle.std.specs.Int.{int_max}
use Rattle.std.specs.List.{list_all, flat_map, cons_option}
use Rattle.std.specs.Option.{option_map_or}
use Rattle.std.proofs.lemmas.Int.{ints, clamps, to_z-of_z}
use Rattle.std.proofs.lemmas.Bool.{cases_eq}
use Rattle.std.proofs.lemmas.List.{get_or-set_same, get_or-set_other, get_or_default, length-set}
use Rattle.std.proofs.lemmas.List.Elements.{All-contains}
use Rattle.std.proofs.lemmas.List.Sums.{fold-append}
use Rattle.model.proofs.ListLemmas.{Contains-here, Contains-got}
use Rattle.lower_bounds.specs.PotentialFunctions.{IsInRange}
use Rattle.lower_bounds.specs.TableFunctions.{Row, Table, row_of, weight_at}
use Rattle.table_rows.specs.Rows.{atoms_at}
use Rattle.table_rows.specs.Afters.{losses_to, most_of, ways_of}
use Rattle.table_rows.specs.Candidates.{AreCandidates}
use Rattle.table_rows.specs.Columns.{nothing_yet, IsMost, AreAll, AreRaisedBy, IsSettled, AreSettled, AreRaisedTo, RaisesTo, AreRaisedFrom, RaisesFrom, AreMostLost}
use Rattle.table_rows.specs.Fates.{IsLoss, Question, closed_at, lost_at}
use Rattle.table_rows.specs.Placed.{is_so}
use Rattle.table_rows.proofs.FateLemmas.{apart-closed, apart-lost, agreeing-closed, agreeing-lost, then-leaves, both-rows, closed-more, lost-more, all-lost-range, closed-all, loses-all}
use Rattle.table_rows.proofs.MostLemmas.{most-within}
use Rattle.table_rows.proofs.WayLemmas.{losses-append}

-- ---- place by place

-- at each place below `count` so far, P says what the new number is of the old one; the others are as they were
pub record AreBelow (P : ℕ → ℤ → ℤ → Type 0) (count : ℕ) (old new : List ℤ) : Type 0 where
  pub long : length new ≡ length old
  pub done : (place : ℕ) → place < count → P place (get_or old place (pos 0)) (get_or new place (pos 0))
  pub left : (place : ℕ) → count ≤ place → get_or new place (pos 0) ≡ get_or old place (pos 0)

module _ (P : ℕ → ℤ → ℤ → Type 0) where
  pub below-more : (k : ℕ) (old mid new : List ℤ) (number : ℤ) → k < length mid → new ≡ slice_set mid k number → P k (get_or old k (pos 0)) number → AreBelow P k old mid → AreBelow P (k + 1) old new
  below-more k old mid new number within set here before = record {
    long = ap length set ∙ length-set mid k number ∙ before.long;
    done = λ place below. elim (cases_eq place k) [
      | inl same ↦
          let is : get_or new place (pos 0) ≡ number = ap (λ l. get_or l place (pos 0)) set ∙ ap (λ j. get_or (slice_set mid k number) j (pos 0)) same ∙ get_or-set_same mid k number (pos 0) within in
          subst (λ z. P place (get_or old place (pos 0)) z) (sym is) (subst (λ j. P j (get_or old j (pos 0)) number) (sym same) here)
      | inr other ↦
          let is : get_or new place (pos 0) ≡ get_or mid place (pos 0) = ap (λ l. get_or l place (pos 0)) set ∙ get_or-set_other mid k place number (pos 0) other in
          subst (λ z. P place (get_or old place (pos 0)) z) (sym is) (before.done place (omega (arith, below, other)))
    ];
    left = λ place above. ap (λ l. get_or l place (pos 0)) set ∙ get_or-set_other mid k place number (pos 0) (λ same. absurd (omega (arith, same, above))) ∙ before.left place (omega (arith, above));
  }

-- ---- the greater

pub fits64 : (z : ℤ) → nothing_yet ≤ℤ z → z ≤ℤ pos 4294967294 → FitsSigned w64 z
fits64 (pos n) least most = record { sfits = omega (arith, ints, most) }
fits64 (negsuc n) least most = record { sfits = omega (arith, ints, least) }

abbrev pub IsGreater : List ℤ → List ℤ → ℕ → ℤ → ℤ → Type 0
IsGreater from to place old new = new ≡ int_max old (get_or from place (pos 0) +ℤ neg_ℤ (get_or to place (pos 0)))

-- as the code has it
pub greater-is : (old from to number : ℤ) → IsMost old → IsInRange from → IsInRange to
    → number ≡ int_max (to_z w64 (of_z w64 old)) (to_z w64 (of_z w64 (to_z w64 (of_z w64 from) -ℤ to_z w64 (of_z w64 to)))) → number ≡ int_max old (from +ℤ neg_ℤ to)
greater-is old from to number was one other is =
    let was_least = was.least in
    let was_most = was.most in
    let one_least = one.least in
    let one_most = one.most in
    let other_least = other.least in
    let other_most = other.most in
    let read = to_z-of_z w64 old (fits64 old (omega (arith, ints)) (omega (arith, ints))) in
    let start = to_z-of_z w64 from (fits64 from (omega (arith, ints)) (omega (arith, ints))) in
    let end = to_z-of_z w64 to (fits64 to (omega (arith, ints)) (omega (arith, ints))) in
    let lost = to_z-of_z w64 (from -ℤ to) (fits64 (from -ℤ to) (omega (arith, ints)) (omega (arith, ints))) in
    is ∙ (λ i. int_max (read i) (to_z w64 (of_z w64 (start i -ℤ end i)))) ∙ (λ i. int_max old (lost i)) ∙ ap (int_max old) (omega (arith, ints))

pub raised-all : (from to old new : List ℤ) (count : ℕ) → length new ≤ count → AreBelow (IsGreater from to) count old new → AreRaisedBy from to old new
raised-all from to old new count all before = record { long = before.long; each = λ place below. before.done place (omega (arith, below, all, before.long)) }

-- a greater number is a loss, or what was there
pub raised-range : (from to old new : List ℤ) → length from ≡ length old → length to ≡ length old → All IsInRange from → All IsInRange to → All IsMost old → AreRaisedBy from to old new → All IsMost new
raised-range from to old new from_long to_long froms tos mosts raised k d below =
    let within : k < length old = omega (arith, below, raised.long) in
    let one = froms k (pos 0) (omega (arith, within, from_long)) in
    let other = tos k (pos 0) (omega (arith, within, to_long)) in
    let was = mosts k (pos 0) within in
    let one_least = one.least in
    let one_most = one.most in
    let other_least = other.least in
    let other_most = other.most in
    let was_least = was.least in
    let was_most = was.most in
    let is = raised.each k within in
    let same : get_or new k d ≡ get_or new k (pos 0) = get_or_default new k d (pos 0) below in
    record { least = omega (arith, ints, clamps); most = omega (arith, ints, clamps) }

-- ---- sets

-- what is so of all rows
pub row-has : (P : Row → Type 0) (rows : List Row) (row : ℕ) (r : Row) → slice_get rows row ≡ Some r → All P rows → P r
row-has P rows row r at all = All-contains P rows r all (Contains-got rows row r at)

module _ (t : Table) (from : List ℤ) where
  -- of one set
  pub one-raised : (set : List Bool) (r : Row) (old new : List ℤ) → row_of t (atoms_at t.scope set) ≡ Some r → AreRaisedBy from r.weights old new → All IsMost new → AreRaisedTo t from (set ∷ []) old new
  one-raised set r old new at raised range = record {
    rows = ap (λ o. is_some o && true) at;
    long = raised.long;
    each = λ place below. raised.each place below
        ∙ sym (ap (λ o. fold int_max (get_or old place (pos 0)) (map (λ (r : Row). get_or from place (pos 0) +ℤ neg_ℤ (weight_at place r)) (cons_option o []))) at);
    range = range;
  }

  pub both-raised : (kept changed : List (List Bool)) (old mid new : List ℤ) → AreRaisedTo t from kept old mid → AreRaisedTo t from changed mid new → AreRaisedTo t from (kept ++ changed) old new
  both-raised kept changed old mid new one other = record {
    rows = both-rows t kept changed one.rows other.rows;
    long = other.long ∙ one.long;
    each = λ place below.
        let weight = get_or from place (pos 0) in
        let first = losses_to t place weight kept in
        let second = losses_to t place weight changed in
        other.each place (omega (arith, below, one.long)) ∙ ap (λ z. fold int_max z second) (one.each place below) ∙ sym (fold-append int_max (get_or old place (pos 0)) first second)
        ∙ ap (fold int_max (get_or old place (pos 0))) (sym (losses-append t place weight kept changed));
    range = other.range;
  }

  -- whether the sets of the second half are rows too
  pub then-raises : (kept changed : List (List Bool)) (old mid new : List ℤ) (are : Bool) → AreRaisedTo t from kept old mid → RaisesTo t from changed mid new are → RaisesTo t from (kept ++ changed) old new are
  then-raises kept changed old mid new false one leaves = then-leaves t kept changed leaves
  then-raises kept changed old mid new true one other = both-raised kept changed old mid new one other

-- ---- rows

module _ (q : Question) (row : ℕ) (set : List Bool) (at : slice_get q.sets row ≡ Some set) where
  -- a row that does not agree
  pub apart-raised : (most : List ℤ) → list_all (is_so set) q.literals ≡ false → All IsMost most → AreRaisedFrom q row most most
  apart-raised most differs range = record {
    closed = apart-closed q row set at differs;
    long = refl;
    each = λ place _. sym (ap (fold int_max (get_or most place (pos 0))) (apart-lost q row set at place differs));
    range = range;
  }

  -- one that agrees
  pub agreeing-raised : (r : Row) (old new : List ℤ) (are : Bool) → list_all (is_so set) q.literals ≡ true → slice_get q.table.rows row ≡ Some r
      → RaisesTo q.table r.weights (ways_of q.changes set) old new are → RaisesFrom q row old new are
  agreeing-raised r old new false agrees there leaves = agreeing-closed q row set at agrees ∙ leaves
  agreeing-raised r old new true agrees there raised = record {
    closed = agreeing-closed q row set at agrees ∙ raised.rows;
    long = raised.long;
    each = λ place below. raised.each place below ∙ ap (fold int_max (get_or old place (pos 0))) (sym (agreeing-lost q row set at agrees place r there));
    range = raised.range;
  }

-- ---- row after row

-- what is so of the rows so far
pub record AreRaisedSoFar (q : Question) (rows : List ℕ) (count : ℕ) (most : List ℤ) : Type 0 where
  pub closed : list_all (closed_at q) rows ≡ true
  pub long : length most ≡ count
  pub each : (place : ℕ) → place < count → get_or most place (pos 0) ≡ fold int_max nothing_yet (flat_map (lost_at q place) rows)
  pub range : All IsMost most

pub nothing-raised : (q : Question) (count : ℕ) (old new : List ℤ) → length old ≡ count → AreAll nothing_yet old new → AreRaisedSoFar q [] count new
nothing-raised q count old new many all = record {
  closed = refl;
  long = all.long ∙ many;
  each = λ place below. all.each place (omega (arith, below, many));
  range = λ k d below.
      let is = get_or_default new k d (pos 0) below ∙ all.each k (omega (arith, below, all.long)) in
      record { least = omega (arith, ints, is); most = omega (arith, ints, is) };
}

pub raised-more : (q : Question) (rows : List ℕ) (k row count : ℕ) (old new : List ℤ) → slice_get rows k ≡ Some row → AreRaisedSoFar q (take k rows) count old → AreRaisedFrom q row old new
    → AreRaisedSoFar q (take (k + 1) rows) count new
raised-more q rows k row count old new at so raised = record {
  closed = closed-more q rows k row at so.closed raised.closed;
  long = raised.long ∙ so.long;
  each = λ place below.
      let before = flat_map (lost_at q place) (take k rows) in
      raised.each place (omega (arith, below, so.long)) ∙ ap (λ z. fold int_max z (lost_at q place row)) (so.each place below) ∙ sym (fold-append int_max nothing_yet before (lost_at q place row))
      ∙ ap (fold int_max nothing_yet) (sym (lost-more q rows k row at place));
  range = raised.range;
}

-- ---- all rows

-- the greatest of these losses, and 0 where there is none
pub settled-is : (losses : List ℤ) (old new : ℤ) → ((z : ℤ) → Contains losses z → IsLoss z) → old ≡ fold int_max nothing_yet losses → IsSettled old new
    → (new ≡ option_map_or (λ (z : ℤ). z) (most_of losses) (pos 0)) × IsLoss new
settled-is [] old new each is settled =
    let none = settled.none is in
    (none, record { least = omega (arith, ints, none); most = omega (arith, ints, none) })
settled-is (loss ∷ losses) old new each is settled =
    let first = each loss (Contains-here loss losses) in
    let first_least = first.least in
    let start : int_max nothing_yet loss ≡ loss = omega (arith, ints, clamps) in
    let most : old ≡ fold int_max loss losses = is ∙ ap (λ z. fold int_max z losses) start in
    let range = most-within (neg_ℤ (pos 4294967294)) (pos 4294967294) (loss ∷ losses) (fold int_max loss losses) (λ z at. let r = each z at in (r.least, r.most)) refl in
    let least = range.0 in
    let greatest = range.1 in
    let same : new ≡ old = settled.some (omega (arith, ints, most)) in
    (same ∙ most, record { least = omega (arith, ints, same, most); most = omega (arith, ints, same, most) })

pub all-lost : (q : Question) (rows : List ℕ) (count : ℕ) (old new : List ℤ) → All (λ (r : Row). All IsInRange r.weights) q.table.rows → AreCandidates q.sets q.literals rows
    → AreRaisedSoFar q rows count old → AreSettled old new → AreMostLost q new
all-lost q rows count old new in_range are so settled = record {
  closed = closed-all q rows are so.closed;
  each = λ place below.
      let within : place < length old = omega (arith, below, settled.long) in
      let is = settled-is (flat_map (lost_at q place) rows) (get_or old place (pos 0)) (get_or new place (pos 0)) (all-lost-range q in_range place rows) (so.each place (omega (arith, within, so.long))) (settled.each place within) in
      loses-all q rows are place (get_or new place (pos 0)) so.closed is.0 is.1;
}
