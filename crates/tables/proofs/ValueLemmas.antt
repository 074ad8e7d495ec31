-- The greatest of several values of a state, one after another.
use Rattle.std.proofs.Common.{◌≡◌, ◌∙◌, ℕ, zero, suc, ◌+◌, ◌<◌, ◌≤◌, ◌^◌, inl, inr, Bool, true, false, List, [], ◌∷◌, ◌++◌, length, take, get_or, Some, refl, sym, ap, subst, arith, ℤ, pos, ◌+ℤ◌, neg_ℤ, ◌≤ℤ◌}
use Rattle.std.specs.Prelude.{◌==◌, max, nat_le, slice_get, slice_set, if◌then◌else◌}
use Rattle.std.proofs.lemmas.Int.{ints}
use Rattle.std.proofs.lemmas.Bool.{cases_eq, cases_lt, le-leb, leb-true, ne_eqb, false_from_ne_true}
use Rattle.std.proofs.lemmas.List.{length-append, length-set, get_or_append_left, get_or-set_same, get_or-set_other}
use Rattle.std.proofs.lemmas.Option.{slice_get_within, same_Some}
use Rattle.std.proofs.Math.Seq.{get_or-append_seam}
use Rattle.packed_state.specs.Packed.{bits_of}
use Rattle.lower_bounds.specs.PotentialFunctions.{PotentialFunction, or_zero, score}
use Rattle.potentials.specs.Potentials.{potentials_of}
use Rattle.potentials.specs.declared.potentials.Potentials.{Potentials}
use Rattle.potentials.proofs.WordLemmas.{so_far-range}
use Rattle.lower_bounds.specs.TableFunctions.{Table, TableFunction, over_tables, has_rows, row_in, given_by, sum_over, total, value, greatest_value, is_dead_by}
use Rattle.table_rows.proofs.FateLemmas.{row-there, take-at}
use Rattle.tables.specs.AllTables.{count_of}
use Rattle.tables.specs.KnownRows.{IsKnown}
use Rattle.tables.specs.Several.{AreScores}
use Rattle.tables.specs.declared.known_rows.KnownRows.{KnownRows}
use Rattle.tables.specs.declared.several.TableFunctions.{TableFunctions}
use Rattle.tables.proofs.KnownRowsLemmas.{given-known}
use Rattle.tables.proofs.SeveralLemmas.{function_at}

-- where a table has no row for the state, all are 0
pub none-greatest : (tables : List Table) (first : ℕ) (values : List PotentialFunction) (bits : List Bool) → has_rows tables bits ≡ false → greatest_value (over_tables tables first values) bits ≡ 0
none-greatest tables first [] bits none = refl
none-greatest tables first (p ∷ others) bits none =
    let here : value (function_at tables p first) bits ≡ 0 = ap (λ b. or_zero (if b then total (function_at tables p first) bits else pos 0)) none in
    let rest = none-greatest tables (suc first) others bits none in
    (λ i. max (here i) (rest i))

greatest-push : (functions : List TableFunction) (h : TableFunction) (bits : List Bool) → greatest_value (functions ++ h ∷ []) bits ≡ max (greatest_value functions bits) (value h bits)
greatest-push [] h bits = let e : max (value h bits) 0 ≡ max 0 (value h bits) = omega arith in e
greatest-push (g ∷ functions) h bits =
    let rest = greatest-push functions h bits in
    ap (max (value g bits)) rest ∙ (let e : max (value g bits) (max (greatest_value functions bits) (value h bits)) ≡ max (max (value g bits) (greatest_value functions bits)) (value h bits) = omega arith in e)

-- one value more
pub greatest-more : (functions : List TableFunction) (k : ℕ) (h : TableFunction) (bits : List Bool) (old new this : ℕ) → slice_get functions k ≡ Some h → old ≡ greatest_value (take k functions) bits → this ≡ value h bits
    → new ≡ max old this → new ≡ greatest_value (take (k + 1) functions) bits
greatest-more functions k h bits old new this at before here is =
    is ∙ (λ i. max (before i) (here i)) ∙ sym (ap (λ l. greatest_value l bits) (take-at functions k h at) ∙ greatest-push (take k functions) h bits)

-- the value of a state that has all its rows
pub value-is : (h : TableFunction) (bits : List Bool) (result : ℕ) (sum by_atoms by_tables : ℤ) → result ≡ or_zero sum → has_rows h.tables bits ≡ true → by_atoms ≡ score h.potentials bits
    → by_tables ≡ sum_over h.tables (λ t. given_by h.place (row_in bits t)) → sum ≡ (by_atoms +ℤ by_tables) → result ≡ value h bits
value-is h bits result sum by_atoms by_tables stated rows atoms tables is =
    stated ∙ ap or_zero (is ∙ (λ i. atoms i +ℤ tables i)) ∙ sym (ap (λ b. or_zero (if b then total h bits else pos 0)) rows)

-- a score is small
pub score-small : (p : Potentials) (bits : List Bool) → length bits < 2 ^ 24 → (neg_ℤ (pos 36028797018963968) ≤ℤ score (potentials_of p) bits) × (score (potentials_of p) bits ≤ℤ pos 36028797018963968)
score-small p bits few =
    let range = so_far-range p.constant p.weights.items bits (length bits) (score (potentials_of p) bits) p.constant_in_range p.weights_in_range refl in
    let low = range.0 in
    let high = range.1 in
    (omega (arith, ints), omega (arith, ints))

pub none-dead : (h : TableFunction) (bits : List Bool) → has_rows h.tables bits ≡ false → false ≡ is_dead_by h bits
none-dead h bits none = sym (ap (λ b. nat_le 1 (or_zero (if b then total h bits else pos 0))) none)

-- ---- scores, one after another

-- the first `count` values have these scores
pub record AreScoresBelow (values : List Potentials) (bits : List Bool) (count : ℕ) (scores : List ℤ) : Type 0 where
  pub long : length scores ≡ count
  pub each : (k : ℕ) (p : Potentials) → k < count → slice_get values k ≡ Some p → get_or scores k (pos 0) ≡ score (potentials_of p) bits

pub scores-more : (values : List Potentials) (bits : List Bool) (count : ℕ) (p : Potentials) (old new : List ℤ) (z : ℤ) → slice_get values count ≡ Some p → z ≡ score (potentials_of p) bits → new ≡ old ++ z ∷ []
    → AreScoresBelow values bits count old → AreScoresBelow values bits (count + 1) new
scores-more values bits count p old new z at is more before = record {
  long = omega (arith, ap length more, length-append old (z ∷ []), before.long);
  each = λ k q below there. elim (cases_lt k count) [
    | inl earlier ↦ ap (λ l. get_or l k (pos 0)) more ∙ get_or_append_left old (z ∷ []) (pos 0) k (omega (arith, earlier, before.long)) ∙ before.each k q earlier there
    | inr late ↦
        let same : k ≡ count = omega (arith, below, late) in
        let last : k ≡ length old = omega (arith, same, before.long) in
        let it : p ≡ q = same_Some p q (sym at ∙ ap (slice_get values) (sym same) ∙ there) in
        ap (λ l. get_or l k (pos 0)) more ∙ ap (λ n. get_or (old ++ z ∷ []) n (pos 0)) last ∙ get_or-append_seam old z [] (pos 0) ∙ is ∙ ap (λ (r : Potentials). score (potentials_of r) bits) it
  ];
}

pub scores-all : (values : List Potentials) (dead_ends : Potentials) (bits : List Bool) (count : ℕ) (old new : List ℤ) (z : ℤ) → length values ≡ count → z ≡ score (potentials_of dead_ends) bits → new ≡ old ++ z ∷ []
    → AreScoresBelow values bits count old → AreScores values dead_ends bits new
scores-all values dead_ends bits count old new z all is more before = record {
  long = omega (arith, ap length more, length-append old (z ∷ []), before.long, all);
  each = λ k p there.
      let within = slice_get_within values k p there in
      ap (λ l. get_or l k (pos 0)) more ∙ get_or_append_left old (z ∷ []) (pos 0) k (omega (arith, within, before.long, all)) ∙ before.each k p (omega (arith, within, all)) there;
  last =
      let end : length values ≡ length old = omega (arith, all, before.long) in
      ap (λ l. get_or l (length values) (pos 0)) more ∙ ap (λ n. get_or (old ++ z ∷ []) n (pos 0)) end ∙ get_or-append_seam old z [] (pos 0) ∙ is;
}

-- the first `count` scores have become those of another state
pub record AreMovedBelow (values : List Potentials) (bits : List Bool) (count : ℕ) (old new : List ℤ) : Type 0 where
  pub long : length new ≡ length old
  pub done : (k : ℕ) (p : Potentials) → k < count → slice_get values k ≡ Some p → get_or new k (pos 0) ≡ score (potentials_of p) bits
  pub left : (k : ℕ) → count ≤ k → get_or new k (pos 0) ≡ get_or old k (pos 0)

pub scores-unmoved : (values : List Potentials) (bits : List Bool) (old : List ℤ) → AreMovedBelow values bits 0 old old
scores-unmoved values bits old = record { long = refl; done = λ k p below. absurd (omega (arith, below)); left = λ k above. refl }

pub scores-moved : (values : List Potentials) (bits : List Bool) (count : ℕ) (p : Potentials) (old mid new : List ℤ) (z : ℤ) → slice_get values count ≡ Some p → count < length mid → z ≡ score (potentials_of p) bits
    → new ≡ slice_set mid count z → AreMovedBelow values bits count old mid → AreMovedBelow values bits (count + 1) old new
scores-moved values bits count p old mid new z at within is set before = record {
  long = ap length set ∙ length-set mid count z ∙ before.long;
  done = λ k q below there. elim (cases_eq k count) [
    | inl same ↦
        let it : p ≡ q = same_Some p q (sym at ∙ ap (slice_get values) (sym same) ∙ there) in
        ap (λ l. get_or l k (pos 0)) set ∙ ap (λ n. get_or (slice_set mid count z) n (pos 0)) same ∙ get_or-set_same mid count z (pos 0) within ∙ is ∙ ap (λ (r : Potentials). score (potentials_of r) bits) it
    | inr other ↦ ap (λ l. get_or l k (pos 0)) set ∙ get_or-set_other mid count k z (pos 0) other ∙ before.done k q (omega (arith, below, other)) there
  ];
  left = λ k above. ap (λ l. get_or l k (pos 0)) set ∙ get_or-set_other mid count k z (pos 0) (λ same. absurd (omega (arith, same, above))) ∙ before.left k (omega (arith, above));
}

pub scores-all-moved : (values : List Potentials) (dead_ends : Potentials) (bits : List Bool) (count end : ℕ) (old mid new : List ℤ) → length values ≤ count → end ≡ length values → length mid ≡ length values + 1
    → new ≡ slice_set mid end (score (potentials_of dead_ends) bits) → AreMovedBelow values bits count old mid → AreScores values dead_ends bits new
scores-all-moved values dead_ends bits count end old mid new all at_last long set before = record {
  long = ap length set ∙ length-set mid end (score (potentials_of dead_ends) bits) ∙ long;
  each = λ k p there.
      let within = slice_get_within values k p there in
      ap (λ l. get_or l k (pos 0)) set ∙ get_or-set_other mid end k (score (potentials_of dead_ends) bits) (pos 0) (λ same. absurd (omega (arith, same, within, at_last))) ∙ before.done k p (omega (arith, within, all)) there;
  last =
      ap (λ l. get_or l (length values) (pos 0)) set ∙ ap (λ n. get_or (slice_set mid end (score (potentials_of dead_ends) bits)) n (pos 0)) (sym at_last)
      ∙ get_or-set_same mid end (score (potentials_of dead_ends) bits) (pos 0) (omega (arith, at_last, long));
}

-- each score is small
pub scores-small : (f : TableFunctions) (bits : List Bool) (scores : List ℤ) (place : ℕ) → length bits < 2 ^ 24 → place < count_of f.tables → AreScores f.values.items f.dead_ends bits scores
    → (neg_ℤ (pos 36028797018963968) ≤ℤ get_or scores place (pos 0)) × (get_or scores place (pos 0) ≤ℤ pos 36028797018963968)
scores-small f bits scores place few below are = elim (cases_lt place (length f.values.items)) [
  | inl within ↦
      let it = row-there f.values.items place within in
      let is = are.each place it.0 it.1 in
      subst (λ z. (neg_ℤ (pos 36028797018963968) ≤ℤ z) × (z ≤ℤ pos 36028797018963968)) (sym is) (score-small it.0 bits few)
  | inr past ↦
      let last : place ≡ length f.values.items = omega (arith, past, below, f.together.counts) in
      let is = ap (λ k. get_or scores k (pos 0)) last ∙ are.last in
      subst (λ z. (neg_ℤ (pos 36028797018963968) ≤ℤ z) × (z ≤ℤ pos 36028797018963968)) (sym is) (score-small f.dead_ends bits few)
]

-- what the rows give at a place
pub rows-give : (tables : List Table) (count place : ℕ) (k : KnownRows) → place < count → IsKnown tables count k → get_or k.sums.totals.items place (pos 0) ≡ sum_over tables (λ t. given_by place (row_in (bits_of k.projections.state) t))
rows-give tables count place k below known = known.sums.totals place below ∙ given-known (bits_of k.projections.state) place tables k.sums.rows.items known.sums.rows known.rows

-- ---- whether it is at least so much

-- each value is at most the greatest
pub greatest-least : (functions : List TableFunction) (k : ℕ) (h : TableFunction) (bits : List Bool) → slice_get functions k ≡ Some h → value h bits ≤ greatest_value functions bits
greatest-least [] k h bits at = absurd (cc)
greatest-least (g ∷ functions) zero h bits at =
    let same : g ≡ h = cc in
    subst (λ (f : TableFunction). value f bits ≤ max (value g bits) (greatest_value functions bits)) same (omega arith)
greatest-least (g ∷ functions) (suc k) h bits at = let rest = greatest-least functions k h bits at in omega (arith, rest)

pub greatest-below : (functions : List TableFunction) (k : ℕ) (h : TableFunction) (bits : List Bool) (least : ℕ) → slice_get functions k ≡ Some h → greatest_value (take k functions) bits < least → value h bits < least
    → greatest_value (take (k + 1) functions) bits < least
greatest-below functions k h bits least at before here =
    let is = greatest-more functions k h bits (greatest_value (take k functions) bits) (max (greatest_value (take k functions) bits) (value h bits)) (value h bits) at refl refl refl in
    omega (arith, is, before, here)

pub worth-is : (least greatest : ℕ) → (0 < least → greatest < least) → (least == 0) ≡ nat_le least greatest
worth-is zero greatest below = sym (le-leb 0 greatest (omega arith))
worth-is (suc least) greatest below =
    let less = below (omega arith) in
    ne_eqb (suc least) 0 (λ e. absurd (omega (arith, e))) ∙ sym (false_from_ne_true (nat_le (suc least) greatest) (λ is. let e = leb-true (suc least) greatest is in absurd (omega (arith, e, less))))
