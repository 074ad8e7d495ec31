-- What an instance loses by tables, added up at each place.
use Rattle.std.proofs.Common.{◌≡◌, ◌≢◌, ◌∙◌, ℕ, zero, suc, ◌+◌, ◌*◌, ◌<◌, ◌≤◌, ◌^◌, ◌⊎◌, inl, inr, true, false, List, [], ◌∷◌, ◌++◌, length, take, get_or, Some, refl, sym, ap, subst, arith, ℤ, pos, negsuc, neg_ℤ, ◌≤ℤ◌, to_z, of_z, w64}
use Rattle.std.specs.Prelude.{All, FitsSigned, map, replicate, slice_get, slice_set}
use Rattle.std.specs.List.{list_all}
use Rattle.std.proofs.lemmas.Int.{ints, to_z-of_z}
use Rattle.std.proofs.lemmas.Bool.{cases_eq}
use Rattle.std.proofs.lemmas.List.{get_or_default, get_or-replicate, get_or-set_same, get_or-set_other, length-map, length-replicate, length-set, map-set, map_push, set-get_or, take_all}
use Rattle.std.proofs.lemmas.Option.{slice_get_within, slice_get-get_or, get_or_from_slice_get}
use Rattle.model.specs.ConditionalChanges.{conditional_of_number}
use Rattle.model.specs.NumberedLiterals.{NumberedLiteral, NumberedChange, literals_of_number}
use Rattle.model.specs.StaticallyFalse.{kept_instances}
use Rattle.model.specs.Task.{Atom, Task}
use Rattle.lower_bounds.specs.TableFunctions.{Table, sum_over}
use Rattle.packed_state.specs.Packed.{bits_of}
use Rattle.lower_bounds.specs.FairTables.{ConditionalChange, changes_in, touches_scope, is_closed, table_loses}
use Rattle.table_rows.specs.Fates.{IsLoss}
use Rattle.table_rows.specs.Losses.{LosesByEach}
use Rattle.table_rows.proofs.LossLemmas.{loses-nothing}
use Rattle.tables.specs.AllTables.{tables_of, count_of}
use Rattle.tables.specs.ByAtom.{AreMarked, LosesByAll}
use Rattle.tables.specs.RowSums.{AreAdded, IsSmall}
use Rattle.tables.specs.TotalLosses.{AreTotals, AreLossesByAll, BeginsAs, StandsAfter, IsKnownAfter, AreKnownAfter, AreFrom, numbers_of}
use Rattle.tables.specs.declared.losses.Losses.{Losses}
use Rattle.tables.specs.declared.losses.Standing.{Standing}
use Rattle.tables.specs.declared.losses.Standing.TheVariants.{ShutOut, LeadsOut, Stays}
use Rattle.tables.specs.declared.tables.IndexedTables.{IndexedTables}
use Rattle.tables.proofs.TablesLemmas.{all-more, loses-more, mapped-at}

module _ (count : ℕ) (literals : List NumberedLiteral) (changes : List ConditionalChange) where
  pub losses-range : (t : Table) (lost : List ℤ) → LosesByEach count literals changes t lost → All IsLoss lost
  losses-range t lost loses k d below = subst IsLoss (sym (get_or_default lost k d (pos 0) below)) (loses.each k (omega (arith, below, loses.long))).range

  module _ (tables : List Table) where
    pub totals-none : (total : List ℤ) → total ≡ replicate count (pos 0) → AreTotals count literals changes tables 0 total
    totals-none total none = record {
      closed = refl;
      each = λ place below.
          let is : get_or total place (pos 0) ≡ pos 0 = ap (λ l. get_or l place (pos 0)) none ∙ get_or-replicate count place (pos 0) (pos 0) below in
          record { is = is; least = omega (arith, ints, is); most = omega (arith, ints, is) };
    }

    pub totals-small : (k : ℕ) (total : List ℤ) → k < 2 ^ 24 → length total ≡ count → AreTotals count literals changes tables k total → All IsSmall total
    totals-small k total few long so place d below =
        let here = so.each place (omega (arith, below, long)) in
        let least = here.least in
        let most = here.most in
        let same = get_or_default total place d (pos 0) below in
        record { least = omega (arith, ints, same, few); most = omega (arith, ints, same, few) }

    -- one table more
    module _ (k : ℕ) (t : Table) (at : slice_get tables k ≡ Some t) where
      -- no change is of an atom of its scope
      pub totals-untouched : (total : List ℤ) → touches_scope changes t ≡ false → AreTotals count literals changes tables k total → AreTotals count literals changes tables (k + 1) total
      totals-untouched total none so = record {
        closed = all-more (is_closed literals changes) tables k t at so.closed (loses-nothing 0 literals changes t none).closed;
        each = λ place below.
            let before = so.each place below in
            let more = loses-more place literals changes tables k t (get_or total place (pos 0)) (pos 0) (get_or total place (pos 0)) at so.closed before.is before.least before.most (loses-nothing place literals changes t none) (omega (arith, ints)) in
            record { is = more.1; least = more.2; most = more.3 };
      }

      pub totals-more : (lost old new : List ℤ) → AreTotals count literals changes tables k old → LosesByEach count literals changes t lost → AreAdded old lost new → AreTotals count literals changes tables (k + 1) new
      totals-more lost old new so loses added = record {
        closed = all-more (is_closed literals changes) tables k t at so.closed loses.closed;
        each = λ place below.
            let before = so.each place below in
            let more = loses-more place literals changes tables k t (get_or old place (pos 0)) (get_or lost place (pos 0)) (get_or new place (pos 0)) at so.closed before.is before.least before.most (loses.each place below) (added.each place) in
            record { is = more.1; least = more.2; most = more.3 };
      }

    pub totals-all : (k : ℕ) (total : List ℤ) → k ≡ length tables → AreTotals count literals changes tables k total → AreLossesByAll count literals changes tables total
    totals-all k total all so =
        let whole : take k tables ≡ tables = take_all k tables (omega (arith, all)) in
        let closed : list_all (is_closed literals changes) tables ≡ true = sym (ap (list_all (is_closed literals changes)) whole) ∙ so.closed in
        record {
          closed = closed;
          each = λ place below.
              let here = so.each place below in
              let is = here.is in
              let least = here.least in
              let most = here.most in
              record {
                closed = closed;
                is = is ∙ ap (λ l. sum_over l (table_loses place literals changes)) whole;
                least = subst (λ n. neg_ℤ (pos (4294967294 * n)) ≤ℤ get_or total place (pos 0)) all least;
                most = subst (λ n. get_or total place (pos 0) ≤ℤ pos (4294967294 * n)) all most;
              };
        }

-- as the code has it
fits : (z : ℤ) → neg_ℤ (pos 9223372036854775808) ≤ℤ z → z ≤ℤ pos 9223372036854775807 → FitsSigned w64 z
fits (pos n) least most = record { sfits = omega (arith, ints, most) }
fits (negsuc n) least most = record { sfits = omega (arith, ints, least) }

pub total-read : (literals : List NumberedLiteral) (changes : List ConditionalChange) (tables : List Table) (place : ℕ) (total : ℤ) → length tables < 2 ^ 24 → LosesByAll place literals changes tables total
    → LosesByAll place literals changes tables (to_z w64 (of_z w64 total))
total-read literals changes tables place total few loses =
    let least = loses.least in
    let most = loses.most in
    subst (LosesByAll place literals changes tables) (sym (to_z-of_z w64 total (fits total (omega (arith, ints, few)) (omega (arith, ints, few))))) loses

-- ---- instances

pushed-at : {X : Type 0} (xs : List X) (y : X) (j : ℕ) (l : X) → slice_get (xs ++ y ∷ []) j ≡ Some l → (slice_get xs j ≡ Some l) ⊎ ((j ≡ length xs) × (y ≡ l))
pushed-at [] y zero l at = inr (refl, let e : y ≡ l = cc in e)
pushed-at [] y (suc j) l at = absurd (cc)
pushed-at (x ∷ xs) y zero l at = inl at
pushed-at (x ∷ xs) y (suc j) l at = elim (pushed-at xs y j l at) [
  | inl there ↦ inl there
  | inr last ↦ inr (ap suc last.0, last.1)
]

pub from-none : (first : ℕ) → AreFrom first []
from-none first index n none = absurd (cc)

pub from-more : (first : ℕ) (old : List Losses) (new : Losses) → AreFrom first (numbers_of old) → new.number ≡ first + length old → AreFrom first (numbers_of (old ++ new ∷ []))
from-more first old new are is index n at = elim (pushed-at (numbers_of old) new.number index n (ap (λ l. slice_get l index) (sym (map_push (λ (l : Losses). l.number) old new)) ∙ at)) [
  | inl there ↦ are index n there
  | inr last ↦ let e = last.0 in let m = last.1 in omega (arith, is, e, m, length-map old (λ (l : Losses). l.number))
]

module _ (all : IndexedTables) (task : Task) (atoms : List Atom) where
  begins : (number : ℕ) (total : List ℤ) (standing : Standing) → total ≡ replicate (count_of all) (pos 0) → BeginsAs task atoms (tables_of all) number standing
      → StandsAfter task atoms (tables_of all) (count_of all) 0 number total standing
  begins number total ShutOut zeros out = out
  begins number total LeadsOut zeros none = absurd none
  begins number total Stays zeros asked = (asked, totals-none (count_of all) (literals_of_number task atoms number) (conditional_of_number task atoms number) (tables_of all) total zeros)

  pub known-first : (l : Losses) → l.number < length (kept_instances task) → l.total.items ≡ replicate (count_of all) (pos 0) → l.by_table.items ≡ replicate (count_of all) (pos 0)
      → AreMarked all.by_atom (length (tables_of all)) (map (λ (c : NumberedChange). c.atom) (changes_in (conditional_of_number task atoms l.number))) (bits_of l.named)
      → BeginsAs task atoms (tables_of all) l.number l.standing → IsKnownAfter all task atoms 0 l
  known-first l within zeros room named begun = record {
    within = within;
    total = ap length zeros ∙ length-replicate (count_of all) (pos 0);
    by_table = ap length room ∙ length-replicate (count_of all) (pos 0);
    named = named;
    standing = begins l.number l.total.items l.standing zeros begun;
  }

  pub known-none : (k : ℕ) → AreKnownAfter all task atoms k []
  known-none k index l none = absurd (cc)

  -- one more instance
  pub known-pushed : (k : ℕ) (old : List Losses) (new : Losses) → IsKnownAfter all task atoms k new → AreKnownAfter all task atoms k old → AreKnownAfter all task atoms k (old ++ new ∷ [])
  known-pushed k old new is are index l at = elim (pushed-at old new index l at) [
    | inl there ↦ are index l there
    | inr last ↦ subst (IsKnownAfter all task atoms k) last.1 is
  ]

  -- the instances before this index are known after one table more than the others
  pub record AreKnownBelow (k index : ℕ) (losses : List Losses) : Type 0 where
    pub done : (j : ℕ) (l : Losses) → j < index → slice_get losses j ≡ Some l → IsKnownAfter all task atoms (k + 1) l
    pub left : (j : ℕ) (l : Losses) → index ≤ j → slice_get losses j ≡ Some l → IsKnownAfter all task atoms k l

  pub known-below-none : (k : ℕ) (losses : List Losses) → AreKnownAfter all task atoms k losses → AreKnownBelow k 0 losses
  known-below-none k losses are = record { done = λ j l below. absurd (omega (arith, below)); left = λ j l _. are j l }

  pub known-below-more : (k index : ℕ) (old : List Losses) (new : Losses) → index < length old → AreKnownBelow k index old → IsKnownAfter all task atoms (k + 1) new → AreKnownBelow k (index + 1) (slice_set old index new)
  known-below-more k index old new below are is = record {
    done = λ j l before there. elim (cases_eq j index) [
      | inl same ↦ subst (IsKnownAfter all task atoms (k + 1)) (here j l same there) is
      | inr other ↦ are.done j l (omega (arith, before, other)) (elsewhere j l other there)
    ];
    left = λ j l past there. are.left j l (omega (arith, past)) (elsewhere j l (λ same. omega (arith, past, same)) there);
  }
    where
      within : (j : ℕ) (l : Losses) → slice_get (slice_set old index new) j ≡ Some l → j < length old
      within j l there = let e = slice_get_within (slice_set old index new) j l there in omega (arith, e, length-set old index new)

      here : (j : ℕ) (l : Losses) → j ≡ index → slice_get (slice_set old index new) j ≡ Some l → new ≡ l
      here j l same there =
          sym (get_or-set_same old index new new below) ∙ ap (λ n. get_or (slice_set old index new) n new) (sym same) ∙ get_or_from_slice_get (slice_set old index new) j l new there

      elsewhere : (j : ℕ) (l : Losses) → j ≢ index → slice_get (slice_set old index new) j ≡ Some l → slice_get old j ≡ Some l
      elsewhere j l other there =
          slice_get-get_or old j new (within j l there) ∙ ap Some (sym (get_or-set_other old index j new new other) ∙ get_or_from_slice_get (slice_set old index new) j l new there)

  pub known-below-all : (k index : ℕ) (losses : List Losses) → length losses ≤ index → AreKnownBelow k index losses → AreKnownAfter all task atoms (k + 1) losses
  known-below-all k index losses past are j l there = are.done j l (let within = slice_get_within losses j l there in omega (arith, within, past)) there

-- a number that is written again where it stands
pub numbers-kept : (losses : List Losses) (index : ℕ) (old new : Losses) → slice_get losses index ≡ Some old → new.number ≡ old.number → numbers_of (slice_set losses index new) ≡ numbers_of losses
numbers-kept losses index old new at same =
    map-set (λ (l : Losses). l.number) losses index new
    ∙ ap (slice_set (numbers_of losses) index) (same ∙ sym (get_or_from_slice_get (numbers_of losses) index old.number 0 (mapped-at (λ (l : Losses). l.number) losses index old at)))
    ∙ set-get_or (numbers_of losses) index 0
