-- The rows of a state, found by those of another.
use Rattle.std.proofs.Common.{◌≡◌, ◌∙◌, ℕ, zero, suc, ◌<◌, ◌≤◌, inl, inr, Bool, true, false, true≢false, ◌&&◌, List, [], ◌∷◌, length, get_or, Option, None, Some, refl, sym, ap, subst, arith, ◌+ℤ◌}
use Rattle.std.specs.Prelude.{◌==◌, IfSome, is_some, slice_get, slice_set}
use Rattle.std.proofs.lemmas.Bool.{cases_eq, cases_lt, eq-eqb, ne_eqb}
use Rattle.std.proofs.lemmas.List.{get_or-set_same, get_or-set_other, get_or_past, length-set}
use Rattle.std.proofs.lemmas.Option.{slice_get_within}
use Rattle.packed_state.specs.Packed.{bits_of}
use Rattle.packed_state.specs.Sets.{has, IsNext}
use Rattle.lower_bounds.specs.TableFunctions.{Table, row_in, given_by, has_rows, sum_over}
use Rattle.table_rows.proofs.FateLemmas.{row-there}
use Rattle.tables.specs.declared.projections.Projections.{Projections}
use Rattle.tables.specs.KnownRows.{IsPlaceOfRow, KnowsRows, AreKnown}
use Rattle.tables.specs.Projections.{AreMoved}
use Rattle.tables.specs.RowSums.{row_at, given_rows, lacking}

-- ---- one table

pub place-within : (t : Table) (bits : List Bool) (o : Option ℕ) → IsPlaceOfRow t bits o → IfSome o (λ row. row < length t.rows)
place-within t bits None is = tt
place-within t bits (Some row) is = is.0

place-row : (t : Table) (bits : List Bool) (o : Option ℕ) → IsPlaceOfRow t bits o → row_at t o ≡ row_in bits t
place-row t bits None is = sym is
place-row t bits (Some row) is = is.1

place-has : (t : Table) (bits : List Bool) (o : Option ℕ) → IsPlaceOfRow t bits o → is_some o ≡ is_some (row_in bits t)
place-has t bits None is = sym (ap is_some is)
place-has t bits (Some row) is = let it = row-there t.rows row is.0 in sym (ap is_some (sym is.1 ∙ it.1))

-- where the row is the same, so is its place
same-place : (t : Table) (bits next : List Bool) (o : Option ℕ) → row_in bits t ≡ row_in next t → IsPlaceOfRow t bits o → IsPlaceOfRow t next o
same-place t bits next None same is = sym same ∙ is
same-place t bits next (Some row) same is = (is.0, is.1 ∙ same)

-- ---- all tables

pub still-known : (tables : List Table) (old new : Projections) (rows : List (Option ℕ)) → AreMoved tables old new → KnowsRows tables (bits_of old.state) rows → AreKnown tables (bits_of new.touched) (bits_of new.state) rows
still-known tables old new rows moved known k t at untouched = same-place t (bits_of old.state) (bits_of new.state) (get_or rows k None) (moved.alike k t at untouched) (known k t at)

-- one row more is known
pub known-more : (tables : List Table) (touched bits : List Bool) (rows : List (Option ℕ)) (k : ℕ) (row : Option ℕ) → length rows ≡ length tables → ((t : Table) → slice_get tables k ≡ Some t → IsPlaceOfRow t bits row)
    → AreKnown tables touched bits rows → AreKnown tables (slice_set touched k false) bits (slice_set rows k row)
known-more tables touched bits rows k row long is before j t at untouched = elim (cases_eq j k) [
  | inl same ↦
      let within = slice_get_within tables j t at in
      subst (IsPlaceOfRow t bits) (sym (ap (λ n. get_or (slice_set rows k row) n None) same ∙ get_or-set_same rows k row None (omega (arith, within, same, long)))) (is t (ap (slice_get tables) (sym same) ∙ at))
  | inr other ↦
      subst (IsPlaceOfRow t bits) (sym (get_or-set_other rows k j row None other)) (before j t at (sym (get_or-set_other touched k j false false other) ∙ untouched))
]

module _ (bits : List Bool) where
  pub given-known : (place : ℕ) (tables : List Table) (rows : List (Option ℕ)) → length rows ≡ length tables → KnowsRows tables bits rows → given_rows place tables rows ≡ sum_over tables (λ t. given_by place (row_in bits t))
  given-known place [] rows long known = refl
  given-known place (t ∷ tables) [] long known = absurd (omega (arith, long))
  given-known place (t ∷ tables) (row ∷ rows) long known =
      (λ i. given_by place (place-row t bits row (known zero t refl) i) +ℤ given-known place tables rows (omega (arith, long)) (λ k u at. known (suc k) u at) i)

  pub all-there : (tables : List Table) (rows : List (Option ℕ)) → length rows ≡ length tables → KnowsRows tables bits rows → lacking rows ≡ 0 → has_rows tables bits ≡ true
  all-there [] rows long known none = refl
  all-there (t ∷ tables) [] long known none = absurd (omega (arith, long))
  all-there (t ∷ tables) (None ∷ rows) long known none = absurd (omega (arith, none))
  all-there (t ∷ tables) (Some row ∷ rows) long known none =
      ap (λ b. b && has_rows tables bits) (sym (place-has t bits (Some row) (known zero t refl))) ∙ all-there tables rows (omega (arith, long)) (λ k u at. known (suc k) u at) none

  pub some-lacking : (tables : List Table) (rows : List (Option ℕ)) → length rows ≡ length tables → KnowsRows tables bits rows → 0 < lacking rows → has_rows tables bits ≡ false
  some-lacking [] [] long known some = absurd (omega (arith, some))
  some-lacking [] (row ∷ rows) long known some = absurd (omega (arith, long))
  some-lacking (t ∷ tables) [] long known some = absurd (omega (arith, long))
  some-lacking (t ∷ tables) (None ∷ rows) long known some = ap (λ b. b && has_rows tables bits) (sym (place-has t bits None (known zero t refl)))
  some-lacking (t ∷ tables) (Some row ∷ rows) long known some =
      ap (λ b. b && has_rows tables bits) (sym (place-has t bits (Some row) (known zero t refl))) ∙ some-lacking tables rows (omega (arith, long)) (λ k u at. known (suc k) u at) some

  pub all-or-lacking : (tables : List Table) (rows : List (Option ℕ)) (missing : ℕ) → length rows ≡ length tables → KnowsRows tables bits rows → missing ≡ lacking rows → (missing == 0) ≡ has_rows tables bits
  all-or-lacking tables rows missing long known is = elim (cases_eq missing 0) [
    | inl none ↦ eq-eqb missing 0 none ∙ sym (all-there tables rows long known (sym is ∙ none))
    | inr some ↦ ne_eqb missing 0 some ∙ sym (some-lacking tables rows long known (omega (arith, some, is)))
  ]

-- ---- a set of which nothing is left

-- all that is left is not below this number
pub record IsLeftFrom (old : List Bool) (number : ℕ) (set : List Bool) : Type 0 where
  pub long : length set ≡ length old
  pub next : IsNext set 0 number

pub left-more : (old set removed : List Bool) (number next : ℕ) → number < length set → IsLeftFrom old number set → removed ≡ slice_set set number false → IsNext removed number next → IsLeftFrom old next removed
left-more old set removed number next within before is later = record {
  long = ap length is ∙ length-set set number false ∙ before.long;
  next = record {
    above = omega (arith);
    within = later.within;
    none_between = λ k _ below. elim (cases_lt k number) [
      | inl lower ↦ ap (λ l. has l k) is ∙ get_or-set_other set number k false false (λ same. absurd (omega (arith, same, lower))) ∙ before.next.none_between k (omega arith) lower
      | inr higher ↦ later.none_between k higher below
    ];
    is_in = later.is_in;
  };
}

-- what was removed is not there any more, so the next number is a later one
pub left-later : (set removed : List Bool) (number next : ℕ) → number < length set → removed ≡ slice_set set number false → next < length removed → IsNext removed number next → number < next
left-later set removed number next within is there later = elim (cases_eq number next) [
  | inl same ↦
      let gone : has removed next ≡ false = ap (λ l. has l next) is ∙ ap (λ k. has (slice_set set number false) k) (sym same) ∙ get_or-set_same set number false false within in
      absurd (true≢false (sym (later.is_in there) ∙ gone))
  | inr other ↦ let above = later.above in omega (arith, above, other)
]

pub none-left : (old set : List Bool) (number : ℕ) → length set ≤ number → IsLeftFrom old number set → (k : ℕ) → has set k ≡ false
none-left old set number past before k = elim (cases_lt k number) [
  | inl lower ↦ before.next.none_between k (omega arith) lower
  | inr higher ↦ get_or_past set k false (omega (arith, past, higher))
]
