-- States as rows of words in one list: what is at a place, and what is there where one joins them or takes another's place.
use Rattle.std.proofs.Common.{◌≡◌, ◌≢◌, ◌↔◌, ◌∙◌, ℕ, ◌+◌, ◌-◌, ◌*◌, ◌<◌, ◌≤◌, inl, inr, Bool, IsTrue, List, [], ◌∷◌, ◌++◌, length, set, get_or, take, drop, add-mul, one-mul, Some, refl, sym, ap, subst, arith}
use Rattle.std.specs.Prelude.{slice_get, nat_eq}
use Rattle.std.proofs.lemmas.Bool.{cases_eq, cases_lt}
use Rattle.std.proofs.lemmas.Option.{same_Some}
use Rattle.std.proofs.lemmas.List.{append_assoc, take_all, take-append-le, take-append-drop, drop_at, drop-append-le, drop-drop, length-append, length-drop, length-take-le, length-set, get_or-set_same, get_or-set_other, map_push, map-set}
use Rattle.std.proofs.lemmas.List.FromFn.{get_or-map-range_with_len, fill_by_all}
use Rattle.std.specs.Bool.{Decides}
use Rattle.std.specs.Cmp.{unsigned_Decides}
use Rattle.std.specs.Cmp.Lexicographic.{pointwise}
use Rattle.std.proofs.lemmas.Slice.Eq.{slice_eq-Decides}
use Rattle.packed_state.specs.Words.{bits_in, AreWordsOf}
use Rattle.packed_state.specs.Store.{AreRows, sets_in}
use Rattle.packed_state.specs.Pool.{row_at, rows_in}
use Rattle.packed_state.proofs.PackedLemmas.{same_words}
use Rattle.packed_state.proofs.StoreLemmas.{rows_more, length-sets, set_at}
use Rattle.packed_state.proofs.PoolLemmas.{length-rows, row_in, row_ends, rows_push, no_rows}
use Rattle.search_spaces.specs.Rows.{AreRowsOf, overwritten}
use Rattle.search_spaces.proofs.ByKeys.{at_set}

-- ---- no rows

pub none_there : (width stride : ℕ) (words : List ℕ) → width ≤ 64 * stride → 64 * stride < width + 64 → words ≡ [] → AreRowsOf width stride 0 words
none_there width stride words enough no_more none =
    let P : List (List ℕ) → Type 0 = AreRows width in
    record {
      enough = enough;
      no_more = no_more;
      long = ap length none ∙ omega arith;
      packed = subst P (sym (no_rows stride words)) (λ place row at. absurd (cc));
    }

pub no_states : (width stride : ℕ) (words : List ℕ) → sets_in width (rows_in stride words 0) ≡ []
unfolding sets_in
no_states width stride words = ap (sets_in width) (no_rows stride words)

-- ---- a row that is written

row_front : (stride place : ℕ) (front rest : List ℕ) → place * stride + stride ≤ length front → row_at stride (front ++ rest) place ≡ row_at stride front place
unfolding row_at
row_front stride place front rest fits =
    ap (take stride) (drop-append-le (place * stride) front rest (omega (arith, fits)))
    ∙ take-append-le stride (drop (place * stride) front) rest (omega (arith, fits, length-drop (place * stride) front))

module _ (stride place : ℕ) (words row : List ℕ) (wide : length row ≡ stride) (fits : place * stride + stride ≤ length words) where
  abbrev front : List ℕ
  front = take (place * stride) words

  abbrev rest : List ℕ
  rest = drop (place * stride + length row) words

  length-front : length front ≡ place * stride
  length-front = length-take-le (place * stride) words (omega (arith, fits))

  length-both : length (front ++ row) ≡ place * stride + length row
  length-both = length-append front row ∙ ap (λ n. n + length row) length-front

  row_here : row_at stride (overwritten words (place * stride) row) place ≡ row
  unfolding row_at
  row_here =
      ap (λ xs. take stride (drop (place * stride) xs)) (append_assoc front row rest)
      ∙ ap (take stride) (drop_at front (row ++ rest) (place * stride) length-front)
      ∙ take-append-le stride row rest (omega (arith, wide))
      ∙ take_all stride row (omega (arith, wide))

  row_before : (other : ℕ) → other < place → row_at stride (overwritten words (place * stride) row) other ≡ row_at stride words other
  row_before other before =
      let ends : other * stride + stride ≤ place * stride = row_ends stride place other before in
      ap (λ xs. row_at stride xs other) (append_assoc front row rest)
      ∙ row_front stride other front (row ++ rest) (omega (arith, ends, length-front))
      ∙ sym (row_front stride other front (drop (place * stride) words) (omega (arith, ends, length-front)))
      ∙ ap (λ xs. row_at stride xs other) (take-append-drop (place * stride) words)

  row_after : (other : ℕ) → place < other → row_at stride (overwritten words (place * stride) row) other ≡ row_at stride words other
  unfolding row_at
  row_after other after =
      let ends : place * stride + stride ≤ other * stride = row_ends stride other place after in
      let skip : ℕ = place * stride + length row in
      let more : ℕ = other * stride - skip in
      let is : skip + more ≡ other * stride = omega (arith, ends, wide) in
      let new : List ℕ = overwritten words (place * stride) row in
      ap (take stride)
      (ap (λ n. drop n new) (sym is) ∙ sym (drop-drop more skip new) ∙ ap (drop more) (drop_at (front ++ row) rest skip length-both) ∙ drop-drop more skip words
      ∙ ap (λ n. drop n words) is)

  row_other : (other : ℕ) → other ≢ place → row_at stride (overwritten words (place * stride) row) other ≡ row_at stride words other
  row_other other differs =
      elim (cases_lt other place) [
        | inl before ↦ row_before other before
        | inr not_before ↦
            elim (cases_eq other place) [
              | inl same ↦ absurd (differs same)
              | inr apart ↦ row_after other (omega (arith, not_before, apart))
            ]
      ]

  rows_set : (count : ℕ) → place < count → rows_in stride (overwritten words (place * stride) row) count ≡ set (rows_in stride words count) place row
  unfolding rows_in
  rows_set count within =
      let new : List ℕ = overwritten words (place * stride) row in
      let rows : List (List ℕ) = rows_in stride words count in
      sym (fill_by_all (row_at stride new) (set rows place row) count [] (length-set rows place row ∙ length-rows stride words count)
      (λ k inside.
      elim (cases_eq k place) [
        | inl same ↦
            ap (λ n. get_or (set rows place row) n []) same ∙ get_or-set_same rows place row [] (omega (arith, within, length-rows stride words count))
            ∙ sym row_here ∙ ap (row_at stride new) (sym same)
        | inr differs ↦
            get_or-set_other rows place k row [] differs ∙ get_or-map-range_with_len (row_at stride words) 0 count k k [] inside (omega arith) ∙ sym (row_other k differs)
      ]))

-- what `==` of two lists of words says
words_Decides : (xs ys : List ℕ) (same : Bool) → same ≡ pointwise nat_eq xs ys → Decides same (xs ≡ ys)
words_Decides xs ys same is = slice_eq-Decides unsigned_Decides xs ys same is

module _ (width stride count : ℕ) (words : List ℕ) (are : AreRowsOf width stride count words) where
  abbrev states : List (List Bool)
  states = sets_in width (rows_in stride words count)

  -- ---- what is at a place

  pub length-states : length states ≡ count
  length-states = length-sets width (rows_in stride words count) ∙ length-rows stride words count

  pub row_inside : (place : ℕ) → place < count → place * stride + stride ≤ length words
  row_inside place within = let ends = row_ends stride count place within in let long = are.long in omega (arith, ends, long)

  row_words : (place : ℕ) → place < count → AreWordsOf width (row_at stride words place)
  row_words place within = are.packed place (row_at stride words place) (row_in stride words count place within)

  pub stride_long : (wide : ℕ) (row : List ℕ) → wide ≡ width → AreWordsOf wide row → length row ≡ stride
  stride_long wide row same is =
      let enough = is.enough in
      let no_more = is.no_more in
      let enough' = are.enough in
      let no_more' = are.no_more in
      omega (arith, same, enough, no_more, enough', no_more')

  pub row_packed : (wide place : ℕ) (row : List ℕ) → wide ≡ width → place < count → row ≡ row_at stride words place → AreWordsOf wide row
  row_packed wide place row same within is =
      let P : ℕ → Type 0 = λ n. AreWordsOf n row in
      let Q : List ℕ → Type 0 = AreWordsOf width in
      subst P (sym same) (subst Q (sym is) (row_words place within))

  -- the set that the words at a place hold
  pub state_at : (wide place : ℕ) (row : List ℕ) (bits : List Bool) → wide ≡ width → place < count → row ≡ row_at stride words place → bits ≡ bits_in wide row → slice_get states place ≡ Some bits
  state_at wide place row bits same within is holds =
      set_at width (rows_in stride words count) place (row_at stride words place) (row_in stride words count place within)
      ∙ ap Some (ap (bits_in width) (sym is) ∙ ap (λ n. bits_in n row) (sym same) ∙ sym holds)

  -- the same words are there where the same set is
  pub same_there : (wide place : ℕ) (row other : List ℕ) (bits : List Bool) (same : Bool) → wide ≡ width → place < count → row ≡ row_at stride words place → AreWordsOf wide other
      → bits_in wide other ≡ bits → same ≡ pointwise nat_eq row other → IsTrue same ↔ (slice_get states place ≡ Some bits)
  same_there wide place row other bits same alike within is packed holds reported =
      let P : ℕ → Type 0 = λ n. AreWordsOf n other in
      let decides = words_Decides row other same reported in
      let here : slice_get states place ≡ Some (bits_in width row) = state_at width place row (bits_in width row) refl within is refl in
      let held : bits_in width other ≡ bits = ap (λ n. bits_in n other) (sym alike) ∙ holds in (
        λ yes. here ∙ ap (λ (xs : List ℕ). Some (bits_in width xs)) (decides.0 yes) ∙ ap Some held,
        λ there. decides.1 (same_words width row other (row_packed width place row refl within is) (subst P alike packed)
            (same_Some (bits_in width row) (bits_in width other) (sym here ∙ there ∙ ap Some (sym held)))),
      )

  -- ---- one joins them

  module _ (wide : ℕ) (row : List ℕ) (alike : wide ≡ width) (packed : AreWordsOf wide row) where
    row_wide : AreWordsOf width row
    row_wide = let P : ℕ → Type 0 = λ n. AreWordsOf n row in subst P alike packed

    pub rows_pushed : (new : List ℕ) → new ≡ words ++ row → AreRowsOf width stride (count + 1) new
    rows_pushed new pushed =
        let P : List (List ℕ) → Type 0 = AreRows width in
        let Q : List ℕ → Type 0 = AreRowsOf width stride (count + 1) in
        let long : length row ≡ stride = stride_long wide row alike packed in
        subst Q (sym pushed) (record {
          enough = are.enough;
          no_more = are.no_more;
          long = length-append words row ∙ (λ i. are.long i + long i) ∙ sym (add-mul count 1 stride ∙ ap (λ n. count * stride + n) (one-mul stride));
          packed = subst P (sym (rows_push stride words row count are.long long)) (rows_more width (rows_in stride words count) row are.packed row_wide);
        })

    pub states_pushed : (new : List ℕ) (bits : List Bool) → new ≡ words ++ row → bits_in wide row ≡ bits → sets_in width (rows_in stride new (count + 1)) ≡ states ++ bits ∷ []
    unfolding sets_in
    states_pushed new bits pushed holds =
        ap (λ xs. sets_in width (rows_in stride xs (count + 1))) pushed
        ∙ ap (sets_in width) (rows_push stride words row count are.long (stride_long wide row alike packed))
        ∙ map_push (bits_in width) (rows_in stride words count) row
        ∙ ap (λ (x : List Bool). states ++ x ∷ []) (ap (λ n. bits_in n row) (sym alike) ∙ holds)

    -- ---- one takes another's place

    module _ (place start : ℕ) (within : place < count) (begins : start ≡ place * stride) (new : List ℕ) (written : new ≡ overwritten words start row) where
      new_rows : rows_in stride new count ≡ set (rows_in stride words count) place row
      new_rows =
          ap (λ xs. rows_in stride xs count) (written ∙ ap (λ n. overwritten words n row) begins)
          ∙ rows_set stride place words row (stride_long wide row alike packed) (row_inside place within) count within

      pub rows_replaced : length new ≡ length words → AreRowsOf width stride count new
      rows_replaced long =
          let P : List (List ℕ) → Type 0 = AreRows width in
          let Q : List ℕ → Type 0 = AreWordsOf width in
          record {
            enough = are.enough;
            no_more = are.no_more;
            long = long ∙ are.long;
            packed =
                subst P (sym new_rows) (λ other found at.
                elim (at_set (rows_in stride words count) place row other found at) [
                  | inl here ↦ subst Q here.1 row_wide
                  | inr before ↦ are.packed other found before.1
                ]);
          }

      pub states_replaced : (bits : List Bool) → bits_in wide row ≡ bits → sets_in width (rows_in stride new count) ≡ set states place bits
      unfolding sets_in
      states_replaced bits holds =
          ap (sets_in width) new_rows ∙ map-set (bits_in width) (rows_in stride words count) place row
          ∙ ap (set states place) (ap (λ n. bits_in n row) (sym alike) ∙ holds)
