-- Rows of words in one list, and the table of their places.
use Rattle.std.proofs.Common.{◌≡◌, ℕ, ◌+◌, ◌*◌, ◌^◌, ◌<◌, ◌≤◌, List, [], ◌∷◌, ◌++◌, length, take, drop, get_or, set, add-mul, one-mul, Some, Result, Ok, Err, OnOk, OnErr, is_ok, true, refl, sym, ap, ◌∙◌, subst, inl, inr, arith}
use Rattle.std.specs.Prelude.{slice_get}
use Rattle.std.proofs.lemmas.Bool.{cases_lt}
use Rattle.std.proofs.lemmas.Nat.{row_fits}
use Rattle.std.proofs.lemmas.Option.{slice_get-get_or, slice_get_within, same_Some}
use Rattle.std.proofs.lemmas.List.{take_all, take-append-le, drop_at, drop-append-le, length-drop, length-append, get_or_append_left, get_or_push}
use Rattle.std.proofs.lemmas.List.FromFn.{length-map-range_with_len, get_or-map-range_with_len, map-range_with_len_more, fill_by_all}
use Rattle.packed_state.specs.Pool.{row_at, rows_in, key_of, AreLinked}
use Rattle.packed_state.specs.Table.{entry_of, IsFirstFree, IsTable}
use Rattle.packed_state.proofs.TableLemmas.{same_table, more_table_is}

-- ---- rows

pub length-rows : (stride : ℕ) (words : List ℕ) (count : ℕ) → length (rows_in stride words count) ≡ count
unfolding rows_in
length-rows stride words count = length-map-range_with_len (row_at stride words) 0 count

pub row_in : (stride : ℕ) (words : List ℕ) (count place : ℕ) → place < count → slice_get (rows_in stride words count) place ≡ Some (row_at stride words place)
unfolding rows_in
row_in stride words count place within =
    slice_get-get_or (rows_in stride words count) place [] (omega (arith, length-rows stride words count))
    ∙ ap Some (get_or-map-range_with_len (row_at stride words) 0 count place place [] within (omega arith))

pub row_of : (stride : ℕ) (words : List ℕ) (count place : ℕ) (row : List ℕ) → slice_get (rows_in stride words count) place ≡ Some row
    → (place < count) × (row_at stride words place ≡ row)
row_of stride words count place row at =
    let within : place < count = omega (arith, slice_get_within (rows_in stride words count) place row at, length-rows stride words count) in
    (within, same_Some (row_at stride words place) row (sym (row_in stride words count place within) ∙ at))

pub row_ends : (stride count place : ℕ) → place < count → place * stride + stride ≤ count * stride
row_ends stride count place within = row_fits place stride count stride within (omega arith)

row_kept : (stride : ℕ) (words row : List ℕ) (count place : ℕ) → length words ≡ count * stride → place < count
    → row_at stride (words ++ row) place ≡ row_at stride words place
unfolding row_at
row_kept stride words row count place long within =
    let fits : place * stride + stride ≤ count * stride = row_ends stride count place within in
    ap (take stride) (drop-append-le (place * stride) words row (omega arith))
    ∙ take-append-le stride (drop (place * stride) words) row (omega (arith, length-drop (place * stride) words))

row_last : (stride : ℕ) (words row : List ℕ) (count : ℕ) → length words ≡ count * stride → length row ≡ stride → row_at stride (words ++ row) count ≡ row
unfolding row_at
row_last stride words row count long wide = ap (take stride) (drop_at words row (count * stride) long) ∙ take_all stride row (omega arith)

pub rows_same : (stride : ℕ) (words words' : List ℕ) (count : ℕ) → ((n : ℕ) → n < count → row_at stride words n ≡ row_at stride words' n)
    → rows_in stride words count ≡ rows_in stride words' count
unfolding rows_in
rows_same stride words words' count same =
    fill_by_all (row_at stride words') (rows_in stride words count) count [] (length-rows stride words count)
    (λ n within. get_or-map-range_with_len (row_at stride words) 0 count n n [] within (omega arith) ∙ same n within)

pub rows_push : (stride : ℕ) (words row : List ℕ) (count : ℕ) → length words ≡ count * stride → length row ≡ stride
    → rows_in stride (words ++ row) (count + 1) ≡ rows_in stride words count ++ row ∷ []
unfolding rows_in
rows_push stride words row count long wide =
    map-range_with_len_more (row_at stride (words ++ row)) 0 count count (omega arith)
    ∙ ap (λ rows. rows ++ row_at stride (words ++ row) count ∷ []) (rows_same stride (words ++ row) words count (λ n within. row_kept stride words row count n long within))
    ∙ ap (λ last. rows_in stride words count ++ last ∷ []) (row_last stride words row count long wide)

-- ---- pools

one_row : (long wide stride count : ℕ) → long ≡ count * stride → wide ≡ stride → long + wide ≡ (count + 1) * stride
one_row long wide stride count is same = rw (is, same) (sym (add-mul count 1 stride ∙ ap (λ n. count * stride + n) (one-mul stride)))

pub linked_more : (stride : ℕ) (words : List ℕ) (count : ℕ) (entries keys row words' : List ℕ) (count' : ℕ) (entries' keys' : List ℕ) (slot : ℕ) → AreLinked stride words count entries keys
    → count < 16777216 → length row ≡ stride → IsFirstFree entries (key_of row) slot → count + 1 < length entries
    → words' ≡ words ++ row → count' ≡ count + 1 → entries' ≡ set entries slot (entry_of (key_of row) count) → keys' ≡ keys ++ key_of row ∷ [] → AreLinked stride words' count' entries' keys'
linked_more stride words count entries keys row words' count' entries' keys' slot linked small wide first room more one are pushed =
    let key : ℕ → ℕ = λ n. key_of (row_at stride words' n) in
    let kept : (n : ℕ) → n < count → key_of (row_at stride words n) ≡ key n =
    λ n within. ap key_of (sym (ap (λ ws. row_at stride ws n) more ∙ row_kept stride words row count n linked.long within)) in
    let last : key_of row ≡ key count = ap key_of (sym (ap (λ ws. row_at stride ws count) more ∙ row_last stride words row count linked.long wide)) in
    let P : ℕ → Type 0 = λ k. IsFirstFree entries k slot in
    record {
      few = omega (arith, one);
      long = ap length more ∙ length-append words row ∙ one_row (length words) (length row) stride count linked.long wide ∙ ap (λ n. n * stride) (sym one);
      counted = omega (arith, ap length pushed, length-append keys (key_of row ∷ []), linked.counted, one);
      keyed = λ n within.
          elim (cases_lt n count) [
            | inl before ↦ ap (λ ks. get_or ks n 0) pushed ∙ get_or_append_left keys (key_of row ∷ []) 0 n (omega (arith, linked.counted)) ∙ linked.keyed n before ∙ kept n before
            | inr after ↦
                let at : n ≡ count = omega (arith, one) in
                ap (λ ks. get_or ks n 0) pushed ∙ get_or_push keys (key_of row) 0 n (linked.counted ∙ sym at) ∙ last ∙ ap key (sym at)
          ];
      table =
          more_table_is key count slot entries entries' count' small (same_table (λ n. key_of (row_at stride words n)) key count entries kept linked.table) (subst P last first) room
          (are ∙ ap (λ k. set entries slot (entry_of k count)) last) one;
    }

-- the same states by a larger table, which is filled by their keys
pub linked_again : (stride : ℕ) (words : List ℕ) (count : ℕ) (entries keys : List ℕ) (count' : ℕ) (entries' : List ℕ) → AreLinked stride words count entries keys
    → count' ≡ length keys → IsTable (λ n. get_or keys n 0) count' entries' → AreLinked stride words count' entries' keys
linked_again stride words count entries keys count' entries' linked one table =
    let same : count' ≡ count = one ∙ linked.counted in
    record {
      few = omega (arith, same, linked.few);
      long = linked.long ∙ ap (λ n. n * stride) (sym same);
      counted = sym one;
      keyed = λ n within. linked.keyed n (omega (arith, same));
      table = same_table (λ n. get_or keys n 0) (λ n. key_of (row_at stride words n)) count' entries' (λ n within. linked.keyed n (omega (arith, same))) table;
    }

pub rows_more : (stride : ℕ) (words : List ℕ) (count : ℕ) (row words' : List ℕ) (count' : ℕ) → length words ≡ count * stride → length row ≡ stride
    → words' ≡ words ++ row → count' ≡ count + 1 → rows_in stride words' count' ≡ rows_in stride words count ++ row ∷ []
rows_more stride words count row words' count' long wide more one =
    ap (λ n. rows_in stride words' n) one
    ∙ ap (λ ws. rows_in stride ws (count + 1)) more
    ∙ rows_push stride words row count long wide

pub no_rows : (stride : ℕ) (words : List ℕ) → rows_in stride words 0 ≡ []
unfolding rows_in
no_rows stride words = refl

pub no_words : (stride long : ℕ) → long ≡ 0 → long ≡ 0 * stride
no_words stride long none = omega arith

-- what a call ensures that succeeded
pub ok_fact : {T E : Type 0} (P : Type 0) (r : Result T E) → is_ok r ≡ true → OnOk r P → P
ok_fact P (Ok x) is fact = fact
ok_fact P (Err e) is fact = absurd (cc)

-- what is kept where a row is added, and where memory was refused
pub either_way : {T E : Type 0} (P : List (List ℕ) → Type 0) (r : Result T E) (rows after : List (List ℕ)) (row : List ℕ)
    → OnOk r (after ≡ rows ++ row ∷ []) → OnErr r (after ≡ rows) → P rows → P (rows ++ row ∷ []) → P after
either_way P (Ok x) rows after row added unchanged before more = subst P (sym added) more
either_way P (Err e) rows after row added unchanged before more = subst P (sym unchanged) before
