-- Where words are among vectors, looked up by the test of their equality.
use Rattle.std.proofs.Common.{◌≡◌, ℕ, suc, ◌<◌, Bool, true, false, List, [], ◌∷◌, ◌++◌, length, map, get_or, nat_eq, Option, None, Some, Result, Ok, Err, IfOk, OnErr, subst, refl, sym, ap, ◌∙◌, inl, inr, arith, Vec}
use Rattle.std.specs.Prelude.{slice_get, Contains, MatchOption, is_some, vec_items, if◌then◌else◌}
use Rattle.std.specs.declared.alloc.Global.{Global}
use Rattle.std.specs.List.{position, list_any}
use Rattle.std.specs.Cmp.{unsigned_Decides}
use Rattle.std.specs.Cmp.Lexicographic.{pointwise, pointwise_decides}
use Rattle.std.proofs.lemmas.Bool.{or_cases, false≢true, false_from_ne_true}
use Rattle.std.proofs.lemmas.Option.{slice_get-get_or, slice_get_within, get_or_from_slice_get, slice_get_read}
use Rattle.std.proofs.lemmas.List.{map_push, length-map}
use Rattle.std.proofs.lemmas.List.Folds.{list_any_at}
use Rattle.std.proofs.lemmas.List.Quantifiers.{position-Some}
use Rattle.packed_state.specs.Store.{sets_in}
use Rattle.packed_state.proofs.StoreLemmas.{place_of, Contains-at, mapped_at, map_at, length-sets}

-- whether the vector has these words
abbrev pub has_words : List ℕ → Vec ℕ Global → Bool
has_words words row = pointwise nat_eq words row.items

has_same : (words : List ℕ) (row : Vec ℕ Global) → has_words words row ≡ true → row.items ≡ words
has_same words row is = sym ((pointwise_decides unsigned_Decides words row.items).0 is)

same_has : (words : List ℕ) (row : Vec ℕ Global) → row.items ≡ words → has_words words row ≡ true
same_has words row is = (pointwise_decides unsigned_Decides words row.items).1 (sym is)

among : (words : List ℕ) (rows : List (Vec ℕ Global)) → list_any (has_words words) rows ≡ true → Contains (map vec_items rows) words
among words [] any = absurd (cc)
among words (row ∷ rows) any =
    elim (or_cases (has_words words row) (list_any (has_words words) rows) any) [
      | inl here ↦ Contains-at (map vec_items (row ∷ rows)) 0 words (ap Some (has_same words row here))
      | inr later ↦
          let at = place_of (map vec_items rows) words (among words rows later) in
          Contains-at (map vec_items (row ∷ rows)) (suc at.0) words at.1
    ]

not_among : (words : List ℕ) (rows : List (Vec ℕ Global)) → list_any (has_words words) rows ≡ false → Contains (map vec_items rows) words → ⊥
not_among words rows none at =
    let there = place_of (map vec_items rows) words at in
    let found = mapped_at vec_items rows there.0 words there.1 in
    let passes : has_words words (get_or rows there.0 found.0) ≡ true =
    ap (has_words words) (get_or_from_slice_get rows there.0 found.0 found.0 found.1.0) ∙ same_has words found.0 found.1.1 in
    false≢true (sym none ∙ list_any_at (has_words words) rows there.0 found.0 (slice_get_within rows there.0 found.0 found.1.0) passes)

not_any : (words : List ℕ) (rows : List (Vec ℕ Global)) → (Contains (map vec_items rows) words → ⊥) → list_any (has_words words) rows ≡ false
not_any words rows none = false_from_ne_true (list_any (has_words words) rows) (λ any. none (among words rows any))

-- where a look-up finds a place, the words are there, and where it finds none, they are nowhere
pub found_words : (words : List ℕ) (rows : List (Vec ℕ Global)) (o : Option ℕ) → o ≡ position (has_words words) rows → is_some o ≡ list_any (has_words words) rows
    → MatchOption o (¬ Contains (map vec_items rows) words) (λ place. slice_get (map vec_items rows) place ≡ Some words)
found_words words rows None is any = not_among words rows (sym any)
found_words words rows (Some place) is any =
    let there = place_of (map vec_items rows) words (among words rows (sym any)) in
    let some = mapped_at vec_items rows there.0 words there.1 in
    let found = position-Some (has_words words) rows place some.0 (sym is) in
    map_at vec_items rows place (get_or rows place some.0) (slice_get-get_or rows place some.0 found.0)
    ∙ ap Some (has_same words (get_or rows place some.0) found.1)

-- one vector more, whose words are in none
pub added_words : (words : List ℕ) (rows after : List (Vec ℕ Global)) (row : Vec ℕ Global) → row.items ≡ words → (Contains (map vec_items rows) words → ⊥)
    → after ≡ (if list_any (has_words row.items) rows then rows else rows ++ row ∷ []) → map vec_items after ≡ map vec_items rows ++ words ∷ []
added_words words rows after row same none is =
    let absent : list_any (has_words row.items) rows ≡ false = rw same (not_any words rows none) in
    ap (map vec_items) (is ∙ ap (λ b. if b then rows else rows ++ row ∷ []) absent) ∙ map_push vec_items rows row ∙ ap (λ w. map vec_items rows ++ w ∷ []) same

-- what is kept where the vector is added, and where memory was refused
pub either_way : {T E : Type 0} (P : List (List ℕ) → Type 0) (r : Result T E) (words : List ℕ) (rows after : List (Vec ℕ Global)) (row : Vec ℕ Global)
    → row.items ≡ words → (Contains (map vec_items rows) words → ⊥)
    → IfOk r (λ _. after ≡ (if list_any (has_words row.items) rows then rows else rows ++ row ∷ [])) → OnErr r (after ≡ rows)
    → P (map vec_items rows) → P (map vec_items rows ++ words ∷ []) → P (map vec_items after)
either_way P (Ok x) words rows after row same none added unchanged before more = subst P (sym (added_words words rows after row same none added)) more
either_way P (Err e) words rows after row same none added unchanged before more = subst P (sym (ap (map vec_items) unchanged)) before

-- the words that are read at a place
pub row_read : (width : ℕ) (rows slice : List (Vec ℕ Global)) (place : ℕ) (row : Vec ℕ Global) (words : List ℕ) → slice ≡ rows
    → place < length (sets_in width (map vec_items rows)) → row ≡ get_or slice place row → words ≡ row.items → slice_get (map vec_items rows) place ≡ Some words
row_read width rows slice place row words same within is read =
    let long : place < length rows = omega (arith, length-map rows vec_items, length-sets width (map vec_items rows)) in
    let at : slice_get rows place ≡ Some row = slice_get_read rows (length rows) place row refl long (is ∙ ap (λ xs. get_or xs place row) same) in
    map_at vec_items rows place row at ∙ ap Some (sym read)
