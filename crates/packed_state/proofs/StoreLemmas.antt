-- Lists of sets by the rows of words that hold them.
use Rattle.std.proofs.Common.{◌≡◌, ℕ, zero, suc, ◌<◌, Bool, true, false, List, [], ◌∷◌, ◌++◌, length, map, Option, None, Some, Result, Ok, Err, IfOk, refl, sym, ap, ◌∙◌, subst, inl, inr, arith}
use Rattle.std.specs.Prelude.{slice_get, Contains, MatchOption, ◌⊎◌}
use Rattle.std.specs.Option.{option_map}
use Rattle.std.proofs.lemmas.Option.{slice_get-map, slice_get-get_or, slice_get_within, get_or_from_slice_get, same_Some}
use Rattle.std.proofs.lemmas.List.{length-map, map_push, length_push}
use Rattle.packed_state.specs.Words.{bits_in, AreWordsOf}
use Rattle.packed_state.specs.Store.{AreDistinct, IsPlaced, AreRows, AreStored, sets_in}
use Rattle.packed_state.proofs.PackedLemmas.{same_words, length-bits}

-- ---- places

pub place_of : {X : Type 0} (xs : List X) (x : X) → Contains xs x → (k : ℕ) × (slice_get xs k ≡ Some x)
place_of xs x at = (at.0, slice_get-get_or xs at.0 x at.1 ∙ ap Some at.2)

pub Contains-at : {X : Type 0} (xs : List X) (k : ℕ) (x : X) → slice_get xs k ≡ Some x → Contains xs x
Contains-at xs k x is = (k, slice_get_within xs k x is, get_or_from_slice_get xs k x x is)

mapped_option : {X Y : Type 0} (f : X → Y) (o : Option X) (y : Y) → option_map f o ≡ Some y → (x : X) × ((o ≡ Some x) × (f x ≡ y))
mapped_option f None y is = absurd (cc)
mapped_option f (Some x) y is = (x, (refl, same_Some (f x) y is))

-- what a mapped list has at a place
pub mapped_at : {X Y : Type 0} (f : X → Y) (xs : List X) (k : ℕ) (y : Y) → slice_get (map f xs) k ≡ Some y → (x : X) × ((slice_get xs k ≡ Some x) × (f x ≡ y))
mapped_at f xs k y is = mapped_option f (slice_get xs k) y (sym (slice_get-map f xs k) ∙ is)

pub map_at : {X Y : Type 0} (f : X → Y) (xs : List X) (k : ℕ) (x : X) → slice_get xs k ≡ Some x → slice_get (map f xs) k ≡ Some (f x)
map_at f xs k x is = slice_get-map f xs k ∙ ap (option_map f) is

-- what a list with one more has at a place
pushed_at : {X : Type 0} (xs : List X) (x : X) (k : ℕ) (y : X) → slice_get (xs ++ x ∷ []) k ≡ Some y → (slice_get xs k ≡ Some y) ⊎ ((k ≡ length xs) × (x ≡ y))
pushed_at [] x zero y is = inr (refl, same_Some x y is)
pushed_at [] x (suc k) y is = absurd (cc)
pushed_at (z ∷ xs) x zero y is = inl is
pushed_at (z ∷ xs) x (suc k) y is =
    elim (pushed_at xs x k y is) [
      | inl before ↦ inl before
      | inr last ↦ inr (ap suc last.0, last.1)
    ]

pub distinct_more : {X : Type 0} (xs : List X) (x : X) → AreDistinct xs → (Contains xs x → ⊥) → AreDistinct (xs ++ x ∷ [])
distinct_more xs x distinct new j k y at_j at_k =
    elim (pushed_at xs x j y at_j) [
      | inl before ↦
          elim (pushed_at xs x k y at_k) [
            | inl too ↦ distinct j k y before too
            | inr last ↦ absurd (new (Contains-at xs j x (before ∙ ap Some (sym last.1))))
          ]
      | inr last ↦
          elim (pushed_at xs x k y at_k) [
            | inl before ↦ absurd (new (Contains-at xs k x (before ∙ ap Some (sym last.1))))
            | inr too ↦ last.0 ∙ sym too.0
          ]
    ]

-- ---- rows and their sets

pub rows_more : (width : ℕ) (rows : List (List ℕ)) (words : List ℕ) → AreRows width rows → AreWordsOf width words → AreRows width (rows ++ words ∷ [])
rows_more width rows words are row place found is =
    elim (pushed_at rows words place found is) [
      | inl before ↦ are place found before
      | inr last ↦ let P : List ℕ → Type 0 = AreWordsOf width in subst P last.1 row
    ]

pub length-sets : (width : ℕ) (rows : List (List ℕ)) → length (sets_in width rows) ≡ length rows
unfolding sets_in
length-sets width rows = length-map rows (bits_in width)

pub set_at : (width : ℕ) (rows : List (List ℕ)) (k : ℕ) (words : List ℕ) → slice_get rows k ≡ Some words → slice_get (sets_in width rows) k ≡ Some (bits_in width words)
unfolding sets_in
set_at width rows k words is = map_at (bits_in width) rows k words is

sets_more : (width : ℕ) (rows : List (List ℕ)) (words : List ℕ) → sets_in width (rows ++ words ∷ []) ≡ sets_in width rows ++ bits_in width words ∷ []
unfolding sets_in
sets_more width rows words = map_push (bits_in width) rows words

-- a set that no row of words holds is not in the list
pub absent_set : (width : ℕ) (rows : List (List ℕ)) (words : List ℕ) → AreRows width rows → AreWordsOf width words → (Contains rows words → ⊥)
    → Contains (sets_in width rows) (bits_in width words) → ⊥
unfolding sets_in
absent_set width rows words are row none among =
    let at = place_of (map (bits_in width) rows) (bits_in width words) among in
    let found = mapped_at (bits_in width) rows at.0 (bits_in width words) at.1 in
    none (Contains-at rows at.0 words (found.1.0 ∙ ap Some (same_words width found.0 words (are at.0 found.0 found.1.0) row found.1.1)))

pub found_set : (width : ℕ) (rows : List (List ℕ)) (words : List ℕ) → AreRows width rows → AreWordsOf width words → (o : Option ℕ)
    → MatchOption o (¬ Contains rows words) (λ place. slice_get rows place ≡ Some words)
    → MatchOption o (¬ Contains (sets_in width rows) (bits_in width words)) (λ place. slice_get (sets_in width rows) place ≡ Some (bits_in width words))
found_set width rows words are row None none = absent_set width rows words are row none
found_set width rows words are row (Some place) at = set_at width rows place words at

pub placed_set : (width : ℕ) (old new : List (List ℕ)) (words : List ℕ) (place : ℕ) (is_new : Bool) → AreRows width old → AreWordsOf width words
    → IsPlaced old new words place is_new → IsPlaced (sets_in width old) (sets_in width new) (bits_in width words) place is_new
placed_set width old new words place true are row at = (
  absent_set width old words are row at.0,
  ap (sets_in width) at.1 ∙ sets_more width old words,
  at.2 ∙ sym (length-sets width old),
)
placed_set width old new words place false are row at = (set_at width old place words at.0, ap (sets_in width) at.1)

-- the sets stay distinct where the words of a new one are in no row
pub distinct_sets_more : (width : ℕ) (rows : List (List ℕ)) (words : List ℕ) → AreRows width rows → AreWordsOf width words → AreDistinct (sets_in width rows)
    → (Contains rows words → ⊥) → AreDistinct (sets_in width (rows ++ words ∷ []))
distinct_sets_more width rows words are row distinct none =
    let P : List (List Bool) → Type 0 = AreDistinct in
    subst P (sym (sets_more width rows words)) (distinct_more (sets_in width rows) (bits_in width words) distinct (absent_set width rows words are row none))

-- ---- what a store keeps

pub none_stored : (width : ℕ) → AreStored width []
unfolding sets_in
none_stored width = record { packed = λ place words is. absurd (cc); few = omega arith; distinct = λ j k s is. absurd (cc) }

pub one_stored : (width : ℕ) (rows : List (List ℕ)) (words : List ℕ) → AreStored width rows → AreWordsOf width words → length rows < 16777216
    → (Contains rows words → ⊥) → AreStored width (rows ++ words ∷ [])
one_stored width rows words stored row room none =
    record {
      packed = rows_more width rows words stored.packed row;
      few = omega (arith, length_push rows words);
      distinct = distinct_sets_more width rows words stored.packed row stored.distinct none;
    }

-- ---- a state by the words that hold it, under a width that is the store's

pub found_state : (width wide : ℕ) (rows : List (List ℕ)) (words : List ℕ) (bits : List Bool) → wide ≡ width → AreStored width rows → AreWordsOf wide words
    → bits_in wide words ≡ bits → (o : Option ℕ) → MatchOption o (¬ Contains rows words) (λ place. slice_get rows place ≡ Some words)
    → MatchOption o (¬ Contains (sets_in width rows) bits) (λ place. slice_get (sets_in width rows) place ≡ Some bits)
found_state width wide rows words bits same stored row are o found =
    let P : ℕ → Type 0 = λ n. AreWordsOf n words in
    let Q : List Bool → Type 0 = λ set. MatchOption o (¬ Contains (sets_in width rows) set) (λ place. slice_get (sets_in width rows) place ≡ Some set) in
    subst Q (ap (λ n. bits_in n words) (sym same) ∙ are) (found_set width rows words stored.packed (subst P same row) o found)

pub placed_state : {E : Type 0} (width wide after : ℕ) (old new : List (List ℕ)) (words : List ℕ) (bits : List Bool) → wide ≡ width → after ≡ width → AreStored width old
    → AreWordsOf wide words → bits_in wide words ≡ bits → (r : Result (ℕ × Bool) E) → IfOk r (λ p. IsPlaced old new words p.0 p.1)
    → IfOk r (λ p. IsPlaced (sets_in width old) (sets_in after new) bits p.0 p.1)
placed_state width wide after old new words bits same kept stored row are (Ok p) placed =
    let P : ℕ → Type 0 = λ n. AreWordsOf n words in
    let Q : List Bool → Type 0 = λ set. IsPlaced (sets_in width old) (sets_in width new) set p.0 p.1 in
    let R : ℕ → Type 0 = λ n. IsPlaced (sets_in width old) (sets_in n new) bits p.0 p.1 in
    subst R (sym kept) (subst Q (ap (λ n. bits_in n words) (sym same) ∙ are) (placed_set width old new words p.0 p.1 stored.packed (subst P same row) placed))
placed_state width wide after old new words bits same kept stored row are (Err e) placed = tt

-- the row at a place holds a set of the store's width
pub row_for : (width wide : ℕ) (rows : List (List ℕ)) (place : ℕ) (words : List ℕ) → wide ≡ width → AreStored width rows → slice_get rows place ≡ Some words → AreWordsOf wide words
row_for width wide rows place words same stored at =
    let P : ℕ → Type 0 = λ n. AreWordsOf n words in
    subst P (sym same) (stored.packed place words at)

pub got_state : (width wide : ℕ) (rows : List (List ℕ)) (place : ℕ) (words : List ℕ) (bits : List Bool) → wide ≡ width → slice_get rows place ≡ Some words
    → bits ≡ bits_in wide words → slice_get (sets_in width rows) place ≡ Some bits
got_state width wide rows place words bits same at is = set_at width rows place words at ∙ ap Some (ap (λ n. bits_in n words) (sym same) ∙ sym is)

pub got_width : (width wide : ℕ) (words : List ℕ) (bits : List Bool) → wide ≡ width → bits ≡ bits_in wide words → length bits ≡ width
got_width width wide words bits same is = ap length is ∙ length-bits wide words ∙ same
