-- Keys of rows.
use Rattle.std.proofs.Common.{◌≡◌, ◌∙◌, ℕ, zero, suc, ◌<◌, inl, inr, Bool, List, [], ◌∷◌, ◌++◌, length, get_or, Some, refl, sym, ap, arith}
use Rattle.std.specs.Prelude.{slice_get}
use Rattle.std.proofs.lemmas.Bool.{cases_lt}
use Rattle.std.proofs.lemmas.List.{length-append}
use Rattle.std.proofs.lemmas.Option.{slice_get_within}
use Rattle.packed_state.specs.Words.{bits_in}
use Rattle.tables.specs.Keys.{AreKeys, HasKey}

pub keys-none : (width : ℕ) (sets : List (List Bool)) → AreKeys width sets []
keys-none width sets row key at = absurd (cc)

-- the one word
pub one-word : (words : List ℕ) → length words ≡ 1 → words ≡ get_or words 0 0 ∷ []
one-word [] one = absurd (omega (arith, one))
one-word (word ∷ []) one = refl
one-word (word ∷ other ∷ words) one = absurd (omega (arith, one))

last-key : (keys : List ℕ) (row key new : ℕ) → slice_get (keys ++ new ∷ []) row ≡ Some key → length keys ≡ row → new ≡ key
last-key [] zero key new at last = cc
last-key [] (suc row) key new at last = absurd (omega (arith, last))
last-key (first ∷ keys) zero key new at last = absurd (omega (arith, last))
last-key (first ∷ keys) (suc row) key new at last = last-key keys row key new at (omega (arith, last))

earlier-key : (keys : List ℕ) (row key new : ℕ) → slice_get (keys ++ new ∷ []) row ≡ Some key → row < length keys → slice_get keys row ≡ Some key
earlier-key [] row key new at below = absurd (omega (arith, below))
earlier-key (first ∷ keys) zero key new at below = at
earlier-key (first ∷ keys) (suc row) key new at below = earlier-key keys row key new at (omega (arith, below))

-- one key more
pub keys-more : (width : ℕ) (sets : List (List Bool)) (keys words : List ℕ) (set : List Bool) (new row : ℕ) → length keys ≡ row → words ≡ new ∷ [] → length set ≡ width → bits_in (length set) words ≡ set → slice_get sets row ≡ Some set
    → AreKeys width sets keys → AreKeys width sets (keys ++ new ∷ [])
keys-more width sets keys words set new row long is wide bits there before k key at = elim (cases_lt k (length keys)) [
  | inl below ↦ before k key (earlier-key keys k key new at below)
  | inr above ↦
      let within = slice_get_within (keys ++ new ∷ []) k key at in
      let last : length keys ≡ k = omega (arith, above, within, length-append keys (new ∷ [])) in
      let same : new ≡ key = last-key keys k key new at last in
      let held : set ≡ bits_in width (key ∷ []) = sym bits ∙ (λ i. bits_in (wide i) (is i)) ∙ ap (λ n. bits_in width (n ∷ [])) same in
      ap (slice_get sets) (sym last ∙ long) ∙ there ∙ ap (λ s. Some s) held
]

-- the set of the key is the row's
pub key-set : (width : ℕ) (sets : List (List Bool)) (keys words : List ℕ) (set : List Bool) (row : ℕ) → AreKeys width sets keys → length set ≡ width → bits_in (length set) words ≡ set → HasKey keys words row → slice_get sets row ≡ Some set
key-set width sets keys words set row are wide bits has =
    are row has.key has.at ∙ ap (λ s. Some s) (sym (λ i. bits_in (wide i) (has.is i)) ∙ bits)
