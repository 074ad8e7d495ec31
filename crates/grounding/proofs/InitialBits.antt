-- The initial packed state, bit after bit.
use Rattle.std.proofs.Common.{◌≡◌, ◌∙◌, ℕ, zero, suc, ◌+◌, ◌<◌, ◌≤◌, Bool, true, false, inl, inr, List, [], ◌∷◌, map, length, get_or, set, Some, refl, sym, ap, arith}
use Rattle.std.specs.Prelude.{slice_get}
use Rattle.std.specs.List.{range_with_len}
use Rattle.std.proofs.lemmas.Bool.{cases_eq}
use Rattle.std.proofs.lemmas.List.{length-set, same_lists, get_or_default, get_or-set_same, get_or-set_other}
use Rattle.std.proofs.lemmas.Option.{get_or_from_slice_get}
use Rattle.packed_state.specs.Sets.{set_of}
use Rattle.packed_state.proofs.PackedLemmas.{length-set_of}

-- the first `count` bits are those of the list, and the others are not set
pub record AreBegun (whole bits : List Bool) (count : ℕ) : Type 0 where
  pub as_long : length bits ≡ length whole
  pub before : (k : ℕ) → k < count → get_or bits k false ≡ get_or whole k false
  pub after : (k : ℕ) → count ≤ k → get_or bits k false ≡ false

unset : (xs : List ℕ) (k : ℕ) → get_or (map (λ (n : ℕ). false) xs) k false ≡ false
unset [] k = refl
unset (x ∷ xs) zero = refl
unset (x ∷ xs) (suc k) = unset xs k

module _ (whole : List Bool) where
  pub begun-none : (bits : List Bool) (width : ℕ) → bits ≡ set_of width [] → width ≡ length whole → AreBegun whole bits 0
  begun-none bits width is wide = record {
    as_long = ap length is ∙ length-set_of width [] ∙ wide;
    before = λ k below. absurd (omega (arith, below));
    after = λ k above. ap (λ (l : List Bool). get_or l k false) is ∙ unset (range_with_len 0 width) k;
  }

  pub begun-with : (bits more : List Bool) (count : ℕ) → count < length whole → Some true ≡ slice_get whole count → more ≡ set bits count true → AreBegun whole bits count → AreBegun whole more (count + 1)
  begun-with bits more count within at is begun = record {
    as_long = ap length is ∙ length-set bits count true ∙ begun.as_long;
    before = λ k below. ap (λ (l : List Bool). get_or l k false) is ∙ elim (cases_eq k count) [
      | inl same ↦
          ap (λ n. get_or (set bits count true) n false) same ∙ get_or-set_same bits count true false (omega (arith, within, begun.as_long))
          ∙ sym (get_or_from_slice_get whole count true false (sym at)) ∙ ap (λ n. get_or whole n false) (sym same)
      | inr other ↦ get_or-set_other bits count k true false other ∙ begun.before k (omega (arith, below, other))
    ];
    after = λ k above.
        ap (λ (l : List Bool). get_or l k false) is ∙ get_or-set_other bits count k true false (λ same. absurd (omega (arith, above, same)))
        ∙ begun.after k (omega (arith, above));
  }

  pub begun-without : (bits : List Bool) (count : ℕ) → Some false ≡ slice_get whole count → AreBegun whole bits count → AreBegun whole bits (count + 1)
  begun-without bits count at begun = record {
    as_long = begun.as_long;
    before = λ k below. elim (cases_eq k count) [
      | inl same ↦
          begun.after k (omega (arith, same)) ∙ sym (get_or_from_slice_get whole count false false (sym at)) ∙ ap (λ n. get_or whole n false) (sym same)
      | inr other ↦ begun.before k (omega (arith, below, other))
    ];
    after = λ k above. begun.after k (omega (arith, above));
  }

  pub begun-end : (bits : List Bool) (count : ℕ) → length whole ≤ count → AreBegun whole bits count → bits ≡ whole
  begun-end bits count past begun =
      same_lists bits whole begun.as_long (λ k d below.
      get_or_default bits k d false below ∙ begun.before k (omega (arith, below, past, begun.as_long)) ∙ get_or_default whole k false d (omega (arith, below, begun.as_long)))
