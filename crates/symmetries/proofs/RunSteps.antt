-- Steps of the loops over runs.
use Rattle.std.proofs.Common.{◌≡◌, ◌∙◌, ℕ, ◌+◌, ◌-◌, ◌/◌, ◌^◌, ◌<◌, ◌≤◌, Bool, true, List, length, get_or, set, drop, sym, ap, subst, arith, w64, length-set}
use Rattle.std.specs.Prelude.{◌==◌}
use Rattle.std.specs.Bool.{beq}
use Rattle.std.specs.Int.{bit_at, trailing_zeros}
use Rattle.std.proofs.lemmas.List.{drop_all}
use Rattle.packed_state.specs.Sets.{has}
use Rattle.symmetries.specs.SwappedPlaces.{is_earlier, with_swapped}
use Rattle.symmetries.specs.declared.run.Run.{Run}
use Rattle.symmetries.specs.Runs.{has_at, pairs_from, pairs_in, pairs_in_all, differs_at, IsBelow, AreBelow}
use Rattle.symmetries.proofs.SwappedBits.{length-with_swapped}
use Rattle.symmetries.proofs.RunPairs.{parts, all_skipped, first_decides, all_kept, none_kept, first_swapped, swapped}
use Rattle.symmetries.proofs.RunWords.{below_at, no_difference, first_difference, word_empty, word_first}
use Rattle.symmetries.proofs.RunLists.{run_within, from_run, swapped_twice}

-- a pair that differs is in the run
is_there : (run : Run) (bits : List Bool) (place : ℕ) → differs_at run bits place ≡ true → has_at run place ≡ true
is_there run bits place differs = (parts (has_at run place) (beq (has bits (run.lower + place)) (has bits (run.upper + place))) differs).0

-- the number that decides is below the width
pub lowest_below : (run : Run) (bits : List Bool) (word : ℕ) → ((place : ℕ) → (bit_at word place == 1) ≡ differs_at run bits place) → word < 2 ^ 64 → (word ≡ 0 → ⊥)
    → (width : ℕ) → IsBelow width run → run.upper + trailing_zeros w64 word < width
lowest_below run bits word says small some width below =
    (below_at run width (trailing_zeros w64 word) (is_there run bits (trailing_zeros w64 word) (word_first run bits word says small some).1) below).1

-- ---- the run at a place of the list

module _ (runs : List Run) (i : ℕ) (run : Run) (inside : i < length runs) (at : run ≡ get_or runs i run) (bits : List Bool) where
  -- its first pair that differs decides, if none in a run before it does
  pub decides : is_earlier (pairs_in_all (drop i runs)) (has bits) ≡ is_earlier (pairs_in_all runs) (has bits) → (word : ℕ)
      → ((place : ℕ) → (bit_at word place == 1) ≡ differs_at run bits place) → word < 2 ^ 64 → (word ≡ 0 → ⊥)
      → has bits (run.upper + trailing_zeros w64 word) ≡ is_earlier (pairs_in_all runs) (has bits)
  decides before word says small some =
      let first = word_first run bits word says small some in
      sym (first_decides run bits 64 0 (trailing_zeros w64 word) (pairs_in_all (drop (i + 1) runs)) (omega arith) (omega (arith, first.0)) first.1 first.2)
      ∙ ap (λ l. is_earlier l (has bits)) (sym (from_run runs i run run inside at))
      ∙ before

  -- none of its pairs does
  pub passes : is_earlier (pairs_in_all (drop i runs)) (has bits) ≡ is_earlier (pairs_in_all runs) (has bits) → (word : ℕ)
      → ((place : ℕ) → (bit_at word place == 1) ≡ differs_at run bits place) → word ≡ 0
      → is_earlier (pairs_in_all (drop (i + 1) runs)) (has bits) ≡ is_earlier (pairs_in_all runs) (has bits)
  passes before word says empty =
      sym (all_skipped run bits 64 0 (pairs_in_all (drop (i + 1) runs)) (word_empty run bits word says empty))
      ∙ ap (λ l. is_earlier l (has bits)) (sym (from_run runs i run run inside at))
      ∙ before

  -- the bits of its pairs have changed places
  pub exchanged : (start new : List Bool) → with_swapped (pairs_in_all (drop i runs)) bits ≡ with_swapped (pairs_in_all runs) start → new ≡ with_swapped (pairs_in run) bits
      → with_swapped (pairs_in_all (drop (i + 1) runs)) new ≡ with_swapped (pairs_in_all runs) start
  exchanged start new before is =
      ap (with_swapped (pairs_in_all (drop (i + 1) runs))) is
      ∙ sym (swapped_twice (pairs_in run) (pairs_in_all (drop (i + 1) runs)) bits)
      ∙ ap (λ l. with_swapped l bits) (sym (from_run runs i run run inside at))
      ∙ before

  pub run_below : (width : ℕ) → length bits ≡ width → AreBelow width runs → IsBelow (length bits) run
  run_below width wide below = subst (λ n. IsBelow n run) (sym wide) (run_within width runs i run run inside at below)

pub all_exchanged : (runs : List Run) (i : ℕ) (start bits : List Bool) → length runs ≤ i → with_swapped (pairs_in_all (drop i runs)) bits ≡ with_swapped (pairs_in_all runs) start
    → bits ≡ with_swapped (pairs_in_all runs) start
all_exchanged runs i start bits past left = sym (ap (λ (l : List Run). with_swapped (pairs_in_all l) bits) (drop_all i runs past)) ∙ left

pub as_wide : (pairs : List (ℕ × ℕ)) (bits new : List Bool) (width : ℕ) → new ≡ with_swapped pairs bits → length bits ≡ width → length new ≡ width
as_wide pairs bits new width is wide = ap length is ∙ length-with_swapped pairs bits ∙ wide

-- ---- the pairs of one run

module _ (run : Run) (bits : List Bool) (from : ℕ) (within : from ≤ 64) (word : ℕ) (says : (place : ℕ) → (bit_at word place == 1) ≡ differs_at run bits place) where
  abbrev place : ℕ
  place = from + trailing_zeros w64 (word / 2 ^ from)

  module _ (small : word < 2 ^ 64) (some : word / 2 ^ from ≡ 0 → ⊥) where
    pub place_below : place < 64
    place_below = (first_difference run bits word says from small some).below

    pub numbers_below : (width : ℕ) → IsBelow width run → (run.lower + place < width) × (run.upper + place < width)
    numbers_below width below = below_at run width place (is_there run bits place (first_difference run bits word says from small some).differs) below

    -- the first that differs has changed places
    pub one_exchanged : (start new : List Bool) → new ≡ swapped run bits place → with_swapped (pairs_from run from (64 - from)) bits ≡ with_swapped (pairs_in run) start
        → with_swapped (pairs_from run (place + 1) (64 - (place + 1))) new ≡ with_swapped (pairs_in run) start
    one_exchanged start new is left =
        let first = first_difference run bits word says from small some in
        let below = first.below in
        let above = first.above in
        ap (with_swapped (pairs_from run (place + 1) (64 - (place + 1)))) is
        ∙ sym (first_swapped run bits (64 - from) from place (64 - (place + 1)) above (omega (arith, below, within)) first.differs first.before)
        ∙ left

    pub still_wide : (new : List Bool) (width : ℕ) → new ≡ swapped run bits place → length bits ≡ width → length new ≡ width
    still_wide new width is wide =
        let first = set bits (run.lower + place) (has bits (run.upper + place)) in
        ap length is ∙ length-set first (run.upper + place) (has bits (run.lower + place)) ∙ length-set bits (run.lower + place) (has bits (run.upper + place)) ∙ wide

  -- none is left that differs
  pub rest_exchanged : (start : List Bool) → word / 2 ^ from ≡ 0 → with_swapped (pairs_from run from (64 - from)) bits ≡ with_swapped (pairs_in run) start
      → bits ≡ with_swapped (pairs_in run) start
  rest_exchanged start empty left = sym (all_kept run bits (64 - from) from (no_difference run bits word says from empty)) ∙ left

pub places_past : (run : Run) (bits start : List Bool) (from : ℕ) → 64 ≤ from → with_swapped (pairs_from run from (64 - from)) bits ≡ with_swapped (pairs_in run) start
    → bits ≡ with_swapped (pairs_in run) start
places_past run bits start from past left =
    let no_place : 64 - from ≡ 0 = omega (arith, past) in
    sym (ap (λ n. with_swapped (pairs_from run from n) bits) no_place ∙ none_kept run bits from) ∙ left
