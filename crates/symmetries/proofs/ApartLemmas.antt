-- Exchanges that have no atom in common.
use Rattle.std.proofs.Common.{◌≡◌, ◌∙◌, ℕ, zero, suc, ◌<◌, Bool, true, false, ◌||◌, List, [], ◌∷◌, length, map, get_or, Some, refl, sym, ap, arith}
use Rattle.std.specs.Prelude.{◌==◌, slice_get, slice_set}
use Rattle.std.specs.Global.{Vec}
use Rattle.std.specs.Option.{option_map, option_map_or}
use Rattle.std.proofs.lemmas.Bool.{or_parts, or_left, or_right, eq-eqb, true≢false}
use Rattle.std.proofs.lemmas.List.{get_or-set_other}
use Rattle.std.proofs.lemmas.List.Folds.{list_all-map}
use Rattle.std.proofs.lemmas.Option.{slice_get-map, slice_get-get_or}
use Rattle.packed_state.specs.Sets.{has}
use Rattle.symmetries.specs.declared.pairs.Pair.{Pair}
use Rattle.symmetries.specs.SwappedPlaces.{is_within, are_within, decide, is_earlier, with_swapped, is_earlier_at, swapped_at}
use Rattle.symmetries.specs.NumberPairs.{pair_of, AreBelow, swap_in, swaps_in}
use Rattle.symmetries.specs.Apart.{is_in, is_among, AreApart, pairs_at, AreAllWithin, AreAllBelow}

-- ---- tests of images by exchanges that are apart

eq_from : (m n : ℕ) → (m == n) ≡ false → (n ≡ m → ⊥)
eq_from m n other is = true≢false (sym (eq-eqb m n (sym is)) ∙ other)

-- a bit in none of the pairs stays
stays : (pairs : List (ℕ × ℕ)) (bits : List Bool) (n : ℕ) → is_in pairs n ≡ false → has (with_swapped pairs bits) n ≡ has bits n
stays [] bits n out = refl
stays (pair ∷ pairs) bits n out =
    let parts = or_parts (pair.0 == n || pair.1 == n) (is_in pairs n) out in
    let here = or_parts (pair.0 == n) (pair.1 == n) parts.0 in
    let first = slice_set bits pair.0 (has bits pair.1) in
    stays pairs (slice_set first pair.1 (has bits pair.0)) n parts.1
    ∙ get_or-set_other first pair.1 n (has bits pair.0) false (eq_from pair.1 n here.1)
    ∙ get_or-set_other bits pair.0 n (has bits pair.1) false (eq_from pair.0 n here.0)

earlier-alike : (pairs : List (ℕ × ℕ)) (f g : ℕ → Bool) → ((n : ℕ) → is_in pairs n ≡ true → f n ≡ g n) → is_earlier pairs f ≡ is_earlier pairs g
earlier-alike [] f g same = refl
earlier-alike (pair ∷ pairs) f g same =
    let lower : f pair.0 ≡ g pair.0 = same pair.0 (or_left (pair.0 == pair.0 || pair.1 == pair.0) (is_in pairs pair.0) (or_left (pair.0 == pair.0) (pair.1 == pair.0) (eq-eqb pair.0 pair.0 refl))) in
    let upper : f pair.1 ≡ g pair.1 = same pair.1 (or_left (pair.0 == pair.1 || pair.1 == pair.1) (is_in pairs pair.1) (or_right (pair.0 == pair.1) (pair.1 == pair.1) (eq-eqb pair.1 pair.1 refl))) in
    let rest = earlier-alike pairs f g (λ n at. same n (or_right (pair.0 == n || pair.1 == n) (is_in pairs n) at)) in
    λ i. decide (upper i) (lower i) (rest i)

earlier-apart : (pairs others : List (ℕ × ℕ)) (bits : List Bool) → AreApart pairs others → is_earlier others (has (with_swapped pairs bits)) ≡ is_earlier others (has bits)
earlier-apart pairs others bits apart =
    earlier-alike others (has (with_swapped pairs bits)) (has bits) (λ n at. by_place n at (is_in pairs n) refl)
  where
    by_place : (n : ℕ) → is_in others n ≡ true → (b : Bool) → is_in pairs n ≡ b → has (with_swapped pairs bits) n ≡ has bits n
    by_place n at true here = absurd (true≢false (sym at ∙ apart n here))
    by_place n at false out = stays pairs bits n out

-- the test at a number, and the image by a number, are those of its pairs
at_pairs : (swaps : List (List (ℕ × ℕ))) (bits : List Bool) (n : ℕ) → is_earlier_at swaps bits n ≡ is_earlier (pairs_at swaps n) (has bits)
at_pairs [] bits n = refl
at_pairs (pairs ∷ swaps) bits zero = refl
at_pairs (pairs ∷ swaps) bits (suc n) = at_pairs swaps bits n

pub swapped_pairs : (swaps : List (List (ℕ × ℕ))) (bits : List Bool) (n : ℕ) → swapped_at swaps bits n ≡ with_swapped (pairs_at swaps n) bits
swapped_pairs [] bits n = refl
swapped_pairs (pairs ∷ swaps) bits zero = refl
swapped_pairs (pairs ∷ swaps) bits (suc n) = swapped_pairs swaps bits n

-- An image is taken, and none by an exchange before it came before: none does now by one below the bound that is not listed.
pub passed_on : (swaps : List (List (ℕ × ℕ))) (bits : List Bool) (number bound : ℕ) (listed : List ℕ) → AreAllBelow swaps number listed bound
    → ((n : ℕ) → n < number → is_earlier_at swaps bits n ≡ false)
    → (n : ℕ) → n < bound → is_among listed n ≡ false → is_earlier_at swaps (swapped_at swaps bits number) n ≡ false
passed_on swaps bits number bound listed all none n below out =
    let low = all.0 in
    ap (λ b. is_earlier_at swaps b n) (swapped_pairs swaps bits number)
    ∙ at_pairs swaps (with_swapped (pairs_at swaps number) bits) n
    ∙ earlier-apart (pairs_at swaps number) (pairs_at swaps n) bits (all.1 n below out)
    ∙ sym (at_pairs swaps bits n) ∙ none n (omega (arith, low, below))

-- ---- the code's pairs

-- those at a place
swap_at : (swaps : List (Vec Pair)) (n : ℕ) (pairs : Vec Pair) → n < length swaps → pairs ≡ get_or swaps n pairs → slice_get (swaps_in swaps) n ≡ Some (swap_in pairs)
swap_at swaps n pairs inside at =
    slice_get-map swap_in swaps n ∙ ap (option_map swap_in) (slice_get-get_or swaps n pairs inside ∙ ap Some (sym at))

module _ (swaps : List (Vec Pair)) (n : ℕ) (pairs : Vec Pair) (items : List Pair) (inside : n < length swaps) (at : pairs ≡ get_or swaps n pairs) (same : items ≡ pairs.items) where
  pub these_pairs : pairs_at (swaps_in swaps) n ≡ map pair_of items
  these_pairs = ap (λ o. option_map_or (λ l. l) o []) (swap_at swaps n pairs inside at) ∙ ap (map pair_of) (sym same)

  pub these_below : (width : ℕ) → AreAllWithin width (swaps_in swaps) → AreBelow width items
  these_below width within =
      sym (list_all-map (is_within width) pair_of items) ∙ ap (are_within width) (sym these_pairs) ∙ within n
