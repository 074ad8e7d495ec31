-- Turns of the loop that takes images: as long as one comes before the state, the first of them in its place.
use Rattle.std.proofs.Common.{◌≡◌, ◌∙◌, ℕ, zero, suc, ◌<◌, Bool, true, false, List, [], ◌∷◌, map, length, Option, None, Some, refl, sym, ap, arith}
use Rattle.std.specs.Prelude.{Contains, slice_get}
use Rattle.std.specs.List.{list_all, find}
use Rattle.std.specs.Option.{option_map_or}
use Rattle.std.proofs.lemmas.Bool.{cond-true, cond-false, true≢false}
use Rattle.std.proofs.lemmas.List.{length-map}
use Rattle.std.specs.FinSet.{contains}
use Rattle.model.specs.Task.{Atom}
use Rattle.model.specs.Meaning.{State}
use Rattle.model.specs.NumberedAtoms.{are_distinct}
use Rattle.model.specs.Grounding.{bits_of_state}
use Rattle.model.proofs.ListLemmas.{Contains-got}
use Rattle.symmetries_definitions.specs.Exchanges.{Exchange, image_of_object, image_of_state, objects_in, are_different}
use Rattle.symmetries_definitions.specs.Orbits.{comes_before, image_before, with_images, representative, keeps_atoms}
use Rattle.symmetries_definitions.proofs.Lists.{all-at}
use Rattle.symmetries_definitions.proofs.ExchangeLemmas.{own_inverse}
use Rattle.packed_state.specs.Sets.{has}
use Rattle.symmetries.specs.SwappedPlaces.{swap_of, swaps_of_all, are_within, is_earlier, with_swapped, is_earlier_at, swapped_at}
use Rattle.symmetries.specs.Apart.{AreAllWithin}
use Rattle.symmetries.proofs.ImageBits.{numbers_within, image_earlier, image_swapped}

-- ---- the first of a list that passes, seen through a map

abbrev passes_at : {X Y : Type 0} → (Y → Bool) → (X → Y) → List X → ℕ → Bool
passes_at p f xs n = option_map_or (λ x. p (f x)) (slice_get xs n) false

find-first : {X Y : Type 0} (p : Y → Bool) (f : X → Y) (xs : List X) (n : ℕ) (x : X) → slice_get xs n ≡ Some x → p (f x) ≡ true
    → ((k : ℕ) → k < n → passes_at p f xs k ≡ false) → find p (map f xs) ≡ Some (f x)
find-first p f [] n x got passes none = absurd (cc)
find-first p f (y ∷ xs) zero x got passes none =
    let same : y ≡ x = cc in
    cond-true (p (f y)) (Some (f y)) (find p (map f xs)) (ap (λ z. p (f z)) same ∙ passes) ∙ ap (λ z. Some (f z)) same
find-first p f (y ∷ xs) (suc n) x got passes none =
    cond-false (p (f y)) (Some (f y)) (find p (map f xs)) (none 0 (omega arith))
    ∙ find-first p f xs n x got passes (λ k less. none (suc k) (omega arith))

find-none : {X Y : Type 0} (p : Y → Bool) (f : X → Y) (xs : List X) → ((k : ℕ) → passes_at p f xs k ≡ false) → find p (map f xs) ≡ None
find-none p f [] none = refl
find-none p f (y ∷ xs) none =
    cond-false (p (f y)) (Some (f y)) (find p (map f xs)) (none 0) ∙ find-none p f xs (λ k. none (suc k))

-- what is made of the item at a place of a mapped list
at-map : {X Y Z : Type 0} (h : Y → Z) (g : X → Y) (xs : List X) (n : ℕ) (d : Z) → option_map_or h (slice_get (map g xs) n) d ≡ option_map_or (λ x. h (g x)) (slice_get xs n) d
at-map h g [] n d = refl
at-map h g (x ∷ xs) zero d = refl
at-map h g (x ∷ xs) (suc n) d = at-map h g xs n d

-- ---- exchanges of different objects, which keep the numbered atoms

pub record AreKept (atoms : List Atom) (exchanges : List Exchange) : Type 0 where
  pub distinct : are_distinct atoms ≡ true
  pub different : list_all (λ (e : Exchange). are_different (objects_in e)) exchanges ≡ true
  pub kept : list_all (keeps_atoms atoms) exchanges ≡ true

-- The bits are those of a state from which at most `left` images lead to the representative of the state at the start.
pub record Stands (atoms : List Atom) (exchanges : List Exchange) (start : State) (left : ℕ) (bits : List Bool) : Type 0 where
  pub state : State
  pub is : bits_of_state atoms state ≡ bits
  pub same : with_images atoms exchanges left state ≡ representative atoms exchanges start

-- where no image comes before a state, it stays
stays : (atoms : List Atom) (exchanges : List Exchange) (left : ℕ) (s : State) → image_before atoms exchanges s ≡ None → with_images atoms exchanges left s ≡ s
stays atoms exchanges zero s none = refl
stays atoms exchanges (suc left) s none = ap (λ o. option_map_or (with_images atoms exchanges left) o s) none

module _ (atoms : List Atom) (exchanges : List Exchange) (are : AreKept atoms exchanges) where
  abbrev swaps : List (List (ℕ × ℕ))
  swaps = swaps_of_all atoms exchanges

  module _ (e : Exchange) (at : Contains exchanges e) where
    both_ways : (o : ℕ) → image_of_object e (image_of_object e o) ≡ o
    both_ways = own_inverse e (all-at (λ (x : Exchange). are_different (objects_in x)) exchanges e are.different at)

    keeps : keeps_atoms atoms e ≡ true
    keeps = all-at (keeps_atoms atoms) exchanges e are.kept at

    within : are_within (length atoms) (swap_of atoms e) ≡ true
    within = numbers_within atoms are.distinct (image_of_object e) both_ways keeps

    earlier : (s : State) → comes_before atoms (image_of_state (image_of_object e) s) s ≡ is_earlier (swap_of atoms e) (has (bits_of_state atoms s))
    earlier s = image_earlier atoms are.distinct (image_of_object e) both_ways keeps s

    swapped : (s : State) → bits_of_state atoms (image_of_state (image_of_object e) s) ≡ with_swapped (swap_of atoms e) (bits_of_state atoms s)
    swapped s = image_swapped atoms are.distinct (image_of_object e) both_ways keeps s

  pub all_within : AreAllWithin (length atoms) swaps
  all_within n = ap (are_within (length atoms)) (at-map (λ pairs. pairs) (swap_of atoms) exchanges n []) ∙ by_found (slice_get exchanges n) refl
    where
      by_found : (found : Option Exchange) → slice_get exchanges n ≡ found → are_within (length atoms) (option_map_or (swap_of atoms) found []) ≡ true
      by_found None is = refl
      by_found (Some e) is = within e (Contains-got exchanges n e is)

  -- the test of a state's image, by bits
  at_number : (s : State) (n : ℕ) → is_earlier_at swaps (bits_of_state atoms s) n
      ≡ passes_at (λ image. comes_before atoms image s) (λ (e : Exchange). image_of_state (image_of_object e) s) exchanges n
  at_number s n =
      at-map (λ pairs. is_earlier pairs (has (bits_of_state atoms s))) (swap_of atoms) exchanges n false ∙ by_found (slice_get exchanges n) refl
    where
      by_found : (found : Option Exchange) → slice_get exchanges n ≡ found
          → option_map_or (λ e. is_earlier (swap_of atoms e) (has (bits_of_state atoms s))) found false
          ≡ option_map_or (λ (e : Exchange). comes_before atoms (image_of_state (image_of_object e) s) s) found false
      by_found None is = refl
      by_found (Some e) is = sym (earlier e (Contains-got exchanges n e is) s)

  -- no image is left
  pub is_last : (start : State) (bits : List Bool) → Stands atoms exchanges start 0 bits → bits ≡ bits_of_state atoms (representative atoms exchanges start)
  is_last start bits stands = sym stands.is ∙ ap (bits_of_state atoms) stands.same

  module _ (start : State) (left : ℕ) (bits : List Bool) (stands : Stands atoms exchanges start (suc left) bits) where
    abbrev s : State
    s = stands.state

    test_at : (n : ℕ) → passes_at (λ image. comes_before atoms image s) (λ (e : Exchange). image_of_state (image_of_object e) s) exchanges n ≡ is_earlier_at swaps bits n
    test_at n = sym (at_number s n) ∙ ap (λ b. is_earlier_at swaps b n) stands.is

    -- no image comes before the state
    pub ends : ((n : ℕ) → is_earlier_at swaps bits n ≡ false) → bits ≡ bits_of_state atoms (representative atoms exchanges start)
    ends none =
        let before : image_before atoms exchanges s ≡ None =
        find-none (λ image. comes_before atoms image s) (λ (e : Exchange). image_of_state (image_of_object e) s) exchanges (λ k. test_at k ∙ none k) in
        sym stands.is ∙ ap (bits_of_state atoms) (sym (stays atoms exchanges (suc left) s before) ∙ stands.same)

    -- the first that does in its place
    pub record IsTurn (new : List Bool) : Type 0 where
      pub after : Stands atoms exchanges start left new
      pub wide : length new ≡ length bits

    pub turns : (n : ℕ) → is_earlier_at swaps bits n ≡ true → ((k : ℕ) → k < n → is_earlier_at swaps bits k ≡ false) → IsTurn (swapped_at swaps bits n)
    turns n first none = by_found (slice_get exchanges n) refl
      where
        by_found : (found : Option Exchange) → slice_get exchanges n ≡ found → IsTurn (swapped_at swaps bits n)
        by_found None is =
            let none : is_earlier_at swaps bits n ≡ false =
            sym (test_at n) ∙ ap (λ o. option_map_or (λ (x : Exchange). comes_before atoms (image_of_state (image_of_object x) s) s) o false) is in
            absurd (true≢false (sym first ∙ none))
        by_found (Some e) is =
            let image = image_of_state (image_of_object e) s in
            let at = Contains-got exchanges n e is in
            let passes : comes_before atoms image s ≡ true =
            ap (λ o. option_map_or (λ (x : Exchange). comes_before atoms (image_of_state (image_of_object x) s) s) o false) (sym is) ∙ test_at n ∙ first in
            let before : image_before atoms exchanges s ≡ Some image =
            find-first (λ r. comes_before atoms r s) (λ (x : Exchange). image_of_state (image_of_object x) s) exchanges n e is passes (λ k less. test_at k ∙ none k less) in
            let made : bits_of_state atoms image ≡ swapped_at swaps bits n =
            swapped e at s ∙ ap (with_swapped (swap_of atoms e)) stands.is
            ∙ sym (at-map (λ pairs. with_swapped pairs bits) (swap_of atoms) exchanges n bits ∙ ap (λ o. option_map_or (λ (x : Exchange). with_swapped (swap_of atoms x) bits) o bits) is) in
            record {
              after = record {
                state = image;
                is = made;
                same = sym (ap (λ o. option_map_or (with_images atoms exchanges left) o s) before) ∙ stands.same;
              };
              wide = ap length (sym made) ∙ length-map atoms (contains image) ∙ sym (length-map atoms (contains s)) ∙ ap length stands.is;
            }
