-- What is known of the code's representatives.
use Rattle.std.proofs.Common.{◌≡◌, ◌∙◌, ℕ, zero, suc, ◌+◌, ◌*◌, ◌^◌, ◌<◌, ◌≤◌, ◌⊎◌, inl, inr, Bool, true, false, List, [], ◌∷◌, map, length, take, get_or, Option, None, Some, refl, sym, ap, subst, arith}
use Rattle.std.specs.Prelude.{slice_get, slice_index, nat_lt}
use Rattle.std.specs.Global.{Vec}
use Rattle.std.specs.List.{list_all}
use Rattle.std.specs.Option.{option_map, option_map_or}
use Rattle.std.proofs.lemmas.Bool.{true≢false, cases_lt, and_from, and_parts, ltb-true, lt-ltb}
use Rattle.std.proofs.lemmas.Nat.{mul-le}
use Rattle.std.proofs.lemmas.List.{length-map, take_all}
use Rattle.std.proofs.lemmas.Option.{slice_get_within, slice_get-map, slice_get-get_or}
use Rattle.grounding.specs.declared.ground.Ground.{Ground}
use Rattle.grounding.specs.Ground.{atoms_in}
use Rattle.model.specs.Task.{Atom}
use Rattle.model.specs.Meaning.{State}
use Rattle.model.specs.Fluents.{is_fluent}
use Rattle.model.specs.Grounding.{state_of_bits}
use Rattle.model.proofs.Tests.{passes_weaker}
use Rattle.model.proofs.PackedStates.{bits_of-packed_state}
use Rattle.symmetries_definitions.specs.Exchanges.{Exchange, image_of_object, objects_in, are_different}
use Rattle.symmetries_definitions.specs.Orbits.{with_images, keeps_atoms, packed_representative}
use Rattle.symmetries_definitions.proofs.ExchangeLemmas.{own_inverse}
use Rattle.symmetries.specs.declared.exchange.Exchange as code
use Rattle.symmetries.specs.Exchange.{exchange_of}
use Rattle.packed_state.specs.Sets.{has}
use Rattle.symmetries.specs.declared.lowest.Lowest.{Lowest}
use Rattle.symmetries.specs.declared.pairs.Pair.{Pair}
use Rattle.symmetries.specs.declared.run.Run.{Run}
use Rattle.symmetries.specs.declared.representatives.Representatives.{Representatives}
use Rattle.symmetries.specs.SwappedPlaces.{swap_of, swaps_of_all, are_within, is_within, is_earlier, is_earlier_at, swapped_at, FindsFrom}
use Rattle.symmetries.specs.Apart.{is_among, pairs_at, AreAllWithin, AreAllBelow}
use Rattle.symmetries.specs.Lowest.{AreNeighbours}
use Rattle.symmetries.specs.NumberPairs.{swaps_in}
use Rattle.symmetries.specs.Runs.{pairs_in_all, swap_in_runs, AreBelow}
use Rattle.symmetries.specs.Representatives.{task_of, atoms_of, exchanges_of, swaps_of}
use Rattle.symmetries.proofs.SwappedBits.{length-with_swapped}
use Rattle.symmetries.proofs.ImageBits.{numbers_within}
use Rattle.symmetries.proofs.ApartLemmas.{swapped_pairs, passed_on}
use Rattle.symmetries.proofs.Turns.{AreKept, all_within, Stands, is_last, ends, turns}

all_different : (exchanges : List code.Exchange) → list_all (λ (e : Exchange). are_different (objects_in e)) (map exchange_of exchanges) ≡ true
all_different [] = refl
all_different (e ∷ exchanges) =
    and_from (are_different (objects_in (exchange_of e))) (list_all (λ (x : Exchange). are_different (objects_in x)) (map exchange_of exchanges)) e.different (all_different exchanges)

pub kept_of : (r : Representatives) → AreKept (atoms_of r) (exchanges_of r)
kept_of r = record { distinct = r.ground.now.numbering.distinct; different = all_different r.exchanges.now; kept = r.kept }

-- all numbers of atoms are below the width
pub all_below : (r : Representatives) → AreAllWithin (length (atoms_of r)) (swaps_of r)
all_below r = subst (AreAllWithin (length (atoms_of r))) (sym r.made) (all_within (atoms_of r) (exchanges_of r) (kept_of r))

-- what is known of the runs at a place
pub at_index : (r : Representatives) (n : ℕ) (runs : Vec Run) (items : List Run) → n < length (swaps_of r) → runs ≡ get_or r.swaps.items n runs → items ≡ runs.items
    → (slice_get (swaps_of r) n ≡ Some (pairs_in_all items)) × AreBelow (length (atoms_of r)) items
at_index r n runs items inside at same =
    let within : n < length r.swaps.items = omega (arith, inside, length-map r.swaps.items swap_in_runs) in
    let here : slice_get (swaps_of r) n ≡ Some (pairs_in_all items) =
    slice_get-map swap_in_runs r.swaps.items n ∙ ap (option_map swap_in_runs) (slice_get-get_or r.swaps.items n runs within ∙ ap Some (sym at)) ∙ ap (λ l. Some (pairs_in_all l)) (sym same) in
    (here, ap (λ o. are_within (length (atoms_of r)) (option_map_or (λ l. l) o [])) (sym here) ∙ all_below r n)

-- ---- how they are made

-- once the pairs of each exchange are there
pub made_whole : (atoms : List Atom) (exchanges : List code.Exchange) (i : ℕ) (swaps : List (Vec Pair)) → length exchanges ≤ i
    → swaps_in swaps ≡ map (λ (x : code.Exchange). swap_of atoms (exchange_of x)) (take i exchanges) → swaps_in swaps ≡ swaps_of_all atoms (map exchange_of exchanges)
made_whole atoms exchanges i swaps past made =
    made ∙ ap (map (λ (x : code.Exchange). swap_of atoms (exchange_of x))) (take_all i exchanges past) ∙ maps exchanges
  where
    maps : (es : List code.Exchange) → map (λ (x : code.Exchange). swap_of atoms (exchange_of x)) es ≡ swaps_of_all atoms (map exchange_of es)
    maps [] = refl
    maps (e ∷ es) = ap (λ l. swap_of atoms (exchange_of e) ∷ l) (maps es)

pub made_within : (g : Ground) (exchanges : List code.Exchange) (swaps : List (Vec Pair)) → swaps_in swaps ≡ swaps_of_all (atoms_in g) (map exchange_of exchanges)
    → list_all (keeps_atoms (atoms_in g)) (map exchange_of exchanges) ≡ true → AreAllWithin (length (atoms_in g)) (swaps_in swaps)
made_within g exchanges swaps made kept =
    subst (AreAllWithin (length (atoms_in g))) (sym made)
    (all_within (atoms_in g) (map exchange_of exchanges) (record { distinct = g.numbering.distinct; different = all_different exchanges; kept = kept }))

are_within-more : (width more : ℕ) → width ≤ more → (pairs : List (ℕ × ℕ)) → are_within width pairs ≡ true → are_within more pairs ≡ true
are_within-more width more room pairs all =
    passes_weaker (is_within width) (is_within more) (λ pair inside.
    let parts = and_parts (nat_lt pair.0 width) (nat_lt pair.1 width) inside in
    let lower = ltb-true pair.0 width parts.0 in
    let upper = ltb-true pair.1 width parts.1 in
    and_from (nat_lt pair.0 more) (nat_lt pair.1 more) (lt-ltb pair.0 more (omega (arith, lower, room))) (lt-ltb pair.1 more (omega (arith, upper, room)))) pairs all

-- the numbers of atoms are few
pub numbers_fit : (g : Ground) (e : code.Exchange) (numbers : List (ℕ × ℕ)) → keeps_atoms (atoms_in g) (exchange_of e) ≡ true → numbers ≡ swap_of (atoms_in g) (exchange_of e)
    → are_within (2 ^ 32) numbers ≡ true
numbers_fit g e numbers keeps is =
    let few = g.numbering.few_atoms in
    let long : length (atoms_in g) ≡ length g.numbering.atoms.keys = length-map g.numbering.atoms.keys _ in
    ap (are_within (2 ^ 32)) is
    ∙ are_within-more (length (atoms_in g)) (2 ^ 32) (omega (arith, few, long)) (swap_of (atoms_in g) (exchange_of e))
    (numbers_within (atoms_in g) g.numbering.distinct (image_of_object (exchange_of e)) (own_inverse (exchange_of e) e.different) keeps)

-- ---- the loop

module _ (r : Representatives) where
  abbrev start_of : List Bool → State
  start_of bits = state_of_bits (task_of r) (atoms_of r) bits

  -- the bits are those of a state from which at most `left` more images lead to the representative of the state at the start
  abbrev pub HaveCome : List Bool → ℕ → List Bool → Type 0
  HaveCome start left bits = Stands (atoms_of r) (exchanges_of r) (start_of start) left bits

  -- where an image is taken for each two of as many numbers as this
  pub starts : (count : ℕ) → count ≡ length r.swaps.items + 1 → (bits : List Bool) → length bits ≡ length (atoms_of r) → HaveCome bits (count * count) bits
  starts count is bits long =
      let made = ap length r.made in
      let each = length-map (exchanges_of r) (swap_of (atoms_of r)) in
      let given = length-map r.swaps.items swap_in_runs in
      let same : count ≡ length (exchanges_of r) + 1 = omega (arith, is, made, each, given) in
      record {
        state = start_of bits;
        is = bits_of-packed_state (is_fluent (task_of r)) (task_of r).init (atoms_of r) r.ground.now.numbering.fluent r.ground.now.numbering.distinct bits long;
        same = ap (λ n. with_images (atoms_of r) (exchanges_of r) (n * n) (start_of bits)) same;
      }

  -- no image is left
  pub has_come : (start bits : List Bool) → HaveCome start 0 bits → bits ≡ packed_representative (task_of r) (atoms_of r) (exchanges_of r) start
  has_come start bits come = is_last (atoms_of r) (exchanges_of r) (kept_of r) (start_of start) bits come

  -- no image comes before
  pub has_ended : (start : List Bool) (left : ℕ) (bits : List Bool) → HaveCome start (suc left) bits → (found : Option ℕ) → FindsFrom (swaps_of r) bits 0 found
      → ((number : ℕ) → found ≡ Some number → ⊥) → bits ≡ packed_representative (task_of r) (atoms_of r) (exchanges_of r) start
  has_ended start left bits come (Some number) finds none = absurd (none number refl)
  has_ended start left bits come None finds none =
      ends (atoms_of r) (exchanges_of r) (kept_of r) (start_of start) left bits come (λ n. ap (λ swaps. is_earlier_at swaps bits n) (sym r.made) ∙ finds n (omega arith))

  -- the first image that comes before has been taken
  pub record HasTurned (start : List Bool) (left : ℕ) (bits new : List Bool) : Type 0 where
    pub come : HaveCome start left new
    pub wide : length new ≡ length bits

  pub has_turned : (start : List Bool) (left : ℕ) (bits : List Bool) → HaveCome start (suc left) bits → (number : ℕ) → FindsFrom (swaps_of r) bits 0 (Some number)
      → (new : List Bool) → new ≡ swapped_at (swaps_of r) bits number → HasTurned start left bits new
  has_turned start left bits come number finds new is =
      let turn = turns (atoms_of r) (exchanges_of r) (kept_of r) (start_of start) left bits come number (ap (λ swaps. is_earlier_at swaps bits number) (sym r.made) ∙ finds.0)
      (λ k less. ap (λ swaps. is_earlier_at swaps bits k) (sym r.made) ∙ finds.1 k (omega arith) less) in
      let same : swapped_at (swaps_of_all (atoms_of r) (exchanges_of r)) bits number ≡ new = ap (λ swaps. swapped_at swaps bits number) (sym r.made) ∙ sym is in
      subst (HasTurned start left bits) same (record { come = turn.after; wide = turn.wide })

-- an exchange whose image comes before is there
pub number_inside : (r : Representatives) (bits : List Bool) (n : ℕ) → is_earlier_at (swaps_of r) bits n ≡ true → n < length (swaps_of r)
number_inside r bits n passes = within (slice_get (swaps_of r) n) refl
  where
    within : (found : Option (List (ℕ × ℕ))) → slice_get (swaps_of r) n ≡ found → n < length (swaps_of r)
    within None none = absurd (true≢false (sym passes ∙ ap (λ o. option_map_or (λ pairs. is_earlier pairs (has bits)) o false) none))
    within (Some pairs) some = slice_get_within (swaps_of r) n pairs some

-- and its neighbours are
pub neighbours_inside : (r : Representatives) (bits : List Bool) (n : ℕ) → is_earlier_at (swaps_of r) bits n ≡ true → n < length r.neighbours.items
neighbours_inside r bits n passes =
    let inside = number_inside r bits n passes in
    let each = r.each in
    let long = length-map r.swaps.items swap_in_runs in
    omega (arith, inside, each, long)

-- an image has as many bits
pub stays_wide : (r : Representatives) (bits new : List Bool) (number : ℕ) → new ≡ swapped_at (swaps_of r) bits number → length new ≡ length bits
stays_wide r bits new number is = ap length (is ∙ swapped_pairs (swaps_of r) bits number) ∙ length-with_swapped (pairs_at (swaps_of r) number) bits

-- Where an image by the first exchange has been taken whose image comes before: of those whose images come before the new one the first
-- is looked for among these neighbours.
module _ (r : Representatives) (bits : List Bool) (number : ℕ) (finds : FindsFrom (swaps_of r) bits 0 (Some number)) (lowest : Lowest) (at : lowest ≡ get_or r.neighbours.items number lowest) where
  are_reported : AreNeighbours (swaps_of r) number lowest
  are_reported = r.apart number lowest (slice_get-get_or r.neighbours.items number lowest (neighbours_inside r bits number finds.0) ∙ ap Some (sym at))

  -- one at a place is there
  pub neighbour_inside : (place : ℕ) → slice_index lowest.numbers.items place < length (swaps_of r)
  neighbour_inside place =
      let inside = number_inside r bits number finds.0 in
      let low = (are_reported.0 place).0 in
      omega (arith, inside, low)

  module _ (new : List Bool) (is : new ≡ swapped_at (swaps_of r) bits number) where
    -- below a bound only those that are listed are looked at
    none_below : (listed : List ℕ) (bound : ℕ) → AreAllBelow (swaps_of r) number listed bound → ((n : ℕ) → is_among listed n ≡ true → is_earlier_at (swaps_of r) new n ≡ false)
        → (n : ℕ) → n < bound → is_earlier_at (swaps_of r) new n ≡ false
    none_below listed bound all none n below = by_test (is_among listed n) refl
      where
        by_test : (b : Bool) → is_among listed n ≡ b → is_earlier_at (swaps_of r) new n ≡ false
        by_test true here = none n here
        by_test false out =
            ap (λ b. is_earlier_at (swaps_of r) b n) is
            ∙ passed_on (swaps_of r) bits number bound listed all (λ k less. finds.1 k (omega arith) less) n below out

    -- the one at a place is the first, if none before it is
    pub neighbour_first : (place : ℕ) (found : ℕ) → found ≡ slice_index lowest.numbers.items place
        → ((n : ℕ) → is_among (take place lowest.numbers.items) n ≡ true → is_earlier_at (swaps_of r) new n ≡ false)
        → is_earlier_at (swaps_of r) new found ≡ true → FindsFrom (swaps_of r) new 0 (Some found)
    neighbour_first place found same none passes = (
      passes,
      λ n from below. none_below (take place lowest.numbers.items) (slice_index lowest.numbers.items place) (are_reported.0 place) none n (omega (arith, below, same)),
    )

    -- and if none of them is, it is found further on
    pub first_beyond : ((n : ℕ) → is_among lowest.numbers.items n ≡ true → is_earlier_at (swaps_of r) new n ≡ false) → (found : Option ℕ)
        → FindsFrom (swaps_of r) new lowest.from found → FindsFrom (swaps_of r) new 0 found
    first_beyond none None further = λ n from. by_place n (cases_lt n lowest.from)
      where
        by_place : (n : ℕ) → (n < lowest.from) ⊎ (lowest.from ≤ n) → is_earlier_at (swaps_of r) new n ≡ false
        by_place n (inl below) = none_below lowest.numbers.items lowest.from are_reported.1 none n below
        by_place n (inr past) = further n past
    first_beyond none (Some found) further = (further.0, λ n from less. by_place n less (cases_lt n lowest.from))
      where
        by_place : (n : ℕ) → n < found → (n < lowest.from) ⊎ (lowest.from ≤ n) → is_earlier_at (swaps_of r) new n ≡ false
        by_place n less (inl below) = none_below lowest.numbers.items lowest.from are_reported.1 none n below
        by_place n less (inr past) = further.1 n past less

-- ---- how many images are left

-- before an image is taken in the round after `rounds` others, at least one is left
pub one_left : (count rounds images left : ℕ) → rounds < count → images < count → left + (rounds * count + images) ≡ count * count → (rest : ℕ) × (left ≡ suc rest)
one_left count rounds images zero more_rounds more_images counted =
    let within : (rounds + 1) * count ≤ count * count = mul-le (rounds + 1) count count count (omega (arith, more_rounds)) (omega arith) in
    let next : (rounds + 1) * count ≡ rounds * count + count = omega arith in
    absurd (omega (arith, counted, more_images, within, next))
one_left count rounds images (suc rest) more_rounds more_images counted = (rest, refl)

-- that one has been taken
pub one_taken : (count rounds images left rest : ℕ) → left + (rounds * count + images) ≡ count * count → left ≡ suc rest → rest + (rounds * count + (images + 1)) ≡ count * count
one_taken count rounds images left rest counted is = omega (arith, counted, is)

-- a round has ended, as one image was taken for each number
pub round_ended : (count rounds images left : ℕ) → left + (rounds * count + images) ≡ count * count → images ≤ count → count ≤ images → left + ((rounds + 1) * count + 0) ≡ count * count
round_ended count rounds images left counted most end = omega (arith, counted, most, end)

-- all have
pub none_left : (count rounds left : ℕ) → left + (rounds * count + 0) ≡ count * count → rounds ≤ count → count ≤ rounds → left ≡ 0
none_left count rounds left counted most end =
    let same : rounds ≡ count = omega (arith, most, end) in
    let all : rounds * count ≡ count * count = ap (λ n. n * count) same in
    omega (arith, counted, all)

-- After `rounds` rounds and `images` images of the next one: the images that are left lead from this state to the representative of the
-- state at the start, and `next` is the first exchange whose image comes before it.
pub record IsOnTheWay (r : Representatives) (start : List Bool) (count rounds images : ℕ) (bits : List Bool) (next : Option ℕ) : Type 0 where
  pub counted : count ≡ length r.swaps.items + 1
  pub wide : length bits ≡ length (atoms_of r)
  pub left : ℕ
  pub taken : left + (rounds * count + images) ≡ count * count
  pub come : HaveCome r start left bits
  pub finds : FindsFrom (swaps_of r) bits 0 next

pub begins : (r : Representatives) (bits : List Bool) (count : ℕ) → count ≡ length r.swaps.items + 1 → length bits ≡ length (atoms_of r) → (next : Option ℕ)
    → FindsFrom (swaps_of r) bits 0 next → IsOnTheWay r bits count 0 0 bits next
begins r bits count counted wide next finds = record {
  counted = counted;
  wide = wide;
  left = count * count;
  taken = omega arith;
  come = starts r count counted bits wide;
  finds = finds;
}

module _ (r : Representatives) (start : List Bool) (count rounds : ℕ) where
  pub image_taken : (images : ℕ) (bits : List Bool) (next : Option ℕ) → rounds < count → images < count → IsOnTheWay r start count rounds images bits next → (number : ℕ)
      → next ≡ Some number → (new : List Bool) → new ≡ swapped_at (swaps_of r) bits number → (after : Option ℕ) → FindsFrom (swaps_of r) new 0 after
      → IsOnTheWay r start count rounds (images + 1) new after
  image_taken images bits next more_rounds more_images way number found new is after finds =
      let one = one_left count rounds images way.left more_rounds more_images way.taken in
      let turn = has_turned r start one.0 bits (subst (λ n. HaveCome r start n bits) one.1 way.come) number (subst (FindsFrom (swaps_of r) bits 0) found way.finds) new is in
      record {
        counted = way.counted;
        wide = turn.wide ∙ way.wide;
        left = one.0;
        taken = one_taken count rounds images way.left one.0 way.taken one.1;
        come = turn.come;
        finds = finds;
      }

  pub next_round : (images : ℕ) (bits : List Bool) (next : Option ℕ) → images ≤ count → count ≤ images → IsOnTheWay r start count rounds images bits next
      → IsOnTheWay r start count (rounds + 1) 0 bits next
  next_round images bits next most end way = record {
    counted = way.counted;
    wide = way.wide;
    left = way.left;
    taken = round_ended count rounds images way.left way.taken most end;
    come = way.come;
    finds = way.finds;
  }

  pub has_ended_there : (images : ℕ) (bits : List Bool) (next : Option ℕ) → rounds < count → images < count → IsOnTheWay r start count rounds images bits next
      → ((number : ℕ) → next ≡ Some number → ⊥) → bits ≡ packed_representative (task_of r) (atoms_of r) (exchanges_of r) start
  has_ended_there images bits next more_rounds more_images way none =
      let one = one_left count rounds images way.left more_rounds more_images way.taken in
      has_ended r start one.0 bits (subst (λ n. HaveCome r start n bits) one.1 way.come) next way.finds none

  pub has_come_there : (bits : List Bool) (next : Option ℕ) → rounds ≤ count → count ≤ rounds → IsOnTheWay r start count rounds 0 bits next
      → bits ≡ packed_representative (task_of r) (atoms_of r) (exchanges_of r) start
  has_come_there bits next most end way =
      has_come r start bits (subst (λ n. HaveCome r start n bits) (none_left count rounds way.left way.taken most end) way.come)
