-- What vectors say of the words in their lanes, and chunks of the words of a whole.
use Rattle.std.proofs.Common.{◌≡◌, ◌∙◌, ℕ, zero, suc, ◌+◌, ◌-◌, ◌*◌, ◌<◌, ◌≤◌, List, [], ◌∷◌, length, get_or, map, ◌/◌, ◌%◌, refl, sym, ap, subst, inl, inr, arith, w64, ◌↔◌, eqb-true, eq-eqb}
use Rattle.std.specs.Prelude.{drop, bit_and, bit_or, IsTrue, ◌==◌}
use Rattle.std.specs.Int.Bits.{bit_xor, xor_self, xor_add_and}
use Rattle.std.specs.Simd.{first_chunks}
use Rattle.std.specs.Simd.Lanes.{chunk, fold_l, put_chunk, zip2}
use Rattle.std.proofs.lemmas.Nat.{le_or_l, le_or_r, and_le_l, and_le_r}
use Rattle.std.proofs.lemmas.Bool.{cases_lt}
use Rattle.std.proofs.lemmas.List.{get_or_past, get_or-take, get_or-drop, get_or-map, length-map, length-take, length-drop, ext_get_or}
use Rattle.std.proofs.lemmas.Simd.{get_or-chunk, get_or-put_chunk_above, get_or-put_chunk_at, get_or-put_chunk_below, get_or-zip2, length-chunk, length-put_chunk, length-zip2}
use Rattle.std.specs.Int.{bit_not}
use Rattle.packed_state.specs.Lanes.{Pairwise, includes, is_apart, is_same}

-- ---- all lanes by `or`

-- where the lanes together have no bit, none has one
pub none-or : (a : ℕ) (xs : List ℕ) → fold_l (λ x y. bit_or x y) a xs ≡ 0 → (a ≡ 0) × ((k : ℕ) → get_or xs k 0 ≡ 0)
none-or a [] none = (none, λ k. get_or_past [] k 0 (omega arith))
none-or a (x ∷ xs) none =
    let rest = none-or (bit_or a x) xs none in
    let left = le_or_l a x in
    let right = le_or_r a x in
    let first = rest.0 in
    (omega arith, each x xs (omega arith) rest.1)
  where
    each : (x : ℕ) (xs : List ℕ) → x ≡ 0 → ((k : ℕ) → get_or xs k 0 ≡ 0) → (k : ℕ) → get_or (x ∷ xs) k 0 ≡ 0
    each x xs is rest zero = is
    each x xs is rest (suc k) = rest k

-- and the other way
pub or-none : (a : ℕ) (xs : List ℕ) → a ≡ 0 → ((k : ℕ) → k < length xs → get_or xs k 0 ≡ 0) → fold_l (λ x y. bit_or x y) a xs ≡ 0
or-none a [] is none = is
or-none a (x ∷ xs) is none =
    let first : x ≡ 0 = none 0 (omega arith) in
    or-none (bit_or a x) xs (λ i. bit_or (is i) (first i)) (λ k within. none (suc k) (omega arith))

-- ---- chunks of eight

-- a word of a chunk is the one at its place in the whole
pub chunk_word : (count : ℕ) (xs d : List ℕ) (place lane : ℕ) → place < count → lane < 8
    → get_or (get_or (first_chunks 8 count xs) place d) lane 0 ≡ get_or xs (8 * place + lane) 0
chunk_word zero xs d place lane within in_it = absurd (omega arith)
chunk_word (suc count) xs d zero lane within in_it =
    let at : lane ≡ 8 * 0 + lane = omega arith in
    get_or-take 8 xs lane 0 in_it ∙ ap (λ k. get_or xs k 0) at
chunk_word (suc count) xs d (suc place) lane within in_it =
    let at : 8 + (8 * place + lane) ≡ 8 * suc place + lane = omega arith in
    chunk_word count (drop 8 xs) d place lane (omega arith) in_it
    ∙ get_or-drop 8 xs (8 * place + lane) 0
    ∙ ap (λ k. get_or xs k 0) at

pub chunk_length : (count : ℕ) (xs d : List ℕ) (place : ℕ) → place < count → 8 * count ≤ length xs → length (get_or (first_chunks 8 count xs) place d) ≡ 8
chunk_length zero xs d place within long = absurd (omega arith)
chunk_length (suc count) xs d zero within long = let is = length-take 8 xs in omega arith
chunk_length (suc count) xs d (suc place) within long =
    let left = length-drop 8 xs in
    chunk_length count (drop 8 xs) d place (omega arith) (omega arith)

module _ (R : ℕ → ℕ → Type 0) (xs ys : List ℕ) (long : length xs ≡ length ys) where
  abbrev pub of_left : ℕ → List ℕ
  of_left place = get_or (first_chunks 8 (length xs / 8) xs) place []

  abbrev pub of_right : ℕ → List ℕ
  of_right place = get_or (first_chunks 8 (length ys / 8) ys) place []

  -- what is so of each chunk and of what is left is so of all
  pub of_chunks : ((place : ℕ) → place < length xs / 8 → Pairwise R (of_left place) (of_right place))
      → Pairwise R (drop (length xs / 8 * 8) xs) (drop (length ys / 8 * 8) ys) → Pairwise R xs ys
  of_chunks chunks rest k within =
      elim (cases_lt (k / 8) (length xs / 8)) [
        | inl in_one ↦
            let whole : 8 * (k / 8) + k % 8 ≡ k = omega arith in
            let both = chunks (k / 8) in_one (k % 8) (omega (arith, chunk_length (length ys / 8) ys [] (k / 8) (omega arith) (omega arith))) in
            let left = chunk_word (length xs / 8) xs [] (k / 8) (k % 8) in_one (omega arith) ∙ ap (λ n. get_or xs n 0) whole in
            let right = chunk_word (length ys / 8) ys [] (k / 8) (k % 8) (omega arith) (omega arith) ∙ ap (λ n. get_or ys n 0) whole in
            subst (λ (p : ℕ × ℕ). R p.0 p.1) (λ i. (left i, right i)) both
        | inr following ↦
            let x : length xs / 8 * 8 + (k - length xs / 8 * 8) ≡ k = omega arith in
            let y : length ys / 8 * 8 + (k - length xs / 8 * 8) ≡ k = omega arith in
            let left = get_or-drop (length xs / 8 * 8) xs (k - length xs / 8 * 8) 0 ∙ ap (λ n. get_or xs n 0) x in
            let right = get_or-drop (length ys / 8 * 8) ys (k - length xs / 8 * 8) 0 ∙ ap (λ n. get_or ys n 0) y in
            let both = rest (k - length xs / 8 * 8) (omega (arith, length-drop (length ys / 8 * 8) ys)) in
            subst (λ (p : ℕ × ℕ). R p.0 p.1) (λ i. (left i, right i)) both
      ]

  -- and the other way
  pub to_chunk : Pairwise R xs ys → (place : ℕ) → place < length xs / 8 → Pairwise R (of_left place) (of_right place)
  to_chunk all place within lane in_it =
      let low : lane < 8 = omega (arith, chunk_length (length ys / 8) ys [] place (omega arith) (omega arith)) in
      let left = chunk_word (length xs / 8) xs [] place lane within low in
      let right = chunk_word (length ys / 8) ys [] place lane (omega arith) low in
      subst (λ (p : ℕ × ℕ). R p.0 p.1) (λ i. (sym left i, sym right i)) (all (8 * place + lane) (omega arith))

  pub to_rest : Pairwise R xs ys → Pairwise R (drop (length xs / 8 * 8) xs) (drop (length ys / 8 * 8) ys)
  to_rest all lane in_it =
      let same : length ys / 8 * 8 ≡ length xs / 8 * 8 = omega arith in
      let left = get_or-drop (length xs / 8 * 8) xs lane 0 in
      let right = get_or-drop (length ys / 8 * 8) ys lane 0 ∙ ap (λ n. get_or ys (n + lane) 0) same in
      subst (λ (p : ℕ × ℕ). R p.0 p.1) (λ i. (sym left i, sym right i)) (all (length xs / 8 * 8 + lane) (omega (arith, length-drop (length ys / 8 * 8) ys)))

-- the chunks and the rest of two lists of words
pub record AreCut (xs : List ℕ) (chunks : List (List ℕ)) (rest : List ℕ) : Type 0 where
  pub front : chunks ≡ first_chunks 8 (length xs / 8) xs
  pub back : rest ≡ drop (length xs / 8 * 8) xs

module _ (R : ℕ → ℕ → Type 0) (xs ys : List ℕ) (long : length xs ≡ length ys) (x_chunks y_chunks : List (List ℕ)) (x_rest y_rest : List ℕ)
    (x : AreCut xs x_chunks x_rest) (y : AreCut ys y_chunks y_rest) where
  same_chunks : (place : ℕ) → ◌≡◌ {A = List ℕ × List ℕ} (get_or x_chunks place [], get_or y_chunks place []) (of_left R xs ys long place, of_right R xs ys long place)
  same_chunks place i = (get_or (x.front i) place [], get_or (y.front i) place [])

  same_rests : ◌≡◌ {A = List ℕ × List ℕ} (x_rest, y_rest) (drop (length xs / 8 * 8) xs, drop (length ys / 8 * 8) ys)
  same_rests i = (x.back i, y.back i)

  abbrev Both : List ℕ × List ℕ → Type 0
  Both p = Pairwise R p.0 p.1

  pub of_cut : ((place : ℕ) → place < length xs / 8 → Pairwise R (get_or x_chunks place []) (get_or y_chunks place [])) → Pairwise R x_rest y_rest → Pairwise R xs ys
  of_cut chunks rest = of_chunks R xs ys long (λ place within. subst Both (same_chunks place) (chunks place within)) (subst Both same_rests rest)

  pub cut_chunk : Pairwise R xs ys → (place : ℕ) → place < length xs / 8 → Pairwise R (get_or x_chunks place []) (get_or y_chunks place [])
  cut_chunk all place within = subst Both (sym (same_chunks place)) (to_chunk R xs ys long all place within)

  pub cut_rest : Pairwise R xs ys → Pairwise R x_rest y_rest
  cut_rest all = subst Both (sym same_rests) (to_rest R xs ys long all)

  -- each two are as long as chunks are
  pub cut_lengths : (place : ℕ) → place < length xs / 8 → (length (get_or x_chunks place []) ≡ 8) × (length (get_or y_chunks place []) ≡ 8)
  cut_lengths place within = (
    ap (λ c. length (get_or c place [])) x.front ∙ chunk_length (length xs / 8) xs [] place within (omega arith),
    ap (λ c. length (get_or c place [])) y.front ∙ chunk_length (length ys / 8) ys [] place (omega arith) (omega arith),
  )

-- ---- two chunks, by all lanes at once

-- where each lane is 0 exactly where this is so of its words, the lanes together are 0 exactly where it is so of all
module _ (R : ℕ → ℕ → Type 0) (lanes xs ys : List ℕ) (as_many : length lanes ≡ length ys)
    (so : (k : ℕ) → k < length ys → (get_or lanes k 0 ≡ 0 → R (get_or xs k 0) (get_or ys k 0)) × (R (get_or xs k 0) (get_or ys k 0) → get_or lanes k 0 ≡ 0)) where
  pub lanes_report : IsTrue (fold_l (λ x y. bit_or x y) 0 lanes == 0) ↔ Pairwise R xs ys
  lanes_report = (
    λ is k within. (so k within).0 ((none-or 0 lanes (eqb-true (fold_l (λ x y. bit_or x y) 0 lanes) 0 is)).1 k),
    λ all. eq-eqb (fold_l (λ x y. bit_or x y) 0 lanes) 0 (or-none 0 lanes refl (λ k within. let in_it : k < length ys = omega arith in (so k in_it).1 (all k in_it))),
  )

pub within_lanes : (part words : List ℕ) → length part ≡ length words
    → IsTrue (fold_l (λ x y. bit_or x y) 0 (zip2 (λ x y. bit_and x y) part (map (bit_not w64) words)) == 0) ↔ Pairwise includes words part
within_lanes part words long =
    let as_many : length part ≡ length (map (bit_not w64) words) = long ∙ sym (length-map words (bit_not w64)) in
    lanes_report includes (zip2 (λ x y. bit_and x y) part (map (bit_not w64) words)) words part
    (length-zip2 (λ x y. bit_and x y) part (map (bit_not w64) words) as_many)
    (λ k within.
    let lane : get_or (zip2 (λ x y. bit_and x y) part (map (bit_not w64) words)) k 0 ≡ bit_and (get_or part k 0) (bit_not w64 (get_or words k 0)) =
    get_or-zip2 (λ x y. bit_and x y) part (map (bit_not w64) words) k 0 0 0 within (omega arith)
    ∙ ap (bit_and (get_or part k 0)) (get_or-map (bit_not w64) words k 0 0 (omega arith)) in
    (λ none. sym lane ∙ none, λ none. lane ∙ none))

pub apart_lanes : (words others : List ℕ) → length words ≡ length others
    → IsTrue (fold_l (λ x y. bit_or x y) 0 (zip2 (λ x y. bit_and x y) words others) == 0) ↔ Pairwise is_apart words others
apart_lanes words others long =
    lanes_report is_apart (zip2 (λ x y. bit_and x y) words others) words others
    (length-zip2 (λ x y. bit_and x y) words others long ∙ long)
    (λ k within.
    let lane = get_or-zip2 (λ x y. bit_and x y) words others k 0 0 0 (omega arith) within in
    (λ none. sym lane ∙ none, λ none. lane ∙ none))

-- words that differ in no bit are the same
no_difference : (a b : ℕ) → bit_xor a b ≡ 0 → a ≡ b
no_difference a b none =
    let sum = xor_add_and a b in
    let left = and_le_l a b in
    let right = and_le_r a b in
    omega arith

pub words_same : (words others : List ℕ) → length words ≡ length others → Pairwise is_same words others → words ≡ others
words_same words others long each = ext_get_or 0 words others long (λ k within. each k (omega arith))

pub same_lanes : (words others : List ℕ) → length words ≡ length others
    → IsTrue (fold_l (λ x y. bit_or x y) 0 (zip2 (λ x y. bit_xor x y) words others) == 0) ↔ Pairwise is_same words others
same_lanes words others long =
    lanes_report is_same (zip2 (λ x y. bit_xor x y) words others) words others
    (length-zip2 (λ x y. bit_xor x y) words others long ∙ long)
    (λ k within.
    let lane = get_or-zip2 (λ x y. bit_xor x y) words others k 0 0 0 (omega arith) within in
    (λ none. no_difference _ _ (sym lane ∙ none), λ is. lane ∙ ap (λ w. bit_xor w (get_or others k 0)) is ∙ xor_self (get_or others k 0)))

-- ---- changes

-- what a word becomes
abbrev pub changed_word : ℕ → ℕ → ℕ → ℕ
changed_word old deletes adds = bit_or (bit_and old (bit_not w64 deletes)) adds

-- the words before this place are changed, and the others are as they were
pub record IsChangedTo (end : ℕ) (old deletes adds new : List ℕ) : Type 0 where
  pub as_many : length new ≡ length old
  pub changed : (k : ℕ) → k < end → get_or new k 0 ≡ changed_word (get_or old k 0) (get_or deletes k 0) (get_or adds k 0)
  pub left : (k : ℕ) → end ≤ k → get_or new k 0 ≡ get_or old k 0

module _ (place : ℕ) (old deletes adds new d a : List ℕ) (so_far : IsChangedTo (8 * place) old deletes adds new) (long : 8 * place + 8 ≤ length old)
    (d_long : length d ≡ 8) (a_long : length a ≡ 8)
    (d_is : (lane : ℕ) → lane < 8 → get_or d lane 0 ≡ get_or deletes (8 * place + lane) 0) (a_is : (lane : ℕ) → lane < 8 → get_or a lane 0 ≡ get_or adds (8 * place + lane) 0) where
  abbrev here : List ℕ
  here = chunk (place * 8) 8 new

  abbrev kept : List ℕ
  kept = zip2 (λ x y. bit_and x y) here (map (bit_not w64) d)

  abbrev lanes : List ℕ
  lanes = zip2 (λ x y. bit_or x y) kept a

  here-length : length here ≡ 8
  here-length = length-chunk (place * 8) 8 new (omega (arith, so_far.as_many))

  kept-length : length kept ≡ 8
  kept-length = length-zip2 (λ x y. bit_and x y) here (map (bit_not w64) d) (here-length ∙ sym (length-map d (bit_not w64) ∙ d_long)) ∙ here-length

  lanes-length : length lanes ≡ 8
  lanes-length = length-zip2 (λ x y. bit_or x y) kept a (kept-length ∙ sym a_long) ∙ kept-length

  lane_is : (lane : ℕ) → lane < 8 → get_or lanes lane 0 ≡ changed_word (get_or old (8 * place + lane) 0) (get_or deletes (8 * place + lane) 0) (get_or adds (8 * place + lane) 0)
  lane_is lane within =
      let at : place * 8 + lane ≡ 8 * place + lane = omega arith in
      let was : get_or here lane 0 ≡ get_or old (8 * place + lane) 0 =
      get_or-chunk (place * 8) 8 new lane 0 within ∙ ap (λ k. get_or new k 0) at ∙ so_far.left (8 * place + lane) (omega arith) in
      let goes : get_or (map (bit_not w64) d) lane 0 ≡ bit_not w64 (get_or deletes (8 * place + lane) 0) =
      get_or-map (bit_not w64) d lane 0 0 (omega arith) ∙ ap (bit_not w64) (d_is lane within) in
      get_or-zip2 (λ x y. bit_or x y) kept a lane 0 0 0 (omega (arith, kept-length)) (omega arith)
      ∙ (λ i. bit_or ((get_or-zip2 (λ x y. bit_and x y) here (map (bit_not w64) d) lane 0 0 0 (omega (arith, here-length)) (omega (arith, length-map d (bit_not w64)))
      ∙ (λ j. bit_and (was j) (goes j))) i) (a_is lane within i))

  pub chunk_changed : IsChangedTo (8 * (place + 1)) old deletes adds (put_chunk (place * 8) new lanes)
  chunk_changed = record {
    as_many = length-put_chunk (place * 8) new lanes ∙ so_far.as_many;
    changed = λ k before. elim (cases_lt k (place * 8)) [
      | inl below ↦ get_or-put_chunk_below (place * 8) new lanes k 0 below ∙ so_far.changed k (omega arith)
      | inr above ↦
          let lane : ℕ = k - place * 8 in
          let low : lane < 8 = omega arith in
          let at : place * 8 + lane ≡ k = omega arith in
          let is : 8 * place + lane ≡ k = omega arith in
          ap (λ n. get_or (put_chunk (place * 8) new lanes) n 0) (sym at)
          ∙ get_or-put_chunk_at (place * 8) new lanes lane 0 (omega (arith, lanes-length)) (omega (arith, lanes-length, so_far.as_many))
          ∙ lane_is lane low
          ∙ ap (λ n. changed_word (get_or old n 0) (get_or deletes n 0) (get_or adds n 0)) is
    ];
    left = λ k past. get_or-put_chunk_above (place * 8) new lanes k 0 (omega (arith, lanes-length)) ∙ so_far.left k (omega arith);
  }

-- the words of a chunk of a list that is cut
pub cut_word : (xs : List ℕ) (chunks : List (List ℕ)) → chunks ≡ first_chunks 8 (length xs / 8) xs → (place : ℕ) → place < length xs / 8
    → (length (get_or chunks place []) ≡ 8) × ((lane : ℕ) → lane < 8 → get_or (get_or chunks place []) lane 0 ≡ get_or xs (8 * place + lane) 0)
cut_word xs chunks is place within = (
  ap (λ c. length (get_or c place [])) is ∙ chunk_length (length xs / 8) xs [] place within (omega arith),
  λ lane low. ap (λ c. get_or (get_or c place []) lane 0) is ∙ chunk_word (length xs / 8) xs [] place lane within low,
)
