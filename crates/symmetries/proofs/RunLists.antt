-- Runs made of pairs, and lists of runs.
use Rattle.std.proofs.Common.{◌≡◌, ◌∙◌, ℕ, zero, suc, ◌+◌, ◌-◌, ◌*◌, ◌%◌, ◌^◌, ◌<◌, ◌≤◌, ◌⊎◌, inl, inr, Bool, true, false, List, [], ◌∷◌, ◌++◌, length, map, get_or, set, drop, refl, sym, ap, arith, w64}
use Rattle.std.specs.Prelude.{◌==◌, bit_or}
use Rattle.std.specs.Int.{bit_at}
use Rattle.std.specs.List.{filter, range_with_len}
use Rattle.std.proofs.lemmas.Bool.{cases_eq, and_parts, cond-true, cond-false}
use Rattle.std.proofs.lemmas.List.{append-nil, append_assoc}
use Rattle.std.proofs.lemmas.List.Folds.{list_all-append}
use Rattle.std.proofs.lemmas.Nat.{or_lt, one_shl, pow_below}
use Rattle.std.proofs.lemmas.Nat.Bits.{bit_at_above, bit_at_set_same, bit_at_set_other}
use Rattle.symmetries.specs.SwappedPlaces.{are_within, is_within, with_swapped}
use Rattle.symmetries.specs.declared.run.Run.{Run}
use Rattle.symmetries.specs.Runs.{pair_at, has_at, pairs_from, pairs_in, pairs_in_all}
use Rattle.symmetries.proofs.RunPairs.{taken}

-- ---- what tests keep of a range

keeps_none : (p : ℕ → Bool) (n k : ℕ) → ((i : ℕ) → k ≤ i → p i ≡ false) → filter p (range_with_len k n) ≡ []
keeps_none p zero k fails = refl
keeps_none p (suc n) k fails =
    cond-false (p k) (k ∷ filter p (range_with_len (k + 1) n)) (filter p (range_with_len (k + 1) n)) (fails k (omega arith))
    ∙ keeps_none p n (k + 1) (λ i further. fails i (omega (arith, further)))

-- one keeps a place more than the other, which keeps none from there on
keeps_more : (p q : ℕ → Bool) (place : ℕ) → p place ≡ true → ((i : ℕ) → place ≤ i → q i ≡ false) → ((i : ℕ) → (i ≡ place → ⊥) → p i ≡ q i)
    → (n k : ℕ) → k ≤ place → place < k + n → filter p (range_with_len k n) ≡ filter q (range_with_len k n) ++ place ∷ []
keeps_more p q place is fails same zero k above below = absurd (omega (arith, above, below))
keeps_more p q place is fails same (suc n) k above below =
    by_place (cases_eq k place) (λ further. keeps_more p q place is fails same n (k + 1) further (omega (arith, below)))
  where
    ps : List ℕ
    ps = filter p (range_with_len (k + 1) n)

    qs : List ℕ
    qs = filter q (range_with_len (k + 1) n)

    by_test : (b : Bool) → q k ≡ b → p k ≡ b → ps ≡ qs ++ place ∷ [] → filter p (range_with_len k (suc n)) ≡ filter q (range_with_len k (suc n)) ++ place ∷ []
    by_test true here there later =
        cond-true (p k) (k ∷ ps) ps there ∙ ap (λ l. k ∷ l) later ∙ sym (ap (λ l. l ++ place ∷ []) (cond-true (q k) (k ∷ qs) qs here))
    by_test false here there later =
        cond-false (p k) (k ∷ ps) ps there ∙ later ∙ sym (ap (λ l. l ++ place ∷ []) (cond-false (q k) (k ∷ qs) qs here))

    by_place : (k ≡ place) ⊎ (k ≡ place → ⊥) → (k + 1 ≤ place → ps ≡ qs ++ place ∷ []) → filter p (range_with_len k (suc n)) ≡ filter q (range_with_len k (suc n)) ++ place ∷ []
    by_place (inl at) later =
        cond-true (p k) (k ∷ ps) ps (ap p at ∙ is)
        ∙ ap (λ l. k ∷ l) (keeps_none p n (k + 1) (λ i further. same i (λ other. absurd (omega (arith, further, other, at))) ∙ fails i (omega (arith, further, at))))
        ∙ ap (λ m. m ∷ []) at
        ∙ sym (ap (λ l. l ++ place ∷ []) (keeps_none q (suc n) k (λ i further. fails i (omega (arith, further, at)))))
    by_place (inr other) later = by_test (q k) refl (same k other) (later (omega (arith, above, other)))

maps_more : (f : ℕ → ℕ × ℕ) (xs : List ℕ) (x : ℕ) → map f (xs ++ x ∷ []) ≡ map f xs ++ f x ∷ []
maps_more f [] x = refl
maps_more f (y ∷ xs) x = ap (λ l. f y ∷ l) (maps_more f xs x)

-- ---- runs made of pairs

-- the run of one pair
one_place : (run : Run) (n : ℕ) → run.mask ≡ 1 → pairs_from run 1 n ≡ []
unfolding pairs_from
one_place run n is =
    ap (map (pair_at run)) (keeps_none (has_at run) n 1 (λ i further. ap (λ b. b == 1) (ap (λ m. bit_at m i) is ∙ bit_at_above 1 1 i (omega arith) further)))

single : (run : Run) (n : ℕ) → run.mask ≡ 1 → pairs_from run 0 (suc n) ≡ (run.lower, run.upper) ∷ []
single run n is =
    let low : run.lower + 0 ≡ run.lower = omega arith in
    let up : run.upper + 0 ≡ run.upper = omega arith in
    taken run 0 n (ap (λ b. b == 1) run.first) ∙ (λ i. (low i, up i) ∷ one_place run n is i)

pub single_made : (low up : ℕ) (first : ◌≡◌ {A = ℕ} (bit_at 1 0) 1) (low_inside : 1 < 2 ^ (64 - low % 64)) (up_inside : 1 < 2 ^ (64 - up % 64))
    → pairs_in (record { lower = low; upper = up; mask = 1; first = first; lower_inside = low_inside; upper_inside = up_inside }) ≡ (low, up) ∷ []
single_made low up first low_inside up_inside =
    let run : Run = record { lower = low; upper = up; mask = 1; first = first; lower_inside = low_inside; upper_inside = up_inside } in
    single run 63 refl

pub one_inside : (number : ℕ) → 1 < 2 ^ (64 - number % 64)
one_inside number = pow_below 0 (64 - number % 64) (omega arith)

-- with one pair more at its end
abbrev pub with_bit : ℕ → ℕ → ℕ
with_bit mask place = bit_or mask (1 * 2 ^ place % 2 ^ 64)

longer : (run other : Run) (place n : ℕ) → other.lower ≡ run.lower → other.upper ≡ run.upper → other.mask ≡ with_bit run.mask place
    → place < 64 → place < n → run.mask < 2 ^ place → pairs_from other 0 n ≡ pairs_from run 0 n ++ (run.lower + place, run.upper + place) ∷ []
unfolding pairs_from
longer run other place n lower upper is within inside small =
    ap (map (pair_at other))
    (keeps_more (has_at other) (has_at run) place
    (ap (λ m. bit_at m place == 1) is ∙ ap (λ b. b == 1) (bit_at_set_same w64 run.mask place within))
    (λ i further. ap (λ b. b == 1) (bit_at_above run.mask place i small further))
    (λ i apart. ap (λ m. bit_at m i == 1) is ∙ ap (λ b. b == 1) (bit_at_set_other w64 run.mask place within i apart))
    n 0 (omega arith) (omega (arith, inside)))
    ∙ maps_more (pair_at other) (filter (has_at run) (range_with_len 0 n)) place
    ∙ (λ i. map (λ k. (lower i + k, upper i + k)) (filter (has_at run) (range_with_len 0 n)) ++ (lower i + place, upper i + place) ∷ [])

module _ (run : Run) (place : ℕ) (within : place < 64) where
  pub first_stays : bit_at (with_bit run.mask place) 0 ≡ 1
  first_stays = elim (cases_eq 0 place) [
    | inl same ↦ ap (bit_at (with_bit run.mask place)) same ∙ bit_at_set_same w64 run.mask place within
    | inr other ↦ bit_at_set_other w64 run.mask place within 0 other ∙ run.first
  ]

  pub stays_inside : (room : ℕ) → run.mask < 2 ^ room → place < room → with_bit run.mask place < 2 ^ room
  stays_inside room small below =
      or_lt room run.mask (1 * 2 ^ place % 2 ^ 64) small (let fits = pow_below place room below in let is = one_shl place 64 within in omega (arith, fits, is))

  pub longer_made : (pair : ℕ × ℕ) (first : bit_at (with_bit run.mask place) 0 ≡ 1)
      (low_inside : with_bit run.mask place < 2 ^ (64 - run.lower % 64)) (up_inside : with_bit run.mask place < 2 ^ (64 - run.upper % 64))
      → run.mask < 2 ^ place → run.lower + place ≡ pair.0 → run.upper + place ≡ pair.1
      → pairs_in (record { lower = run.lower; upper = run.upper; mask = with_bit run.mask place; first = first; lower_inside = low_inside; upper_inside = up_inside }) ≡ pairs_in run ++ pair ∷ []
  longer_made pair first low_inside up_inside small low up =
      let other : Run = record { lower = run.lower; upper = run.upper; mask = with_bit run.mask place; first = first; lower_inside = low_inside; upper_inside = up_inside } in
      longer run other place 64 refl refl refl within within small ∙ (λ i. pairs_in run ++ (low i, up i) ∷ [])

-- ---- lists of runs

-- the last run is longer
pub last_longer : (runs : List Run) (k : ℕ) (last other d : Run) (more : List (ℕ × ℕ)) → length runs ≡ k + 1 → last ≡ get_or runs k d → pairs_in other ≡ pairs_in last ++ more
    → pairs_in_all (set runs k other) ≡ pairs_in_all runs ++ more
last_longer [] k last other d more long at is = absurd (omega (arith, long))
last_longer (run ∷ []) zero last other d more long at is =
    append-nil (pairs_in other) ∙ is ∙ ap (λ (r : Run). pairs_in r ++ more) at ∙ ap (λ l. l ++ more) (sym (append-nil (pairs_in run)))
last_longer (run ∷ next ∷ runs) zero last other d more long at is = absurd (omega (arith, long))
last_longer (run ∷ runs) (suc k) last other d more long at is =
    ap (λ l. pairs_in run ++ l) (last_longer runs k last other d more (omega (arith, long)) at is)
    ∙ sym (append_assoc (pairs_in run) (pairs_in_all runs) more)

-- a run at a place
pub run_within : (width : ℕ) (runs : List Run) (i : ℕ) (run d : Run) → i < length runs → run ≡ get_or runs i d → are_within width (pairs_in_all runs) ≡ true
    → are_within width (pairs_in run) ≡ true
run_within width [] i run d inside at all = absurd (omega (arith, inside))
run_within width (r ∷ runs) zero run d inside at all =
    ap (λ (x : Run). are_within width (pairs_in x)) at
    ∙ (and_parts (are_within width (pairs_in r)) (are_within width (pairs_in_all runs)) (sym (list_all-append (is_within width) (pairs_in r) (pairs_in_all runs)) ∙ all)).0
run_within width (r ∷ runs) (suc i) run d inside at all =
    run_within width runs i run d (omega (arith, inside)) at
    (and_parts (are_within width (pairs_in r)) (are_within width (pairs_in_all runs)) (sym (list_all-append (is_within width) (pairs_in r) (pairs_in_all runs)) ∙ all)).1

pub from_run : (runs : List Run) (i : ℕ) (run d : Run) → i < length runs → run ≡ get_or runs i d → pairs_in_all (drop i runs) ≡ pairs_in run ++ pairs_in_all (drop (i + 1) runs)
from_run [] i run d inside at = absurd (omega (arith, inside))
from_run (r ∷ runs) zero run d inside at = ap (λ (x : Run). pairs_in x ++ pairs_in_all runs) (sym at)
from_run (r ∷ runs) (suc i) run d inside at =
    let later : suc (i + 1) ≡ suc i + 1 = omega arith in
    from_run runs i run d (omega (arith, inside)) at ∙ ap (λ n. pairs_in run ++ pairs_in_all (drop n (r ∷ runs))) later

pub swapped_twice : (pairs others : List (ℕ × ℕ)) (bits : List Bool) → with_swapped (pairs ++ others) bits ≡ with_swapped others (with_swapped pairs bits)
swapped_twice [] others bits = refl
swapped_twice (pair ∷ pairs) others bits = swapped_twice pairs others _
