-- The places of atoms in a scope, and sets of atoms by them.
use Rattle.std.proofs.Common.{◌≡◌, ◌∙◌, ℕ, zero, suc, ◌+◌, ◌<◌, ◌≤◌, inl, inr, Bool, true, false, true≢false, ◌&&◌, ◌||◌, not, List, [], ◌∷◌, ◌++◌, length, take, map, get_or, Option, None, Some, refl, sym, ap, subst, arith}
use Rattle.std.specs.Prelude.{IsTrue, ◌==◌, cond, if◌then◌else◌, nat_lt, slice_get, slice_set}
use Rattle.std.specs.List.{list_any, list_all, position_or_len, range_with_len}
use Rattle.std.proofs.lemmas.Bool.{and_parts, and_from, or_left, or_right, eqb-true, eq-eqb, false_from_ne_true, ltb-true, ltb-false, lt-ltb}
use Rattle.std.proofs.lemmas.List.{append_assoc, take_more, length-take-le}
use Rattle.std.proofs.lemmas.List.Folds.{list_any-append, list_all-append}
use Rattle.std.proofs.lemmas.List.Quantifiers.{position-Some}
use Rattle.std.proofs.lemmas.Option.{slice_get-get_or, get_or_from_slice_get}
use Rattle.model.proofs.ListLemmas.{Contains-got}
use Rattle.packed_state.specs.Sets.{has, set_of}
use Rattle.lower_bounds.specs.TableFunctions.{is_among}
use Rattle.lower_bounds.proofs.TableLists.{all-at}
use Rattle.table_rows.specs.Rows.{are_rising, atoms_at, place_in}
use Rattle.table_rows.proofs.RowLemmas.{rising-tail}

-- ---- places

pub place-within : (scope : List ℕ) (number k : ℕ) → place_in scope number ≡ Some k → (k < length scope) × (get_or scope k 0 ≡ number)
place-within scope number k is =
    let there = position-Some (λ n. n == number) scope k 0 is in
    (there.0, eqb-true (get_or scope k 0) number there.1)

some-place : (p : ℕ → Bool) (xs : List ℕ) → list_any p xs ≡ true → position_or_len p xs < length xs
some-place p [] some = absurd (true≢false (sym some))
some-place p (x ∷ xs) some =
    elim (p x) as (λ b. (b || list_any p xs) ≡ true → cond (not b) (1 + position_or_len p xs) 0 < suc (length xs)) [
      | true ↦ λ _. omega arith
      | false ↦ λ later. let rest = some-place p xs later in omega arith
    ] some

pub no-place : (scope : List ℕ) (number : ℕ) → place_in scope number ≡ None → is_among scope number ≡ false
no-place scope number none =
    false_from_ne_true (is_among scope number) (λ some.
    let place = position_or_len (λ n. n == number) scope in
    let found : place_in scope number ≡ Some place = ap (λ b. cond b (Some place) None) (lt-ltb place (length scope) (some-place (λ n. n == number) scope some)) in
    absurd (cc))

pub among-got : (scope : List ℕ) (k : ℕ) → k < length scope → is_among scope (get_or scope k 0) ≡ true
among-got [] k below = absurd (omega (arith, below))
among-got (n ∷ scope) zero below = or_left (n == n) (is_among scope n) (eq-eqb n n refl)
among-got (n ∷ scope) (suc k) below = or_right (n == get_or scope k 0) (is_among scope (get_or scope k 0)) (among-got scope k (omega (arith, below)))

-- ---- atoms of a rising scope

pub above-got : (n : ℕ) (scope : List ℕ) (k : ℕ) → IsTrue (are_rising (n ∷ scope)) → k < length scope → n < get_or scope k 0
above-got n [] k rising below = absurd (omega (arith, below))
above-got n (m ∷ scope) zero rising below = ltb-true n m (and_parts (nat_lt n m) (are_rising (m ∷ scope)) rising).0
above-got n (m ∷ scope) (suc k) rising below =
    let parts = and_parts (nat_lt n m) (are_rising (m ∷ scope)) rising in
    let rest = above-got m scope k parts.1 (omega (arith, below)) in
    omega (arith, rest, ltb-true n m parts.0)

-- what is not above the first is not later
pub not-later : (n : ℕ) (scope : List ℕ) (k : ℕ) → IsTrue (are_rising (n ∷ scope)) → k ≤ n → is_among scope k ≡ false
not-later n [] k rising below = refl
not-later n (m ∷ scope) k rising below =
    let parts = and_parts (nat_lt n m) (are_rising (m ∷ scope)) rising in
    let above = ltb-true n m parts.0 in
    let differ : (m == k) ≡ false = false_from_ne_true (m == k) (λ same. let is = eqb-true m k same in absurd (omega (arith, above, is, below))) in
    ap (λ b. b || is_among scope k) differ ∙ not-later m scope k parts.1 (omega (arith, above, below))

differs : (n a : ℕ) (scope : List ℕ) → is_among scope n ≡ false → is_among scope a ≡ true → (n == a) ≡ false
differs n a scope none some = false_from_ne_true (n == a) (λ same. true≢false (sym (subst (λ k. is_among scope k ≡ true) (sym (eqb-true n a same)) some) ∙ none))

swapped : (n a : ℕ) → (n == a) ≡ false → (a == n) ≡ false
swapped n a differ = false_from_ne_true (a == n) (λ same. true≢false (sym (eq-eqb n a (sym (eqb-true a n same))) ∙ differ))

neither : (b c : Bool) → (b || c) ≡ false → (b ≡ false) × (c ≡ false)
neither true c is = absurd (true≢false is)
neither false c is = (refl, is)

or-none : (b : Bool) → (b || (false || false)) ≡ b
or-none true = refl
or-none false = refl

-- ---- atoms, one after another

-- of other atoms it is as before
unchanged : (done scope : List ℕ) (a : ℕ) → is_among scope a ≡ false → map (is_among done) scope ≡ map (is_among (done ++ a ∷ [])) scope
unchanged done [] a none = refl
unchanged done (n ∷ scope) a none =
    let parts = neither (n == a) (is_among scope a) none in
    let rest = unchanged done scope a parts.1 in
    let first : is_among done n ≡ is_among (done ++ a ∷ []) n =
    sym (list_any-append (λ k. k == n) done (a ∷ []) ∙ ap (λ b. is_among done n || (b || false)) (swapped n a parts.0) ∙ or-none (is_among done n)) in
    (λ i. first i ∷ rest i)

among-last : (done : List ℕ) (a : ℕ) → is_among (done ++ a ∷ []) a ≡ true
among-last done a = list_any-append (λ k. k == a) done (a ∷ []) ∙ or_right (is_among done a) ((a == a) || false) (or_left (a == a) false (eq-eqb a a refl))

-- one atom more
marked : (scope : List ℕ) → IsTrue (are_rising scope) → (done : List ℕ) (a k : ℕ) → k < length scope → get_or scope k 0 ≡ a
    → slice_set (map (is_among done) scope) k true ≡ map (is_among (done ++ a ∷ [])) scope
marked [] rising done a k below at = absurd (omega (arith, below))
marked (n ∷ scope) rising done a zero below at =
    let rest = unchanged done scope a (subst (λ m. is_among scope m ≡ false) at (not-later n scope n rising (omega arith))) in
    let first : true ≡ is_among (done ++ a ∷ []) n = sym (subst (λ m. is_among (done ++ a ∷ []) m ≡ true) (sym at) (among-last done a)) in
    (λ i. first i ∷ rest i)
marked (n ∷ scope) rising done a (suc k) below at =
    let within : k < length scope = omega (arith, below) in
    let rest = marked scope (rising-tail n scope rising) done a k within at in
    let there : is_among scope a ≡ true = subst (λ m. is_among scope m ≡ true) at (among-got scope k within) in
    let differ = differs n a scope (not-later n scope n rising (omega arith)) there in
    let first : is_among done n ≡ is_among (done ++ a ∷ []) n =
    sym (list_any-append (λ m. m == n) done (a ∷ []) ∙ ap (λ b. is_among done n || (b || false)) (swapped n a differ) ∙ or-none (is_among done n)) in
    (λ i. first i ∷ rest i)

-- these atoms are of the scope, and the bits say which of it they are
pub record AreMarked (scope atoms : List ℕ) (set : List Bool) : Type 0 where
  pub of_scope : list_all (is_among scope) atoms ≡ true
  pub bits : set ≡ map (is_among atoms) scope

blank : {X Y : Type 0} (xs : List X) (ys : List Y) → length xs ≡ length ys → map (λ _. false) xs ≡ map (λ _. false) ys
blank [] [] same = refl
blank [] (y ∷ ys) same = absurd (cc)
blank (x ∷ xs) [] same = absurd (cc)
blank (x ∷ xs) (y ∷ ys) same = ap (λ l. false ∷ l) (blank xs ys (let e = same in cc))

length-range : (from n : ℕ) → length (range_with_len from n) ≡ n
length-range from zero = refl
length-range from (suc n) = ap suc (length-range (from + 1) n)

pub none-marked : (scope : List ℕ) (width : ℕ) (bits : List Bool) → width ≡ length scope → bits ≡ set_of width [] → AreMarked scope [] bits
none-marked scope width bits wide empty = record { of_scope = refl; bits = empty ∙ blank (range_with_len 0 width) scope (length-range 0 width ∙ wide) }

pub one-marked : (scope atoms : List ℕ) (i a place : ℕ) (old new : List Bool) → IsTrue (are_rising scope) → i < length atoms → get_or atoms i 0 ≡ a → place_in scope a ≡ Some place
    → new ≡ slice_set old place true → AreMarked scope (take i atoms) old → AreMarked scope (take (i + 1) atoms) new
one-marked scope atoms i a place old new rising below is at set before =
    let found = place-within scope a place at in
    let more : take (i + 1) atoms ≡ take i atoms ++ a ∷ [] = take_more atoms i 0 below ∙ ap (λ n. take i atoms ++ n ∷ []) is in
    let there : is_among scope a ≡ true = subst (λ n. is_among scope n ≡ true) found.1 (among-got scope place found.0) in
    record {
      of_scope = ap (list_all (is_among scope)) more ∙ list_all-append (is_among scope) (take i atoms) (a ∷ []) ∙ and_from (list_all (is_among scope) (take i atoms)) (is_among scope a && true) before.of_scope (and_from (is_among scope a) true there refl);
      bits = set ∙ ap (λ b. slice_set b place true) before.bits ∙ marked scope rising (take i atoms) a place found.0 found.1 ∙ sym (ap (λ l. map (is_among l) scope) more);
    }

pub not-of-scope : (scope atoms : List ℕ) (i a : ℕ) → i < length atoms → get_or atoms i 0 ≡ a → place_in scope a ≡ None → list_all (is_among scope) atoms ≡ false
not-of-scope scope atoms i a below is none =
    false_from_ne_true (list_all (is_among scope) atoms) (λ all.
    true≢false (sym (all-at (is_among scope) atoms a all (Contains-got atoms i a (slice_get-get_or atoms i 0 below ∙ ap (λ n. Some n) is))) ∙ no-place scope a none))

-- ---- the atoms of a set

-- the atoms of the scope from its place on do not count
pub atoms-more : (scope : List ℕ) (bits : List Bool) (n : ℕ) → length scope < length bits → atoms_at (scope ++ n ∷ []) bits ≡ atoms_at scope bits ++ atoms_at (n ∷ []) (has bits (length scope) ∷ [])
atoms-more scope [] n within = absurd (omega (arith, within))
atoms-more [] (bit ∷ bits) n within = refl
atoms-more (m ∷ scope) (true ∷ bits) n within = ap (λ l. m ∷ l) (atoms-more scope bits n (omega (arith, within)))
atoms-more (m ∷ scope) (false ∷ bits) n within = atoms-more scope bits n (omega (arith, within))

pub listed-more : (scope : List ℕ) (bits : List Bool) (k atom : ℕ) (first old new : List ℕ) → length bits ≡ length scope → k < length scope → get_or scope k 0 ≡ atom
    → old ≡ first ++ atoms_at (take k scope) bits → new ≡ old ++ atoms_at (atom ∷ []) (has bits k ∷ []) → new ≡ first ++ atoms_at (take (k + 1) scope) bits
listed-more scope bits k atom first old new long below is before after =
    let taken : length (take k scope) ≡ k = length-take-le k scope (omega (arith, below)) in
    let more : take (k + 1) scope ≡ take k scope ++ atom ∷ [] = take_more scope k 0 below ∙ ap (λ n. take k scope ++ n ∷ []) is in
    after ∙ ap (λ l. l ++ atoms_at (atom ∷ []) (has bits k ∷ [])) before
    ∙ append_assoc first (atoms_at (take k scope) bits) (atoms_at (atom ∷ []) (has bits k ∷ []))
    ∙ ap (λ l. first ++ l) (sym (ap (λ s. atoms_at s bits) more ∙ atoms-more (take k scope) bits atom (omega (arith, taken, below, long))
    ∙ ap (λ j. atoms_at (take k scope) bits ++ atoms_at (atom ∷ []) (has bits j ∷ [])) taken))

narrowed : (n : ℕ) (scope xs : List ℕ) → is_among xs n ≡ false → list_all (is_among (n ∷ scope)) xs ≡ true → list_all (is_among scope) xs ≡ true
narrowed n scope [] none all = refl
narrowed n scope (x ∷ xs) none all =
    let parts = neither (x == n) (is_among xs n) none in
    let given = and_parts (is_among (n ∷ scope) x) (list_all (is_among (n ∷ scope)) xs) all in
    and_from (is_among scope x) (list_all (is_among scope) xs) (sym (ap (λ b. b || is_among scope x) (swapped x n parts.0)) ∙ given.0) (narrowed n scope xs parts.1 given.1)

-- without the first, that is not of the scope
without-first : (a : ℕ) (atoms scope : List ℕ) → is_among scope a ≡ false → map (is_among (a ∷ atoms)) scope ≡ map (is_among atoms) scope
without-first a atoms [] none = refl
without-first a atoms (n ∷ scope) none =
    let parts = neither (n == a) (is_among scope a) none in
    let rest = without-first a atoms scope parts.1 in
    let first : is_among (a ∷ atoms) n ≡ is_among atoms n = ap (λ b. b || is_among atoms n) (swapped n a parts.0) in
    (λ i. first i ∷ rest i)

-- rising atoms of a rising scope are those whose bits are set
pub picked : (scope atoms : List ℕ) → IsTrue (are_rising scope) → IsTrue (are_rising atoms) → list_all (is_among scope) atoms ≡ true → atoms_at scope (map (is_among atoms) scope) ≡ atoms
picked [] [] rising atoms_rise all = refl
picked [] (a ∷ atoms) rising atoms_rise all = absurd (true≢false (sym all))
picked (n ∷ scope) [] rising atoms_rise all = picked scope [] (rising-tail n scope rising) refl refl
picked (n ∷ scope) (a ∷ atoms) rising atoms_rise all =
    let parts = and_parts (is_among (n ∷ scope) a) (list_all (is_among (n ∷ scope)) atoms) all in
    let tail = rising-tail n scope rising in
    elim (a == n) as (λ b. (a == n) ≡ b → (if b || is_among atoms n then n ∷ atoms_at scope (map (is_among (a ∷ atoms)) scope) else atoms_at scope (map (is_among (a ∷ atoms)) scope)) ≡ a ∷ atoms) [
      | true ↦ λ same.
          let is = eqb-true a n same in
          let rest = picked scope atoms tail (rising-tail a atoms atoms_rise) (narrowed n scope atoms (not-later a atoms n atoms_rise (omega (arith, is))) parts.1) in
          let alike = without-first a atoms scope (not-later n scope a rising (omega (arith, is))) in
          (λ i. (sym is) i ∷ atoms_at scope (alike i)) ∙ ap (λ l. a ∷ l) rest
      | false ↦ λ differ.
          let later : is_among scope a ≡ true = sym (ap (λ b. b || is_among scope a) (swapped a n differ)) ∙ parts.0 in
          let above : n < a = elim (nat_lt n a) as (λ b. nat_lt n a ≡ b → n < a) [
            | true ↦ λ less. ltb-true n a less
            | false ↦ λ not_less. absurd (true≢false (sym later ∙ not-later n scope a rising (ltb-false n a not_less)))
          ] refl in
          let none = not-later a atoms n atoms_rise (omega (arith, above)) in
          let absent : is_among (a ∷ atoms) n ≡ false = (λ i. differ i || none i) in
          ap (λ b. if b then n ∷ atoms_at scope (map (is_among (a ∷ atoms)) scope) else atoms_at scope (map (is_among (a ∷ atoms)) scope)) none
          ∙ picked scope (a ∷ atoms) tail atoms_rise (narrowed n scope (a ∷ atoms) absent all)
    ] refl
