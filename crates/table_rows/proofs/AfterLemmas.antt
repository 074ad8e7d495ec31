-- What may come after a row is what its ways are: of each place by itself, it is as unconditional changes leave it, or turned
-- where a change under a `when` is free.
use Rattle.std.proofs.Common.{◌≡◌, ◌∙◌, ℕ, zero, suc, ◌<◌, inl, inr, Bool, true, false, true≢false, not, ◌&&◌, ◌||◌, List, [], ◌∷◌, length, map, get_or, Option, None, Some, refl, sym, ap, subst, arith}
use Rattle.std.specs.Prelude.{IsTrue, Contains, ◌⊎◌, ◌==◌, if◌then◌else◌, cond, filter}
use Rattle.std.specs.Bool.{beq}
use Rattle.std.specs.List.{list_any, list_all, filter_map, cons_option, range_with_len}
use Rattle.std.specs.Option.{option_map, option_map_or}
use Rattle.std.proofs.lemmas.Bool.{and_parts, and_from, or_left, or_right, eqb-true, eq-eqb, false_from_ne_true, cases_eq}
use Rattle.std.proofs.lemmas.List.{length-map, length-set, get_or-set_same, get_or-set_other, get_or-map}
use Rattle.std.proofs.lemmas.List.FromFn.{get_or-range_with_len, length-range_with_len}
use Rattle.std.proofs.lemmas.List.Elements.{Contains-append_left, Contains-append_right, Contains-append_cases}
use Rattle.packed_state.specs.Sets.{has, changed}
use Rattle.packed_state.proofs.PackedLemmas.{has-set_of}
use Rattle.model.specs.NumberedLiterals.{NumberedChange}
use Rattle.model.proofs.ListLemmas.{Contains-here, Contains-there, Contains-none, Contains-cases, Contains-map, map-Contains}
use Rattle.lower_bounds.specs.FairPotentials.{makes, may_become}
use Rattle.lower_bounds.specs.TableFunctions.{is_among}
use Rattle.lower_bounds.specs.FairTables.{agrees, ConditionalChange, changes_in, is_open, open_changes, afters, afters_of}
use Rattle.lower_bounds.proofs.TableLists.{all-at}
use Rattle.lower_bounds.proofs.TableRows.{same-itself}
use Rattle.table_rows.specs.Placed.{place_in, placed_in, is_so}
use Rattle.table_rows.specs.Rows.{are_rising, atoms_at}
use Rattle.table_rows.specs.Afters.{When, PlacedChanges, certain_place, certain_set, when_in, placed_changes, is_plain, left_of, turns, is_open_at, turned, ways}
use Rattle.table_rows.proofs.RowLemmas.{rising-tail}
use Rattle.table_rows.proofs.PlacedLemmas.{place-within, no-place, among-got, above-got, atom-at, placed-agree}

-- ---- tests of some element

any-alike : {X : Type 0} (p q : X → Bool) (xs : List X) → ((x : X) → Contains xs x → p x ≡ q x) → list_any p xs ≡ list_any q xs
any-alike p q [] each = refl
any-alike p q (x ∷ xs) each =
    let first = each x (Contains-here x xs) in
    let rest = any-alike p q xs (λ y at. each y (Contains-there x xs y at)) in
    (λ i. first i || rest i)

any-filter : {X : Type 0} (p q : X → Bool) (xs : List X) → list_any p (filter q xs) ≡ list_any (λ x. q x && p x) xs
any-filter p q [] = refl
any-filter p q (x ∷ xs) =
    let rest = any-filter p q xs in
    elim (q x) as (λ b. list_any p (cond b (x ∷ filter q xs) (filter q xs)) ≡ ((b && p x) || list_any (λ y. q y && p y) xs)) [
      | true ↦ ap (λ b. p x || b) rest
      | false ↦ rest
    ]

any-map : {X Y : Type 0} (p : Y → Bool) (f : X → Y) (xs : List X) → list_any p (map f xs) ≡ list_any (λ x. p (f x)) xs
any-map p f [] = refl
any-map p f (x ∷ xs) = ap (λ b. p (f x) || b) (any-map p f xs)

any-filter_map : {X Y : Type 0} (p : Y → Bool) (h : X → Option Y) (xs : List X) → list_any p (filter_map h xs) ≡ list_any (λ x. option_map_or p (h x) false) xs
any-filter_map p h [] = refl
any-filter_map p h (x ∷ xs) =
    let rest = any-filter_map p h xs in
    elim (h x) as (λ o. list_any p (cons_option o (filter_map h xs)) ≡ (option_map_or p o false || list_any (λ y. option_map_or p (h y) false) xs)) [
      | None ↦ rest
      | Some y ↦ ap (λ b. p y || b) rest
    ]

any-and : {X : Type 0} (a : Bool) (p : X → Bool) (xs : List X) → list_any (λ x. a && p x) xs ≡ (a && list_any p xs)
any-and true p xs = refl
any-and false p [] = refl
any-and false p (x ∷ xs) = any-and false p xs

and_no : (b : Bool) → (b && false) ≡ false
and_no true = refl
and_no false = refl

-- ---- places

rising-distinct : (scope : List ℕ) (i k : ℕ) → IsTrue (are_rising scope) → i < length scope → k < length scope → get_or scope i 0 ≡ get_or scope k 0 → i ≡ k
rising-distinct [] i k rising below within same = absurd (omega (arith, below))
rising-distinct (n ∷ scope) zero zero rising below within same = refl
rising-distinct (n ∷ scope) zero (suc k) rising below within same = let above = above-got n scope k rising (omega (arith, within)) in absurd (omega (arith, above, same))
rising-distinct (n ∷ scope) (suc i) zero rising below within same = let above = above-got n scope i rising (omega (arith, below)) in absurd (omega (arith, above, same))
rising-distinct (n ∷ scope) (suc i) (suc k) rising below within same =
    ap suc (rising-distinct scope i k (rising-tail n scope rising) (omega (arith, below)) (omega (arith, within)) same)

-- the atom's place is this one where it is the atom there
place-is : (scope : List ℕ) (atom k : ℕ) → IsTrue (are_rising scope) → k < length scope → option_map_or (λ p. p == k) (place_in scope atom) false ≡ (atom == get_or scope k 0)
place-is scope atom k rising within =
    elim (place_in scope atom) as (λ o. place_in scope atom ≡ o → option_map_or (λ p. p == k) o false ≡ (atom == get_or scope k 0)) [
      | None ↦ λ none.
          sym (false_from_ne_true (atom == get_or scope k 0) (λ same.
          true≢false (sym (subst (λ a. is_among scope a ≡ true) (sym (eqb-true atom (get_or scope k 0) same)) (among-got scope k within)) ∙ no-place scope atom none)))
      | Some p ↦ λ some.
          let at = place-within scope atom p some in
          elim (cases_eq p k) [
            | inl is ↦ eq-eqb p k is ∙ sym (eq-eqb atom (get_or scope k 0) (sym at.1 ∙ ap (λ j. get_or scope j 0) is))
            | inr other ↦
                false_from_ne_true (p == k) (λ e. other (eqb-true p k e))
                ∙ sym (false_from_ne_true (atom == get_or scope k 0) (λ e. other (rising-distinct scope p k rising at.0 within (at.1 ∙ eqb-true atom (get_or scope k 0) e))))
          ]
    ] refl

-- ---- bits of sets

pub has-changed : (old deletes adds : List Bool) (k : ℕ) → k < length old → has (changed old deletes adds) k ≡ ((has old k && not (has deletes k)) || has adds k)
has-changed old deletes adds k below =
    let f = λ (number : ℕ). (has old number && not (has deletes number)) || has adds number in
    get_or-map f (range_with_len 0 (length old)) k 0 false (omega (arith, below, length-range_with_len 0 (length old)))
    ∙ ap f (let e = get_or-range_with_len 0 (length old) k 0 below in let is : get_or (range_with_len 0 (length old)) k 0 ≡ k = omega (arith, e) in is)

pub length-changed : (old deletes adds : List Bool) → length (changed old deletes adds) ≡ length old
length-changed old deletes adds = length-map (range_with_len 0 (length old)) (λ number. (has old number && not (has deletes number)) || has adds number) ∙ length-range_with_len 0 (length old)

same-bits : (xs ys : List Bool) → length xs ≡ length ys → ((k : ℕ) → k < length ys → has xs k ≡ has ys k) → xs ≡ ys
same-bits [] [] long each = refl
same-bits [] (y ∷ ys) long each = absurd (cc)
same-bits (x ∷ xs) [] long each = absurd (cc)
same-bits (x ∷ xs) (y ∷ ys) long each =
    let first = each 0 (omega arith) in
    let rest = same-bits xs ys (omega (arith, long)) (λ k below. each (suc k) (omega (arith, below))) in
    (λ i. first i ∷ rest i)

-- ---- of each place by itself

-- each bit is what may become of its atom
abbrev may_all : List NumberedChange → List ℕ → List ℕ → List Bool → Bool
may_all changes before [] [] = true
may_all changes before [] (b ∷ bits) = false
may_all changes before (n ∷ scope) [] = false
may_all changes before (n ∷ scope) (b ∷ bits) = may_become changes n (is_among before n) b && may_all changes before scope bits

module _ (changes : List NumberedChange) (before : List ℕ) where
  abbrev may : ℕ → Bool → Bool
  may n b = may_become changes n (is_among before n) b

  after-may : (scope : List ℕ) (bits : List Bool) → may_all changes before scope bits ≡ true → Contains (afters changes scope before) (atoms_at scope bits)
  after-may [] [] all = Contains-here [] []
  after-may [] (b ∷ bits) all = absurd (true≢false (sym all))
  after-may (n ∷ scope) [] all = absurd (true≢false (sym all))
  after-may (n ∷ scope) (true ∷ bits) all =
      let parts = and_parts (may n true) (may_all changes before scope bits) all in
      let others = afters changes scope before in
      let rises = λ (b : Bool). if b then map (λ rest. n ∷ rest) others else [] in
      let falls = if may n false then others else [] in
      Contains-append_left (rises (may n true)) falls (n ∷ atoms_at scope bits)
      (subst (λ b. Contains (rises b) (n ∷ atoms_at scope bits)) (sym parts.0) (Contains-map (λ rest. n ∷ rest) others (atoms_at scope bits) (after-may scope bits parts.1)))
  after-may (n ∷ scope) (false ∷ bits) all =
      let parts = and_parts (may n false) (may_all changes before scope bits) all in
      let others = afters changes scope before in
      let rises = if may n true then map (λ rest. n ∷ rest) others else [] in
      let falls = λ (b : Bool). if b then others else [] in
      Contains-append_right rises (falls (may n false)) (atoms_at scope bits)
      (subst (λ b. Contains (falls b) (atoms_at scope bits)) (sym parts.0) (after-may scope bits parts.1))

  may-after : (scope : List ℕ) (after : List ℕ) → Contains (afters changes scope before) after → (bits : List Bool) × (may_all changes before scope bits ≡ true) × (atoms_at scope bits ≡ after)
  may-after [] after at = elim (Contains-cases [] [] after at) [
    | inl is ↦ ([], refl, is)
    | inr none ↦ absurd (Contains-none after none)
  ]
  may-after (n ∷ scope) after at =
      let others = afters changes scope before in
      let rises = λ (b : Bool). if b then map (λ rest. n ∷ rest) others else [] in
      let falls = λ (b : Bool). if b then others else [] in
      elim (Contains-append_cases (rises (may n true)) (falls (may n false)) after at) [
        | inl risen ↦
            elim (may n true) as (λ b. may n true ≡ b → Contains (rises b) after → (bits : List Bool) × (may_all changes before (n ∷ scope) bits ≡ true) × (atoms_at (n ∷ scope) bits ≡ after)) [
              | true ↦ λ is among.
                  let it = map-Contains (λ rest. n ∷ rest) others after among in
                  let rest = may-after scope it.0 it.1 in
                  (true ∷ rest.0, and_from (may n true) (may_all changes before scope rest.0) is rest.1, ap (λ l. n ∷ l) rest.2 ∙ it.2)
              | false ↦ λ is among. absurd (Contains-none after among)
            ] refl risen
        | inr fallen ↦
            elim (may n false) as (λ b. may n false ≡ b → Contains (falls b) after → (bits : List Bool) × (may_all changes before (n ∷ scope) bits ≡ true) × (atoms_at (n ∷ scope) bits ≡ after)) [
              | true ↦ λ is among.
                  let rest = may-after scope after among in
                  (false ∷ rest.0, and_from (may n false) (may_all changes before scope rest.0) is rest.1, rest.2)
              | false ↦ λ is among. absurd (Contains-none after among)
            ] refl fallen
      ]

  may-long : (scope : List ℕ) (bits : List Bool) → may_all changes before scope bits ≡ true → length bits ≡ length scope
  may-long [] [] all = refl
  may-long [] (b ∷ bits) all = absurd (true≢false (sym all))
  may-long (n ∷ scope) [] all = absurd (true≢false (sym all))
  may-long (n ∷ scope) (b ∷ bits) all = ap suc (may-long scope bits (and_parts (may n b) (may_all changes before scope bits) all).1)

  may-at : (scope : List ℕ) (bits : List Bool) (k : ℕ) → may_all changes before scope bits ≡ true → k < length scope → may (get_or scope k 0) (has bits k) ≡ true
  may-at [] bits k all within = absurd (omega (arith, within))
  may-at (n ∷ scope) [] k all within = absurd (true≢false (sym all))
  may-at (n ∷ scope) (b ∷ bits) zero all within = (and_parts (may n b) (may_all changes before scope bits) all).0
  may-at (n ∷ scope) (b ∷ bits) (suc k) all within = may-at scope bits k (and_parts (may n b) (may_all changes before scope bits) all).1 (omega (arith, within))

  may-from : (scope : List ℕ) (bits : List Bool) → length bits ≡ length scope → ((k : ℕ) → k < length scope → may (get_or scope k 0) (has bits k) ≡ true) → may_all changes before scope bits ≡ true
  may-from [] [] long each = refl
  may-from [] (b ∷ bits) long each = absurd (cc)
  may-from (n ∷ scope) [] long each = absurd (cc)
  may-from (n ∷ scope) (b ∷ bits) long each =
      and_from (may n b) (may_all changes before scope bits) (each 0 (omega arith)) (may-from scope bits (omega (arith, long)) (λ k within. each (suc k) (omega (arith, within))))

-- ---- ways

pub turned-here : (bits : List Bool) (place : ℕ) → place < length bits → has (turned bits place) place ≡ not (has bits place)
turned-here bits place below = get_or-set_same bits place (not (has bits place)) false below

turned-other : (bits : List Bool) (place k : ℕ) → (k ≡ place → ⊥) → has (turned bits place) k ≡ has bits k
turned-other bits place k other = get_or-set_other bits place k (not (has bits place)) false other

pub length-turned : (bits : List Bool) (place : ℕ) → length (turned bits place) ≡ length bits
length-turned bits place = length-set bits place (not (has bits place))

-- turned twice it is as it was
pub turned-back : (bits : List Bool) (place : ℕ) → place < length bits → turned (turned bits place) place ≡ bits
turned-back bits place below =
    same-bits (turned (turned bits place) place) bits (length-turned (turned bits place) place ∙ length-turned bits place)
    (λ k within. elim (cases_eq k place) [
      | inl is ↦
          subst (λ j. has (turned (turned bits place) place) j ≡ has bits j) (sym is)
          (turned-here (turned bits place) place (omega (arith, below, length-turned bits place)) ∙ ap not (turned-here bits place below) ∙ twice (has bits place))
      | inr other ↦ turned-other (turned bits place) place k other ∙ turned-other bits place k other
    ])
  where
    twice : (b : Bool) → not (not b) ≡ b
    twice true = refl
    twice false = refl

pub way-long : (bits : List Bool) (free : List ℕ) (way : List Bool) → Contains (ways bits free) way → length way ≡ length bits
way-long bits [] way at = elim (Contains-cases bits [] way at) [
  | inl is ↦ sym (ap length is)
  | inr none ↦ absurd (Contains-none way none)
]
way-long bits (place ∷ free) way at = elim (Contains-append_cases (ways bits free) (ways (turned bits place) free) way at) [
  | inl kept ↦ way-long bits free way kept
  | inr changes ↦ way-long (turned bits place) free way changes ∙ length-turned bits place
]

not-among : (place : ℕ) (free : List ℕ) (k : ℕ) → is_among (place ∷ free) k ≡ false → ((k ≡ place) → ⊥) × (is_among free k ≡ false)
not-among place free k none = (
  λ is. true≢false (sym (or_left (place == k) (is_among free k) (eq-eqb place k (sym is))) ∙ none),
  false_from_ne_true (is_among free k) (λ there. true≢false (sym (or_right (place == k) (is_among free k) there) ∙ none)),
)

-- a way differs at free places only
pub way-kept : (bits : List Bool) (free : List ℕ) (way : List Bool) (k : ℕ) → Contains (ways bits free) way → is_among free k ≡ false → has way k ≡ has bits k
way-kept bits [] way k at none = elim (Contains-cases bits [] way at) [
  | inl is ↦ sym (ap (λ s. has s k) is)
  | inr absent ↦ absurd (Contains-none way absent)
]
way-kept bits (place ∷ free) way k at none =
    let other = not-among place free k none in
    elim (Contains-append_cases (ways bits free) (ways (turned bits place) free) way at) [
      | inl kept ↦ way-kept bits free way k kept other.1
      | inr changes ↦ way-kept (turned bits place) free way k changes other.1 ∙ turned-other bits place k other.0
    ]

-- and what differs at free places only is a way
is-way : (bits : List Bool) (free : List ℕ) (way : List Bool) → length way ≡ length bits → ((k : ℕ) → k < length bits → is_among free k ≡ false → has way k ≡ has bits k) → Contains (ways bits free) way
is-way bits [] way long kept = subst (λ s. Contains (s ∷ []) way) (same-bits way bits long (λ k below. kept k below refl)) (Contains-here way [])
is-way bits (place ∷ free) way long kept =
    elim (cases_bool (has way place) (has bits place)) [
      | inl is ↦
          Contains-append_left (ways bits free) (ways (turned bits place) free) way
          (is-way bits free way long (λ k below none. elim (cases_eq k place) [
            | inl here ↦ subst (λ j. has way j ≡ has bits j) (sym here) is
            | inr other ↦ kept k below (elsewhere k other none)
          ]))
      | inr differs ↦
          Contains-append_right (ways bits free) (ways (turned bits place) free) way
          (is-way (turned bits place) free way (long ∙ sym (length-turned bits place)) (λ k below none. elim (cases_eq k place) [
            | inl here ↦ subst (λ j. has way j ≡ has (turned bits place) j) (sym here) (differs ∙ sym (turned-here bits place (omega (arith, below, here, length-turned bits place))))
            | inr other ↦ kept k (omega (arith, below, length-turned bits place)) (elsewhere k other none) ∙ sym (turned-other bits place k other)
          ]))
    ]
  where
    cases_bool : (a b : Bool) → (a ≡ b) ⊎ (a ≡ not b)
    cases_bool true true = inl refl
    cases_bool true false = inr refl
    cases_bool false true = inr refl
    cases_bool false false = inl refl

    elsewhere : (k : ℕ) → (k ≡ place → ⊥) → is_among free k ≡ false → is_among (place ∷ free) k ≡ false
    elsewhere k other none = ap (λ b. b || is_among free k) (false_from_ne_true (place == k) (λ e. other (sym (eqb-true place k e)))) ∙ none

-- ---- what may become of an atom, by places

-- of one atom: it is as unconditional changes leave it, or turned
one-becomes : (added deleted was b : Bool) (made : Bool → Bool) → (if added then b else beq b (was && not deleted) || made b) ≡ (beq b ((was && not deleted) || added) || (not added && made (not ((was && not deleted) || added))))
one-becomes true true true true made = refl
one-becomes true true true false made = refl
one-becomes true true false true made = refl
one-becomes true true false false made = refl
one-becomes true false true true made = refl
one-becomes true false true false made = refl
one-becomes true false false true made = refl
one-becomes true false false false made = refl
one-becomes false true true true made = refl
one-becomes false true true false made = refl
one-becomes false true false true made = refl
one-becomes false true false false made = refl
one-becomes false false true true made = refl
one-becomes false false true false made = refl
one-becomes false false false true made = refl
one-becomes false false false false made = refl

all-three : (a b c : Bool) → (if b && c then a else false) ≡ (a && beq b true && c)
all-three true true true = refl
all-three true true false = refl
all-three true false true = refl
all-three true false false = refl
all-three false true true = refl
all-three false true false = refl
all-three false false true = refl
all-three false false false = refl

never-so : (a b c : Bool) → (a && (b && false && c)) ≡ (b && false && c)
never-so true b c = refl
never-so false true c = refl
never-so false false c = refl

open-one : (unnumbered held is_here is_certain same : Bool) → ((not unnumbered && held) && (is_here && beq is_certain false && same)) ≡ (if is_certain || unnumbered then false else (is_here && (same && held)))
open-one true held is_here true same = refl
open-one true held is_here false same = refl
open-one false false true true same = refl
open-one false false false true same = refl
open-one false true true true same = refl
open-one false true false true same = refl
open-one false false true false true = refl
open-one false false true false false = refl
open-one false false false false same = refl
open-one false true true false true = refl
open-one false true true false false = refl
open-one false true false false same = refl

turning : (held left value : Bool) → (held && not (beq left value)) ≡ (beq value (not left) && held)
turning true true true = refl
turning true true false = refl
turning true false true = refl
turning true false false = refl
turning false true true = refl
turning false true false = refl
turning false false true = refl
turning false false false = refl

no-elements : {X : Type 0} (xs : List X) → length xs ≡ 0 → xs ≡ []
no-elements [] is = refl
no-elements (x ∷ xs) is = absurd (cc)

same-bit : (a b : Bool) → beq a b ≡ true → a ≡ b
same-bit true true is = refl
same-bit true false is = absurd (true≢false (sym is))
same-bit false true is = absurd (true≢false (sym is))
same-bit false false is = refl

or_no : (b : Bool) → (b || false) ≡ b
or_no true = refl
or_no false = refl

module _ (scope : List ℕ) (rising : IsTrue (are_rising scope)) (row : List Bool) (long : length row ≡ length scope) (changes : List ConditionalChange) (plain : list_all is_plain changes ≡ true) where
  abbrev opened : List NumberedChange
  opened = open_changes changes scope (atoms_at scope row)

  abbrev placed : PlacedChanges
  placed = placed_changes scope changes

  abbrev left : List Bool
  left = left_of placed row

  module _ (k : ℕ) (within : k < length scope) where
    abbrev n : ℕ
    n = get_or scope k 0

    abbrev test : Bool → Bool → NumberedChange → Bool
    test unconditional value c = c.atom == n && beq c.is_unconditional unconditional && beq c.value value

    makes-open : (unconditional value : Bool) → makes opened unconditional value n ≡ list_any (λ (c : ConditionalChange). is_open scope (atoms_at scope row) c && test unconditional value c.change) changes
    makes-open unconditional value =
        any-map (test unconditional value) (λ (c : ConditionalChange). c.change) (filter (is_open scope (atoms_at scope row)) changes)
        ∙ any-filter (λ (c : ConditionalChange). test unconditional value c.change) (is_open scope (atoms_at scope row)) changes

    certain-one : (value : Bool) (c : NumberedChange) → option_map_or (λ p. p == k) (certain_place scope value c) false ≡ test true value c
    certain-one value c =
        place-if (c.is_unconditional && beq c.value value) (place_in scope c.atom)
        ∙ ap (λ b. if c.is_unconditional && beq c.value value then b else false) (place-is scope c.atom k rising within)
        ∙ all-three (c.atom == n) c.is_unconditional (beq c.value value)
      where
        place-if : (b : Bool) (o : Option ℕ) → option_map_or (λ p. p == k) (if b then o else None) false ≡ (if b then option_map_or (λ p. p == k) o false else false)
        place-if true o = refl
        place-if false o = refl

    -- the places of unconditional changes
    certain-is : (value : Bool) → has (certain_set scope value changes) k ≡ makes opened true value n
    certain-is value =
        has-set_of (length scope) (filter_map (certain_place scope value) (changes_in changes)) k within
        ∙ any-filter_map (λ p. p == k) (certain_place scope value) (changes_in changes)
        ∙ any-map (λ c. option_map_or (λ p. p == k) (certain_place scope value c) false) (λ (c : ConditionalChange). c.change) changes
        ∙ any-alike (λ (c : ConditionalChange). option_map_or (λ p. p == k) (certain_place scope value c.change) false) (λ (c : ConditionalChange). is_open scope (atoms_at scope row) c && test true value c.change) changes
        (λ c at. certain-one value c.change ∙ sym (always c (all-at is_plain changes c plain at)))
        ∙ sym (makes-open true value)
      where
        always : (c : ConditionalChange) → is_plain c ≡ true → (is_open scope (atoms_at scope row) c && test true value c.change) ≡ test true value c.change
        always c is =
            elim c.change.is_unconditional as (λ u. (not u || (not c.requires_unnumbered && length c.condition == 0)) ≡ true
            → (is_open scope (atoms_at scope row) c && (c.change.atom == n && beq u true && beq c.change.value value)) ≡ (c.change.atom == n && beq u true && beq c.change.value value)) [
              | true ↦ λ bare.
                  let parts = and_parts (not c.requires_unnumbered) (length c.condition == 0) bare in
                  let all : agrees c.condition scope (atoms_at scope row) ≡ true =
                  subst (λ literals. agrees literals scope (atoms_at scope row) ≡ true) (sym (no-elements c.condition (eqb-true (length c.condition) 0 parts.1))) refl in
                  ap (λ b. b && (c.change.atom == n && beq true true && beq c.change.value value)) (and_from (not c.requires_unnumbered) (agrees c.condition scope (atoms_at scope row)) parts.0 all)
              | false ↦ λ _. never-so (is_open scope (atoms_at scope row) c) (c.change.atom == n) (beq c.change.value value)
            ] is

    when-one : (value : Bool) (c : ConditionalChange)
        → option_map_or (λ (w : When). w.place == k && (beq w.value value && list_all (is_so row) w.condition)) (when_in scope c) false ≡ (is_open scope (atoms_at scope row) c && test false value c.change)
    when-one value c =
        let so = list_all (is_so row) (filter_map (placed_in scope) c.condition) in
        when-if (c.change.is_unconditional || c.requires_unnumbered) (place_in scope c.change.atom)
        ∙ (λ i. if c.change.is_unconditional || c.requires_unnumbered then false else (place-is scope c.change.atom k rising within i && (beq c.change.value value && placed-agree scope row rising long c.condition i)))
        ∙ sym (open-one c.requires_unnumbered (agrees c.condition scope (atoms_at scope row)) (c.change.atom == n) c.change.is_unconditional (beq c.change.value value))
      where
        of-place : (o : Option ℕ) → option_map_or (λ (w : When). w.place == k && (beq w.value value && list_all (is_so row) w.condition))
            (option_map (λ (p : ℕ). record { place = p; value = c.change.value; condition = filter_map (placed_in scope) c.condition }) o) false
            ≡ (option_map_or (λ p. p == k) o false && (beq c.change.value value && list_all (is_so row) (filter_map (placed_in scope) c.condition)))
        of-place None = refl
        of-place (Some p) = refl

        when-if : (b : Bool) (o : Option ℕ) → option_map_or (λ (w : When). w.place == k && (beq w.value value && list_all (is_so row) w.condition))
            (if b then None else option_map (λ (p : ℕ). record { place = p; value = c.change.value; condition = filter_map (placed_in scope) c.condition }) o) false
            ≡ (if b then false else (option_map_or (λ p. p == k) o false && (beq c.change.value value && list_all (is_so row) (filter_map (placed_in scope) c.condition))))
        when-if true o = refl
        when-if false o = of-place o

    -- what is left of the row, at this place
    left-is : has left k ≡ ((is_among (atoms_at scope row) n && not (makes opened true false n)) || makes opened true true n)
    left-is =
        has-changed row placed.deletes placed.adds k (omega (arith, within, long))
        ∙ (λ i. (sym (atom-at scope row k rising within long) i && not (certain-is false i)) || certain-is true i)

    turns-one : (w : When) → (not (has placed.adds w.place) && (w.place == k && turns row left w))
        ≡ (not (has placed.adds k) && (w.place == k && (beq w.value (not (has left k)) && list_all (is_so row) w.condition)))
    turns-one w =
        elim (cases_eq w.place k) [
          | inl is ↦ subst (λ j. (not (has placed.adds w.place) && (w.place == k && turns row left w))
              ≡ (not (has placed.adds j) && (w.place == k && (beq w.value (not (has left j)) && list_all (is_so row) w.condition)))) is
              (ap (λ b. not (has placed.adds w.place) && (w.place == k && b)) (turning (list_all (is_so row) w.condition) (has left w.place) w.value))
          | inr other ↦
              let differ = false_from_ne_true (w.place == k) (λ e. other (eqb-true w.place k e)) in
              ap (λ b. not (has placed.adds w.place) && (b && turns row left w)) differ ∙ and_no (not (has placed.adds w.place))
              ∙ sym (ap (λ b. not (has placed.adds k) && (b && (beq w.value (not (has left k)) && list_all (is_so row) w.condition))) differ ∙ and_no (not (has placed.adds k)))
        ]

    -- where it may be turned
    free-is : is_open_at placed.whens row left k ≡ (not (makes opened true true n) && makes opened false (not (has left k)) n)
    free-is =
        let value = not (has left k) in
        let held = λ (w : When). w.place == k && (beq w.value value && list_all (is_so row) w.condition) in
        any-filter (λ (w : When). w.place == k && turns row left w) (λ (w : When). not (has placed.adds w.place)) (filter_map (when_in scope) changes)
        ∙ any-alike (λ (w : When). not (has placed.adds w.place) && (w.place == k && turns row left w)) (λ (w : When). not (has placed.adds k) && held w) (filter_map (when_in scope) changes) (λ w at. turns-one w)
        ∙ any-and (not (has placed.adds k)) held (filter_map (when_in scope) changes)
        ∙ (λ i. not (certain-is true i) && any-filter_map held (when_in scope) changes i)
        ∙ ap (λ b. not (makes opened true true n) && b)
        (any-alike (λ (c : ConditionalChange). option_map_or held (when_in scope c) false) (λ (c : ConditionalChange). is_open scope (atoms_at scope row) c && test false value c.change) changes (λ c at. when-one value c)
        ∙ sym (makes-open false value))

    becomes : (b : Bool) → may_become opened n (is_among (atoms_at scope row) n) b ≡ (beq b (has left k) || is_open_at placed.whens row left k)
    becomes b =
        one-becomes (makes opened true true n) (makes opened true false n) (is_among (atoms_at scope row) n) b (λ value. makes opened false value n)
        ∙ (λ i. beq b (sym left-is i) || (not (makes opened true true n) && makes opened false (not (sym left-is i)) n))
        ∙ ap (λ f. beq b (has left k) || f) (sym free-is)

  module _ (free : List ℕ) (are : (k : ℕ) → is_among free k ≡ is_open_at placed.whens row left k) where
    left-long : length left ≡ length scope
    left-long = length-changed row placed.deletes placed.adds ∙ long

    pub after-way : (way : List Bool) → Contains (ways left free) way → Contains (afters_of changes scope (atoms_at scope row)) (atoms_at scope way) × (length way ≡ length scope)
    after-way way at =
        let wide = way-long left free way at ∙ left-long in (
          after-may opened (atoms_at scope row) scope way (may-from opened (atoms_at scope row) scope way wide (λ k within.
              becomes k within (has way k) ∙ elim (is_among free k) as (λ f. is_among free k ≡ f → (beq (has way k) (has left k) || is_open_at placed.whens row left k) ≡ true) [
                | true ↦ λ is. or_right (beq (has way k) (has left k)) (is_open_at placed.whens row left k) (sym (are k) ∙ is)
                | false ↦ λ is. or_left (beq (has way k) (has left k)) (is_open_at placed.whens row left k) (ap (λ b. beq b (has left k)) (way-kept left free way k at is) ∙ same-itself (has left k))
              ] refl)),
          wide,
        )

    pub way-after : (after : List ℕ) → Contains (afters_of changes scope (atoms_at scope row)) after → (way : List Bool) × Contains (ways left free) way × (atoms_at scope way ≡ after)
    way-after after at =
        let it = may-after opened (atoms_at scope row) scope after at in
        let wide = may-long opened (atoms_at scope row) scope it.0 it.1 in (
          it.0,
          is-way left free it.0 (wide ∙ sym left-long) (λ k below none.
              let within : k < length scope = omega (arith, below, left-long) in
              let may = sym (becomes k within (has it.0 k)) ∙ may-at opened (atoms_at scope row) scope it.0 k it.1 within in
              same-bit (has it.0 k) (has left k) (sym (ap (λ f. beq (has it.0 k) (has left k) || f) (sym (are k) ∙ none) ∙ or_no (beq (has it.0 k) (has left k))) ∙ may)),
          it.2,
        )
