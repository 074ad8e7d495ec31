-- A state in the scopes of tables, atom by atom.
use Rattle.std.proofs.Common.{◌≡◌, ◌∙◌, ◌≢◌, ℕ, zero, suc, ◌+◌, ◌*◌, ◌/◌, ◌%◌, ◌<◌, ◌≤◌, ◌^◌, inl, inr, Bool, true, false, true≢false, ◌&&◌, ◌||◌, List, [], ◌∷◌, ◌++◌, length, map, get_or, Option, None, Some, refl, sym, ap, subst, arith, w64}
use Rattle.std.specs.Prelude.{◌⊎◌, IfSome, MatchOption, ◌==◌, slice_get, slice_set, if◌then◌else◌}
use Rattle.std.specs.List.{list_any}
use Rattle.std.specs.Int.{bit_at, trailing_zeros}
use Rattle.std.specs.Int.Bits.{bit_xor}
use Rattle.std.proofs.lemmas.Bool.{and_from, or_left, or_right, cases_eq, cases_lt, eq-eqb, ne_eqb}
use Rattle.std.proofs.lemmas.List.{length-map, length-set, get_or-set_same, get_or-set_other, get_or_past, ext_get_or}
use Rattle.std.proofs.lemmas.List.FromFn.{get_or-map-range_with_len}
use Rattle.std.proofs.lemmas.Option.{slice_get_within, get_or_from_slice_get}
use Rattle.std.proofs.lemmas.Nat.Bits.{bit_at-zero, bit_at-lt, bit_at_xor, bit_at-trailing_zeros, bit_at_clear_same, bit_at_clear_other}
use Rattle.packed_state.specs.Packed.{bits_of}
use Rattle.packed_state.specs.declared.packed.Packed.{Packed}
use Rattle.packed_state.specs.Sets.{has, set_of}
use Rattle.packed_state.specs.Words.{bits_in, AreWordsOf}
use Rattle.packed_state.proofs.NumberLemmas.{without_lowest}
use Rattle.packed_state.proofs.PackedLemmas.{bit_of, length-set_of}
use Rattle.packed_state.proofs.WordLemmas.{in_word}
use Rattle.lower_bounds.specs.TableFunctions.{Table, is_among, projection, row_of, row_in}
use Rattle.lower_bounds.proofs.TableRows.{projection-alike}
use Rattle.table_rows.specs.Rows.{atoms_at}
use Rattle.tables.specs.declared.projections.Projections.{Projections}
use Rattle.tables.specs.declared.scope_places.ScopePlace.{ScopePlace}
use Rattle.tables.specs.declared.scope_places.ScopePlaces.{ScopePlaces}
use Rattle.tables.specs.KnownRows.{IsPlaceOfRow}
use Rattle.tables.specs.Projections.{set_at, AreProjections, AreMoved}
use Rattle.tables.specs.ScopePlaces.{places_of, scopes_of, is_listed, is_placed, AreScopePlaces}
use Rattle.tables.proofs.ScopePlacesLemmas.{listed-more, listed-there, placed-at}
use Rattle.tables.proofs.TablesLemmas.{mapped-at}

-- ---- one atom

abbrev pub with-state : Projections → Packed → Projections
with-state p state = record { state = state; sets = p.sets; touched = p.touched }

-- these places of the atom have become this
pub record AreFollowed (tables : List Table) (number : ℕ) (is : Bool) (done : List ScopePlace) (old new : Projections) : Type 0 where
  pub state : bits_of new.state ≡ bits_of old.state
  pub long : length new.sets.items ≡ length old.sets.items
  pub touched : length (bits_of new.touched) ≡ length (bits_of old.touched)
  pub wide : (k : ℕ) → length (set_at new k) ≡ length (set_at old k)
  pub put : (k place : ℕ) → is_listed done k place ≡ true → has (set_at new k) place ≡ is
  pub others : (k place : ℕ) → is_placed (scopes_of tables) number k place ≡ false → has (set_at new k) place ≡ has (set_at old k) place
  pub marked : (k place : ℕ) → is_listed done k place ≡ true → has (bits_of new.touched) k ≡ true
  pub kept : (k : ℕ) → has (bits_of old.touched) k ≡ true → has (bits_of new.touched) k ≡ true

first-else : (a b c : Bool) → (a || (b && c)) ≡ true → b ≡ false → a ≡ true
first-else true b c is none = refl
first-else false true c is none = absurd (true≢false none)
first-else false false c is none = is

first-else-too : (a b c : Bool) → (a || (b && c)) ≡ true → c ≡ false → a ≡ true
first-else-too true b c is none = refl
first-else-too false true c is none = sym none ∙ is
first-else-too false false c is none = is

module _ (tables : List Table) (number : ℕ) (is : Bool) (done : List ScopePlace) (at : ScopePlace) (old mid new : Projections) (in_sets : at.table < length mid.sets.items)
    (in_set : at.place < length (set_at mid at.table)) (in_touched : at.table < length (bits_of mid.touched)) (placed : is_placed (scopes_of tables) number at.table at.place ≡ true)
    (sets : map bits_of new.sets.items ≡ slice_set (map bits_of mid.sets.items) at.table (slice_set (set_at mid at.table) at.place is))
    (touched : bits_of new.touched ≡ slice_set (bits_of mid.touched) at.table true) (state : bits_of new.state ≡ bits_of mid.state) where
  here : (k : ℕ) → k ≡ at.table → set_at new k ≡ slice_set (set_at mid at.table) at.place is
  here k same =
      ap (set_at new) same ∙ ap (λ l. get_or l at.table []) sets
      ∙ get_or-set_same (map bits_of mid.sets.items) at.table (slice_set (set_at mid at.table) at.place is) [] (omega (arith, in_sets, length-map mid.sets.items bits_of))

  elsewhere : (k : ℕ) → k ≢ at.table → set_at new k ≡ set_at mid k
  elsewhere k other = ap (λ l. get_or l k []) sets ∙ get_or-set_other (map bits_of mid.sets.items) at.table k (slice_set (set_at mid at.table) at.place is) [] other

  there : (k place : ℕ) → k ≡ at.table → place ≡ at.place → has (set_at new k) place ≡ is
  there k place same as_well =
      ap (λ s. has s place) (here k same) ∙ ap (has (slice_set (set_at mid at.table) at.place is)) as_well ∙ get_or-set_same (set_at mid at.table) at.place is false in_set

  beside : (k place : ℕ) → (k ≢ at.table) ⊎ (place ≢ at.place) → has (set_at new k) place ≡ has (set_at mid k) place
  beside k place (inl other) = ap (λ s. has s place) (elsewhere k other)
  beside k place (inr other) = elim (cases_eq k at.table) [
    | inl same ↦ ap (λ s. has s place) (here k same) ∙ get_or-set_other (set_at mid at.table) at.place place is false other ∙ ap (λ j. has (set_at mid j) place) (sym same)
    | inr away ↦ ap (λ s. has s place) (elsewhere k away)
  ]

  marks : (k : ℕ) → has (bits_of mid.touched) k ≡ true → has (bits_of new.touched) k ≡ true
  marks k was = elim (cases_eq k at.table) [
    | inl same ↦ mark k same
    | inr other ↦ ap (λ s. has s k) touched ∙ get_or-set_other (bits_of mid.touched) at.table k true false other ∙ was
  ]
    where
      mark : (k : ℕ) → k ≡ at.table → has (bits_of new.touched) k ≡ true
      mark k same = ap (λ s. has s k) touched ∙ ap (has (slice_set (bits_of mid.touched) at.table true)) same ∙ get_or-set_same (bits_of mid.touched) at.table true false in_touched

  marked-here : (k : ℕ) → k ≡ at.table → has (bits_of new.touched) k ≡ true
  marked-here k same = ap (λ s. has s k) touched ∙ ap (has (slice_set (bits_of mid.touched) at.table true)) same ∙ get_or-set_same (bits_of mid.touched) at.table true false in_touched

  pub followed-more : AreFollowed tables number is done old mid → AreFollowed tables number is (done ++ at ∷ []) old new
  followed-more before = record {
    state = state ∙ before.state;
    long = sym (length-map new.sets.items bits_of) ∙ ap length sets ∙ length-set (map bits_of mid.sets.items) at.table (slice_set (set_at mid at.table) at.place is) ∙ length-map mid.sets.items bits_of ∙ before.long;
    touched = ap length touched ∙ length-set (bits_of mid.touched) at.table true ∙ before.touched;
    wide = λ k. elim (cases_eq k at.table) [
      | inl same ↦ ap length (here k same) ∙ length-set (set_at mid at.table) at.place is ∙ ap (λ j. length (set_at mid j)) (sym same) ∙ before.wide k
      | inr other ↦ ap length (elsewhere k other) ∙ before.wide k
    ];
    put = λ k place listed.
        let either = sym (listed-more done at k place) ∙ listed in
        elim (cases_eq k at.table) [
          | inl same ↦ elim (cases_eq place at.place) [
            | inl as_well ↦ there k place same as_well
            | inr other ↦ beside k place (inr other) ∙ before.put k place (first-else-too (is_listed done k place) (at.table == k) (at.place == place) either (ne_eqb at.place place (λ e. other (sym e))))
          ]
          | inr other ↦ beside k place (inl other) ∙ before.put k place (first-else (is_listed done k place) (at.table == k) (at.place == place) either (ne_eqb at.table k (λ e. other (sym e))))
        ];
    others = λ k place none. elim (cases_eq k at.table) [
      | inl same ↦ elim (cases_eq place at.place) [
        | inl as_well ↦ absurd (true≢false (sym placed ∙ (λ i. is_placed (scopes_of tables) number (sym same i) (sym as_well i)) ∙ none))
        | inr other ↦ beside k place (inr other) ∙ before.others k place none
      ]
      | inr other ↦ beside k place (inl other) ∙ before.others k place none
    ];
    marked = λ k place listed.
        let either = sym (listed-more done at k place) ∙ listed in
        elim (cases_eq k at.table) [
          | inl same ↦ marked-here k same
          | inr other ↦ marks k (before.marked k place (first-else (is_listed done k place) (at.table == k) (at.place == place) either (ne_eqb at.table k (λ e. other (sym e)))))
        ];
    kept = λ k was. marks k (before.kept k was);
  }

among-place : (scope : List ℕ) (n : ℕ) → is_among scope n ≡ true → (place : ℕ) × (slice_get scope place ≡ Some n)
among-place [] n at = absurd (true≢false (sym at))
among-place (m ∷ scope) n at = elim (cases_eq m n) [
  | inl same ↦ (zero, ap Some same)
  | inr other ↦
      let later = among-place scope n (ap (λ b. b || is_among scope n) (sym (ne_eqb m n other)) ∙ at) in
      (suc later.0, later.1)
]

module _ (tables : List Table) (number : ℕ) (is : Bool) (l : ScopePlaces) (old : Projections) (state : Packed) (new : Projections) (are : AreScopePlaces (scopes_of tables) l) (within : number < length (bits_of old.state))
    (before : AreProjections tables old) (set : bits_of state ≡ slice_set (bits_of old.state) number is) (followed : AreFollowed tables number is (places_of l number) (with-state old state) new) where
  other-bit : (n : ℕ) → n ≢ number → has (bits_of new.state) n ≡ has (bits_of old.state) n
  other-bit n other = ap (λ s. has s n) (followed.state ∙ set) ∙ get_or-set_other (bits_of old.state) number n is false other

  pub followed-all : AreProjections tables new
  followed-all = record {
    long = followed.long ∙ before.long;
    touched = followed.touched ∙ before.touched;
    wide = λ k t at. followed.wide k ∙ before.wide k t at;
    each = λ k place n t at there.
        let placed = placed-at tables number k place n t at there in
        elim (cases_eq n number) [
          | inl same ↦
              followed.put k place (are.are number k place ∙ placed ∙ eq-eqb n number same)
              ∙ sym (ap (λ s. has s n) (followed.state ∙ set) ∙ ap (has (slice_set (bits_of old.state) number is)) same ∙ get_or-set_same (bits_of old.state) number is false within)
          | inr other ↦ followed.others k place (placed ∙ ne_eqb n number other) ∙ before.each k place n t at there ∙ sym (other-bit n other)
        ];
  }

  pub followed-moved : AreMoved tables old new
  followed-moved = record {
    kept = followed.kept;
    alike = λ k t at untouched.
        ap (row_of t) (projection-alike (bits_of old.state) (bits_of new.state) t.scope (λ n among.
        let there = among-place t.scope n among in
        elim (cases_eq n number) [
          | inl same ↦ absurd (true≢false (sym (followed.marked k there.0 (are.are number k there.0 ∙ placed-at tables number k there.0 n t at there.1 ∙ eq-eqb n number same)) ∙ untouched))
          | inr other ↦ sym (other-bit n other)
        ]));
  }

pub moved-none : (tables : List Table) (p : Projections) → AreMoved tables p p
moved-none tables p = record { kept = λ k was. was; alike = λ k t at untouched. refl }

pub moved-more : (tables : List Table) (old mid new : Projections) → AreMoved tables old mid → AreMoved tables mid new → AreMoved tables old new
moved-more tables old mid new first second = record {
  kept = λ k was. second.kept k (first.kept k was);
  alike = λ k t at untouched. first.alike k t at (not-yet k untouched) ∙ second.alike k t at untouched;
}
  where
    not-yet : (k : ℕ) → has (bits_of new.touched) k ≡ false → has (bits_of mid.touched) k ≡ false
    not-yet k none = elim (has (bits_of mid.touched) k) as (λ b. has (bits_of mid.touched) k ≡ b → b ≡ false) [
      | true ↦ λ was. absurd (true≢false (sym (second.kept k was) ∙ none))
      | false ↦ λ _. refl
    ] refl

-- ---- the atoms of one word

-- those that may still differ from the state are among the bits that are left
pub record IsLeft (place rest : ℕ) (old target bits : List Bool) : Type 0 where
  pub wide : length bits ≡ length old
  pub others : (n : ℕ) → n / 64 ≢ place → has bits n ≡ has old n
  pub same : (i : ℕ) → i < 64 → bit_at rest i ≡ 0 → has bits (64 * place + i) ≡ has target (64 * place + i)
  pub within : (i : ℕ) → i < 64 → bit_at rest i ≡ 1 → 64 * place + i < length target

not-one : (b : ℕ) → b < 2 → (b == 1) ≡ false → ◌≡◌ {A = ℕ} b 0
not-one zero small none = refl
not-one (suc zero) small none = absurd (true≢false none)
not-one (suc (suc b)) small none = absurd (omega (arith, small))

pub left-begun : (place : ℕ) (was is : List ℕ) (old target : List Bool) → length old ≡ length target → AreWordsOf (length old) was → bits_in (length old) was ≡ old → AreWordsOf (length target) is → bits_in (length target) is ≡ target
    → IsLeft place (bit_xor (get_or was place 0) (get_or is place 0)) old target old
left-begun place was is old target long was_words was_bits is_words is_bits = record {
  wide = refl;
  others = λ n other. refl;
  same = λ i below none.
      let both = bit_at_xor (get_or was place 0) (get_or is place 0) i in
      let one = bit_at-lt (get_or was place 0) i in
      let two = bit_at-lt (get_or is place 0) i in
      let equal : ◌≡◌ {A = ℕ} (bit_at (get_or was place 0) i) (bit_at (get_or is place 0) i) = omega (arith, both, none, one, two) in
      before i below ∙ ap (λ (b : ℕ). b == 1) equal ∙ sym (after i below);
  within = λ i below some. elim (cases_lt (64 * place + i) (length target)) [
    | inl inside ↦ inside
    | inr past ↦
        let both = bit_at_xor (get_or was place 0) (get_or is place 0) i in
        let one = not-one (bit_at (get_or was place 0) i) (bit_at-lt (get_or was place 0) i) (sym (before i below) ∙ get_or_past old (64 * place + i) false (omega (arith, past, long))) in
        let two = not-one (bit_at (get_or is place 0) i) (bit_at-lt (get_or is place 0) i) (sym (after i below) ∙ get_or_past target (64 * place + i) false past) in
        absurd (omega (arith, both, some, one, two))
  ];
}
  where
    before : (i : ℕ) → i < 64 → has old (64 * place + i) ≡ (bit_at (get_or was place 0) i == 1)
    before i below = ap (λ s. has s (64 * place + i)) (sym was_bits) ∙ bit_of (length old) was was_words (64 * place + i) ∙ in_word was place i below

    after : (i : ℕ) → i < 64 → has target (64 * place + i) ≡ (bit_at (get_or is place 0) i == 1)
    after i below = ap (λ s. has s (64 * place + i)) (sym is_bits) ∙ bit_of (length target) is is_words (64 * place + i) ∙ in_word is place i below

module _ (place rest number : ℕ) (old target bits new : List Bool) (some : 0 < rest) (small : rest < 2 ^ 64) (long : length old ≡ length target) (named : number ≡ 64 * place + trailing_zeros w64 rest)
    (set : new ≡ slice_set bits number (has target number)) (before : IsLeft place rest old target bits) where
  lowest : (trailing_zeros w64 rest < 64) × ◌≡◌ {A = ℕ} (bit_at rest (trailing_zeros w64 rest)) 1
  lowest = let it = bit_at-trailing_zeros w64 rest some small in (it.0, it.1)

  pub number-within : number < length target
  number-within = let inside = before.within (trailing_zeros w64 rest) lowest.0 lowest.1 in omega (arith, inside, named)

  pub left-more : IsLeft place (without_lowest rest) old target new
  left-more = record {
    wide = ap length set ∙ length-set bits number (has target number) ∙ before.wide;
    others = λ n other.
        let low = lowest.0 in
        ap (λ s. has s n) set ∙ get_or-set_other bits number n (has target number) false (λ same. other (omega (arith, same, named, low))) ∙ before.others n other;
    same = λ i below none. elim (cases_eq (64 * place + i) number) [
      | inl same ↦
          ap (λ s. has s (64 * place + i)) set ∙ ap (has (slice_set bits number (has target number))) same
          ∙ get_or-set_same bits number (has target number) false (omega (arith, number-within, before.wide, long)) ∙ ap (has target) (sym same)
      | inr other ↦
          ap (λ s. has s (64 * place + i)) set ∙ get_or-set_other bits number (64 * place + i) (has target number) false other
          ∙ before.same i below (sym (bit_at_clear_other w64 rest (trailing_zeros w64 rest) lowest.0 i below (λ e. other (omega (arith, e, named)))) ∙ none)
    ];
    within = λ i below is. elim (cases_eq i (trailing_zeros w64 rest)) [
      | inl same ↦
          let gone : ◌≡◌ {A = ℕ} (bit_at (without_lowest rest) i) 0 = ap (bit_at (without_lowest rest)) same ∙ bit_at_clear_same w64 rest (trailing_zeros w64 rest) lowest.0 in
          absurd (omega (arith, gone, is))
      | inr other ↦ before.within i below (sym (bit_at_clear_other w64 rest (trailing_zeros w64 rest) lowest.0 i below other) ∙ is)
    ];
  }

pub left-none : (place rest : ℕ) (old target bits : List Bool) → rest ≡ 0 → IsLeft place rest old target bits → (n : ℕ) → n / 64 ≡ place → has bits n ≡ has target n
left-none place rest old target bits none left n here =
    let is : 64 * place + n % 64 ≡ n = omega (arith, here) in
    subst (λ k. has bits k ≡ has target k) is (left.same (n % 64) (omega arith) (ap (λ r. bit_at r (n % 64)) none ∙ bit_at-zero (n % 64)))

-- ---- all words

pub words-more : (place : ℕ) (old new target : List Bool) → ((n : ℕ) → n / 64 ≡ place → has new n ≡ has target n) → ((n : ℕ) → n / 64 ≢ place → has new n ≡ has old n)
    → ((n : ℕ) → n < 64 * place → has old n ≡ has target n) → (n : ℕ) → n < 64 * (place + 1) → has new n ≡ has target n
words-more place old new target here others before n below = elim (cases_eq (n / 64) place) [
  | inl same ↦ here n same
  | inr other ↦ others n other ∙ before n (omega (arith, below, other))
]

pub words-all : (count : ℕ) (bits target : List Bool) → length bits ≡ length target → length target ≤ 64 * count → ((n : ℕ) → n < 64 * count → has bits n ≡ has target n) → bits ≡ target
words-all count bits target long all each = ext_get_or false bits target long (λ n below. each n (omega (arith, below, all, long)))

-- ---- the row

projected : (bits : List Bool) (scope : List ℕ) → atoms_at scope (map (has bits) scope) ≡ projection bits scope
projected bits [] = refl
projected bits (n ∷ scope) = let rest = projected bits scope in (λ i. if has bits n then n ∷ rest i else rest i)

same-set : (bits : List Bool) (scope : List ℕ) (set : List Bool) → length set ≡ length scope → ((place n : ℕ) → slice_get scope place ≡ Some n → has set place ≡ has bits n) → set ≡ map (has bits) scope
same-set bits [] [] long each = refl
same-set bits [] (b ∷ set) long each = absurd (omega (arith, long))
same-set bits (n ∷ scope) [] long each = absurd (omega (arith, long))
same-set bits (n ∷ scope) (b ∷ set) long each =
    let first : b ≡ has bits n = each zero n refl in
    let rest = same-set bits scope set (omega (arith, long)) (λ place m at. each (suc place) m at) in
    (λ i. first i ∷ rest i)

-- where a look-up of its set finds it
pub found-row : (tables : List Table) (p : Projections) (k : ℕ) (t : Table) (set : List Bool) → AreProjections tables p → slice_get tables k ≡ Some t → set ≡ set_at p k → (o : Option ℕ) → IfSome o (λ place. place < length t.rows)
    → MatchOption o (row_of t (atoms_at t.scope set) ≡ None) (λ place. slice_get t.rows place ≡ row_of t (atoms_at t.scope set)) → IsPlaceOfRow t (bits_of p.state) o
found-row tables p k t set are at is o within found =
    stated o within found
  where
    row : row_of t (atoms_at t.scope set) ≡ row_in (bits_of p.state) t
    row =
        let same = same-set (bits_of p.state) t.scope (set_at p k) (are.wide k t at) (λ place n there. are.each k place n t at there) in
        ap (row_of t) (ap (atoms_at t.scope) (is ∙ same) ∙ projected (bits_of p.state) t.scope)

    stated : (o : Option ℕ) → IfSome o (λ place. place < length t.rows) → MatchOption o (row_of t (atoms_at t.scope set) ≡ None) (λ place. slice_get t.rows place ≡ row_of t (atoms_at t.scope set)) → IsPlaceOfRow t (bits_of p.state) o
    stated None within found = sym row ∙ found
    stated (Some place) within found = (within, found ∙ row)

-- ---- what is read

pub set-read : (sets : List Packed) (k : ℕ) (set : Packed) → slice_get sets k ≡ Some set → get_or (map bits_of sets) k [] ≡ bits_of set
set-read sets k set at = get_or_from_slice_get (map bits_of sets) k (bits_of set) [] (mapped-at bits_of sets k set at)

pub listed-at : (list : List ScopePlace) (i : ℕ) (d : ScopePlace) → i < length list → is_listed list (get_or list i d).table (get_or list i d).place ≡ true
listed-at [] i d below = absurd (omega (arith, below))
listed-at (p ∷ list) zero d below = or_left (p.table == p.table && p.place == p.place) (is_listed list p.table p.place) (and_from (p.table == p.table) (p.place == p.place) (eq-eqb p.table p.table refl) (eq-eqb p.place p.place refl))
listed-at (p ∷ list) (suc i) d below =
    or_right (p.table == (get_or list i d).table && p.place == (get_or list i d).place) (is_listed list (get_or list i d).table (get_or list i d).place) (listed-at list i d (omega (arith, below)))

pub place-fits : (tables : List Table) (number : ℕ) (is : Bool) (done : List ScopePlace) (at : ScopePlace) (l : ScopePlaces) (old : Projections) (state : Packed) (mid : Projections) → AreScopePlaces (scopes_of tables) l
    → is_listed (places_of l number) at.table at.place ≡ true → AreProjections tables old → AreFollowed tables number is done (with-state old state) mid
    → (at.table < length mid.sets.items) × (at.place < length (set_at mid at.table)) × (at.table < length (bits_of mid.touched)) × (is_placed (scopes_of tables) number at.table at.place ≡ true)
place-fits tables number is done at l old state mid are listed before followed =
    let it = listed-there tables l number at.table at.place are listed in
    let table = slice_get_within tables at.table it.0 it.1.0 in
    let place = slice_get_within it.0.scope at.place number it.1.1 in
    (omega (arith, table, followed.long, before.long), omega (arith, place, followed.wide at.table, before.wide at.table it.0 it.1.0), omega (arith, table, followed.touched, before.touched), sym (are.are number at.table at.place) ∙ listed)

-- ---- no atom is true

none-in : (width k : ℕ) → has (set_of width []) k ≡ false
none-in width k = elim (cases_lt k width) [
  | inl within ↦ get_or-map-range_with_len (λ number. list_any (λ n. n == number) []) 0 width k k false within (omega arith)
  | inr past ↦ get_or_past (set_of width []) k false (omega (arith, past, length-set_of width []))
]

pub empty-projections : (tables : List Table) (p : Projections) (width : ℕ) → map bits_of p.sets.items ≡ map (λ (t : Table). set_of (length t.scope) []) tables → bits_of p.state ≡ set_of width []
    → length (bits_of p.touched) ≡ length tables → AreProjections tables p
empty-projections tables p width sets state touched = record {
  long = sym (length-map p.sets.items bits_of) ∙ ap length sets ∙ length-map tables (λ (t : Table). set_of (length t.scope) []);
  touched = touched;
  wide = λ k t at. ap length (read k t at) ∙ length-set_of (length t.scope) [];
  each = λ k place number t at there. ap (λ s. has s place) (read k t at) ∙ none-in (length t.scope) place ∙ sym (ap (λ s. has s number) state ∙ none-in width number);
}
  where
    read : (k : ℕ) (t : Table) → slice_get tables k ≡ Some t → set_at p k ≡ set_of (length t.scope) []
    read k t at =
        ap (λ l. get_or l k []) sets
        ∙ get_or_from_slice_get (map (λ (u : Table). set_of (length u.scope) []) tables) k (set_of (length t.scope) []) [] (mapped-at (λ (u : Table). set_of (length u.scope) []) tables k t at)
