-- A word as a room, and the doors of a room as actions.
use Rattle.std.proofs.Common.{◌≡◌, ◌<◌, ◌^◌, ℕ, zero, suc, Bool, true, false, List, [], ◌∷◌, length, None, Some, if◌then◌else◌, is_some, refl, sym, subst, arith}
use Rattle.std.specs.Prelude.{IsTrue, slice_index}
use Rattle.std.specs.List.{filter, range_with_len}
use Rattle.model.proofs.ListLemmas.{Contains-filter, Contains-range, filter-Contains}
use Rattle.packed_state.specs.Sets.{has}
use Rattle.packed_state.specs.Words.{AreWordsOf}
use Rattle.packed_state.proofs.WordLemmas.{past_words}
use Rattle.search.specs.Transitions.{AreApplicable}
use Rattle.search_tests.specs.declared.rooms.Door.{Door}
use Rattle.search_tests.specs.Rooms.{behind, room, rooms}

small_at : (word place : ℕ) → word < 2 ^ 64 → slice_index (word ∷ []) place < 2 ^ 64
small_at word zero small = small
small_at word (suc place) small = omega arith

pub one_word : (word : ℕ) → word < 2 ^ 64 → AreWordsOf 64 (word ∷ [])
one_word word small = record {
  enough = omega arith;
  no_more = omega arith;
  small = λ place. small_at word place small;
  rest = λ number past. past_words (word ∷ []) number (omega arith);
}

within : (s : List Bool) (k : ℕ) → has s k ≡ true → k < length s
within [] k is = absurd (cc)
within (b ∷ s) zero is = omega arith
within (b ∷ s) (suc k) is = omega (arith, within s k is)

there : {S : Type 0} (b : Bool) (s : S) → IsTrue (is_some (if b then Some s else None)) → b ≡ true
there true s is = refl
there false s is = absurd (cc)

-- a door that is there leads to what is behind it
pub leads : {S : Type 0} (b : Bool) (s : S) → IsTrue (is_some (if b then Some s else None)) → (if b then Some s else None) ≡ Some s
leads true s is = refl
leads false s is = absurd (cc)

-- the doors that a room has are the actions that are applicable
pub are_doors : (first : ℕ) (doors : List Door) (s : List Bool) → AreApplicable (rooms first doors) s (filter (has s) (range_with_len 0 (length s)))
are_doors first doors s door = (
  λ among. subst (λ b. IsTrue (is_some (if b then Some (room (behind first doors door)) else None))) (sym (filter-Contains (has s) (range_with_len 0 (length s)) door among).1) refl,
  λ is.
      let has_it = there (has s door) (room (behind first doors door)) is in
      Contains-filter (has s) (range_with_len 0 (length s)) door (Contains-range 0 (length s) door (omega arith) (omega (arith, within s door has_it))) has_it,
)
