-- A walk over the slots that a key leads to.
use Rattle.std.proofs.Common.{◌≡◌, ℕ, ◌+◌, ◌^◌, ◌<◌, List, length, get_or, sym, ap, subst, ◌∙◌, inl, inr, Some, arith}
use Rattle.std.specs.Prelude.{slice_get, Contains}
use Rattle.std.proofs.lemmas.Bool.{cases_lt}
use Rattle.packed_state.specs.Pool.{row_at, rows_in, key_of, AreLinked}
use Rattle.packed_state.specs.Table.{slot_at, entry_of, number_of, tag_in, tag_of, IsFirstFree, IsMet}
use Rattle.packed_state.proofs.StoreLemmas.{place_of}
use Rattle.packed_state.proofs.TableLemmas.{number_of_entry, tag_in_entry, has_free, further}
use Rattle.packed_state.proofs.PoolLemmas.{row_of, row_in}

-- before this step from where the key begins, no slot is free, and none has a state with the words
pub record IsSearch (stride : ℕ) (pool entries words : List ℕ) (key step : ℕ) : Type 0 where
  pub within : step < length entries
  pub taken : (earlier : ℕ) → earlier < step → get_or entries (slot_at (length entries) key earlier) 0 ≡ 0 → ⊥
  pub other : (earlier n : ℕ) → n < 16777216 → earlier < step → get_or entries (slot_at (length entries) key earlier) 0 ≡ entry_of key n → row_at stride pool n ≡ words → ⊥

pub search_begins : (stride : ℕ) (pool : List ℕ) (count : ℕ) (entries keys words : List ℕ) (key : ℕ) → AreLinked stride pool count entries keys → IsSearch stride pool entries words key 0
search_begins stride pool count entries keys words key linked =
    record {
      within = omega (arith, linked.table.room);
      taken = λ earlier before. absurd (omega arith);
      other = λ earlier n small before. absurd (omega arith);
    }

pub search_continues : (stride : ℕ) (pool : List ℕ) (count : ℕ) (entries keys words : List ℕ) (key step slot entry : ℕ) → AreLinked stride pool count entries keys
    → IsSearch stride pool entries words key step → slot ≡ slot_at (length entries) key step → entry ≡ get_or entries slot 0 → (entry ≡ 0 → ⊥)
    → ((tag_in entry ≡ tag_of key) × (row_at stride pool (number_of entry) ≡ words) → ⊥) → IsSearch stride pool entries words key (step + 1)
search_continues stride pool count entries keys words key step slot entry linked walk at read taken unlike =
    let here : entry ≡ get_or entries (slot_at (length entries) key step) 0 = read ∙ ap (λ k. get_or entries k 0) at in
    let more = further entries key step (has_free _ count entries linked.table) walk.within walk.taken (λ free. taken (here ∙ free)) in
    record {
      within = more.0;
      taken = more.1;
      other = λ earlier n small before is same.
          elim (cases_lt earlier step) [
            | inl sooner ↦ walk.other earlier n small sooner is same
            | inr last ↦
                let this : step ≡ earlier = omega arith in
                let entry_is : entry ≡ entry_of key n = here ∙ ap (λ s. get_or entries (slot_at (length entries) key s) 0) this ∙ is in
                unlike (ap tag_in entry_is ∙ tag_in_entry key n small, ap (row_at stride pool) (ap number_of entry_is ∙ number_of_entry key n small) ∙ same)
          ];
    }

pub search_ends : (stride : ℕ) (pool : List ℕ) (count : ℕ) (entries keys words : List ℕ) (key step slot entry : ℕ) → AreLinked stride pool count entries keys
    → IsSearch stride pool entries words key step → slot ≡ slot_at (length entries) key step → entry ≡ get_or entries slot 0 → entry ≡ 0 → key ≡ key_of words
    → (Contains (rows_in stride pool count) words → ⊥) × IsFirstFree entries (key_of words) slot
search_ends stride pool count entries keys words key step slot entry linked walk at read free is =
    let P : ℕ → Type 0 = λ k. IsFirstFree entries k slot in (
      λ among.
          let place = place_of (rows_in stride pool count) words among in
          let row = row_of stride pool count place.0 words place.1 in
          let Q : ℕ → Type 0 = λ k. IsMet (length entries) k (entry_of k place.0) entries in
          let met : IsMet (length entries) key (entry_of key place.0) entries = subst Q (ap key_of row.1 ∙ sym is) (linked.table.met place.0 row.0) in
          met step walk.within (ap (λ k. get_or entries k 0) (sym at) ∙ sym read ∙ free) (λ earlier before same. walk.other earlier place.0 (omega (arith, row.0, linked.few)) before same row.1),
      subst P is (record { step = step; within = walk.within; is = at; free = sym read ∙ free; taken = walk.taken }),
    )

pub search_finds : (stride : ℕ) (pool : List ℕ) (count : ℕ) (words : List ℕ) (place : ℕ) → place < count → row_at stride pool place ≡ words
    → slice_get (rows_in stride pool count) place ≡ Some words
search_finds stride pool count words place inside same = row_in stride pool count place inside ∙ ap Some same
