-- Open tables: a number is met from where its key begins, before any free slot is.
use Rattle.std.proofs.Common.{◌≡◌, ℕ, zero, suc, ◌+◌, ◌-◌, ◌^◌, ◌<◌, ◌≤◌, List, [], ◌∷◌, length, get_or, set, refl, sym, ap, ◌∙◌, subst, inl, inr, arith}
use Rattle.std.specs.Prelude.{bit_and, replicate}
use Rattle.std.proofs.lemmas.Bool.{cases_eq, cases_lt, cases_order, cond-true, cond-false, lt-ltb, le-ltb}
use Rattle.std.proofs.lemmas.List.{length-set, length-replicate, get_or-set_same, get_or-set_other}
use Rattle.std.proofs.lemmas.Nat.{and_le_r}
use Rattle.packed_state.specs.Table.{slot_at, tag_of, entry_of, number_of, tag_in, free_in, IsFirstFree, IsMet, IsTable}

-- ---- entries

pub entry_taken : (key n : ℕ) → entry_of key n ≡ 0 → ⊥
unfolding entry_of
entry_taken key n is = absurd (omega arith)

pub number_of_entry : (key n : ℕ) → n < 2 ^ 24 → number_of (entry_of key n) ≡ n
unfolding entry_of number_of
number_of_entry key n small = omega arith

pub tag_in_entry : (key n : ℕ) → n < 2 ^ 24 → tag_in (entry_of key n) ≡ tag_of key
unfolding entry_of tag_in
tag_in_entry key n small = omega arith

-- ---- free slots

none_free : (entries : List ℕ) → ((slot : ℕ) → slot < length entries → get_or entries slot 0 ≡ 0 → ⊥) → free_in entries ≡ 0
unfolding free_in
none_free [] taken = refl
none_free (zero ∷ entries) taken = absurd (taken 0 (omega arith) refl)
none_free (suc entry ∷ entries) taken = none_free entries (λ slot within. taken (suc slot) (omega arith))

one_less : (entries : List ℕ) (slot entry : ℕ) → slot < length entries → get_or entries slot 0 ≡ 0 → (entry ≡ 0 → ⊥) → free_in (set entries slot entry) + 1 ≡ free_in entries
unfolding free_in
one_less [] slot entry within free taken = absurd (omega arith)
one_less (x ∷ entries) zero zero within free taken = absurd (taken refl)
one_less (zero ∷ entries) zero (suc entry) within free taken = omega arith
one_less (suc x ∷ entries) zero (suc entry) within free taken = absurd (omega arith)
one_less (zero ∷ entries) (suc slot) entry within free taken =
    let less : free_in (set entries slot entry) + 1 ≡ free_in entries = one_less entries slot entry (omega arith) free taken in
    omega arith
one_less (suc x ∷ entries) (suc slot) entry within free taken = one_less entries slot entry (omega arith) free taken

all_free : (slots : ℕ) → free_in (replicate slots 0) ≡ slots
unfolding free_in
all_free zero = refl
all_free (suc slots) = ap suc (all_free slots)

no_entry : (slots slot : ℕ) → get_or {A = ℕ} (replicate slots 0) slot 0 ≡ 0
no_entry zero slot = refl
no_entry (suc slots) zero = refl
no_entry (suc slots) (suc slot) = no_entry slots slot

-- ---- slots

pub slot_before : (slots key step : ℕ) → bit_and key (slots - 1) + step < slots → slot_at slots key step ≡ bit_and key (slots - 1) + step
unfolding slot_at
slot_before slots key step before = cond-true _ _ _ (lt-ltb _ _ before)

pub slot_round : (slots key step : ℕ) → slots ≤ bit_and key (slots - 1) + step → slot_at slots key step ≡ bit_and key (slots - 1) + step - slots
unfolding slot_at
slot_round slots key step round = cond-false _ _ _ (le-ltb _ _ round)

-- the same by the length of the table, as the code has it
pub slot_before_as : (slots len key step : ℕ) → len ≡ slots → bit_and key (len - 1) + step < len → bit_and key (len - 1) + step ≡ slot_at slots key step
slot_before_as slots len key step same before =
    let P : ℕ → Type 0 = λ n. bit_and key (n - 1) + step < n in
    ap (λ n. bit_and key (n - 1) + step) same ∙ sym (slot_before slots key step (subst P same before))

pub slot_round_as : (slots len key step : ℕ) → len ≡ slots → len ≤ bit_and key (len - 1) + step → bit_and key (len - 1) + step - len ≡ slot_at slots key step
slot_round_as slots len key step same round =
    let P : ℕ → Type 0 = λ n. n ≤ bit_and key (n - 1) + step in
    ap (λ n. bit_and key (n - 1) + step - n) same ∙ sym (slot_round slots key step (subst P same round))

pub slot_within : (slots key step : ℕ) → step < slots → slot_at slots key step < slots
slot_within slots key step within =
    elim (cases_lt (bit_and key (slots - 1) + step) slots) [
      | inl before ↦ omega (arith, slot_before slots key step before)
      | inr round ↦ omega (arith, slot_round slots key step round, and_le_r key (slots - 1))
    ]

-- each slot is come to
slot_met : (slots key slot : ℕ) → slot < slots → (step : ℕ) × ((step < slots) × (slot_at slots key step ≡ slot))
slot_met slots key slot within =
    let start : ℕ = bit_and key (slots - 1) in
    let inside : start ≤ slots - 1 = and_le_r key (slots - 1) in
    elim (cases_lt slot start) [
      | inl before ↦ (slot + slots - start, (omega arith, slot_round slots key (slot + slots - start) (omega arith) ∙ omega arith))
      | inr needed ↦ (slot - start, (omega arith, slot_before slots key (slot - start) (omega arith) ∙ omega arith))
    ]

some_free : (entries : List ℕ) (key : ℕ) → 0 < free_in entries
    → ((step : ℕ) → step < length entries → get_or entries (slot_at (length entries) key step) 0 ≡ 0 → ⊥) → ⊥
some_free entries key some taken =
    let none : free_in entries ≡ 0 =
    none_free entries
    (λ slot within free. let at = slot_met (length entries) key slot within in taken at.0 at.1.0 (ap (λ k. get_or entries k 0) at.1.1 ∙ free)) in
    absurd (omega arith)

pub some_slots : (entries : List ℕ) → 0 < free_in entries → 0 < length entries
unfolding free_in
some_slots [] some = absurd (omega arith)
some_slots (entry ∷ entries) some = omega arith

-- where a slot is free, the last step is not the first that comes to one
pub further : (entries : List ℕ) (key step : ℕ) → 0 < free_in entries → step < length entries
    → ((earlier : ℕ) → earlier < step → get_or entries (slot_at (length entries) key earlier) 0 ≡ 0 → ⊥)
    → (get_or entries (slot_at (length entries) key step) 0 ≡ 0 → ⊥)
    → (step + 1 < length entries) × ((earlier : ℕ) → earlier < step + 1 → get_or entries (slot_at (length entries) key earlier) 0 ≡ 0 → ⊥)
further entries key step some within taken here =
    let all : (earlier : ℕ) → earlier < step + 1 → get_or entries (slot_at (length entries) key earlier) 0 ≡ 0 → ⊥ =
    λ earlier before.
    elim (cases_lt earlier step) [
      | inl sooner ↦ taken earlier sooner
      | inr last ↦ let same : step ≡ earlier = omega arith in
          let P : ℕ → Type 0 = λ e. get_or entries (slot_at (length entries) key e) 0 ≡ 0 → ⊥ in
          subst P same here
    ] in
    elim (cases_lt (step + 1) (length entries)) [
      | inl more ↦ (more, all)
      | inr end ↦ absurd (some_free entries key some (λ earlier below. all earlier (omega arith)))
    ]

-- ---- tables

pub has_free : (key : ℕ → ℕ) (count : ℕ) (entries : List ℕ) → IsTable key count entries → 0 < free_in entries
has_free key count entries table = omega (arith, table.free, table.room)

pub empty_table : (key : ℕ → ℕ) (slots : ℕ) (entries : List ℕ) → 0 < slots → slots ≤ 67108864 → entries ≡ replicate slots 0 → IsTable key 0 entries
empty_table key slots entries some few are =
    let long : length (replicate {A = ℕ} slots 0) ≡ slots = length-replicate slots 0 in
    let P : List ℕ → Type 0 = IsTable key 0 in
    subst P (sym are)
    record {
      few = omega (arith, long);
      room = omega (arith, long);
      free = omega (arith, long, all_free slots);
      within = λ slot taken. absurd (taken (no_entry slots slot));
      met = λ n below. absurd (omega arith);
    }

pub entry_within : (key : ℕ → ℕ) (count : ℕ) (entries : List ℕ) (slot entry : ℕ) → IsTable key count entries → entry ≡ get_or entries slot 0 → (entry ≡ 0 → ⊥)
    → number_of entry < count
entry_within key count entries slot entry table read taken =
    let within : number_of (get_or entries slot 0) < count = table.within slot (λ free. taken (read ∙ free)) in
    omega (arith, ap number_of read)

pub same_table : (key key' : ℕ → ℕ) (count : ℕ) (entries : List ℕ) → ((n : ℕ) → n < count → key n ≡ key' n) → IsTable key count entries → IsTable key' count entries
same_table key key' count entries same table =
    record {
      few = table.few;
      room = table.room;
      free = table.free;
      within = table.within;
      met = λ n below. let P : ℕ → Type 0 = λ k. IsMet (length entries) k (entry_of k n) entries in subst P (same n below) (table.met n below);
    }

met_kept : (slots key met_entry : ℕ) (entries : List ℕ) (slot entry : ℕ) → slot < length entries → get_or entries slot 0 ≡ 0 → (entry ≡ 0 → ⊥) → (met_entry ≡ 0 → ⊥)
    → IsMet slots key met_entry entries → IsMet slots key met_entry (set entries slot entry)
met_kept slots key met_entry entries slot entry inside free taken met_taken met step within is_free other =
    let at : ℕ → ℕ = slot_at slots key in
    let apart : at step ≡ slot → ⊥ =
    λ same. taken (sym (get_or-set_same entries slot entry 0 inside) ∙ ap (λ k. get_or (set entries slot entry) k 0) (sym same) ∙ is_free) in
    met step within (sym (get_or-set_other entries slot (at step) entry 0 apart) ∙ is_free)
    (λ earlier before is.
    other earlier before
    (get_or-set_other entries slot (at earlier) entry 0 (λ same. met_taken (sym is ∙ ap (λ k. get_or entries k 0) same ∙ free)) ∙ is))

met_new : (entries : List ℕ) (key entry slot : ℕ) → IsFirstFree entries key slot → slot < length entries → (entry ≡ 0 → ⊥)
    → IsMet (length entries) key entry (set entries slot entry)
met_new entries key entry slot first inside taken step within is_free other =
    let at : ℕ → ℕ = slot_at (length entries) key in
    let apart : at step ≡ slot → ⊥ =
    λ same. taken (sym (get_or-set_same entries slot entry 0 inside) ∙ ap (λ k. get_or (set entries slot entry) k 0) (sym same) ∙ is_free) in
    elim (cases_order step first.step) [
      | inl same ↦ apart (ap at same ∙ sym first.is)
      | inr (inl before) ↦ first.taken step before (sym (get_or-set_other entries slot (at step) entry 0 apart) ∙ is_free)
      | inr (inr needed) ↦ other first.step needed (ap (λ k. get_or (set entries slot entry) k 0) (sym first.is) ∙ get_or-set_same entries slot entry 0 inside)
    ]

pub first_within : (entries : List ℕ) (key slot : ℕ) → IsFirstFree entries key slot → slot < length entries
first_within entries key slot first = omega (arith, first.is, slot_within (length entries) key first.step first.within)

more_within : (key count slot : ℕ) (entries : List ℕ) → count < 2 ^ 24 → slot < length entries
    → ((s : ℕ) → (get_or entries s 0 ≡ 0 → ⊥) → number_of (get_or entries s 0) < count)
    → (s : ℕ) → (get_or (set entries slot (entry_of key count)) s 0 ≡ 0 → ⊥) → number_of (get_or (set entries slot (entry_of key count)) s 0) < count + 1
more_within key count slot entries small inside within s taken =
    let entry : ℕ = entry_of key count in
    elim (cases_eq s slot) [
      | inl same ↦
          let is : number_of (get_or (set entries slot entry) s 0) ≡ count =
          ap number_of (ap (λ k. get_or (set entries slot entry) k 0) same ∙ get_or-set_same entries slot entry 0 inside) ∙ number_of_entry key count small in
          omega arith
      | inr other ↦
          let is : get_or (set entries slot entry) s 0 ≡ get_or entries s 0 = get_or-set_other entries slot s entry 0 other in
          let below : number_of (get_or entries s 0) < count = within s (λ free. taken (is ∙ free)) in
          omega (arith, ap number_of is)
    ]

pub more_table : (key : ℕ → ℕ) (count slot : ℕ) (entries : List ℕ) → count < 2 ^ 24 → IsTable key count entries → IsFirstFree entries (key count) slot
    → count + 1 < length entries → IsTable key (count + 1) (set entries slot (entry_of (key count) count))
more_table key count slot entries small table first room =
    let entry : ℕ = entry_of (key count) count in
    let inside : slot < length entries = first_within entries (key count) slot first in
    let long : length (set entries slot entry) ≡ length entries = length-set entries slot entry in
    record {
      few = omega (arith, table.few);
      room = omega arith;
      free = omega (arith, table.free, one_less entries slot entry inside first.free (entry_taken (key count) count));
      within = more_within (key count) count slot entries small inside table.within;
      met = λ n below.
          let P : ℕ → Type 0 = λ slots. IsMet slots (key n) (entry_of (key n) n) (set entries slot entry) in
          subst P (sym long) (
          elim (cases_lt n count) [
            | inl before ↦
                met_kept (length entries) (key n) (entry_of (key n) n) entries slot entry inside first.free (entry_taken (key count) count) (entry_taken (key n) n) (table.met n before)
            | inr last ↦
                let same : count ≡ n = omega arith in
                let Q : ℕ → Type 0 = λ m. IsMet (length entries) (key m) (entry_of (key m) m) (set entries slot entry) in
                subst Q same (met_new entries (key count) entry slot first inside (entry_taken (key count) count))
          ]
          );
    }

pub more_table_is : (key : ℕ → ℕ) (count slot : ℕ) (entries entries' : List ℕ) (count' : ℕ) → count < 2 ^ 24 → IsTable key count entries → IsFirstFree entries (key count) slot
    → count + 1 < length entries → entries' ≡ set entries slot (entry_of (key count) count) → count' ≡ count + 1 → IsTable key count' entries'
more_table_is key count slot entries entries' count' small table first room are is =
    let P : List ℕ → Type 0 = IsTable key (count + 1) in
    let Q : ℕ → Type 0 = λ n. IsTable key n entries' in
    subst Q (sym is) (subst P (sym are) (more_table key count slot entries small table first room))
