-- Lists of numbers by places, as they are filled.
use Rattle.std.proofs.Common.{◌≡◌, ◌∙◌, ℕ, ◌+◌, ◌<◌, ◌≤◌, inl, inr, Bool, true, false, true≢false, ◌&&◌, ◌||◌, List, [], ◌∷◌, ◌++◌, length, take, get_or, refl, sym, ap, subst, arith}
use Rattle.std.specs.Prelude.{◌==◌, if◌then◌else◌, nat_lt, slice_get, slice_set, Some}
use Rattle.std.proofs.lemmas.Bool.{cases_eq, cases_lt, eq-eqb, eqb-true, ltb-true, lt-ltb, false_from_ne_true, or_left, or_right}
use Rattle.std.proofs.lemmas.List.{get_or_past, length-set, get_or-set_same, get_or-set_other}
use Rattle.std.proofs.lemmas.Option.{slice_get-get_or}
use Rattle.model.proofs.ListLemmas.{Contains-got}
use Rattle.packed_state.specs.Sets.{has}
use Rattle.lower_bounds.specs.TableFunctions.{is_among}
use Rattle.table_rows.specs.declared.lists.Lists.{Lists}
use Rattle.table_rows.specs.Lists.{list_at, IsFiled, IsFiledAt, IsIndexOf}
use Rattle.table_rows.proofs.FateLemmas.{take-at, among-more, Contains-among}

-- the number is filed at the places of the set that are below this one
pub record IsFiledBelow (place : ℕ) (set : List Bool) (number : ℕ) (old new : Lists) : Type 0 where
  pub width : length new.lists.items ≡ length old.lists.items
  pub lists : (k : ℕ) → list_at new k ≡ (if nat_lt k place && has set k then list_at old k ++ number ∷ [] else list_at old k)

abbrev filed_if : Bool → ℕ → List ℕ → List ℕ
filed_if b number list = if b then list ++ number ∷ [] else list

below-none : (k : ℕ) → nat_lt k 0 ≡ false
below-none k = false_from_ne_true (nat_lt k 0) (λ is. let e = ltb-true k 0 is in absurd (omega (arith, e)))

pub filed-none : (set : List Bool) (number : ℕ) (l : Lists) → IsFiledBelow 0 set number l l
filed-none set number l = record { width = refl; lists = λ k. sym (ap (λ b. filed_if (b && has set k) number (list_at l k)) (below-none k)) }

module _ (place : ℕ) (set : List Bool) (number : ℕ) (old mid new : Lists) where
  pub filed-more : IsFiledBelow place set number old mid → length new.lists.items ≡ length mid.lists.items
      → ((k : ℕ) → list_at new k ≡ (if k == place && has set place then list_at mid k ++ number ∷ [] else list_at mid k)) → IsFiledBelow (place + 1) set number old new
  filed-more so width lists = record {
    width = width ∙ so.width;
    lists = λ k. elim (cases_eq k place) [
      | inl is ↦
          let at : (k == place) ≡ true = eq-eqb k place is in
          let not_yet : nat_lt k place ≡ false = false_from_ne_true (nat_lt k place) (λ e. let below = ltb-true k place e in absurd (omega (arith, below, is))) in
          let now : nat_lt k (place + 1) ≡ true = lt-ltb k (place + 1) (omega (arith, is)) in
          lists k ∙ ap (λ b. filed_if (b && has set place) number (list_at mid k)) at ∙ ap (λ j. filed_if (has set j) number (list_at mid k)) (sym is)
          ∙ ap (filed_if (has set k) number) (so.lists k ∙ ap (λ b. filed_if (b && has set k) number (list_at old k)) not_yet)
          ∙ sym (ap (λ b. filed_if (b && has set k) number (list_at old k)) now)
      | inr other ↦
          let away : (k == place) ≡ false = false_from_ne_true (k == place) (λ e. other (eqb-true k place e)) in
          lists k ∙ ap (λ b. filed_if (b && has set place) number (list_at mid k)) away ∙ so.lists k
          ∙ ap (λ b. filed_if (b && has set k) number (list_at old k)) (same-below k other)
    ];
  }
    where
      same-below : (k : ℕ) → (k ≡ place → ⊥) → nat_lt k place ≡ nat_lt k (place + 1)
      same-below k other =
          elim (nat_lt k place) as (λ b. nat_lt k place ≡ b → b ≡ nat_lt k (place + 1)) [
            | true ↦ λ is. let e = ltb-true k place is in sym (lt-ltb k (place + 1) (omega (arith, e)))
            | false ↦ λ is. sym (false_from_ne_true (nat_lt k (place + 1)) (λ e.
                let later = ltb-true k (place + 1) e in
                elim (cases_eq k place) [
                  | inl same ↦ absurd (other same)
                  | inr differs ↦ absurd (true≢false (sym (lt-ltb k place (omega (arith, later, differs))) ∙ is))
                ]))
          ] refl

pub filed-all : (place : ℕ) (set : List Bool) (number : ℕ) (old new : Lists) → length set ≤ place → IsFiledBelow place set number old new → IsFiled set number old new
filed-all place set number old new past so = record {
  width = so.width;
  lists = λ k. so.lists k ∙ ap (λ b. filed_if b number (list_at old k)) (all k);
}
  where
    all : (k : ℕ) → (nat_lt k place && has set k) ≡ has set k
    all k = elim (nat_lt k place) as (λ b. nat_lt k place ≡ b → (b && has set k) ≡ has set k) [
      | true ↦ λ _. refl
      | false ↦ λ is. sym (get_or_past set k false (beyond is))
    ] refl
      where
        beyond : nat_lt k place ≡ false → length set ≤ k
        beyond is = elim (cases_lt k (length set)) [
          | inl before ↦ absurd (true≢false (sym (lt-ltb k place (omega (arith, before, past))) ∙ is))
          | inr past_it ↦ past_it
        ]

-- ---- an index of sets

among-append : (xs : List ℕ) (x k : ℕ) → is_among (xs ++ x ∷ []) k ≡ (is_among xs k || x == k)
among-append [] x k = or_none (x == k)
  where
    or_none : (b : Bool) → (b || false) ≡ b
    or_none true = refl
    or_none false = refl
among-append (y ∷ xs) x k = ap (λ b. y == k || b) (among-append xs x k) ∙ assoc (y == k) (is_among xs k) (x == k)
  where
    assoc : (a b c : Bool) → (a || (b || c)) ≡ ((a || b) || c)
    assoc true b c = refl
    assoc false b c = refl

pub index-none : (sets : List (List Bool)) (l : Lists) → ((place : ℕ) → list_at l place ≡ []) → IsIndexOf sets 0 l
index-none sets l empty = record {
  covers = λ place number set below. absurd (omega (arith, below));
  within = λ place number at. absurd (true≢false (sym (subst (λ list. is_among list number ≡ true) (empty place) at)));
}

-- one set more
pub index-more : (sets : List (List Bool)) (count : ℕ) (set : List Bool) (old new : Lists) → slice_get sets count ≡ Some set → IsIndexOf sets count old → IsFiled set count old new → IsIndexOf sets (count + 1) new
index-more sets count set old new at so filed = record {
  covers = λ place number other below is there. elim (cases_eq number count) [
    | inl same ↦
        let it : other ≡ set = some-same (sym is ∙ ap (slice_get sets) same ∙ at) in
        let here : has set place ≡ true = subst (λ s. has s place ≡ true) it there in
        subst (λ list. is_among list number ≡ true) (sym (filed.lists place ∙ ap (λ b. filed_if b count (list_at old place)) here))
        (among-append (list_at old place) count number ∙ or_right (is_among (list_at old place) number) (count == number) (eq-eqb count number (sym same)))
    | inr earlier ↦ kept place number (so.covers place number other (omega (arith, below, earlier)) is there)
  ];
  within = λ place number there. bound place number (subst (λ list. is_among list number ≡ true) (filed.lists place) there);
}
  where
    some-same : {x y : List Bool} → Some x ≡ Some y → x ≡ y
    some-same e = cc

    kept : (place number : ℕ) → is_among (list_at old place) number ≡ true → is_among (list_at new place) number ≡ true
    kept place number there = subst (λ list. is_among list number ≡ true) (sym (filed.lists place)) (of_bit (has set place))
      where
        of_bit : (b : Bool) → is_among (filed_if b count (list_at old place)) number ≡ true
        of_bit true = among-append (list_at old place) count number ∙ or_left (is_among (list_at old place) number) (count == number) there
        of_bit false = there

    bound : (place number : ℕ) → is_among (filed_if (has set place) count (list_at old place)) number ≡ true → number < count + 1
    bound place number there = of_bit (has set place) there
      where
        of_bit : (b : Bool) → is_among (filed_if b count (list_at old place)) number ≡ true → number < count + 1
        of_bit true at = elim (is_among (list_at old place) number) as (λ b. is_among (list_at old place) number ≡ b → (b || count == number) ≡ true → number < count + 1) [
          | true ↦ λ is _. let e = so.within place number is in omega (arith, e)
          | false ↦ λ _ is. let e = eqb-true count number is in omega (arith, e)
        ] refl (sym (among-append (list_at old place) count number) ∙ at)
        of_bit false at = let e = so.within place number at in omega (arith, e)

-- ---- at places

pub filed-at-none : (number : ℕ) (l : Lists) → IsFiledAt [] number l l
filed-at-none number l = record { width = refl; lists = λ place k. or_none (is_among (list_at l place) k) }
  where
    or_none : (b : Bool) → b ≡ (b || false)
    or_none true = refl
    or_none false = refl

-- one place more
pub filed-at-more : (places : List ℕ) (i place number : ℕ) (old mid new : Lists) → slice_get places i ≡ Some place → IsFiledAt (take i places) number old mid → length new.lists.items ≡ length mid.lists.items
    → ((k : ℕ) → list_at new k ≡ (if k == place then list_at mid k ++ number ∷ [] else list_at mid k)) → IsFiledAt (take (i + 1) places) number old new
filed-at-more places i place number old mid new at so width lists = record {
  width = width ∙ so.width;
  lists = λ p k.
      ap (λ l. is_among l k) (lists p) ∙ pushed p k ∙ ap (λ b. is_among (list_at old p) k || (b && number == k)) (sym (ap (λ l. is_among l p) (take-at places i place at) ∙ among-more (take i places) place p));
}
  where
    join : (o t n : Bool) → ((o || (t && n)) || n) ≡ (o || ((t || true) && n))
    join true t n = refl
    join false true true = refl
    join false true false = refl
    join false false n = refl

    keep : (o t n : Bool) → (o || (t && n)) ≡ (o || ((t || false) && n))
    keep o true n = refl
    keep o false n = refl

    pushed : (p k : ℕ) → is_among (if p == place then list_at mid p ++ number ∷ [] else list_at mid p) k ≡ (is_among (list_at old p) k || ((is_among (take i places) p || place == p) && number == k))
    pushed p k = elim (cases_eq p place) [
      | inl same ↦
          ap (λ b. is_among (if b then list_at mid p ++ number ∷ [] else list_at mid p) k) (eq-eqb p place same) ∙ among-more (list_at mid p) number k
          ∙ ap (λ b. b || number == k) (so.lists p k) ∙ join (is_among (list_at old p) k) (is_among (take i places) p) (number == k)
          ∙ ap (λ b. is_among (list_at old p) k || ((is_among (take i places) p || b) && number == k)) (sym (eq-eqb place p (sym same)))
      | inr other ↦
          ap (λ b. is_among (if b then list_at mid p ++ number ∷ [] else list_at mid p) k) (false_from_ne_true (p == place) (λ e. other (eqb-true p place e))) ∙ so.lists p k
          ∙ keep (is_among (list_at old p) k) (is_among (take i places) p) (number == k)
          ∙ ap (λ b. is_among (list_at old p) k || ((is_among (take i places) p || b) && number == k)) (sym (false_from_ne_true (place == p) (λ e. other (sym (eqb-true place p e)))))
    ]

-- ---- numbers put into a set

pub number-within : (numbers : List ℕ) (i : ℕ) → i < length numbers → is_among numbers (get_or numbers i 0) ≡ true
number-within numbers i below = Contains-among numbers (get_or numbers i 0) (Contains-got numbers i (get_or numbers i 0) (slice_get-get_or numbers i 0 below))

pub length-inserted : (set : List Bool) (number : ℕ) → length (slice_set set number true) ≡ length set
length-inserted set number = length-set set number true

pub inserted-kept : (old : List Bool) (number k : ℕ) → number < length old → has old k ≡ true → has (slice_set old number true) k ≡ true
inserted-kept old number k within at = elim (cases_eq k number) [
  | inl same ↦ subst (λ j. has (slice_set old number true) j ≡ true) (sym same) (get_or-set_same old number true false within)
  | inr other ↦ get_or-set_other old number k true false other ∙ at
]

pub inserted-more : (numbers : List ℕ) (i k : ℕ) (old : List Bool) → i < length numbers → get_or numbers i 0 < length old → ((j : ℕ) → is_among (take i numbers) j ≡ true → has old j ≡ true)
    → is_among (take (i + 1) numbers) k ≡ true → has (slice_set old (get_or numbers i 0) true) k ≡ true
inserted-more numbers i k old below within marked among =
    let number = get_or numbers i 0 in
    elim (is_among (take i numbers) k) as (λ b. is_among (take i numbers) k ≡ b → (b || number == k) ≡ true → has (slice_set old number true) k ≡ true) [
      | true ↦ λ earlier _. inserted-kept old number k within (marked k earlier)
      | false ↦ λ _ here. subst (λ j. has (slice_set old number true) j ≡ true) (eqb-true number k here) (get_or-set_same old number true false within)
    ] refl (sym (ap (λ l. is_among l k) (take-at numbers i number (slice_get-get_or numbers i 0 below)) ∙ among-more (take i numbers) number k) ∙ among)
