-- Those that may break a zone are among its candidates; and what shares charge.
use Rattle.std.proofs.Common.{◌≡◌, ◌∙◌, ℕ, ◌+◌, ◌<◌, ◌≤◌, ◌⊎◌, inl, inr, Bool, true, false, true≢false, List, [], ◌∷◌, ◌++◌, length, get_or, take, Some, refl, sym, ap, subst, arith}
use Rattle.std.specs.Prelude.{Contains, ◌==◌, ◌&&◌, not, nat_lt, if◌then◌else◌, slice_get}
use Rattle.std.specs.List.{flat_map, list_any}
use Rattle.std.specs.Option.{option_map, option_map_or}
use Rattle.std.proofs.lemmas.Bool.{and_parts, or_cases, ltb-true, eqb-true, false_from_ne_true}
use Rattle.std.proofs.lemmas.List.{append-nil, take_more}
use Rattle.std.proofs.lemmas.List.Concat.{flat_map-append}
use Rattle.std.proofs.lemmas.List.Sums.{sum_by_more, sum_by_more_le}
use Rattle.std.proofs.lemmas.Option.{slice_get_past}
use Rattle.model.specs.Task.{Atom, Task}
use Rattle.model.specs.NumberedLiterals.{literals_of_number}
use Rattle.model.specs.ConditionalChanges.{ConditionalChange, conditional_of_number}
use Rattle.model.proofs.ListLemmas.{Contains-here, Contains-there}
use Rattle.lower_bounds.specs.TableFunctions.{is_among}
use Rattle.lower_bounds.specs.LandmarkFunctions.{Zone, is_in, has_any}
use Rattle.lower_bounds.specs.FairLandmarks.{makes_one, may_take_effect, may_break, charge}
use Rattle.landmark_zones.specs.declared.values.Share.{Share}
use Rattle.landmark_zones.specs.Landmarks.{share_of}
use Rattle.landmarks.specs.declared.counters.Counters.{Counters}
use Rattle.potentials.specs.declared.allowance.Allowance.{Allowance}
use Rattle.landmarks.specs.declared.cut_index.CutIndex.{CutIndex}
use Rattle.landmarks.specs.declared.makers.Makers.{Makers}
use Rattle.table_rows.specs.Lists.{list_at}
use Rattle.landmarks.specs.Makers.{row_for, AreMakers}
use Rattle.landmarks.specs.Counters.{counter_at, AreCounters}
use Rattle.landmarks.specs.CutIndex.{candidates, charging, share_charging, share_charge_at, task_of, atoms_of, AreStanding, total_at, AreAllWithin, IsSomeBeyond, Decides}
use Rattle.landmarks.proofs.AmongLemmas.{among-left, among-right}

-- ---- candidates

found-any : {X : Type 0} (p : X → Bool) (xs : List X) → list_any p xs ≡ true → (x : X) × Contains xs x × (p x ≡ true)
found-any p [] is = absurd (true≢false (sym is))
found-any {X} p (x ∷ xs) is = elim (or_cases (p x) (list_any p xs) is) [
  | inl here ↦ (x, Contains-here x xs, here)
  | inr later ↦ let rest = found-any p xs later in (rest.0, Contains-there x xs rest.0 rest.1, rest.2)
]

among-flat : (f : ℕ → List ℕ) (xs : List ℕ) (x k : ℕ) → is_among xs x ≡ true → is_among (f x) k ≡ true → is_among (flat_map f xs) k ≡ true
among-flat f [] x k at there = absurd (true≢false (sym at))
among-flat f (y ∷ xs) x k at there = elim (or_cases (y == x) (is_among xs x) at) [
  | inl here ↦ among-left (f y) (flat_map f xs) k (subst (λ z. is_among (f z) k ≡ true) (sym (eqb-true y x here)) there)
  | inr later ↦ among-right (f y) (flat_map f xs) k (among-flat f xs x k later there)
]

module _ (task : Task) (atoms : List Atom) (asked : List ℕ) (m : Makers) (made : AreMakers task atoms asked m) where
  of-literal : (z : Zone) (k atom : ℕ) (value : Bool) → is_in z (record { atom = atom; value = value }) ≡ true → is_among (row_for m atom value) k ≡ true → is_among (candidates m z) k ≡ true
  of-literal z k atom true is there = among-left (flat_map (list_at m.adding) z.atoms) (flat_map (list_at m.deleting) z.negated) k (among-flat (list_at m.adding) z.atoms atom k is there)
  of-literal z k atom false is there = among-right (flat_map (list_at m.adding) z.atoms) (flat_map (list_at m.deleting) z.negated) k (among-flat (list_at m.deleting) z.negated atom k is there)

  pub candidate : (z : Zone) (k : ℕ) → is_among asked k ≡ true → may_break (literals_of_number task atoms k) (conditional_of_number task atoms k) z ≡ true → is_among (candidates m z) k ≡ true
  candidate z k at breaks =
      let changes = conditional_of_number task atoms k in
      let any = (and_parts (not (has_any z (literals_of_number task atoms k))) (list_any (λ (c : ConditionalChange). makes_one changes z c.change && may_take_effect z c) changes) breaks).1 in
      let it = found-any (λ (c : ConditionalChange). makes_one changes z c.change && may_take_effect z c) changes any in
      let c = it.0 in
      let makes = (and_parts (makes_one changes z c.change) (may_take_effect z c) it.2).0 in
      let literal : is_in z (record { atom = c.change.atom; value = c.change.value }) ≡ true = (and_parts (is_in z (record { atom = c.change.atom; value = c.change.value })) _ makes).0 in
      of-literal z k c.change.atom c.change.value literal (made.covers k at c it.1)

  -- an instance is a candidate, or is charged nothing
  pub candidate-or : (z : Zone) (weight k : ℕ) → is_among asked k ≡ true
      → (is_among (candidates m z) k ≡ true) ⊎ (charge (literals_of_number task atoms k) (conditional_of_number task atoms k) (record { zone = z; weight = weight }) ≡ 0)
  candidate-or z weight k at =
      let breaks = may_break (literals_of_number task atoms k) (conditional_of_number task atoms k) z in
      elim breaks as (λ b. breaks ≡ b → (is_among (candidates m z) k ≡ true) ⊎ ((if b then weight else 0) ≡ 0)) [
        | true ↦ λ is. inl (candidate z k at is)
        | false ↦ λ _. inr refl
      ] refl

-- ---- shares

-- the charge for a share is that for its zone
pub share-by : (index : CutIndex) (zones : List Zone) (s : Share) (allowance : Allowance) (z : Zone) → slice_get zones s.zone ≡ Some z
    → share_charging index zones (share_of s) allowance
    ≡ charging index allowance (λ (number : ℕ). charge (literals_of_number (task_of index) (atoms_of index) number) (conditional_of_number (task_of index) (atoms_of index) number) (record { zone = z; weight = s.weight }))
share-by index zones s allowance z at = (λ i. charging index allowance (λ (number : ℕ).
    option_map_or (charge (literals_of_number (task_of index) (atoms_of index) number) (conditional_of_number (task_of index) (atoms_of index) number)) (option_map (λ (y : Zone). record { zone = y; weight = s.weight }) (at i)) 0))

-- one without a zone charges nothing
pub share-none : (task : Task) (atoms : List Atom) (zones : List Zone) (s : Share) → length zones ≤ s.zone → (number : ℕ) → share_charge_at task atoms zones (share_of s) number ≡ 0
share-none task atoms zones s past number =
    ap (λ o. option_map_or (charge (literals_of_number task atoms number) (conditional_of_number task atoms number)) (option_map (λ (y : Zone). record { zone = y; weight = s.weight }) o) 0) (slice_get_past zones s.zone past)

-- ---- a value

-- as it begins, nothing is charged
pub standing-begins : (asked : List ℕ) (most : ℕ → ℕ) (count : ℕ) (c : Counters) → AreCounters count c → c.start ≡ c.clock → AreStanding asked most (λ number. 0) c
standing-begins asked most count c counted begun = record {
  begun = omega (arith, begun);
  charged = λ k at. ap (λ b. if b then (counter_at c k).charged else 0) (false_from_ne_true (nat_lt c.start (counter_at c k).seen) (λ e. let later = ltb-true c.start (counter_at c k).seen e in absurd (omega (arith, later, counted.seen k, begun))));
  within = λ k at. omega arith;
}

pub standing-as : (asked : List ℕ) (most total other : ℕ → ℕ) (c : Counters) → ((k : ℕ) → other k ≡ total k) → AreStanding asked most total c → AreStanding asked most other c
standing-as asked most total other c same so = record {
  begun = so.begun;
  charged = λ k at. so.charged k at ∙ sym (same k);
  within = λ k at. omega (arith, so.within k at, same k);
}

module _ (task : Task) (atoms : List Atom) (zones : List Zone) (shares : List Share) (asked : List ℕ) (most : ℕ → ℕ) (i : ℕ) (d : Share) (there : i < length shares) where
  abbrev one : ℕ → Share → ℕ
  one number s = share_charge_at task atoms zones (share_of s) number

  -- one share more
  pub standing-more : (c : Counters) → AreStanding asked most (λ k. total_at task atoms zones (take i shares) k + one k (get_or shares i d)) c → AreStanding asked most (total_at task atoms zones (take (i + 1) shares)) c
  standing-more c so =
      standing-as asked most (λ k. total_at task atoms zones (take i shares) k + one k (get_or shares i d)) (total_at task atoms zones (take (i + 1) shares)) c (λ k. sum_by_more (one k) shares i d there) so

  -- too much by the shares so far and one more is too much by all
  pub beyond-all : (number : ℕ) × (is_among asked number ≡ true) × (most number < total_at task atoms zones (take i shares) number + one number (get_or shares i d))
      → IsSomeBeyond most (total_at task atoms zones shares) asked
  beyond-all found = (found.0, found.1, let more = found.2 in omega (arith, more, sum_by_more_le (one found.0) shares i d there))

-- ---- rows

pub flat-more : (f : ℕ → List ℕ) (xs : List ℕ) (i : ℕ) → i < length xs → flat_map f (take (i + 1) xs) ≡ flat_map f (take i xs) ++ f (get_or xs i 0)
flat-more f xs i below =
    ap (flat_map f) (take_more xs i 0 below) ∙ flat_map-append f (take i xs) (get_or xs i 0 ∷ []) ∙ ap (λ l. flat_map f (take i xs) ++ l) (append-nil (f (get_or xs i 0)))

-- ---- answers

pub all-within : (allowed charged : ℕ → ℕ) (asked : List ℕ) (result : Bool) → Decides allowed charged asked result → result ≡ true → AreAllWithin allowed charged asked
all-within allowed charged asked true so is = so
all-within allowed charged asked false so is = absurd (true≢false (sym is))

pub some-beyond : (allowed charged : ℕ → ℕ) (asked : List ℕ) (result : Bool) → Decides allowed charged asked result → result ≡ false → IsSomeBeyond allowed charged asked
some-beyond allowed charged asked true so is = absurd (true≢false is)
some-beyond allowed charged asked false so is = so
