-- Fair landmark functions are fair values: across a step of the task and in goal states.
use Rattle.std.proofs.Common.{◌≡◌, ◌∙◌, ℕ, ◌+◌, ◌<◌, ◌≤◌, Bool, true, false, true≢false, not, ◌&&◌, List, [], ◌∷◌, length, sum_by, Some, refl, sym, ap, arith}
use Rattle.std.specs.Prelude.{IsTrue, Contains, nat_lt, if◌then◌else◌}
use Rattle.std.specs.List.{list_all}
use Rattle.std.proofs.lemmas.Bool.{ltb-true, and_parts, false_from_ne_true}
use Rattle.std.proofs.lemmas.List.Elements.{All-contains}
use Rattle.std.proofs.lemmas.List.Folds.{list_all-append}
use Rattle.model.specs.Task.{Atom, Task, Instance}
use Rattle.model.specs.Meaning.{State, step, meets_goal}
use Rattle.model.specs.StaticallyFalse.{kept_instances, counting_changes}
use Rattle.model.specs.NumberedLiterals.{literals_of_instance, literals_of_goal, counting_of_instance}
use Rattle.model.specs.ConditionalChanges.{changes_in, conditional_of_instance}
use Rattle.model.specs.Grounding.{bits_of_state}
use Rattle.model.proofs.StaticallyFalseLemmas.{Contains-kept}
use Rattle.lower_bounds.specs.FairPotentials.{says, may_become}
use Rattle.lower_bounds.specs.PotentialLaws.{AreNumberable}
use Rattle.lower_bounds.proofs.PotentialFalls.{bit}
use Rattle.lower_bounds.proofs.Repacked.{repacked, repacked-bit}
use Rattle.lower_bounds.specs.TableFunctions.{is_among, has_rows}
use Rattle.lower_bounds.specs.FairTables.{is_asked, is_closed}
use Rattle.lower_bounds.specs.TableLaws.{IsOfAtoms}
use Rattle.lower_bounds.proofs.TableLists.{all-at, all-among}
use Rattle.lower_bounds.proofs.TableFalls.{has-next}
use Rattle.lower_bounds.proofs.TableSteps.{all_changes-are, formula-within, pair-bits, steps-within}
use Rattle.lower_bounds.proofs.FairValues.{steps-in, asked, repacked-rows}
use Rattle.lower_bounds.specs.LandmarkFunctions.{has_any, is_whole, Landmark, gives, LandmarkFunction, value}
use Rattle.lower_bounds.specs.FairLandmarks.{IsFairAt, AreFairAt, AreClosed}
use Rattle.lower_bounds.specs.LandmarkLaws.{is_zone_over, IsOver, LandmarksAreFairValues}
use Rattle.lower_bounds.proofs.LandmarkZones.{scope_of, has-none, stays-whole, sum-falls, sum-ends, sum-alike}

module _ (allowance : Instance → ℕ) (task : Task) (atoms : List Atom) (h : LandmarkFunction) (numberable : AreNumberable task atoms) (over : IsOver (length atoms) h)
    (closed : AreClosed task atoms h.tables) (fair : AreFairAt allowance task atoms h) where
  abbrev bits_of : State → List Bool
  bits_of s = bits_of_state atoms s

  over-zone : (m : Landmark) → Contains h.landmarks m → is_zone_over (length atoms) m.zone ≡ true
  over-zone m at = all-at (λ (k : Landmark). is_zone_over (length atoms) k.zone) h.landmarks m over.zones at

  below : (m : Landmark) → Contains h.landmarks m → (n : ℕ) → is_among (scope_of m.zone) n ≡ true → n < length atoms
  below m at n there =
      ltb-true n (length atoms) (all-among (λ k. nat_lt k (length atoms)) (scope_of m.zone) n
      (list_all-append (λ k. nat_lt k (length atoms)) m.zone.atoms m.zone.negated ∙ over-zone m at) there)

  -- what may become of each atom by all changes that count
  becomes : (s next : State) (i : Instance) → IsOfAtoms task atoms s → step task s i ≡ Some next → (n : ℕ) → n < length atoms
      → may_become (changes_in (conditional_of_instance task atoms i)) n (bit (bits_of s) n) (bit (bits_of next) n) ≡ true
  becomes s next i here leads n less =
      ap (λ changes. may_become changes n (bit (bits_of s) n) (bit (bits_of next) n)) (all_changes-are task atoms (counting_changes task i))
      ∙ (and_parts (not (says (literals_of_instance task atoms i) n (not (bit (bits_of s) n)))) (may_become (counting_of_instance task atoms i) n (bit (bits_of s) n) (bit (bits_of next) n))
      (pair-bits task atoms numberable.distinct s next i here.statics leads n less)).1

  all-fall : (s next : State) (i : Instance) → IsOfAtoms task atoms s → step task s i ≡ Some next → has_rows h.tables (bits_of s) ≡ true
      → (has_rows h.tables (bits_of next) ≡ true) × (sum_by (gives (bits_of s)) h.landmarks ≤ sum_by (gives (bits_of next)) h.landmarks + allowance i)
  all-fall s next i here leads has =
      let literals = literals_of_instance task atoms i in
      let changes = conditional_of_instance task atoms i in
      let kept = Contains-kept task s next i here.statics leads in
      let is = asked task atoms h.tables numberable over.scopes s next i here leads has in
      let closes = All-contains (λ (j : Instance). IsTrue (is_asked task atoms h.tables j)
      → IsTrue (list_all (is_closed (literals_of_instance task atoms j) (conditional_of_instance task atoms j)) h.tables)) (kept_instances task) i closed kept is in
      let within = (All-contains (λ (j : Instance). IsTrue (is_asked task atoms h.tables j) → IsFairAt (allowance j) task atoms h j) (kept_instances task) i fair.instances kept is).within in
      let falls = sum-falls literals changes (bits_of s) (bits_of next) h.landmarks (λ m at whole unbroken.
      stays-whole literals changes (bits_of s) (bits_of next) m.zone
      (steps-within task atoms numberable.distinct s next i here.statics leads here.numbered (scope_of m.zone) (below m at))
      (λ n there. becomes s next i here leads n (below m at n there)) whole unbroken) in (
        has-next literals changes (bits_of s) (bits_of next) h.tables (steps-in task atoms h.tables numberable over.scopes s next i here leads) has closes,
        omega arith,
      )

  one-falls : (s next : State) (i : Instance) → IsOfAtoms task atoms s → step task s i ≡ Some next → value h (bits_of s) ≤ value h (bits_of next) + allowance i
  one-falls s next i here leads =
      elim (has_rows h.tables (bits_of s)) as (λ b. has_rows h.tables (bits_of s) ≡ b → (if b then sum_by (gives (bits_of s)) h.landmarks else 0) ≤ value h (bits_of next) + allowance i) [
        | true ↦ λ has.
            let both = all-fall s next i here leads has in
            let after : value h (bits_of next) ≡ sum_by (gives (bits_of next)) h.landmarks = ap (λ b. if b then sum_by (gives (bits_of next)) h.landmarks else 0) both.0 in
            let least = both.1 in
            omega arith
        | false ↦ λ _. omega arith
      ] refl

  one-ends : (s : State) → meets_goal task s ≡ true → value h (bits_of s) ≡ 0
  one-ends s goal =
      let literals = literals_of_goal task atoms in
      let none = sum-ends (bits_of s) h.landmarks (λ m at. false_from_ne_true (is_whole (bits_of s) m.zone) (λ whole.
      true≢false (sym (all-at (λ (k : Landmark). has_any k.zone literals) h.landmarks m fair.goals at)
      ∙ has-none (bits_of s) m.zone literals whole (formula-within task atoms numberable.distinct (scope_of m.zone) (below m at) s task.goal [] goal)))) in
      elim (has_rows h.tables (bits_of s)) as (λ b. (if b then sum_by (gives (bits_of s)) h.landmarks else 0) ≡ 0) [
        | true ↦ none
        | false ↦ refl
      ]

  bits-alike : (f : Bool → Bool) (bits other : List Bool) (numbers : List ℕ) → ((n : ℕ) → n < length atoms → bit bits n ≡ bit other n) → list_all (λ n. nat_lt n (length atoms)) numbers ≡ true
      → list_all (λ n. f (bit bits n)) numbers ≡ list_all (λ n. f (bit other n)) numbers
  bits-alike f bits other [] same less = refl
  bits-alike f bits other (n ∷ numbers) same less =
      let parts = and_parts (nat_lt n (length atoms)) (list_all (λ k. nat_lt k (length atoms)) numbers) less in
      let first = ap f (same n (ltb-true n (length atoms) parts.0)) in
      let rest = bits-alike f bits other numbers same parts.1 in
      (λ i. first i && rest i)

  repacked-value : (bits : List Bool) → value h (repacked task atoms bits) ≡ value h bits
  repacked-value bits =
      let other = repacked task atoms bits in
      let same = repacked-bit task atoms numberable bits in
      let has = repacked-rows task atoms h.tables numberable over.scopes bits in
      let sums = sum-alike h.landmarks (gives other) (gives bits) (λ m at.
      let parts = and_parts (list_all (λ n. nat_lt n (length atoms)) m.zone.atoms) (list_all (λ n. nat_lt n (length atoms)) m.zone.negated) (over-zone m at) in
      let falses = bits-alike not other bits m.zone.atoms same parts.0 in
      let trues = bits-alike (λ b. b) other bits m.zone.negated same parts.1 in
      (λ i. if falses i && trues i then m.weight else 0)) in
      (λ i. if has i then sums i else 0)

pub landmarks_are_fair_values : LandmarksAreFairValues
landmarks_are_fair_values allowance task atoms h numberable over closed fair = record {
  falls = one-falls allowance task atoms h numberable over closed fair;
  ends = one-ends allowance task atoms h numberable over closed fair;
  by_numbered = repacked-value allowance task atoms h numberable over closed fair;
}
