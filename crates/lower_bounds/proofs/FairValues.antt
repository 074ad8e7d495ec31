-- Fair table functions, and fair potential functions, are fair values: across a step of the task and in goal states.
use Rattle.std.proofs.Common.{◌≡◌, ℕ, ◌+◌, ◌<◌, ◌≤◌, Bool, true, false, true≢false, not, ◌||◌, List, [], ◌∷◌, length, Some, refl, sym, ap, subst, pos, ◌+ℤ◌, ◌≤ℤ◌}
use Rattle.std.specs.Prelude.{IsTrue, Contains, nat_lt, slice_get, if◌then◌else◌, is_some}
use Rattle.std.specs.List.{list_all}
use Rattle.std.specs.Option.{option_map_or}
use Rattle.std.specs.FinSet.{contains}
use Rattle.std.proofs.lemmas.Bool.{ltb-true}
use Rattle.std.proofs.lemmas.List.{length-map}
use Rattle.std.proofs.lemmas.List.Elements.{All-contains}
use Rattle.model.specs.Task.{Atom, Schema, Task, Instance}
use Rattle.model.specs.Meaning.{State, step, meets_goal}
use Rattle.model.specs.StaticallyFalse.{kept_instances, counting_changes}
use Rattle.model.specs.NumberedLiterals.{literals_of_instance, literals_of_goal, counting_of_instance}
use Rattle.model.specs.Grounding.{bits_of_state}
use Rattle.model.proofs.ListLemmas.{Contains-here, Contains-there}
use Rattle.model.proofs.StaticallyFalseLemmas.{Contains-kept}
use Rattle.lower_bounds.specs.PotentialFunctions.{score, or_zero}
use Rattle.lower_bounds.specs.FairPotentials.{loses_at_most, goal_gives_at_most}
use Rattle.lower_bounds.specs.PotentialLaws.{AreNumberable}
use Rattle.lower_bounds.proofs.PotentialFalls.{score-falls, score-ends}
use Rattle.lower_bounds.proofs.Repacked.{repacked, repacked-bit, repacked-score}
use Rattle.lower_bounds.specs.TableFunctions.{Table, TableFunction, is_among, projection, row_of, row_in, has_rows, given_by, value}
use Rattle.lower_bounds.specs.FairTables.{is_shut_out, requires_unnumbered, is_asked, changes_in, IsFairAt, conditional_of_instance, AreFairAt}
use Rattle.lower_bounds.specs.TableLaws.{are_over, IsOver, IsOfAtoms, TablesAreFairValues}
use Rattle.lower_bounds.proofs.TableLists.{all-at, all-among, over-alike}
use Rattle.lower_bounds.proofs.TableRows.{projection-alike, not-shut_out}
use Rattle.lower_bounds.proofs.TableFalls.{IsStepWithin, has-next, total-falls, total-ends, value-falls, value-ends}
use Rattle.lower_bounds.proofs.TableSteps.{all_changes-are, formula-bit, formula-within, pair-bits, untouched-bits, instance-requires_none, steps-within}

-- ---- tables beside a value

-- Tables over the numbered atoms: an instance that leads from a state with rows to another is not shut out, and whether a packed
-- state has rows depends on the bits of the numbered atoms alone.
module _ (task : Task) (atoms : List Atom) (tables : List Table) (numberable : AreNumberable task atoms) (scopes : IsTrue (are_over (length atoms) tables)) where
  pub below : (t : Table) → Contains tables t → (n : ℕ) → is_among t.scope n ≡ true → n < length atoms
  below t at n there =
      ltb-true n (length atoms) (all-among (λ k. nat_lt k (length atoms)) t.scope n (all-at (λ (u : Table). list_all (λ k. nat_lt k (length atoms)) u.scope) tables t scopes at) there)

  pub steps-in : (s next : State) (i : Instance) → IsOfAtoms task atoms s → step task s i ≡ Some next → (t : Table) → Contains tables t
      → IsStepWithin (literals_of_instance task atoms i) (conditional_of_instance task atoms i) (bits_of_state atoms s) (bits_of_state atoms next) t.scope
  steps-in s next i here leads t at = steps-within task atoms numberable.distinct s next i here.statics leads here.numbered t.scope (below t at)

  pub asked : (s next : State) (i : Instance) → IsOfAtoms task atoms s → step task s i ≡ Some next → has_rows tables (bits_of_state atoms s) ≡ true → is_asked task atoms tables i ≡ true
  asked s next i here leads has =
      neither (option_map_or (λ (schema : Schema). requires_unnumbered task atoms schema.precondition i.objects) (slice_get task.schemas i.schema) false) (is_shut_out (literals_of_instance task atoms i) tables)
      (instance-requires_none task atoms numberable.distinct s next i here.statics leads here.numbered)
      (not-shut_out (bits_of_state atoms s) (literals_of_instance task atoms i) tables has (λ t at. (steps-in s next i here leads t at).literals_hold))
    where
      neither : (x y : Bool) → x ≡ false → y ≡ false → not (x || y) ≡ true
      neither false false e f = refl
      neither false true e f = absurd (true≢false f)
      neither true y e f = absurd (true≢false e)

  pub repacked-projection : (bits : List Bool) (t : Table) → Contains tables t → projection (repacked task atoms bits) t.scope ≡ projection bits t.scope
  repacked-projection bits t at = projection-alike (repacked task atoms bits) bits t.scope (λ n there. repacked-bit task atoms numberable bits n (below t at n there))

  pub repacked-rows : (bits : List Bool) → has_rows tables (repacked task atoms bits) ≡ has_rows tables bits
  repacked-rows bits = has-alike (repacked task atoms bits) bits tables (repacked-projection bits)
    where
      has-alike : (bits other : List Bool) (tables : List Table) → ((t : Table) → Contains tables t → projection bits t.scope ≡ projection other t.scope) → has_rows tables bits ≡ has_rows tables other
      has-alike bits other [] each = refl
      has-alike bits other (t ∷ ts) each =
          let rest = has-alike bits other ts (λ u at. each u (Contains-there t ts u at)) in
          let first = ap (λ trues. is_some (row_of t trues)) (each t (Contains-here t ts)) in
          cc

-- ---- one value

module _ (allowance : Instance → ℕ) (task : Task) (atoms : List Atom) (h : TableFunction) (numberable : AreNumberable task atoms) (over : IsOver (length atoms) h)
    (fair : AreFairAt (is_asked task atoms h.tables) allowance task atoms h) where
  abbrev bits_of : State → List Bool
  bits_of s = bits_of_state atoms s

  long : (s : State) → length (bits_of s) ≡ length atoms
  long s = length-map atoms (contains s)

  one-falls : (s next : State) (i : Instance) → IsOfAtoms task atoms s → step task s i ≡ Some next → value h (bits_of s) ≤ value h (bits_of next) + allowance i
  one-falls s next i here leads =
      value-falls h (bits_of s) (bits_of next) (allowance i) (λ has.
      let literals = literals_of_instance task atoms i in
      let changes = conditional_of_instance task atoms i in
      let lost = loses_at_most (length atoms) h.potentials.weights literals (changes_in changes) in
      let steps = steps-in task atoms h.tables numberable over.scopes s next i here leads in
      let across = All-contains (λ (j : Instance). IsTrue (is_asked task atoms h.tables j) → IsFairAt (allowance j) task atoms h j) (kept_instances task) i fair.instances
      (Contains-kept task s next i here.statics leads) (asked task atoms h.tables numberable over.scopes s next i here leads has) in
      let falls : score h.potentials (bits_of s) ≤ℤ (score h.potentials (bits_of next) +ℤ lost) =
      subst (λ l. score h.potentials (bits_of s) ≤ℤ (score h.potentials (bits_of next) +ℤ loses_at_most (length atoms) h.potentials.weights literals l)) (sym (all_changes-are task atoms (counting_changes task i)))
      (score-falls h.potentials (bits_of s) (bits_of next) literals (counting_of_instance task atoms i) (length atoms) (long s) (long next)
      (pair-bits task atoms numberable.distinct s next i here.statics leads) (untouched-bits task atoms numberable.distinct s next i here.statics leads)) in (
        has-next literals changes (bits_of s) (bits_of next) h.tables steps has across.closed,
        total-falls h literals changes (bits_of s) (bits_of next) lost (allowance i) steps has across.closed falls across.within,
      ))

  one-ends : (s : State) → meets_goal task s ≡ true → value h (bits_of s) ≡ 0
  one-ends s goal =
      value-ends h (bits_of s) (λ has.
      let literals = literals_of_goal task atoms in
      let holding = λ (t : Table) (at : Contains h.tables t). formula-within task atoms numberable.distinct t.scope (below task atoms h.tables numberable over.scopes t at) s task.goal [] goal in
      total-ends h literals (bits_of s) (h.potentials.constant +ℤ goal_gives_at_most (length atoms) h.potentials.weights literals) holding has
      (score-ends h.potentials (bits_of s) literals (length atoms) (long s) (λ n said_value under said. formula-bit task atoms numberable.distinct s task.goal [] goal n said_value under said))
      (fair.goals.within (not-shut_out (bits_of s) literals h.tables has holding)))

  repacked-value : (bits : List Bool) → value h (repacked task atoms bits) ≡ value h bits
  repacked-value bits =
      let has = repacked-rows task atoms h.tables numberable over.scopes bits in
      let tables = over-alike h.tables (λ t. given_by h.place (row_in (repacked task atoms bits) t)) (λ t. given_by h.place (row_in bits t))
      (λ t at. ap (λ trues. given_by h.place (row_of t trues)) (repacked-projection task atoms h.tables numberable over.scopes bits t at)) in
      let atoms_give = repacked-score task atoms numberable h.potentials over.weights bits in
      (λ i. or_zero (if has i then (atoms_give i +ℤ tables i) else pos 0))

pub tables_are_fair_values : TablesAreFairValues
tables_are_fair_values allowance task atoms h numberable over fair = record {
  falls = one-falls allowance task atoms h numberable over fair;
  ends = one-ends allowance task atoms h numberable over fair;
  by_numbered = repacked-value allowance task atoms h numberable over fair;
}
