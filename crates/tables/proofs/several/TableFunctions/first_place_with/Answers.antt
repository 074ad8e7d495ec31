use Rattle.std.proofs.Common.{◌≡◌, ◌∙◌, ◌<◌, inl, inr, length, get_or, Some, sym, subst, arith, pos, to_z, of_z, w64}
use Rattle.std.specs.Prelude.{◌↔◌, IsTrue, slice_get}
use Rattle.std.proofs.lemmas.Bool.{cases_eq, iff_false}
use Rattle.std.proofs.lemmas.List.{length-map}
use Rattle.grounding.specs.Ground.{task_in, atoms_in}
use Rattle.model.specs.Task.{Instance}
use Rattle.model.specs.StaticallyFalse.{kept_instances}
use Rattle.model.specs.NumberedLiterals.{literals_of_number}
use Rattle.model.specs.ConditionalChanges.{conditional_of_number}
use Rattle.potentials.specs.Potentials.{potentials_of}
use Rattle.lower_bounds.specs.FairTables.{IsFairAt}
use Rattle.table_rows.specs.Losses.{indexed_of}
use Rattle.tables.specs.AllTables.{tables_of, count_of}
use Rattle.tables.specs.ByAtom.{LosesByAll}
use Rattle.potentials.specs.Fairness.{allowed_by}
use Rattle.tables.specs.Fairness.{function_of}
use Rattle.tables.specs.Several.{several_of}
use Rattle.tables.specs.Unfair.{function_in, allowance_in}
use Rattle.tables.specs.declared.tables.IndexedTables.{IndexedTables}
use Rattle.tables.proofs.TotalLemmas.{total-read}
use Rattle.tables.proofs.UnfairLemmas.{fair-as}
use Rattle.tables.proofs.several.TableFunctions.first_place_with.Goals.{After-is_fair_with, After-value_at-value}
use Rattle.tables.proofs.several.TableFunctions.first_place_with.Goals as goal

below-count : (c : After-value_at-value) → c.loop-place.place < count_of c.args.self.now.tables
below-count c = omega (arith, c.loop-place-test.true, c.weight_count-place-end.ensures)

-- the answer is that for the value at the place
decides : (c : After-is_fair_with) → (i : Instance) → slice_get (kept_instances (task_in c.args.ground.now)) c.args.number ≡ Some i → IsTrue c.is_fair_with.result
    ↔ IsFairAt (allowance_in (task_in c.args.ground.now) (several_of c.args.self.now) c.loop-place.place i) (task_in c.args.ground.now) (atoms_in c.args.ground.now) (function_in (several_of c.args.self.now) c.loop-place.place) i
decides c i at =
    let task = task_in c.args.ground.now in
    let v = c.value_at-value.result in
    fair-as task (atoms_in c.args.ground.now) (several_of c.args.self.now) i (function_of v) (allowed_by v.allowance task) c.loop-place.place c.value_at-value.ensures.function (c.value_at-value.ensures.allowance task)
    c.is_fair_with.result (c.is_fair_with.ensures i at)

pub is_fair_with-requires-clause-fits : goal.is_fair_with-requires-clause-fits
is_fair_with-requires-clause-fits c = record {
  width = c.value_at-value.ensures.width ∙ c.requires.fits;
  place = subst (λ (t : IndexedTables). c.value_at-value.result.place < count_of t) (sym c.value_at-value.ensures.tables)
      (let below = below-count (goal.at.is_fair_with-requires-clause-fits c).After-value_at-value in omega (arith, below, c.value_at-value.ensures.place));
}

pub is_fair_with-requires-clause-lost : goal.is_fair_with-requires-clause-lost
is_fair_with-requires-clause-lost c =
    let s = c.args.self.now in
    let k = c.loop-place.place in
    let literals = literals_of_number (task_in c.args.ground.now) (atoms_in c.args.ground.now) c.args.number in
    let changes = conditional_of_number (task_in c.args.ground.now) (atoms_in c.args.ground.now) c.args.number in
    let few : length (tables_of s.tables) < 16777216 = omega (arith, s.tables.few, length-map s.tables.tables.items indexed_of) in
    let here = total-read literals changes (tables_of s.tables) k (get_or c.args.total.now k (pos 0)) few (c.requires.lost.each k (below-count (goal.at.is_fair_with-requires-clause-lost c).After-value_at-value)) in
    subst (λ (t : IndexedTables). LosesByAll c.value_at-value.result.place literals changes (tables_of t) (to_z w64 (of_z w64 (get_or c.args.total.now k (pos 0))))) (sym c.value_at-value.ensures.tables)
    (subst (λ n. LosesByAll n literals changes (tables_of s.tables) (to_z w64 (of_z w64 (get_or c.args.total.now k (pos 0))))) (sym c.value_at-value.ensures.place) here)

pub returns-then-not-is_fair_with : goal.returns-then-not-is_fair_with
returns-then-not-is_fair_with c = λ i at.
    let s = c.args.self.now in
    let below = below-count (goal.at.returns-then-not-is_fair_with c).After-value_at-value in
    record {
      within = omega (arith, below, s.together.counts, length-map s.values.items potentials_of);
      fails = iff_false (decides (goal.at.returns-then-not-is_fair_with c).After-is_fair_with i at) c.if-not-is_fair_with.true;
      earlier = c.loop-place.invariant i at;
    }

pub loop-place-preserved : goal.loop-place-preserved
loop-place-preserved c = λ i at k below.
    let task = task_in c.args.ground.now in
    elim (cases_eq k c.loop-place.place) [
      | inl same ↦ subst (λ j. IsFairAt (allowance_in task (several_of c.args.self.now) j i) task (atoms_in c.args.ground.now) (function_in (several_of c.args.self.now) j) i) (sym same)
          ((decides (goal.at.loop-place-preserved c).After-is_fair_with i at).0 c.if-not-is_fair_with.false)
      | inr other ↦ c.loop-place.invariant i at k (omega (arith, below, other))
    ]

pub returns : goal.returns
returns c = λ i at k below.
    let s = c.args.self.now in
    c.loop-place.invariant i at k (omega (arith, below, c.loop-place-test.false, c.weight_count-place-end.ensures, s.together.counts, length-map s.values.items potentials_of))
