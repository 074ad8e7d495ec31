use Rattle.std.proofs.Common.{◌∙◌, ◌<◌, inl, inr, sym, subst, arith}
use Rattle.std.proofs.lemmas.Bool.{cases_eq, iff_false}
use Rattle.std.proofs.lemmas.List.{length-map}
use Rattle.grounding.specs.Ground.{task_in, atoms_in}
use Rattle.potentials.specs.Potentials.{potentials_of}
use Rattle.lower_bounds.specs.TableFunctions.{TableFunction}
use Rattle.lower_bounds.specs.FairTables.{IsFairAtGoals}
use Rattle.tables.specs.AllTables.{count_of}
use Rattle.tables.specs.Several.{several_of, ReportsValues}
use Rattle.tables.specs.Unfair.{places_in, places_before, function_in}
use Rattle.tables.specs.declared.tables.IndexedTables.{IndexedTables}
use Rattle.tables.proofs.UnfairLemmas.{goals-reported, all-reported, fair-before, before-within}
use Rattle.tables.proofs.several.TableFunctions.fairness.Goals.{After-value_at}
use Rattle.tables.proofs.several.TableFunctions.fairness.Goals as goal

-- the place is that of a value
within : (c : After-value_at) → c.loop-place.place < places_in (several_of c.args.self.now)
within c =
    before-within (task_in c.args.ground.now) (atoms_in c.args.ground.now) (several_of c.args.self.now) c.in_ok-first.first c.in_ok-first.ensures c.loop-place.place (omega (arith, c.loop-place-test.true, c.places_before-place-end.ensures))

pub is_fair_at_goals-requires : goal.is_fair_at_goals-requires
is_fair_at_goals-requires c = record {
  width = c.value_at.ensures.width ∙ c.requires;
  place = subst (λ (t : IndexedTables). c.value_at.result.place < count_of t) (sym c.value_at.ensures.tables)
      (let below = within (goal.at.is_fair_at_goals-requires c).After-value_at in omega (arith, below, c.value_at.ensures.place, c.args.self.now.together.counts, length-map c.args.self.now.values.items potentials_of));
}

pub unfair_at_goals-requires : goal.unfair_at_goals-requires
unfair_at_goals-requires c =
    let below = within (goal.at.unfair_at_goals-requires c).After-value_at in
    omega (arith, below, c.args.self.now.together.counts, length-map c.args.self.now.values.items potentials_of)

pub returns-then-not-branch : goal.returns-then-not-branch
returns-then-not-branch c =
    let task = task_in c.args.ground.now in
    let atoms = atoms_in c.args.ground.now in
    let s = several_of c.args.self.now in
    let k = c.loop-place.place in
    let before : k < places_before (places_in s) c.in_ok-first.first = omega (arith, c.loop-place-test.true, c.places_before-place-end.ensures) in
    let fails = subst (λ (h : TableFunction). IsFairAtGoals task atoms h → ⊥) c.value_at.ensures.function (iff_false c.in_ok-is_fair_at_goals.ensures c.if-not-branch.true) in
    subst (ReportsValues task atoms s) (sym c.unfair_at_goals.ensures)
    (goals-reported task atoms s k (within (goal.at.returns-then-not-branch c).After-value_at) (λ j less. fair-before task atoms s c.in_ok-first.first c.in_ok-first.ensures j (omega (arith, less, before))) c.loop-place.invariant
    (fair-before task atoms s c.in_ok-first.first c.in_ok-first.ensures k before) fails)

pub loop-place-preserved : goal.loop-place-preserved
loop-place-preserved c = λ k below.
    let task = task_in c.args.ground.now in
    let atoms = atoms_in c.args.ground.now in
    elim (cases_eq k c.loop-place.place) [
      | inl same ↦ subst (λ j. IsFairAtGoals task atoms (function_in (several_of c.args.self.now) j)) (sym same)
          (subst (λ (h : TableFunction). IsFairAtGoals task atoms h) c.value_at.ensures.function (c.in_ok-is_fair_at_goals.ensures.0 c.if-not-branch.false))
      | inr other ↦ c.loop-place.invariant k (omega (arith, below, other))
    ]

pub returns : goal.returns
returns c =
    let s = several_of c.args.self.now in
    subst (ReportsValues (task_in c.args.ground.now) (atoms_in c.args.ground.now) s) (sym c.report.ensures)
    (all-reported (task_in c.args.ground.now) (atoms_in c.args.ground.now) s c.in_ok-first.first c.in_ok-first.ensures (λ j less. c.loop-place.invariant j (omega (arith, less, c.loop-place-test.false, c.places_before-place-end.ensures))))
