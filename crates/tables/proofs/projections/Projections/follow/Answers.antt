use Rattle.std.proofs.Common.{◌≡◌, ◌∙◌, ◌<◌, true, true≢false, List, length, take, get_or, refl, sym, ap, subst, arith}
use Rattle.std.specs.Prelude.{slice_set}
use Rattle.std.proofs.lemmas.List.{take_more, take_all}
use Rattle.packed_state.specs.Packed.{bits_of}
use Rattle.tables.specs.AllTables.{tables_of}
use Rattle.tables.specs.ScopePlaces.{places_of, is_listed}
use Rattle.tables.specs.declared.scope_places.ScopePlace.{ScopePlace}
use Rattle.tables.proofs.ProjectionsLemmas.{AreFollowed, with-state, listed-at, place-fits, followed-more, followed-all, followed-moved}
use Rattle.tables.proofs.projections.Projections.follow.Goals as goal
use Rattle.tables.proofs.projections.Projections.follow.Goals.{In-loop-index, After-loop-index}

-- the place that is looked at
abbrev next : In-loop-index → ScopePlace
next c = get_or c.places_of-places.result.now c.loop-index.index (record { table = 0; place = 0 })

listed : (c : In-loop-index) → is_listed (places_of c.args.tables.now.scope_places c.args.number) (next c).table (next c).place ≡ true
listed c = subst (λ (l : List ScopePlace). is_listed l (next c).table (next c).place ≡ true) c.places_of-places.ensures (listed-at c.places_of-places.result.now c.loop-index.index (record { table = 0; place = 0 }) c.loop-index-test.true)

-- all places of the atom
followed : (c : After-loop-index) → AreFollowed (tables_of c.args.tables.now) c.args.number c.has-is.result (places_of c.args.tables.now.scope_places c.args.number) (with-state c.args.self.now c.set_to.new.set) c.loop-index.self
followed c =
    subst (λ (l : List ScopePlace). AreFollowed (tables_of c.args.tables.now) c.args.number c.has-is.result l (with-state c.args.self.now c.set_to.new.set) c.loop-index.self)
    (take_all c.loop-index.index c.places_of-places.result.now c.loop-index-test.false ∙ c.places_of-places.ensures) c.loop-index.invariant

within : (c : After-loop-index) → c.args.number < length (bits_of c.args.self.now.state)
within c = omega (arith, c.requires.number, c.requires.width)

pub loop-index-init : goal.loop-index-init
loop-index-init c = record {
  state = refl;
  long = refl;
  touched = refl;
  wide = λ k. refl;
  put = λ k place among. absurd (true≢false (sym among));
  others = λ k place none. refl;
  marked = λ k place among. absurd (true≢false (sym among));
  kept = λ k was. was;
}

pub set_place-requires-clause-table : goal.set_place-requires-clause-table
set_place-requires-clause-table c =
    let here = (goal.at.set_place-requires-clause-table c).In-loop-index in
    (place-fits (tables_of c.args.tables.now) c.args.number c.has-is.result (take c.loop-index.index c.places_of-places.result.now) (next here) c.args.tables.now.scope_places c.args.self.now c.set_to.new.set c.loop-index.self
    c.args.tables.now.placed (listed here) c.requires.projections c.loop-index.invariant).0

pub set_place-requires-clause-place : goal.set_place-requires-clause-place
set_place-requires-clause-place c =
    let here = (goal.at.set_place-requires-clause-place c).In-loop-index in
    (place-fits (tables_of c.args.tables.now) c.args.number c.has-is.result (take c.loop-index.index c.places_of-places.result.now) (next here) c.args.tables.now.scope_places c.args.self.now c.set_to.new.set c.loop-index.self
    c.args.tables.now.placed (listed here) c.requires.projections c.loop-index.invariant).1

pub set_place-requires-clause-touched : goal.set_place-requires-clause-touched
set_place-requires-clause-touched c =
    let here = (goal.at.set_place-requires-clause-touched c).In-loop-index in
    (place-fits (tables_of c.args.tables.now) c.args.number c.has-is.result (take c.loop-index.index c.places_of-places.result.now) (next here) c.args.tables.now.scope_places c.args.self.now c.set_to.new.set c.loop-index.self
    c.args.tables.now.placed (listed here) c.requires.projections c.loop-index.invariant).2

pub loop-index-preserved : goal.loop-index-preserved
loop-index-preserved c =
    let here = (goal.at.loop-index-preserved c).In-loop-index in
    let places = c.places_of-places.result.now in
    let tables = tables_of c.args.tables.now in
    let fits = place-fits tables c.args.number c.has-is.result (take c.loop-index.index places) (next here) c.args.tables.now.scope_places c.args.self.now c.set_to.new.set c.loop-index.self
    c.args.tables.now.placed (listed here) c.requires.projections c.loop-index.invariant in
    subst (λ (l : List ScopePlace). AreFollowed tables c.args.number c.has-is.result l (with-state c.args.self.now c.set_to.new.set) c.set_place.new.self) (sym (take_more places c.loop-index.index (record { table = 0; place = 0 }) c.loop-index-test.true))
    (followed-more tables c.args.number c.has-is.result (take c.loop-index.index places) (next here) (with-state c.args.self.now c.set_to.new.set) c.loop-index.self c.set_place.new.self fits.0 fits.1 fits.2 fits.3
    c.set_place.ensures.sets c.set_place.ensures.touched c.set_place.ensures.state c.loop-index.invariant)

pub returns-clause-projections : goal.returns-clause-projections
returns-clause-projections c =
    let here = (goal.at.returns-clause-projections c).After-loop-index in
    followed-all (tables_of c.args.tables.now) c.args.number c.has-is.result c.args.tables.now.scope_places c.args.self.now c.set_to.new.set c.loop-index.self c.args.tables.now.placed (within here) c.requires.projections c.set_to.ensures (followed here)

pub returns-clause-state : goal.returns-clause-state
returns-clause-state c = c.loop-index.invariant.state ∙ c.set_to.ensures ∙ ap (slice_set (bits_of c.args.self.now.state) c.args.number) c.has-is.ensures

pub returns-clause-moved : goal.returns-clause-moved
returns-clause-moved c =
    let here = (goal.at.returns-clause-moved c).After-loop-index in
    followed-moved (tables_of c.args.tables.now) c.args.number c.has-is.result c.args.tables.now.scope_places c.args.self.now c.set_to.new.set c.loop-index.self c.args.tables.now.placed (within here) c.requires.projections c.set_to.ensures (followed here)
