use Rattle.std.proofs.Common.{◌≡◌, ◌∙◌, length, map, refl, sym, ap, arith}
use Rattle.std.specs.Prelude.{slice_set}
use Rattle.std.proofs.lemmas.List.{map-set}
use Rattle.std.proofs.lemmas.Option.{slice_get_read}
use Rattle.packed_state.specs.Packed.{bits_of}
use Rattle.tables.specs.Projections.{set_at}
use Rattle.tables.proofs.ProjectionsLemmas.{set-read}
use Rattle.tables.proofs.projections.Projections.set_place.Goals as goal
use Rattle.tables.proofs.projections.Projections.set_place.Goals.{After-index_mut}

read : (c : After-index_mut) → set_at c.args.self.now c.args.at.table ≡ bits_of c.index_mut.result.now
read c =
    let items = c.args.self.now.sets.items in
    set-read items c.args.at.table c.index_mut.result.now (slice_get_read items (length items) c.args.at.table c.index_mut.result.now refl c.requires.table c.index_mut.ensures.value)

pub set_to-requires : goal.set_to-requires
set_to-requires c = let is = ap length (read (goal.at.set_to-requires c).After-index_mut) in omega (arith, c.requires.place, is)

pub returns-clause-sets : goal.returns-clause-sets
returns-clause-sets c =
    let items = c.args.self.now.sets.items in
    let is = read (goal.at.returns-clause-sets c).After-index_mut in
    map-set bits_of items c.args.at.table c.set_to.new.set ∙ ap (slice_set (map bits_of items) c.args.at.table) (c.set_to.ensures ∙ ap (λ s. slice_set s c.args.at.place c.args.is) (sym is))
