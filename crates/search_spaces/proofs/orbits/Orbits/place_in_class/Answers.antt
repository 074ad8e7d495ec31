use Rattle.std.proofs.Common.{◌∙◌, sym}
use Rattle.std.proofs.lemmas.Bool.{both_ways}
use Rattle.packed_state.specs.Packed.{bits_of}
use Rattle.search_spaces.proofs.OrbitLemmas.{past_inside, past_there, current_inside, alike_there}
use Rattle.search_spaces.proofs.orbits.Orbits.place_in_class.Goals as goal

pub is_at-requires-clause-there : goal.is_at-requires-clause-there
is_at-requires-clause-there c =
    current_inside c.args.self.now c.requires.linked (bits_of c.args.state.now) c.args.class c.index-place.result.now c.requires.class c.index-place.ensures

pub is_at-requires-clause-width : goal.is_at-requires-clause-width
is_at-requires-clause-width c = c.requires.width ∙ sym c.requires.linked.rows_width

pub returns-then-is_at : goal.returns-then-is_at
returns-then-is_at c = c.is_at.ensures.0 c.if-is_at.true

pub index-requires : goal.index-requires
index-requires c = past_inside c.args.self.now c.requires.linked (bits_of c.args.state.now) c.in-Some.past (c.in-Some.ensures)

pub returns-in-Some : goal.returns-in-Some
returns-in-Some c =
    past_there c.args.self.now c.requires.linked (bits_of c.args.state.now) c.in-Some.past c.index.result.now (c.in-Some.ensures) c.index.ensures

pub returns-in-None : goal.returns-in-None
returns-in-None c =
    alike_there c.args.self.now c.requires.linked (bits_of c.args.state.now) c.args.class c.index-place.result.now c.requires.class c.index-place.ensures
    (λ there. both_ways _ c.if-is_at.false (c.is_at.ensures.1 there)) (c.in-None.ensures)
