use Rattle.std.proofs.Common.{◌∙◌, refl, sym}
use Rattle.std.proofs.lemmas.Option.{slice_get_within}
use Rattle.packed_state.specs.Packed.{bits_of}
use Rattle.search_spaces.specs.Orbits.{states_in}
use Rattle.search_spaces.proofs.OrbitLemmas.{linked_replaced}
use Rattle.search_spaces.proofs.orbits.Orbits.replace.Goals as goal

pub set-requires-clause-there : goal.set-requires-clause-there
set-requires-clause-there c = slice_get_within (states_in c.args.self.now) c.args.place c.requires.alike.other c.requires.alike.there

pub set-requires-clause-width : goal.set-requires-clause-width
set-requires-clause-width c = c.requires.width ∙ sym c.requires.linked.rows_width

pub returns-clause-linked : goal.returns-clause-linked
returns-clause-linked c =
    let old = c.args.self.now in
    let current = c.requires.current in
    linked_replaced old _ (record { representatives = refl; key_width = c.requires.linked.key_width; rows_width = c.set.ensures.width; keys_width = refl; superseded_width = refl; noted_width = refl; noted = c.requires.linked.noted }) c.requires.linked
    old.keys.pooled.stored.distinct current.0 c.args.place (bits_of c.args.state.now) current.1 c.requires.alike c.requires.new c.requires.width c.set.ensures.states refl refl refl refl

pub returns-clause-states : goal.returns-clause-states
returns-clause-states c = c.set.ensures.states
