use Rattle.std.proofs.Common.{◌∙◌, refl, sym}
use Rattle.packed_state.specs.Packed.{bits_of}
use Rattle.table_rows.proofs.PlacesLemmas.{none-marked, one-marked, not-of-scope}
use Rattle.table_rows.proofs.places.set_of.Goals as goal

pub loop-atom-init : goal.loop-atom-init
loop-atom-init c = none-marked c.args.scope.now _ (bits_of c.in_ok-set.set) refl c.in_ok-set.ensures

pub returns-in_default : goal.returns-in_default
returns-in_default c =
    not-of-scope c.args.scope.now c.args.atoms.now c.loop-atom.atom-index _ c.loop-atom-test.true refl (sym c.place_in.ensures ∙ c.in_default.is)

pub loop-atom-preserved : goal.loop-atom-preserved
loop-atom-preserved c =
    one-marked c.args.scope.now c.args.atoms.now c.loop-atom.atom-index _ c.in-Some.place (bits_of c.loop-atom.set) (bits_of c.insert.new.self) c.requires.rising c.loop-atom-test.true refl
    (sym c.place_in.ensures ∙ c.in-Some.is) c.insert.ensures c.loop-atom.invariant
