use Rattle.std.proofs.Common.{refl}
use Rattle.packed_state.specs.Packed.{bits_of}
use Rattle.table_rows.proofs.PlacesLemmas.{listed-more}
use Rattle.table_rows.proofs.places.list_atoms.Goals as goal

pub loop-place-preserved : goal.loop-place-preserved
loop-place-preserved c =
    listed-more c.args.scope.now (bits_of c.args.set.now) c.loop-place.place _ c.args.atoms.now.items c.loop-place.atoms.items c.push_if_in.new.atoms.items c.requires.width c.loop-place-test.true refl
    c.loop-place.invariant c.in_ok-push_if_in.ensures
