use Rattle.std.proofs.Common.{◌≡◌, ◌∙◌, map, None, Some, ap, sym}
use Rattle.std.specs.Prelude.{slice_get}
use Rattle.std.specs.Option.{option_map, option_map_or}
use Rattle.std.proofs.lemmas.Option.{slice_get-map}
use Rattle.task.specs.TaskParts.{atom_of}
use Rattle.model.specs.Task.{Atom}
use Rattle.model.specs.NumberedAtoms.{number_of}
use Rattle.symmetries_definitions.specs.Exchanges.{image_of_atom}
use Rattle.symmetries.specs.Exchange.{image}
use Rattle.symmetries.proofs.NumberLemmas.{position-alike}
use Rattle.symmetries.proofs.numbers.number_of_image.Goals as goal

pub returns : goal.returns
returns c =
    let keys = c.args.atoms.now.keys in
    let atoms = map atom_of keys in
    let to = image c.args.exchange.now in
    let at : slice_get atoms c.args.number ≡ Some (atom_of c.in-Some.atom.now) = slice_get-map atom_of keys c.args.number ∙ ap (option_map atom_of) (sym c.in-Some.ensures.key) in
    c.get_index_of.ensures.index
    ∙ position-alike c.image_of_atom-image.result keys
    ∙ ap (number_of atoms) c.image_of_atom-image.ensures
    ∙ sym (ap (λ o. option_map_or (λ (a : Atom). number_of atoms (image_of_atom to a)) o None) at)
