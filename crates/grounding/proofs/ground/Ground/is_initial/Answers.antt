use Rattle.std.proofs.Common.{◌≡◌, ◌∙◌, Some, ap, sym}
use Rattle.std.specs.Prelude.{slice_get}
use Rattle.std.specs.FinSet.{contains}
use Rattle.std.specs.Option.{option_map}
use Rattle.std.proofs.lemmas.Option.{slice_get-map}
use Rattle.task.specs.TaskParts.{atom_of}
use Rattle.model.specs.Meaning.{initial_state}
use Rattle.grounding.specs.Ground.{task_in, atoms_in}
use Rattle.grounding.proofs.ground.Ground.is_initial.Goals as goal

pub returns : goal.returns
returns c =
    let g = c.args.self.now in
    let initial = initial_state (task_in g) in
    let atom = atom_of c.in-Some.atom.now in
    let at : slice_get (atoms_in g) c.args.number ≡ Some atom =
    ap (λ l. slice_get l c.args.number) (sym c.atoms.ensures) ∙ slice_get-map atom_of c.atoms.result.now.keys c.args.number ∙ ap (option_map atom_of) (sym c.in-Some.ensures.key) in
    ap Some c.is_initial.ensures ∙ sym (slice_get-map (contains initial) (atoms_in g) c.args.number ∙ ap (option_map (contains initial)) at)
