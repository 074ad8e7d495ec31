use Rattle.std.proofs.Common.{◌∙◌}
use Rattle.grounding.specs.Ground.{task_in, atoms_in}
use Rattle.grounding.proofs.GroundLemmas.{named, literals-of, condition-at}
use Rattle.grounding.proofs.ground.Ground.literals.Goals as goal

pub returns : goal.returns
returns c =
    let g = c.args.self.now in
    let i = named (task_in g) c.args.number c.requires in
    c.literals.ensures
    ∙ literals-of (task_in g) (atoms_in g) c.args.number i.0 i.1 c.index.result.now (condition-at g c.args.number i.0 i.1 c.index.result.now c.index.ensures)
