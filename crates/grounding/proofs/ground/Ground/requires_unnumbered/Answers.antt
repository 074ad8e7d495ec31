use Rattle.std.proofs.Common.{◌∙◌, not, ap}
use Rattle.grounding.specs.Ground.{task_in, atoms_in}
use Rattle.grounding.proofs.GroundLemmas.{named, condition-at}
use Rattle.grounding.proofs.ConditionalLemmas.{needs-of}
use Rattle.grounding.proofs.ground.Ground.requires_unnumbered.Goals as goal

pub returns : goal.returns
returns c =
    let g = c.args.self.now in
    let i = named (task_in g) c.args.number c.requires in
    ap not c.may_hold.ensures
    ∙ needs-of (task_in g) (atoms_in g) g.numbering.distinct g.numbering.fluent c.args.number i.0 i.1 c.index.result.now (condition-at g c.args.number i.0 i.1 c.index.result.now c.index.ensures)
