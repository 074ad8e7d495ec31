use Rattle.std.proofs.Common.{◌∙◌, ap, map}
use Rattle.grounding.specs.Changes.{counting_of, conditional_of}
use Rattle.grounding.specs.Ground.{task_in, atoms_in}
use Rattle.grounding.proofs.GroundLemmas.{named, counting-of, changes-at}
use Rattle.grounding.proofs.ConditionalLemmas.{conditional-of}
use Rattle.grounding.proofs.ground.Ground.counting.Goals as goal

pub returns-clause-counting : goal.returns-clause-counting
returns-clause-counting c =
    let g = c.args.self.now in
    let i = named (task_in g) c.args.number c.requires in
    ap (map counting_of) c.as_slice.ensures.value
    ∙ counting-of (task_in g) (atoms_in g) c.args.number i.0 i.1 c.index.result.now (changes-at g c.args.number i.0 i.1 c.index.result.now c.index.ensures)

pub returns-clause-conditional : goal.returns-clause-conditional
returns-clause-conditional c =
    let g = c.args.self.now in
    let i = named (task_in g) c.args.number c.requires in
    ap (map conditional_of) c.as_slice.ensures.value
    ∙ conditional-of (task_in g) (atoms_in g) g.numbering.distinct g.numbering.fluent c.args.number i.0 i.1 c.index.result.now (changes-at g c.args.number i.0 i.1 c.index.result.now c.index.ensures)
