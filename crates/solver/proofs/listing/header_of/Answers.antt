use Rattle.std.proofs.Common.{◌∙◌, [], ap, map}
use Rattle.task.specs.TaskParts.{atom_of}
use Rattle.certificate_reader.specs.Lines.{claim_of}
use Rattle.grounding.specs.Ground.{task_in, atoms_in}
use Rattle.model.specs.NumberedAtoms.{are_distinct}
use Rattle.model.proofs.GroundTaskLemmas.{numbered-distinct}
use Rattle.search_spaces.specs.SearchSpace.{ground_in}
use Rattle.solver.proofs.listing.header_of.Goals as goal

pub copied-requires : goal.copied-requires
copied-requires c = ap are_distinct (ap (map atom_of) c.as_slice.ensures.keys ∙ c.atoms.ensures ∙ ap atoms_in c.ground.ensures ∙ c.requires.atoms) ∙ numbered-distinct (task_in (ground_in c.args.space)) []

pub returns : goal.returns
returns c =
    let atoms = c.in_ok-names.ensures ∙ ap (map atom_of) c.as_slice.ensures.keys ∙ c.atoms.ensures ∙ ap atoms_in c.ground.ensures in
    let evidence = c.in_ok-evidence.ensures.values in
    let exchanges = c.in_ok-written_exchanges.ensures in
    λ lines. λ i. record { version = c.version-version.ensures i; claim = claim_of c.args.claim; exchanges = exchanges i; atoms = atoms i; values = (evidence i).values; dead_ends = (evidence i).dead_ends; tables = (evidence i).tables; landmarks = c.in_ok-evidence.ensures.landmarks i; lines = lines }
