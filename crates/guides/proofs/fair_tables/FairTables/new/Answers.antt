use Rattle.std.proofs.Common.{length}
use Rattle.grounding.specs.Ground.{task_in, atoms_in}
use Rattle.tables.specs.Several.{several_of}
use Rattle.guides.proofs.GuideLemmas.{fair_ones_guide, are_over_width}
use Rattle.guides.proofs.fair_tables.FairTables.new.Goals as goal

pub invariant_of-result : goal.invariant_of-result
invariant_of-result c =
    let task = task_in c.args.ground.now in
    let atoms = atoms_in c.args.ground.now in
    record {
      width = c.requires.width;
      fair = c.requires.fair;
      guides = fair_ones_guide task atoms (several_of c.args.functions) c.requires.numbered (are_over_width c.args.functions (length atoms) c.requires.width) c.requires.fair;
    }
