use Rattle.pddl_tree.specs.Tree.{file_of}
use Rattle.explain_faults.proofs.WrongLemmas.{refused_in}
use Rattle.explain_faults.proofs.wrong.refused_in.Goals as goal

pub returns : goal.returns
returns c =
    refused_in (file_of c.args.file) c.args.text.now c.in-Ok.words.items c.deref.result.now c.in_ok-found.found c.in-Ok.ensures.words c.deref.ensures.value
    c.in_ok-found.ensures
