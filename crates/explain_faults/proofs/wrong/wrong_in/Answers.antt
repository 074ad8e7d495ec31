use Rattle.std.proofs.Common.{◌≡◌, ◌++◌, take, rules}
use Rattle.pddl_tree.specs.Tree.{file_of}
use Rattle.explain_faults.proofs.WrongLemmas.{goes_wrong}
use Rattle.explain_faults.proofs.wrong.wrong_in.Goals as goal

pub returns : goal.returns
returns c =
    let whole : c.deref.result.now ≡ take c.args.cut.kept c.args.text.now ++ c.args.cut.ending.now = search rules in
    goes_wrong (file_of c.args.file) c.args.text.now c.deref.result.now c.args.cut.ending.now c.args.cut.kept c.in_ok-found.found c.if_within.result
    c.requires whole c.in_ok-found.ensures c.if_within.ensures
