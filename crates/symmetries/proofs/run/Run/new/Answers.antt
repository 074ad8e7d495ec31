use Rattle.std.proofs.Common.{refl}
use Rattle.symmetries.proofs.RunLists.{single_made, one_inside}
use Rattle.symmetries.proofs.run.Run.new.Goals as goal

pub invariant_of-result : goal.invariant_of-result
invariant_of-result c = record { first = refl; lower_inside = one_inside c.args.pair.lower; upper_inside = one_inside c.args.pair.upper }

pub returns : goal.returns
returns c = single_made c.args.pair.lower c.args.pair.upper _ _ _
