use Rattle.grounding_instances.proofs.JoinGroups.{placed-more}
use Rattle.grounding_instances.proofs.joins.groups_of.Goals as goal

pub loop-atom-preserved : goal.loop-atom-preserved
loop-atom-preserved c =
    placed-more c.args.joint.now c.loop-atom.groups.items c.add_atom.new.groups.items c.init-atom-items.result.now c.loop-atom.atom-index c.atom-item.result c.loop-atom-test.true c.atom-item.is
    c.in_ok-add_atom.ensures.grows c.in_ok-add_atom.ensures.placed c.loop-atom.invariant
