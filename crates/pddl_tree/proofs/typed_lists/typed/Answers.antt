use Rattle.pddl_tree.proofs.Names.{arith, group_of}
use Rattle.pddl_tree.proofs.Looks.{on_more}
use Rattle.pddl_tree.proofs.typed_lists.typed.Goals as goal

pub groups-preserved : goal.groups-preserved
groups-preserved c = record {
  moved = omega (arith, c.in_ok-group.ensures.1);
  read = on_more group_of c.groups.groups.items _ _ c.groups.invariant.read c.in_ok-group.ensures.0 c.in_ok-push.ensures.items;
}
