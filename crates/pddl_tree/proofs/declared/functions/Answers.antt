use Rattle.pddl_tree.proofs.Names.{arith, predicate_of}
use Rattle.pddl_tree.proofs.Looks.{on_more}
use Rattle.pddl_tree.proofs.declared.functions.Goals as goal

pub functions-preserved : goal.functions-preserved
functions-preserved c = record {
  moved = omega (arith, c.in_ok-function.ensures.1);
  read = on_more predicate_of c.functions.functions.items _ _ c.functions.invariant.read c.in_ok-function.ensures.0 c.in_ok-push.ensures.items;
}
