use Rattle.std.proofs.Common.{◌∙◌, sym, arith}
use Rattle.pddl_tree.proofs.Looks.{one_item, on_more}
use Rattle.pddl_tree.proofs.lists.list.Goals as goal

pub items-preserved : goal.items-preserved
items-preserved g c = record {
  moved = omega (arith, c.in_ok-item.ensures.1);
  read = on_more g.T.Item.view c.items.items.items _ _ c.items.invariant.read (one_item g.T.Item.sort c.args.words.now c.items.next c.in_ok-item.after _ (sym c.is_close.ensures.first ∙ c.items-test.true) c.in_ok-item.ensures.0) c.in_ok-push.ensures.items;
}
