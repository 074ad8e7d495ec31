use Rattle.std.proofs.Common.{refl}
use Rattle.std.proofs.lemmas.List.Elements.{All-nil}
use Rattle.search.proofs.open_list.OpenList.new.Goals as goal

pub returns-clause-none : goal.returns-clause-none
returns-clause-none c = rw (c.new.ensures.items, c.new-2.ensures.items) refl

pub returns-clause-open_list : goal.returns-clause-open_list
returns-clause-open_list c = record {
  near_heap = c.new.ensures.heap_order;
  far_heap = c.new-2.ensures.heap_order;
  near = rw c.new.ensures.items (All-nil _);
  far = rw c.new-2.ensures.items (All-nil _);
}
