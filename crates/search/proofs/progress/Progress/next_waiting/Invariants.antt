use Rattle.std.proofs.Common.{◌≡◌, length}
use Rattle.search.specs.OpenList.{waiting_in, IsOpenList}
use Rattle.search.proofs.OpenList.{KeepsCurrent}
use Rattle.search.proofs.progress.Progress.next_waiting.Given as goal

abbrev pub invariant-loop-sum : goal.invariant-loop-sum
invariant-loop-sum g l =
    record {
      store : l.self.store ≡ l.initial.self.store;
      nodes : l.self.nodes.items ≡ l.initial.self.nodes.items;
      bases : l.self.bases ≡ l.initial.self.bases;
      heap : IsOpenList l.self.open_list;
      open_list : KeepsCurrent (waiting_in l.initial.self.open_list) (waiting_in l.self.open_list) l.initial.self.nodes.items;
    }

abbrev pub decreases-loop-sum : goal.decreases-loop-sum
decreases-loop-sum g l = length (waiting_in l.self.open_list)
