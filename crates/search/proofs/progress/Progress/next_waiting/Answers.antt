use Rattle.std.proofs.Common.{◌≡◌, ◌+◌, ◌∷◌, ◌∙◌, length, get_or, sym, ap, inl, inr, refl, subst, arith}
use Rattle.std.specs.Prelude.{Contains}
use Rattle.std.proofs.lemmas.List.Sorted.{length_permutation}
use Rattle.model.proofs.ListLemmas.{Contains-none}
use Rattle.search.specs.OpenList.{waiting_in}
use Rattle.search.specs.Nodes.{place_of, sum_of, estimate_of}
use Rattle.search.proofs.OpenList.{popped, kept-popped, keeps-popped, takes-popped, current-read, stale-read}
use Rattle.search.proofs.progress.Progress.next_waiting.Goals as goal
use Rattle.search.proofs.progress.Progress.next_waiting.Goals.{else-not-is_expanded-via-then-not-is_expanded+else-node-sum, else-not-is_expanded-via-else-not-is_expanded}

pub returns-then-node-sum-clause-kept : goal.returns-then-node-sum-clause-kept
returns-then-node-sum-clause-kept g c =
    kept-popped (waiting_in c.args.self.now.open_list) (waiting_in c.loop-sum.self.open_list) (waiting_in c.pop.new.self) c.args.self.now.nodes.items c.in-Some.field-0 c.loop-sum.invariant.open_list c.in-Some.ensures.permutation

pub returns-then-node-sum-clause-some : goal.returns-then-node-sum-clause-some
returns-then-node-sum-clause-some g c =
    let x = c.in-Some.field-0 in
    let all = c.args.self.now.nodes.items in
    let r = c.index.result.now in
    let keeps = c.loop-sum.invariant.open_list in
    let (among, of) = popped (waiting_in c.args.self.now.open_list) (waiting_in c.loop-sum.self.open_list) (waiting_in c.pop.new.self) all x keeps c.in-Some.ensures.permutation in
    let read : r ≡ get_or all (place_of x) r = cc in
    let same : r.cost + estimate_of x ≡ sum_of x = omega (arith, c.if-node-sum.true, of.1) in
    takes-popped (waiting_in c.args.self.now.open_list) (waiting_in c.loop-sum.self.open_list) (waiting_in c.pop.new.self) all x keeps c.in-Some.ensures.permutation
    (c.in-Some.ensures.order c.loop-sum.invariant.heap).1 (current-read all x r of.0 read (sym c.is_expanded.ensures ∙ c.if-not-is_expanded.true) same)
    (record { id = x.0.2; sum = x.0.0; estimate = x.0.1 }) refl refl refl

pub loop-sum-preserved : goal.loop-sum-preserved
loop-sum-preserved g c =
    let x = c.in-Some.field-0 in
    let all = c.args.self.now.nodes.items in
    let r = c.index.result.now in
    let keeps = c.loop-sum.invariant.open_list in
    let (among, of) = popped (waiting_in c.args.self.now.open_list) (waiting_in c.loop-sum.self.open_list) (waiting_in c.pop.new.self) all x keeps c.in-Some.ensures.permutation in
    let read : r ≡ get_or all (place_of x) r = cc in
    record {
      store = c.loop-sum.invariant.store;
      nodes = c.loop-sum.invariant.nodes;
      bases = c.loop-sum.invariant.bases;
      heap = (c.in-Some.ensures.order c.loop-sum.invariant.heap).0;
      open_list = keeps-popped (waiting_in c.args.self.now.open_list) (waiting_in c.loop-sum.self.open_list) (waiting_in c.pop.new.self) all x keeps c.in-Some.ensures.permutation
          (stale-read all x r of.0 read
          (elim c.else-not-is_expanded.branch [
            | else-not-is_expanded-via-then-not-is_expanded+else-node-sum w ↦ inr (λ same. w.if-node-sum.false (omega (arith, same, of.1)))
            | else-not-is_expanded-via-else-not-is_expanded w ↦ inl (sym c.is_expanded.ensures ∙ w.if-not-is_expanded.false)
          ]));
    }

pub returns-clause-none : goal.returns-clause-none
returns-clause-none g c =
    λ w at now. Contains-none w (subst (λ q. Contains q w) c.in_default.ensures.none (c.loop-sum.invariant.open_list.current w at now))

pub loop-sum-smaller : goal.loop-sum-smaller
loop-sum-smaller g c =
    let fewer = length_permutation (waiting_in c.loop-sum.self.open_list) (c.in-Some.field-0 ∷ waiting_in c.pop.new.self) c.in-Some.ensures.permutation in
    omega (arith, fewer)

pub index-requires : goal.index-requires
index-requires g c =
    let (among, of) = popped (waiting_in c.args.self.now.open_list) (waiting_in c.loop-sum.self.open_list) (waiting_in c.pop.new.self) c.args.self.now.nodes.items c.in-Some.field-0 c.loop-sum.invariant.open_list c.in-Some.ensures.permutation in
    omega (arith, of.0, ap length c.loop-sum.invariant.nodes, c.loop-sum.self.nodes.ok.0)

pub overflow_sub-sum : goal.overflow_sub-sum
overflow_sub-sum g c =
    let (among, of) = popped (waiting_in c.args.self.now.open_list) (waiting_in c.loop-sum.self.open_list) (waiting_in c.pop.new.self) c.args.self.now.nodes.items c.in-Some.field-0 c.loop-sum.invariant.open_list c.in-Some.ensures.permutation in
    omega (arith, of.1)
