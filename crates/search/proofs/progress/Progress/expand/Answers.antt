use Rattle.std.proofs.Common.{◌≡◌, ◌≢◌, ℕ, Bool, List, ◌+◌, length, get_or, drop, set, refl, sym, ap, ◌∙◌, subst, arith, Some, true, false, ◌∷◌}
use Rattle.std.specs.Prelude.{IsTrue, is_some, slice_get}
use Rattle.search.specs.declared.nodes.NodeStatus.TheVariants.{Reopened, Expanded}
use Rattle.search.specs.OpenList.{waiting_in}
use Rattle.std.proofs.lemmas.List.{drop_more, drop_all, length-set}
use Rattle.std.proofs.lemmas.Option.{same_Some, slice_get_within}
use Rattle.model.proofs.ListLemmas.{Contains-here}
use Rattle.packed_state.specs.Packed.{bits_of}
use Rattle.search.specs.declared.bases.Bases.{Bases}
use Rattle.search.specs.declared.nodes.Node.{Node}
use Rattle.search.specs.Nodes.{AreClosedBut, AreNodes, Found, Waiting, entry, found_of, marked, marked_as, total_of}
use Rattle.search.specs.OnDemand.{noted_at, value_on}
use Rattle.search.proofs.Linked.{found_of-get, found_of-set, length-found_of, set_was}
use Rattle.search.proofs.Lists.{get-set_here, get-set_other}
use Rattle.search.proofs.Marked.{open_all, nodes_unmarked, open_unmarked}
use Rattle.search.proofs.Valued.{valued_same}
use Rattle.search.proofs.Work.{less_then}
use Rattle.search.proofs.Steps.{HasBegun, turn_begins, left_start, left_more, left_end, occurs_still, continues_same, continues_trans}
use Rattle.search.proofs.progress.Progress.expand.Given.{Over}
use Rattle.search.proofs.progress.Progress.expand.Goals.{After-deref-action-items}
use Rattle.search.proofs.progress.Progress.expand.Goals as goal

-- the state in the buffer is the one whose turn it is
is_state : (g : Over) (c : After-deref-action-items g) → bits_of c.args.buffers.now.state ≡ c.requires.turn.holds.found.state
is_state g c =
    let turn = c.requires.turn.holds in
    same_Some _ turn.found.state (sym c.requires.state ∙ (found_of-get (g.L.StateListing.states c.args.self.now.store) c.args.self.now.nodes.items c.args.turn.id.0 turn.found turn.occurs).0)

has_begun : (g : Over) (c : After-deref-action-items g) → HasBegun (g.T.TransitionSystem.means c.args.problem.now.system.now) (g.L.StateListing.class_of c.args.self.now.store) c.requires.turn.value c.requires.turn.is_dead
    (found_of (g.L.StateListing.states c.args.self.now.store) c.args.self.now.nodes.items) (g.L.StateListing.states c.mark.new.self.store) c.mark.new.self.nodes.items
    (waiting_in c.args.self.now.open_list) c.args.turn.id.0 c.requires.turn.holds.found
has_begun g c =
    let turn = c.requires.turn.holds in
    let t = g.T.TransitionSystem.means c.args.problem.now.system.now in
    let states = g.L.StateListing.states c.args.self.now.store in
    let all = c.args.self.now.nodes.items in
    turn_begins t (g.L.StateListing.class_of c.args.self.now.store) c.requires.classes _ _ c.requires.turn.valued.admissible c.requires.turn.valued.dead_ends states all
    turn.open_list _ turn.one_each turn.nodes _ turn.found turn.occurs turn.waits turn.least turn.rest turn.entries
    (subst (λ x. t.meets_goal x ≡ false) (is_state g c) c.requires.no_goal) c.requires.open _ _ (ap g.L.StateListing.states c.mark.ensures.store)
    (c.mark.ensures.nodes turn.found.node (found_of-get states all _ turn.found turn.occurs).1)

pub mark-requires : goal.mark-requires
mark-requires g c =
    let turn = c.requires.turn.holds in
    let all = c.args.self.now.nodes.items in
    slice_get_within all c.args.turn.id.0 turn.found.node (found_of-get (g.L.StateListing.states c.args.self.now.store) all c.args.turn.id.0 turn.found turn.occurs).1

pub mark-requires-then-not-branch : goal.mark-requires-then-not-branch
mark-requires-then-not-branch g c =
    let stopped : c.in_ok-reach.field-0 ≡ false = c.if-not-branch.true in
    let by = rw (c.loop-action.invariant.class, stopped) at c.in_ok-reach.ensures.listed in
    let turn = by.holds.0.turn in
    let all = c.loop-action.self.nodes.items in
    let there = slice_get_within all c.args.turn.id.0 turn.found.node (found_of-get (g.L.StateListing.states c.loop-action.self.store) all c.args.turn.id.0 turn.found turn.occurs).1 in
    omega (arith, there, ap length by.holds.1.nodes)

pub reach-requires-clause-values_width : goal.reach-requires-clause-values_width
reach-requires-clause-values_width g c = c.requires.values_width ∙ sym c.loop-action.invariant.width

pub touch_successors-requires-clause-buffers : goal.touch_successors-requires-clause-buffers
touch_successors-requires-clause-buffers g c = record { state = c.requires.buffers.state; next = c.requires.buffers.next }

pub touch_successors-requires-clause-applicable : goal.touch_successors-requires-clause-applicable
touch_successors-requires-clause-applicable g c = c.in_ok-applicable.ensures.ok

pub loop-action-init : goal.loop-action-init
loop-action-init g c =
    let turn = c.requires.turn.holds in
    let begun = c.mark.new.self in
    let nodes = found_of (g.L.StateListing.states begun.store) begun.nodes.items in
    let begins = has_begun g (goal.at.loop-action-init g c).After-deref-action-items in
    let class_of = g.L.StateListing.class_of c.args.self.now.store in
    let same : g.L.StateListing.class_of begun.store ≡ class_of = ap g.L.StateListing.class_of c.mark.ensures.store in
    let t = g.T.TransitionSystem.means c.args.problem.now.system.now in
    let touched = c.in_ok-touch_successors.ensures in
    let by = c.requires.turn in
    record {
      by = record {
        value = by.value;
        is_dead = by.is_dead;
        valued = valued_same t (g.G.Guide.estimate_of c.args.problem.now.guide.now) (g.G.Guide.is_dead c.args.problem.now.guide.now) g.V.ValuesOnDemand.answers
            (found_of (g.L.StateListing.states c.args.self.now.store) c.args.self.now.nodes.items) nodes c.args.self.now.bases begun.bases by.value by.is_dead
            (λ k. ap (λ (b : Bases). noted_at b k) c.mark.ensures.bases) begins.was by.valued;
        holds = rw same (record {
          search = record { one_each = begins.one_each; nodes = rw c.mark.ensures.open_list begins.nodes; heap = rw c.mark.ensures.open_list turn.heap; single = rw c.mark.ensures.open_list turn.single };
          turn = begins.turn;
          others_open = begins.others_open;
        });
      };
      noted = refl;
      within = rw c.mark.ensures.store c.requires.within;
      continues = continues_same (g.L.StateListing.class_of begun.store) nodes c.args.turn.id.0;
      class = refl;
      width = rw c.mark.ensures.store c.requires.width;
      state = ap (λ s. length (bits_of s)) touched.state ∙ c.requires.buffers.state;
      scratch = subst (g.G.Guide.fits c.args.problem.now.guide.now) (sym touched.scratch) c.move_to.ensures;
      next = touched.next;
      occurs = rw (c.mark.ensures.store, touched.state) c.requires.state;
      left = rw (c.deref-action-items.ensures.value, touched.applicable)
          (left_start t (g.L.StateListing.class_of begun.store) nodes c.args.turn.id.0 (marked Expanded turn.found) begins.occurs (bits_of c.args.buffers.now.state) c.applicable.new.into.items
          (is_state g (goal.at.loop-action-init g c).After-deref-action-items) c.in_ok-applicable.ensures.ok);
    }

pub successor-requires-clause-applicable : goal.successor-requires-clause-applicable
successor-requires-clause-applicable g c =
    let inv = c.loop-action.invariant in
    let e = inv.by.holds in
    let t = g.T.TransitionSystem.means c.args.problem.now.system.now in
    let states = g.L.StateListing.states c.loop-action.self.store in
    let parts = found_of-get states c.loop-action.self.nodes.items c.args.turn.id.0 e.turn.found e.turn.occurs in
    let numbers = c.deref-action-items.result.now in
    let a = get_or numbers c.loop-action.action-index 0 in
    let s = bits_of c.loop-action.buffers.1.0 in
    let left = rw (drop_more numbers c.loop-action.action-index 0 c.loop-action-test.true) at inv.left in
    subst (λ x. IsTrue (is_some (t.step x a))) (same_Some e.turn.found.state s (sym parts.0 ∙ inv.occurs))
    (left.sound e.turn.found e.turn.occurs a (Contains-here a (drop (c.loop-action.action-index + 1) numbers)))

pub loop-action-preserved : goal.loop-action-preserved
loop-action-preserved g c =
    let inv = c.loop-action.invariant in
    let e = inv.by.holds in
    let t = g.T.TransitionSystem.means c.args.problem.now.system.now in
    let states = g.L.StateListing.states c.loop-action.self.store in
    let states' = g.L.StateListing.states c.reach.new.self.store in
    let nodes = found_of states c.loop-action.self.nodes.items in
    let after = found_of states' c.reach.new.self.nodes.items in
    let begun = found_of (g.L.StateListing.states c.mark.new.self.store) c.mark.new.self.nodes.items in
    let parts = found_of-get states c.loop-action.self.nodes.items c.args.turn.id.0 e.turn.found e.turn.occurs in
    let numbers = c.deref-action-items.result.now in
    let a = get_or numbers c.loop-action.action-index 0 in
    let s = bits_of c.loop-action.buffers.1.0 in
    let next = bits_of c.successor.new.into in
    let leads = subst (λ x. t.step x a ≡ Some next) (same_Some s e.turn.found.state (sym inv.occurs ∙ parts.0)) c.successor.ensures.step in
    let left = rw (drop_more numbers c.loop-action.action-index 0 c.loop-action-test.true) at inv.left in
    let listed : c.in_ok-reach.field-0 ≡ true = c.if-not-branch.false in
    let class_of = g.L.StateListing.class_of c.mark.new.self.store in
    let reached = rw (inv.class, listed) at c.in_ok-reach.ensures.listed in
    let reaches = reached.holds in
    record {
      by = record { value = reached.value; is_dead = reached.is_dead; valued = reached.valued; holds = reaches.expanding };
      noted = reaches.noted ∙ inv.noted;
      within = reaches.within;
      continues = continues_trans class_of begun nodes after c.args.turn.id.0 inv.continues reaches.continues;
      class = c.in_ok-reach.ensures.class ∙ inv.class;
      width = c.in_ok-reach.ensures.width ∙ inv.width;
      state = inv.state;
      scratch = c.in_ok-reach.ensures.scratch;
      next = c.successor.ensures.width;
      occurs = occurs_still class_of states states' c.loop-action.self.nodes.items c.reach.new.self.nodes.items c.args.turn.id.0 e.turn.found s e.turn.occurs reaches.continues inv.occurs;
      left = left_more t class_of nodes c.args.turn.id.0 e.turn.found e.turn.occurs after a next (drop (c.loop-action.action-index + 1) numbers) left leads reaches.continues reaches.listed;
    }

pub reach-requires-clause-expanding : goal.reach-requires-clause-expanding
reach-requires-clause-expanding g c = rw c.loop-action.invariant.class c.loop-action.invariant.by

pub reach-requires-clause-leads : goal.reach-requires-clause-leads
reach-requires-clause-leads g c =
    let t = g.T.TransitionSystem.means c.args.problem.now.system.now in
    let a = get_or c.deref-action-items.result.now c.loop-action.action-index 0 in
    λ s at. subst (λ x. t.step x a ≡ Some (bits_of c.successor.new.into)) (same_Some (bits_of c.loop-action.buffers.1.0) s (sym c.loop-action.invariant.occurs ∙ at)) c.successor.ensures.step

pub returns-then-not-branch-clause-listed : goal.returns-then-not-branch-clause-listed
returns-then-not-branch-clause-listed g c =
    let inv = c.loop-action.invariant in
    let states = g.L.StateListing.states c.loop-action.self.store in
    let all = c.loop-action.self.nodes.items in
    let i = c.args.turn.id.0 in
    let stopped : c.in_ok-reach.field-0 ≡ false = c.if-not-branch.true in
    let class_of = g.L.StateListing.class_of c.args.self.now.store in
    let same_classes : g.L.StateListing.class_of c.mark.new.self.store ≡ class_of = ap g.L.StateListing.class_of c.mark.ensures.store in
    let by = rw (inv.class, stopped) at c.in_ok-reach.ensures.listed in
    let value = by.value in
    let is_dead = by.is_dead in
    let e = by.holds.0 in
    let full = by.holds.1 in
    let here = (goal.at.returns-then-not-branch-clause-listed g c).After-deref-action-items in
    let first = c.requires.turn in
    let one : Found (List Bool) = marked Expanded c.requires.turn.holds.found in
    let same : one ≡ e.turn.found = same_Some one e.turn.found (sym (inv.continues.stays one (has_begun g here).occurs) ∙ e.turn.occurs) in
    let estimate = g.G.Guide.estimate_of c.args.problem.now.guide.now in
    let reported = g.G.Guide.is_dead c.args.problem.now.guide.now in
    let answers = g.V.ValuesOnDemand.answers in
    let alive = e.search.nodes.alive i e.turn.found e.turn.occurs e.turn.expanded in
    let same_state : first.holds.found.state ≡ e.turn.found.state = ap (λ (x : Found (List Bool)). x.state) same in
    let then_is : first.value first.holds.found.state ≡ value_on estimate (noted_at c.args.self.now.bases i) first.holds.found.state = first.valued.value_is i first.holds.found first.holds.occurs first.holds.waits.1 in
    let now_is : value e.turn.found.state ≡ value_on estimate (noted_at c.loop-action.self.bases i) e.turn.found.state = by.valued.value_is i e.turn.found e.turn.occurs alive in
    let based : noted_at c.loop-action.self.bases i ≡ noted_at c.args.self.now.bases i = inv.noted ∙ ap (λ (b : Bases). noted_at b i) c.mark.ensures.bases in
    let same_value : first.value first.holds.found.state ≡ value e.turn.found.state =
    then_is ∙ ap (λ (r : ℕ). value_on estimate r first.holds.found.state) (sym based) ∙ ap (value_on estimate (noted_at c.loop-action.self.bases i)) same_state ∙ sym now_is in
    let same_cost : first.holds.found.node.cost ≡ e.turn.found.node.cost = ap (λ (x : Found (List Bool)). x.node.cost) same in
    let sum : c.args.turn.sum ≡ total_of value e.turn.found = omega (arith, first.holds.sum, same_value, same_cost) in
    let t = g.T.TransitionSystem.means c.args.problem.now.system.now in
    let nodes = found_of states all in
    let back = c.mark-then-not-branch.new.self in
    let stored : g.L.StateListing.states back.store ≡ states = ap g.L.StateListing.states c.mark-then-not-branch.ensures.store ∙ full.store in
    let stood : slice_get c.reach.new.self.nodes.items i ≡ Some e.turn.found.node = ap (λ (ns : List Node). slice_get ns i) full.nodes ∙ (found_of-get states all i e.turn.found e.turn.occurs).1 in
    let taken_back : back.nodes.items ≡ set all i (marked_as Reopened e.turn.found.node) =
    c.mark-then-not-branch.ensures.nodes e.turn.found.node stood ∙ ap (λ (ns : List Node). set ns i (marked_as Reopened e.turn.found.node)) full.nodes in
    let waiting : Found (List Bool) = marked Reopened e.turn.found in
    let after = found_of (g.L.StateListing.states back.store) back.nodes.items in
    let is : after ≡ set nodes i waiting =
    ap (λ (ss : List (List Bool)). found_of ss back.nodes.items) stored ∙ ap (found_of states) taken_back ∙ found_of-set states all i e.turn.found (marked_as Reopened e.turn.found.node) e.turn.occurs in
    let occurs : slice_get after i ≡ Some waiting = ap (λ (ns : List (Found (List Bool))). slice_get ns i) is ∙ get-set_here nodes i waiting e.turn.found e.turn.occurs in
    let others : (k : ℕ) → k ≢ i → slice_get after k ≡ slice_get nodes k = λ k other. ap (λ (ns : List (Found (List Bool))). slice_get ns k) is ∙ get-set_other nodes i waiting k other in
    let long : length after ≡ length nodes = ap length is ∙ length-set nodes i waiting in
    record {
      value = value;
      is_dead = is_dead;
      valued = valued_same t estimate reported answers nodes after c.loop-action.self.bases back.bases value is_dead (λ k. ap (λ (b : Bases). noted_at b k) (c.mark-then-not-branch.ensures.bases ∙ full.bases))
          (λ k n at. set_was nodes waiting i e.turn.found e.turn.occurs refl k n (ap (λ (ns : List (Found (List Bool))). slice_get ns k) (sym is) ∙ at)) by.valued;
      holds = record {
        more = full.more;
        full = ap length stored ∙ full.full;
        one_each = ap length taken_back ∙ length-set all i (marked_as Reopened e.turn.found.node) ∙ e.search.one_each ∙ sym (ap length stored);
        found = waiting;
        occurs = occurs;
        waits = (refl, alive);
        sum = sum;
        estimate = first.holds.estimate ∙ same_value;
        nodes = subst (λ (ws : List Waiting). AreNodes t class_of value is_dead after (entry e.turn.found.node.cost (value e.turn.found.state) i ∷ ws)) (sym (ap waiting_in (c.mark-then-not-branch.ensures.open_list ∙ full.open_list)))
            (nodes_unmarked t class_of value is_dead nodes after i e.turn occurs others (waiting_in c.loop-action.self.open_list) (subst (λ (k : List Bool → List Bool). AreNodes t k value is_dead nodes (waiting_in c.loop-action.self.open_list)) same_classes e.search.nodes) long);
        are_open = open_unmarked t class_of value is_dead nodes after i e.turn occurs others (subst (λ (k : List Bool → List Bool). AreClosedBut t k nodes i) same_classes e.others_open);
        heap = rw (c.mark-then-not-branch.ensures.open_list, full.open_list) e.search.heap;
      };
    }

pub returns-clause-listed : goal.returns-clause-listed
returns-clause-listed g c =
    let t = g.T.TransitionSystem.means c.args.problem.now.system.now in
    let inv = c.loop-action.invariant in
    let e = inv.by.holds in
    let nodes = found_of (g.L.StateListing.states c.loop-action.self.store) c.loop-action.self.nodes.items in
    let class_of = g.L.StateListing.class_of c.mark.new.self.store in
    let numbers = c.deref-action-items.result.now in
    let none = drop_all c.loop-action.action-index numbers (omega (arith, c.loop-action-test.false)) in
    record {
      value = inv.by.value;
      is_dead = inv.by.is_dead;
      valued = inv.by.valued;
      holds = rw (sym (ap g.L.StateListing.class_of c.mark.ensures.store)) (record {
        search = e.search;
        are_open = open_all t class_of nodes c.args.turn.id.0 e.turn.found e.turn.occurs (left_end t class_of nodes c.args.turn.id.0 e.turn.found e.turn.occurs (drop c.loop-action.action-index numbers) none inv.left) e.others_open;
        within = inv.within;
        less = less_then _ _ _ (inv.continues.less c.args.problem.now.max_states (omega (arith, inv.within, length-found_of (g.L.StateListing.states c.loop-action.self.store) c.loop-action.self.nodes.items e.search.one_each))) ((has_begun g (goal.at.returns-clause-listed g c).After-deref-action-items).less c.args.problem.now.max_states);
      });
    }
