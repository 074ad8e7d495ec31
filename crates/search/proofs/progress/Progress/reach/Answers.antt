use Rattle.std.proofs.Common.{◌≡◌, ℕ, ◌+◌, ◌≤◌, ◌<◌, List, Bool, length, get_or, ap, sym, subst, refl, ◌∙◌, arith, Some}
use Rattle.std.specs.Prelude.{MatchBool, Contains}
use Rattle.search.specs.declared.bases.Bases.{Bases}
use Rattle.search.specs.declared.open_list.OpenList.{OpenList}
use Rattle.search.specs.declared.progress.Progress.{Progress}
use Rattle.search.specs.OpenList.{waiting_in}
use Rattle.std.proofs.lemmas.Option.{get_or_from_slice_get, slice_get_within}
use Rattle.faults.proofs.Results.{if_ok}
use Rattle.packed_state.specs.Packed.{bits_of}
use Rattle.model.specs.Runs.{System}
use Rattle.search.specs.declared.nodes.Node.{Node}
use Rattle.search.specs.DeadEnds.{ReportsDeadEnds}
use Rattle.search.specs.Estimates.{IsAdmissible}
use Rattle.search.specs.Listing.{IsPlacedBy}
use Rattle.search.specs.Nodes.{found_of}
use Rattle.search.specs.OnDemand.{AreValued}
use Rattle.search.specs.Standing.{IsStandingAt}
use Rattle.search.specs.Progress.{HoldsIn, IsExpanding, IsReachedWithin, IsReachedCheaper, IsListed, IsLeftOut, Reaches, IsFull}
use Rattle.search.proofs.Limit.{more_reachable}
use Rattle.search.proofs.Linked.{found_of-get, length-found_of}
use Rattle.search.proofs.Reached.{place_among, placed_within, placed_nowhere, free_for, match_each, reached_before}
use Rattle.search.proofs.Reaching.{IsStepTo, reached_placed}
use Rattle.search.proofs.Steps.{turn_limits}
use Rattle.search.proofs.Standings.{estimate_fits}
use Rattle.search.proofs.progress.Progress.reach.Given.{Over}
use Rattle.search.proofs.progress.Progress.reach.Goals.{After-from, In-Some, After-node-node}
use Rattle.search.proofs.progress.Progress.reach.Goals as goal

-- the node of the parent was read
read_parent : (g : Over) (c : After-from g) → c.index-before.result.now ≡ c.requires.expanding.holds.turn.found.node
read_parent g c =
    let turn = c.requires.expanding.holds.turn in
    let all = c.args.self.now.nodes.items in
    let i = c.args.to.parent.0 in
    let read : c.index-before.result.now ≡ get_or all i c.index-before.result.now = c.index-before.ensures in
    read ∙ get_or_from_slice_get all i turn.found.node c.index-before.result.now
    (found_of-get (g.L.StateListing.states c.args.self.now.store) all i turn.found turn.occurs).1

-- what it costs leaves room for one step more
limits : (g : Over) (c : After-from g) → c.index-before.result.now.cost + 4294967295 ≤ 72057598316118015
limits g c =
    let e = c.requires.expanding.holds in
    let states = g.L.StateListing.states c.args.self.now.store in
    let all = c.args.self.now.nodes.items in
    subst (λ (n : Node). n.cost + 4294967295 ≤ 72057598316118015) (sym (read_parent g c))
    (turn_limits (g.T.TransitionSystem.means c.args.problem.now.system.now) (g.L.StateListing.class_of c.args.self.now.store) c.requires.expanding.value c.requires.expanding.is_dead (found_of states all) (waiting_in c.args.self.now.open_list) e.search.nodes
    c.args.to.parent.0 c.args.problem.now.max_states e.turn (omega (arith, length-found_of states all e.search.one_each, c.requires.within)) c.requires.limit)

-- the action leads from the state whose turn it is to the successor
leads : (g : Over) (c : After-from g) → (g.T.TransitionSystem.means c.args.problem.now.system.now).step c.requires.expanding.holds.turn.found.state c.args.to.action ≡ Some (bits_of c.args.to.state.now)
leads g c =
    let turn = c.requires.expanding.holds.turn in
    let states = g.L.StateListing.states c.args.self.now.store in
    c.requires.leads turn.found.state (found_of-get states c.args.self.now.nodes.items c.args.to.parent.0 turn.found turn.occurs).0

-- the place of the state whose turn it is is below the limit
parent_within : (g : Over) (c : After-from g) → c.args.to.parent.0 < 16777216
parent_within g c =
    let e = c.requires.expanding.holds in
    let states = g.L.StateListing.states c.args.self.now.store in
    let parts = found_of-get states c.args.self.now.nodes.items c.args.to.parent.0 e.turn.found e.turn.occurs in
    omega (arith, slice_get_within states c.args.to.parent.0 e.turn.found.state parts.0, c.requires.within, c.requires.limit)

-- the state's place
placed : (g : Over) (c : In-Some g) → IsPlacedBy (g.L.StateListing.class_of c.args.self.now.store) (g.L.StateListing.is_current c.place.new.self) (g.L.StateListing.states c.args.self.now.store)
    (g.L.StateListing.states c.place.new.self) (bits_of c.args.to.state.now) c.args.problem.now.max_states (Some c.in-Some.place)
placed g c = rw c.in-Some.is at c.in_ok-place.ensures.placed

-- the node is that of the successor
step : (g : Over) (c : After-node-node g) → IsStepTo (g.T.TransitionSystem.means c.args.problem.now.system.now) c.requires.expanding.holds.turn.found c.args.to.parent.0 (bits_of c.args.to.state.now) c.node-node.result c.estimate-estimate.result
step g c =
    let t = g.T.TransitionSystem.means c.args.problem.now.system.now in
    let one = c.requires.expanding.holds.turn.found in
    let here = (goal.at.After-node-node g c).After-from in
    let same : c.index-before.result.now.cost ≡ one.node.cost = ap (λ (n : Node). n.cost) (read_parent g here) in
    let paid = ap t.cost c.node-node.ensures.action in
    record {
      status = c.node-node.ensures.status ∙ c.of_reached.ensures;
      parent = c.node-node.ensures.parent;
      cost = omega (arith, c.node-node.ensures.cost, same, c.from.ensures, c.cost.ensures, paid);
      affordable = omega (arith, c.cost.ensures, paid);
      step = ap (t.step one.state) c.node-node.ensures.action ∙ leads g here;
    }

-- what guides the search keeps its laws
admissible : (g : Over) (c : After-from g) → IsAdmissible (g.T.TransitionSystem.means c.args.problem.now.system.now) (g.G.Guide.estimate_of c.args.problem.now.guide.now)
admissible g c =
    subst (λ (u : System (List Bool) ℕ). IsAdmissible u (g.G.Guide.estimate_of c.args.problem.now.guide.now)) c.requires.made_for (g.met.G.Guide.is_admissible c.args.problem.now.guide.now)

reports : (g : Over) (c : After-from g) → ReportsDeadEnds (g.T.TransitionSystem.means c.args.problem.now.system.now) (g.G.Guide.is_dead c.args.problem.now.guide.now)
reports g c =
    subst (λ (u : System (List Bool) ℕ). ReportsDeadEnds u (g.G.Guide.is_dead c.args.problem.now.guide.now)) c.requires.made_for (g.met.G.Guide.reports_dead_ends c.args.problem.now.guide.now)

pub index-before-requires : goal.index-before-requires
index-before-requires g c =
    let e = c.requires.expanding.holds in
    let states = g.L.StateListing.states c.args.self.now.store in
    let parts = found_of-get states c.args.self.now.nodes.items c.args.to.parent.0 e.turn.found e.turn.occurs in
    omega (arith, slice_get_within c.args.self.now.nodes.items c.args.to.parent.0 e.turn.found.node parts.1, c.args.self.now.nodes.ok.0)

pub overflow_add-cost : goal.overflow_add-cost
overflow_add-cost g c =
    omega (arith, limits g (goal.at.overflow_add-cost g c).After-from)

pub is_reached_within-requires : goal.is_reached_within-requires
is_reached_within-requires g c =
    place_among _ _ _ _ _ _ (length c.args.self.now.nodes.items) c.requires.expanding.holds.search.one_each c.requires.within c.requires.limit c.in-Some.place (placed g (goal.at.is_reached_within-requires g c).In-Some)

pub node-node-requires : goal.node-node-requires
node-node-requires g c = parent_within g (goal.at.node-node-requires g c).After-from

pub take_place-requires-clause-place : goal.take_place-requires-clause-place
take_place-requires-clause-place g c =
    place_among _ _ _ _ _ _ (length c.args.self.now.nodes.items) c.requires.expanding.holds.search.one_each c.requires.within c.requires.limit c.in-Some.place (placed g (goal.at.take_place-requires-clause-place g c).In-Some)

pub take_place-requires-clause-free : goal.take_place-requires-clause-free
take_place-requires-clause-free g c =
    free_for _ _ _ _ _ _ (g.L.StateListing.class_of c.place.new.self) c.place.ensures.class (length c.args.self.now.nodes.items) c.requires.expanding.holds.search.one_each c.in-Some.place
    (placed g (goal.at.take_place-requires-clause-free g c).In-Some)

pub take_place-requires-clause-within : goal.take_place-requires-clause-within
take_place-requires-clause-within g c =
    placed_within _ _ _ _ _ _ c.requires.within c.in-Some.place (placed g (goal.at.take_place-requires-clause-within g c).In-Some)

pub take_place-requires-clause-sum : goal.take_place-requires-clause-sum
take_place-requires-clause-sum g c =
    estimate_fits (g.G.Guide.estimate_of c.args.problem.now.guide.now) (g.G.Guide.is_dead c.args.problem.now.guide.now) (bits_of c.args.to.state.now)
    c.standing_at-standing.result c.estimate-estimate.result c.node-node.result.cost c.estimate-estimate.ensures.estimate
    (omega (arith, c.node-node.ensures.cost, limits g (goal.at.take_place-requires-clause-sum g c).After-from, c.from.ensures, c.cost.ensures))

pub standing_at-standing-requires-clause-place : goal.standing_at-standing-requires-clause-place
standing_at-standing-requires-clause-place g c =
    place_among _ _ _ _ _ _ (length c.args.self.now.nodes.items) c.requires.expanding.holds.search.one_each c.requires.within c.requires.limit c.in-Some.place
    (placed g (goal.at.standing_at-standing-requires-clause-place g c).In-Some)

pub standing_at-standing-requires-clause-width : goal.standing_at-standing-requires-clause-width
standing_at-standing-requires-clause-width g c = c.requires.width ∙ sym c.requires.values_width

pub standing_at-standing-requires-clause-fits : goal.standing_at-standing-requires-clause-fits
standing_at-standing-requires-clause-fits g c = c.requires.expanding.valued.fits

pub returns-in_default-clause-listed : goal.returns-in_default-clause-listed
returns-in_default-clause-listed g c =
    let by = c.requires.expanding in
    let e = by.holds in
    let class_of = g.L.StateListing.class_of c.args.self.now.store in
    let states = g.L.StateListing.states c.args.self.now.store in
    let s = bits_of c.args.to.state.now in
    let full : (¬ Contains states s) × (length states ≡ c.args.problem.now.max_states) × (g.L.StateListing.states c.place.new.self ≡ states) = rw c.in_default.is at c.in_ok-place.ensures.placed in
    record {
      value = by.value;
      is_dead = by.is_dead;
      valued = by.valued;
      holds = (
        e,
        record {
          more = more_reachable (g.T.TransitionSystem.means c.args.problem.now.system.now) class_of by.value by.is_dead states
              c.args.self.now.nodes.items (waiting_in c.args.self.now.open_list) e.search.one_each e.search.nodes c.args.to.parent.0 e.turn c.args.to.action s
              (leads g (goal.at.returns-in_default-clause-listed g c).After-from) full.0 c.args.problem.now.max_states full.1;
          full = full.1;
          store = full.2;
          nodes = refl {A = List Node};
          open_list = refl {A = OpenList};
          bases = refl {A = Bases};
        },
      );
    }

pub returns-then-is_reached_within-clause-listed : goal.returns-then-is_reached_within-clause-listed
returns-then-is_reached_within-clause-listed g c =
    let by = c.requires.expanding in
    let e = by.holds in
    let t = g.T.TransitionSystem.means c.args.problem.now.system.now in
    let class_of = g.L.StateListing.class_of c.args.self.now.store in
    let states = g.L.StateListing.states c.args.self.now.store in
    let after = g.L.StateListing.states c.place.new.self in
    let all = c.args.self.now.nodes.items in
    let s = bits_of c.args.to.state.now in
    let here = (goal.at.returns-then-is_reached_within-clause-listed g c).After-from in
    let same : c.index-before.result.now.cost ≡ e.turn.found.node.cost = ap (λ (n : Node). n.cost) (read_parent g here) in
    let cost = c.index-before.result.now.cost + c.from.result in
    let within : IsReachedWithin all cost c.in-Some.place = rw c.if-is_reached_within.true at c.is_reached_within.ensures in
    let placed_at = placed g (goal.at.returns-then-is_reached_within-clause-listed g c).In-Some in
    let step = reached_before t class_of by.value by.is_dead states all (waiting_in c.args.self.now.open_list) c.args.to.parent.0
    e.search.one_each e.search.nodes e.turn e.others_open s (g.L.StateListing.is_current c.place.new.self) after c.args.problem.now.max_states
    c.args.to.action cost (omega (arith, same, c.from.ensures, c.cost.ensures)) c.in-Some.place placed_at within in
    record {
      value = by.value;
      is_dead = by.is_dead;
      valued = subst (λ (ss : List (List Bool)). AreValued t (g.G.Guide.estimate_of c.args.problem.now.guide.now) (g.G.Guide.is_dead c.args.problem.now.guide.now) g.V.ValuesOnDemand.answers (found_of ss all) c.args.self.now.bases by.value by.is_dead) (sym step.0) by.valued;
      holds = record {
        expanding = record {
          search = record { one_each = step.1.0; nodes = step.1.1.sound; heap = e.search.heap; single = e.search.single };
          turn = step.1.1.turn;
          others_open = step.1.1.others;
        };
        within = placed_within _ _ _ _ _ _ c.requires.within c.in-Some.place placed_at;
        continues = step.1.1.continues;
        listed = step.1.1.listed;
        noted = refl;
      };
    }

pub returns-clause-listed : goal.returns-clause-listed
returns-clause-listed g c =
    let by = c.requires.expanding in
    let e = by.holds in
    let t = g.T.TransitionSystem.means c.args.problem.now.system.now in
    let estimate = g.G.Guide.estimate_of c.args.problem.now.guide.now in
    let reported = g.G.Guide.is_dead c.args.problem.now.guide.now in
    let answers = g.V.ValuesOnDemand.answers in
    let class_of = g.L.StateListing.class_of c.args.self.now.store in
    let is_current = g.L.StateListing.is_current c.place.new.self in
    let states_of = g.L.StateListing.states in
    let states = states_of c.args.self.now.store in
    let all = c.args.self.now.nodes.items in
    let s = bits_of c.args.to.state.now in
    let i = c.args.to.parent.0 in
    let max_states = c.args.problem.now.max_states in
    let place = c.in-Some.place in
    let at = goal.at.returns-clause-listed g c in
    let node = c.node-node.result in
    let old : Progress _ = record { store = c.place.new.self; nodes = c.args.self.now.nodes; bases = c.args.self.now.bases; open_list = c.args.self.now.open_list } in
    let new = c.take_place.new.self in
    let placed_at = placed g at.In-Some in
    let cheaper : IsReachedCheaper all node.cost place = rw (← c.node-node.ensures.cost, c.if-is_reached_within.false) at c.is_reached_within.ensures in
    if_ok {Q = λ is_listed. MatchBool is_listed
    (HoldsIn t estimate reported answers states_of new (λ value is_dead. Reaches t class_of value is_dead states_of c.args.self.now new i max_states c.args.to.action s))
    (HoldsIn t estimate reported answers states_of c.args.self.now (λ value is_dead. IsExpanding t class_of value is_dead states_of c.args.self.now i × IsFull t value is_dead states_of c.args.self.now new max_states))}
    c.take_place.result
    (λ is_taken. match_each {B = IsLeftOut states_of old new s max_states} is_taken
    (λ takes.
    let is = reached_placed t class_of estimate reported answers states_of states old new i max_states e.search.one_each by.value by.is_dead by.valued e.search.nodes e.turn e.others_open
    (admissible g at.After-from) (reports g at.After-from) is_current s node c.estimate-estimate.result (step g at.After-node-node) c.requires.within
    place placed_at cheaper c.standing_at-standing.result (subst (λ (u : System (List Bool) ℕ). IsStandingAt answers u all c.args.self.now.bases s place c.standing_at-standing.result) c.requires.values_for c.standing_at-standing.ensures.standing)
    c.estimate-estimate.ensures.estimate c.rest.result c.rest.ensures takes in
    let of = is.holds in
    record {
      value = is.value;
      is_dead = is.is_dead;
      valued = is.valued;
      holds = record {
        expanding = record {
          search = record { one_each = of.each; nodes = of.stepped.sound; heap = of.heap e.search.heap; single = of.single e.search.single };
          turn = of.stepped.turn;
          others_open = of.stepped.others;
        };
        within = of.within;
        continues = of.stepped.continues;
        listed = subst (λ a. IsListed t class_of (found_of (states_of new.store) new.nodes.items) i a s) c.node-node.ensures.action of.stepped.listed;
        noted = of.noted;
      };
    })
    (λ left.
    let stored : states_of c.place.new.self ≡ states = placed_nowhere _ _ _ _ _ _ left.not_listed place placed_at in
    let full : length states ≡ max_states = sym (ap length stored) ∙ left.full in
    record {
      value = by.value;
      is_dead = by.is_dead;
      valued = by.valued;
      holds = (
        e,
        record {
          more = more_reachable t class_of by.value by.is_dead states all (waiting_in c.args.self.now.open_list) e.search.one_each e.search.nodes i e.turn c.args.to.action s (leads g at.After-from)
              (subst (λ (ss : List (List Bool)). ¬ Contains ss s) stored left.not_listed) max_states full;
          full = full;
          store = left.store ∙ stored;
          nodes = left.nodes;
          open_list = left.open_list;
          bases = left.bases;
        },
      );
    }))
    c.take_place.ensures.taken
