use Rattle.std.proofs.Common.{◌≡◌, refl, ap, ◌∙◌, arith}
use Rattle.search.specs.declared.bases.Bases.{Bases}
use Rattle.search.specs.OnDemand.{noted_at}
use Rattle.search.specs.OpenList.{waiting_in}
use Rattle.packed_state.specs.Packed.{bits_of}
use Rattle.search.specs.Outcome.{is_expanded_status, is_dead_status}
use Rattle.search.proofs.Steps.{value_fits, joined_by, marked_by, nodes_start}
use Rattle.search.proofs.Reached.{placed_first}
use Rattle.search.proofs.Single.{single_first}
use Rattle.search.proofs.progress.Progress.start.Goals as goal

pub returns-clause-search : goal.returns-clause-search
returns-clause-search g c =
    let states = g.L.StateListing.states in
    let s = bits_of c.in_ok-initial.initial in
    let stored = states c.place.new.self in
    let placed = placed_first _ _ (states c.args.store) stored s c.in_ok-place.field-0 c.requires.empty c.in_ok-place.ensures.placed in
    let same : states c.add.new.self.store ≡ stored = rw c.in_ok-add.ensures.store refl in
    let value = g.G.Guide.estimate_of c.args.guide.now in
    let is_dead = g.G.Guide.is_dead c.args.guide.now in
    let joined = joined_by value is_dead s c.value-value.result c.new-3.result c.add.new.self.open_list 0 0 c.value-value.ensures.value c.in_ok-add.ensures.open_list in
    let marks = marked_by value is_dead s c.value-value.result c.value-value.ensures.value in
    let nodes = nodes_start (g.T.TransitionSystem.means c.args.system.now) (g.L.StateListing.class_of c.args.store) value is_dead (states c.add.new.self.store) c.add.new.self.nodes.items
    (waiting_in c.new-3.result) (waiting_in c.add.new.self.open_list) s 0 _ _ _
    (ap is_expanded_status c.of_reached.ensures ∙ marks.0) (ap is_dead_status c.of_reached.ensures ∙ marks.1) (same ∙ placed)
    (rw c.new.ensures.items at c.in_ok-add.ensures.nodes)
    c.in_ok-initial.ensures.initial refl c.new-3.ensures.none joined.0 in
    record {
      one_each = nodes.0;
      nodes = nodes.1;
      heap = joined.1 c.new-3.ensures.open_list;
      single = single_first _ _ (waiting_in c.new-3.result) (waiting_in c.add.new.self.open_list) c.new-3.ensures.none joined.0;
    }

pub add-requires-clause-sum : goal.add-requires-clause-sum
add-requires-clause-sum g c =
    value_fits (g.G.Guide.estimate_of c.args.guide.now) (g.G.Guide.is_dead c.args.guide.now) (bits_of c.in_ok-initial.initial)
    c.value-value.result 0 c.value-value.ensures.value (omega arith)

pub returns-clause-bases : goal.returns-clause-bases
returns-clause-bases g c = λ place. ap (λ (b : Bases). noted_at b place) c.in_ok-add.ensures.bases ∙ c.new-2.ensures place
