use Rattle.std.proofs.Common.{◌≡◌, ℕ, ◌≤◌, ◌<◌, ◌+◌, ◌-◌, List, Bool, length, get_or, sym, ap, ◌∙◌, subst, false, arith}
use Rattle.std.specs.Prelude.{◌^◌}
use Rattle.std.proofs.lemmas.Option.{get_or_from_slice_get, slice_get_within}
use Rattle.packed_state.specs.Packed.{bits_of}
use Rattle.model.specs.Runs.{System}
use Rattle.search.specs.declared.on_demand.Answer.{Answer}
use Rattle.search.specs.declared.on_demand.Answer.TheVariants.{Raised, Dead}
use Rattle.search.specs.Nodes.{found_of, has_been_expanded}
use Rattle.search.specs.OnDemand.{IsAnswer}
use Rattle.search.proofs.Deferred.{raised_fits, defers_raised, defers_dead}
use Rattle.search.proofs.Linked.{found_of-get, length-found_of}
use Rattle.search.proofs.progress.Progress.defer.Given.{Over}
use Rattle.search.proofs.progress.Progress.defer.Goals.{In_ok-answer, In-Raised}
use Rattle.search.proofs.progress.Progress.defer.Goals as goal

pub index-requires : goal.index-requires
index-requires g c =
    let e = c.requires.turn.holds in
    let all = c.args.self.now.nodes.items in
    let parts = found_of-get (g.L.StateListing.states c.args.self.now.store) all c.args.turn.id.0 e.found e.occurs in
    omega (arith, slice_get_within all c.args.turn.id.0 e.found.node parts.1, c.args.self.now.nodes.ok.0)

-- the state was never expanded
fresh : (g : Over) (c : In_ok-answer g) → has_been_expanded c.requires.turn.holds.found.node ≡ false
fresh g c =
    let e = c.requires.turn.holds in
    let all = c.args.self.now.nodes.items in
    let i = c.args.turn.id.0 in
    let parts = found_of-get (g.L.StateListing.states c.args.self.now.store) all i e.found e.occurs in
    let read : c.index.result.now ≡ get_or all i c.index.result.now = c.index.ensures in
    let is : c.index.result.now ≡ e.found.node = read ∙ get_or_from_slice_get all i e.found.node c.index.result.now parts.1 in
    ap has_been_expanded (sym is) ∙ sym c.has_been_expanded.ensures ∙ c.if-has_been_expanded.false

-- the answer is right
is_right : (g : Over) (c : In_ok-answer g) (a : Answer) → c.in_ok-answer.answer ≡ a → IsAnswer g.V.ValuesOnDemand.answers (g.G.Guide.system_of c.args.guide.now) (bits_of c.args.buffers.now.state) c.args.turn.estimate a
is_right g c a is =
    subst (λ (u : System (List Bool) ℕ). IsAnswer g.V.ValuesOnDemand.answers u (bits_of c.args.buffers.now.state) c.args.turn.estimate a) c.requires.values_for
    (subst (IsAnswer g.V.ValuesOnDemand.answers (g.V.ValuesOnDemand.system_of c.args.values.now) (bits_of c.args.buffers.now.state) c.args.turn.estimate) is c.in_ok-answer.ensures.answer)

-- the sum by a greater value fits
fits : (g : Over) (c : In-Raised g) → (c.args.turn.estimate ≤ c.args.turn.sum) × (c.args.turn.sum - c.args.turn.estimate + c.in-Raised.value < 2 ^ 64)
fits g c =
    let e = c.requires.turn.holds in
    let states = g.L.StateListing.states c.args.self.now.store in
    let all = c.args.self.now.nodes.items in
    let right = is_right g (goal.at.In-Raised g c).In_ok-answer (Raised c.in-Raised.basis c.in-Raised.value) c.in-Raised.is in
    raised_fits c.args.turn.sum c.args.turn.estimate e.found.node.cost (c.requires.turn.value e.found.state) (length (found_of states all)) c.in-Raised.value
    e.sum e.estimate (e.nodes.cheap c.args.turn.id.0 e.found e.occurs) (omega (arith, length-found_of states all e.one_each, c.requires.within)) right.3

pub raise-requires-clause-sum : goal.raise-requires-clause-sum
raise-requires-clause-sum g c = (fits g (goal.at.raise-requires-clause-sum g c).In-Raised).0

pub raise-requires-clause-fits : goal.raise-requires-clause-fits
raise-requires-clause-fits g c = (fits g (goal.at.raise-requires-clause-fits g c).In-Raised).1

pub raise-requires-clause-place : goal.raise-requires-clause-place
raise-requires-clause-place g c =
    omega (arith, slice_get_within (g.L.StateListing.states c.args.self.now.store) c.args.turn.id.0 (bits_of c.args.buffers.now.state) c.requires.state, c.requires.within)

pub bury-requires : goal.bury-requires
bury-requires g c =
    let e = c.requires.turn.holds in
    let all = c.args.self.now.nodes.items in
    slice_get_within all c.args.turn.id.0 e.found.node (found_of-get (g.L.StateListing.states c.args.self.now.store) all c.args.turn.id.0 e.found e.occurs).1

pub returns-in_ok-raise-in-Raised-clause-deferred : goal.returns-in_ok-raise-in-Raised-clause-deferred
returns-in_ok-raise-in-Raised-clause-deferred g c =
    let here = (goal.at.returns-in_ok-raise-in-Raised-clause-deferred g c).In_ok-answer in
    let states_of = g.L.StateListing.states in
    defers_raised (g.G.Guide.system_of c.args.guide.now) (g.L.StateListing.class_of c.args.self.now.store) (g.G.Guide.estimate_of c.args.guide.now) (g.G.Guide.is_dead c.args.guide.now)
    g.V.ValuesOnDemand.answers states_of c.args.self.now c.raise.new.self c.args.turn
    c.requires.turn c.requires.open (bits_of c.args.buffers.now.state) c.requires.state (fresh g here) (ap states_of c.raise.ensures.store)
    c.in-Raised.basis c.in-Raised.value (is_right g here (Raised c.in-Raised.basis c.in-Raised.value) c.in-Raised.is)
    c.in_ok-raise-in-Raised.ensures.bases c.raise.ensures.nodes c.in_ok-raise-in-Raised.ensures.open_list

pub returns-in_ok-bury-in-Dead-clause-deferred : goal.returns-in_ok-bury-in-Dead-clause-deferred
returns-in_ok-bury-in-Dead-clause-deferred g c =
    let here = (goal.at.returns-in_ok-bury-in-Dead-clause-deferred g c).In_ok-answer in
    let states_of = g.L.StateListing.states in
    let all = c.args.self.now.nodes.items in
    let e = c.requires.turn.holds in
    defers_dead (g.G.Guide.system_of c.args.guide.now) (g.L.StateListing.class_of c.args.self.now.store) (g.G.Guide.estimate_of c.args.guide.now) (g.G.Guide.is_dead c.args.guide.now)
    g.V.ValuesOnDemand.answers states_of c.args.self.now c.bury.new.self c.args.turn
    c.requires.turn c.requires.open (bits_of c.args.buffers.now.state) c.requires.state (fresh g here) (ap states_of c.bury.ensures.store)
    c.in-Dead.basis (is_right g here (Dead c.in-Dead.basis) c.in-Dead.is)
    c.in_ok-bury-in-Dead.ensures.bases (c.bury.ensures.nodes e.found.node (found_of-get (states_of c.args.self.now.store) all c.args.turn.id.0 e.found e.occurs).1) c.bury.ensures.open_list
