use Rattle.std.proofs.Common.{◌∙◌, ap, subst, sym, get_or, length}
use Rattle.std.specs.Prelude.{IsTrue, is_some, Contains}
use Rattle.std.proofs.lemmas.List.Elements.{Contains-get_or}
use Rattle.packed_state.specs.Packed.{bits_of}
use Rattle.search.proofs.buffers.Buffers.touch_successors.Goals as goal

pub successor-requires-clause-width : goal.successor-requires-clause-width
successor-requires-clause-width g c = ap (λ s. length (bits_of s)) c.loop-action.invariant.state ∙ c.requires.buffers.state

pub successor-requires-clause-applicable : goal.successor-requires-clause-applicable
successor-requires-clause-applicable g c =
    let t = g.T.TransitionSystem.means c.args.system.now in
    let numbers = c.deref-action-items.result.now in
    let a = get_or numbers c.loop-action.action-index 0 in
    let among = subst (λ ns. Contains ns a) c.deref-action-items.ensures.value (Contains-get_or numbers c.loop-action.action-index 0 c.loop-action-test.true) in
    subst (λ s. IsTrue (is_some (t.step (bits_of s) a))) (sym c.loop-action.invariant.state) ((c.requires.applicable a).0 among)
