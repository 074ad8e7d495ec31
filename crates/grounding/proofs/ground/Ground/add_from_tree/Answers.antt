use Rattle.std.proofs.Common.{◌≡◌, ◌∙◌, ◌+◌, ◌++◌, ℕ, false, List, ap, drop, get_or, length, length-append, subst, sym, arith}
use Rattle.std.specs.Prelude.{filter}
use Rattle.std.specs.List.{All}
use Rattle.std.proofs.lemmas.Option.{slice_get-get_or}
use Rattle.packed_state.specs.Packed.{bits_of}
use Rattle.grounding.specs.declared.match_tree.Node.{Node}
use Rattle.grounding.specs.declared.match_tree.Node.TheVariants.{Test}
use Rattle.grounding.specs.MatchNodes.{met, found, IsMet}
use Rattle.grounding.proofs.FiledNumbers.{length-filter_le}
use Rattle.grounding.proofs.MatchLemmas.{passes, found-next, all-first, all-rest, walked}
use Rattle.grounding.proofs.ground.Ground.add_from_tree.Goals as goal

pub visit-place-requires-clause-agreed : goal.visit-place-requires-clause-agreed
visit-place-requires-clause-agreed c =
    let bits = bits_of c.args.state.now in
    let nodes = c.args.nodes.now in
    let i = c.nodes.place in
    let other : Node = Test (record { atom = 0; value = false }) 0 in
    let node = get_or nodes i other in
    let next = found-next bits nodes i node (slice_get-get_or nodes i other c.nodes-test.true) in
    all-first (IsMet c.args.self.now.conditions.items bits) (met node) _ (subst (All (IsMet c.args.self.now.conditions.items bits)) next c.nodes.invariant.agreed)

pub nodes-preserved : goal.nodes-preserved
nodes-preserved c =
    let bits = bits_of c.args.state.now in
    let p = passes c.args.self.now bits c.requires.width in
    let nodes = c.args.nodes.now in
    let i = c.nodes.place in
    let other : Node = Test (record { atom = 0; value = false }) 0 in
    let node = get_or nodes i other in
    let rest : List ℕ = found bits 0 (drop (i + c.visit-place.result) nodes) in
    let next : found bits 0 (drop i nodes) ≡ met node ++ rest =
    found-next bits nodes i node (slice_get-get_or nodes i other c.nodes-test.true) ∙ ap (λ n. met node ++ found bits 0 (drop (i + n) nodes)) (sym c.visit-place.ensures.next) in record {
      items = walked p c.nodes.into.items c.visit-place.new.into.items _ (found bits 0 (drop i nodes)) (met node) rest c.visit-place.ensures.items next c.nodes.invariant.items;
      agreed = all-rest (IsMet c.args.self.now.conditions.items bits) (met node) rest (subst (All (IsMet c.args.self.now.conditions.items bits)) next c.nodes.invariant.agreed);
      room = omega (
        arith,
        ap length c.visit-place.ensures.items,
        length-append c.nodes.into.items (filter p (met node)),
        length-filter_le p (met node),
        ap length next,
        length-append (met node) rest,
        c.nodes.invariant.room,
        c.visit-place.ensures.capacity,
      );
      capacity = c.visit-place.ensures.capacity ∙ c.nodes.invariant.capacity;
    }
