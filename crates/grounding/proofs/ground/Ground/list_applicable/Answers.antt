use Rattle.std.proofs.Common.{◌≡◌, ◌∙◌, ◌+◌, ◌++◌, ◌<◌, length, ap, subst, sym, arith}
use Rattle.std.specs.Prelude.{filter, vec_len}
use Rattle.std.specs.List.{All}
use Rattle.packed_state.specs.Packed.{bits_of}
use Rattle.grounding.specs.Ground.{atoms_in}
use Rattle.grounding.specs.MatchNodes.{found, IsMet}
use Rattle.grounding.specs.MatchTree.{numbers_of}
use Rattle.grounding.proofs.MatchLemmas.{passes, row-met, row-passed, row-fits, row-more, rows-skipped, unwatched-met, unwatched-fit, found-sorted}
use Rattle.grounding.proofs.ground.Ground.list_applicable.Goals as goal

pub lists-init : goal.lists-init
lists-init c =
    let g = c.args.self.now in record {
      found = rows-skipped g (bits_of c.args.state.now) c.requires 0 c.next-atom.result c.clear.new.self.items c.next-atom.ensures c.clear.ensures.items;
      room = omega (arith, c.in_ok-reserve.ensures.ok, c.reserve.ensures.len, c.saturating_sub.ensures, c.clear.ensures.capacity);
      within = c.next-atom.ensures.within;
      is_in = c.next-atom.ensures.is_in;
    }

pub add_from_tree-requires-clause-agreed : goal.add_from_tree-requires-clause-agreed
add_from_tree-requires-clause-agreed c =
    let g = c.args.self.now in
    let below : c.lists.atom < length (atoms_in g) = omega (arith, c.lists-test.true, c.width.ensures) in
    row-met g (bits_of c.args.state.now) c.requires c.lists.atom below (c.lists.invariant.is_in (omega (arith, below, c.requires))) c.of.result.now c.of.ensures

pub add_from_tree-requires-clause-room : goal.add_from_tree-requires-clause-room
add_from_tree-requires-clause-room c =
    let g = c.args.self.now in
    let count : vec_len g.conditions ≡ length g.conditions.items = omega (arith, g.conditions.ok.0) in
    let below : c.lists.atom < length (atoms_in g) = omega (arith, c.lists-test.true, c.width.ensures) in
    omega (
      arith,
      row-fits g (bits_of c.args.state.now) c.requires c.lists.atom below (c.lists.invariant.is_in (omega (arith, below, c.requires))) c.lists.into.items c.of.result.now c.lists.invariant.found c.of.ensures,
      c.lists.invariant.room,
      c.len-count.ensures,
      count,
    )

pub lists-preserved : goal.lists-preserved
lists-preserved c =
    let g = c.args.self.now in
    let bits = bits_of c.args.state.now in
    let p = passes g bits c.requires in
    let below : c.lists.atom < length (atoms_in g) = omega (arith, c.lists-test.true, c.width.ensures) in record {
      found = rows-skipped g bits c.requires (c.lists.atom + 1) c.next-atom-in-lists.result c.add_from_tree.new.into.items c.next-atom-in-lists.ensures
          (c.add_from_tree.ensures.items
          ∙ row-more p (numbers_of g.tree) c.lists.atom c.lists.into.items _ c.lists.invariant.found
          (row-passed g bits c.requires c.lists.atom below (c.lists.invariant.is_in (omega (arith, below, c.requires))) c.of.result.now c.of.ensures));
      room = omega (arith, c.lists.invariant.room, c.add_from_tree.ensures.capacity);
      within = c.next-atom-in-lists.ensures.within;
      is_in = c.next-atom-in-lists.ensures.is_in;
    }

pub add_from_tree-requires-2-clause-agreed : goal.add_from_tree-requires-2-clause-agreed
add_from_tree-requires-2-clause-agreed c =
    let g = c.args.self.now in
    let bits = bits_of c.args.state.now in
    subst (λ nodes. All (IsMet g.conditions.items bits) (found bits 0 nodes)) (sym c.deref.ensures.value) (unwatched-met g bits c.requires)

pub add_from_tree-requires-2-clause-room : goal.add_from_tree-requires-2-clause-room
add_from_tree-requires-2-clause-room c =
    let g = c.args.self.now in
    let bits = bits_of c.args.state.now in
    let count : vec_len g.conditions ≡ length g.conditions.items = omega (arith, g.conditions.ok.0) in
    let end : c.lists.atom ≡ length (atoms_in g) = omega (arith, c.lists-test.false, c.width.ensures, c.lists.invariant.within, c.requires) in
    omega (
      arith,
      unwatched-fit g bits c.requires c.lists.atom c.lists.into.items end c.lists.invariant.found,
      ap (λ nodes. length (found bits 0 nodes)) c.deref.ensures.value,
      c.lists.invariant.room,
      c.len-count.ensures,
      count,
    )

pub returns-clause-ok : goal.returns-clause-ok
returns-clause-ok c =
    let g = c.args.self.now in
    let bits = bits_of c.args.state.now in
    let end : c.lists.atom ≡ length (atoms_in g) = omega (arith, c.lists-test.false, c.width.ensures, c.lists.invariant.within, c.requires) in
    found-sorted g bits c.requires c.lists.atom c.lists.into.items c.add_from_tree-2.new.into.items c.sort_unstable.new.self.items end c.lists.invariant.found
    (c.add_from_tree-2.ensures.items ∙ ap (λ nodes. c.lists.into.items ++ filter (passes g bits c.requires) (found bits 0 nodes)) c.deref.ensures.value) c.sort_unstable.ensures.permutation
    c.sort_unstable.ensures.sorted
