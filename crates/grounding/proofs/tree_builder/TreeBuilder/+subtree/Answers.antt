use Rattle.std.proofs.Common.{◌≡◌, ◌∙◌, ◌-◌, ◌<◌, ◌++◌, ◌∷◌, [], ℕ, ap, map, drop, take, length, subst, sym, arith}
use Rattle.std.specs.List.{All}
use Rattle.std.proofs.lemmas.List.{length-drop, take_all}
use Rattle.std.proofs.lemmas.List.Sorted.{All-permutation}
use Rattle.grounding_instances.specs.Numbers.{numbered_of}
use Rattle.grounding.specs.MatchNodes.{AgreesWith, IsTreeOf, IsGroup}
use Rattle.grounding.proofs.TreeLemmas.{tree-branch, tree-groups, tree-moved, longer-agrees}
use Rattle.grounding.proofs.tree_builder.TreeBuilder.+subtree.Goals as goal

pub branch-returns-clause-tree : goal.branch-returns-clause-tree
branch-returns-clause-tree t c =
    let b = c.args.self.now in
    let path = c.args.path.literals.now in
    subst (IsTreeOf b.width b.conditions.now (AgreesWith (map numbered_of path)) c.args.numbers.now) (sym c.in_ok-put_above.ensures.nodes)
    (tree-branch b.width b.conditions.now (AgreesWith (map numbered_of c.deref.result.now)) (AgreesWith (map numbered_of path)) c.args.literal c.args.numbers.now c.in_ok-nodes.nodes.items c.requires.atom
    c.in_ok-put_above.ensures.few c.requires.shared
    (λ bits before on. longer-agrees bits path c.deref.result.now c.args.literal
    (c.deref.ensures.value ∙ c.in_ok-push.ensures.items ∙ ap (λ ls. ls ++ c.args.literal ∷ []) c.in_ok-longer.ensures.items) before on)
    c.in_ok-nodes.ensures)

pub in_groups-groups-preserved : goal.in_groups-groups-preserved
in_groups-groups-preserved t c =
    let b = c.args.self.now in
    let seen = c.groups.seen in
    let group = c.in_ok-group.group in
    let left = drop seen c.args.numbers.now in
    let given = AgreesWith (map numbered_of c.args.path.literals.now) in
    let whole : take (length c.args.numbers.now - seen) left ≡ left = take_all (length c.args.numbers.now - seen) left (omega (arith, length-drop seen c.args.numbers.now)) in
    let is : IsGroup b.width b.conditions.now given left group.count group.nodes.items =
    subst (λ ns. IsGroup b.width b.conditions.now given ns group.count group.nodes.items) whole c.in_ok-group.ensures in record {
      few = omega (arith, is.few, length-drop seen c.args.numbers.now, c.groups.invariant.few, c.groups-test.true);
      tree = tree-groups b.width b.conditions.now given c.args.numbers.now seen group.count c.groups.nodes.items group.nodes.items c.extend_from_slice.new.self.items
          c.groups.invariant.tree is (c.in_ok-extend_from_slice.ensures.items ∙ ap (λ l. c.groups.nodes.items ++ l) c.deref.ensures.value);
    }

pub subtree-in_groups-requires : goal.subtree-in_groups-requires
subtree-in_groups-requires t c =
    let within : ℕ → Type 0 = λ n. n < length c.args.self.now.conditions.now in (
      omega arith,
      subst (All within) (sym c.deref.ensures.value) (All-permutation within c.args.numbers.now c.in_ok-sorted.sorted.items c.in_ok-sorted.ensures c.requires),
    )

pub subtree-returns : goal.subtree-returns
subtree-returns t c =
    let b = c.args.self.now in
    let given = AgreesWith (map numbered_of c.args.path.literals.now) in
    tree-moved b.width b.conditions.now given c.args.numbers.now c.in_ok-sorted.sorted.items c.in_ok-nodes.nodes.items c.in_ok-sorted.ensures
    (subst (λ ns. IsTreeOf b.width b.conditions.now given ns c.in_ok-nodes.nodes.items) c.deref.ensures.value c.in_ok-nodes.ensures)
