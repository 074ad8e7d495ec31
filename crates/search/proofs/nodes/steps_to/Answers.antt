use Rattle.std.proofs.Common.{◌≤◌, ◌++◌, ◌∷◌, [], length, get_or, ap, arith}
use Rattle.std.proofs.lemmas.List.{length-append}
use Rattle.search.specs.declared.nodes.Node.{Node}
use Rattle.search.specs.declared.nodes.NodeStatus.TheVariants.{Unexpanded}
use Rattle.search.specs.Nodes.{parent_of}
use Rattle.search.proofs.Lists.{get_there}
use Rattle.search.proofs.OpenList.{IsWayBack, way_back-start, way_back-within, way_back-more, way_back-end}
use Rattle.search.proofs.nodes.steps_to.Goals.{In_ok-push}
use Rattle.search.proofs.nodes.steps_to.Goals as goal

abbrev no_node : Node
no_node = record { cost = 0; status = Unexpanded; parent = record { low = 0; middle = 0; high = 0 }; action = 0 }

-- the node at the place
abbrev node_at : In_ok-push → Node
node_at c = get_or c.args.nodes.now c.loop-at.at.0 no_node

-- one step more on the way back
stepped_back : (c : In_ok-push) → IsWayBack c.args.nodes.now c.args.goal.0 (parent_of (node_at c)) (c.loop-at.steps.items ++ (node_at c).action ∷ [])
    × (length (c.loop-at.steps.items ++ (node_at c).action ∷ []) ≤ length c.args.nodes.now)
stepped_back c =
    let within = way_back-within c.args.nodes.now c.args.goal.0 c.loop-at.at.0 c.loop-at.steps.items c.loop-at.invariant c.loop-at-test.true in
    way_back-more c.args.nodes.now c.args.goal.0 c.loop-at.at.0 c.loop-at.steps.items (node_at c) c.loop-at.invariant c.loop-at-test.true
    (get_there c.args.nodes.now c.loop-at.at.0 no_node within)

pub loop-at-init : goal.loop-at-init
loop-at-init c = rw c.new-steps.ensures.items (way_back-start c.args.nodes.now c.args.goal.0 c.requires)

pub bounds-nodes-at : goal.bounds-nodes-at
bounds-nodes-at c = way_back-within c.args.nodes.now c.args.goal.0 c.loop-at.at.0 c.loop-at.steps.items c.loop-at.invariant c.loop-at-test.true

pub loop-at-smaller : goal.loop-at-smaller
loop-at-smaller c =
    let here = (goal.at.loop-at-smaller c).In_ok-push in
    omega (arith, (stepped_back here).1, length-append c.loop-at.steps.items ((node_at here).action ∷ []), ap length c.in_ok-push.ensures.items)

pub loop-at-preserved : goal.loop-at-preserved
loop-at-preserved c =
    rw (c.in_ok-push.ensures.items, c.id-at.ensures) (stepped_back (goal.at.loop-at-preserved c).In_ok-push).0

pub returns-clause-path : goal.returns-clause-path
returns-clause-path c =
    rw c.reverse.ensures.items
    (way_back-end c.args.nodes.now c.args.goal.0 c.loop-at.at.0 c.loop-at.steps.items c.loop-at.invariant c.loop-at-test.false).0

pub returns-clause-short : goal.returns-clause-short
returns-clause-short c =
    rw c.reverse.ensures.items
    (way_back-end c.args.nodes.now c.args.goal.0 c.loop-at.at.0 c.loop-at.steps.items c.loop-at.invariant c.loop-at-test.false).1
