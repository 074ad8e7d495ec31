use Rattle.pddl_tree.proofs.Names.{◌∙◌, sym, arith, rules, name_of, from, first, listed_view}
use Rattle.pddl_tree.proofs.Groups.{group_start, group_more, group_typed, group_untyped, is_dash}
use Rattle.pddl_tree.proofs.typed_lists.group.Goals as goal

pub names-init : goal.names-init
names-init c = record { moved = omega (arith, c.in_ok-first.ensures.1.0); read = rw c.in_ok-names.ensures.items (group_start (listed_view c.args.listed) c.in_ok-first.ensures.0 c.in_ok-first.ensures.1.0) }

pub names-preserved : goal.names-preserved
names-preserved c = record {
  moved = omega (arith, c.in_ok-name.ensures.1.0);
  read = group_more (listed_view c.args.listed) name_of c.names.names.items _ c.names.invariant.read c.in_ok-name.ensures.0 c.in_ok-name.ensures.1.0 c.in_ok-push.ensures.items;
}

pub returns-then-is_close : goal.returns-then-is_close
returns-then-is_close c =
    let within = c.is_close.ensures.within (search rules) in
    (rw c.new-types.ensures.items (group_untyped (listed_view c.args.listed) c.names.invariant.read (sym c.is_close.ensures.first ∙ c.if-is_close.true)), (c.names.invariant.moved, omega (arith, within)))

pub returns : goal.returns
returns c =
    let dash = is_dash (first (from c.args.words.now c.names.next)) (sym c.ends_group.ensures.first ∙ c.names-test.false) (sym c.is_close.ensures.first ∙ c.if-is_close.false) in
    (group_typed (listed_view c.args.listed) c.in_ok-types.next c.names.invariant.read dash c.in_ok-types.ensures.0, (omega (arith, c.names.invariant.moved, c.in_ok-types.ensures.1), c.in_ok-types.ensures.1.1))
