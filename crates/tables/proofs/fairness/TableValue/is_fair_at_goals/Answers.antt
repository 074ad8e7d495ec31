use Rattle.std.proofs.Common.{◌∙◌, length, map, sym, ap, subst, arith}
use Rattle.std.proofs.lemmas.Int.{ints}
use Rattle.std.proofs.lemmas.List.{length-map}
use Rattle.grounding.specs.Ground.{task_in, atoms_in}
use Rattle.grounding.specs.Views.{numbered_of}
use Rattle.potentials.specs.Goals.{AreSaid}
use Rattle.potentials.proofs.GroundLemmas.{few-atoms}
use Rattle.tables.specs.Fairness.{function_of}
use Rattle.table_rows.specs.Losses.{indexed_of}
use Rattle.tables.proofs.FairnessLemmas.{decides-goals}
use Rattle.tables.proofs.fairness.TableValue.is_fair_at_goals.Goals as goal

pub overflow_add-constant : goal.overflow_add-constant
overflow_add-constant c =
    let few = few-atoms c.args.ground.now in
    let long = ap length c.weights.ensures in
    let width = c.requires.width in
    let atoms_least = c.give_at_most-by_atoms.ensures.least in
    let atoms_most = c.give_at_most-by_atoms.ensures.most in
    let constant = c.args.self.now.potentials.now.constant_in_range in
    let constant_least = constant.least in
    let constant_most = constant.most in
    let is = c.constant.ensures in
    omega (arith, ints)

pub overflow_add-constant-2 : goal.overflow_add-constant-2
overflow_add-constant-2 c =
    let tables = c.args.self.now.tables.now in
    let few = few-atoms c.args.ground.now in
    let long = ap length c.weights.ensures in
    let width = c.requires.width in
    let atoms_least = c.give_at_most-by_atoms.ensures.least in
    let atoms_most = c.give_at_most-by_atoms.ensures.most in
    let constant = c.args.self.now.potentials.now.constant_in_range in
    let constant_least = constant.least in
    let constant_most = constant.most in
    let is = c.constant.ensures in
    let least = c.in_ok-by_tables.ensures.least in
    let most = c.in_ok-by_tables.ensures.most in
    let few_tables = tables.few in
    let many = length-map tables.tables.items indexed_of in
    omega (arith, ints)

pub returns : goal.returns
returns c =
    let tables = c.args.self.now.tables.now in
    let literals = map numbered_of c.goal_literals-literals.result.now in
    let few = few-atoms c.args.ground.now in
    let long = ap length c.weights.ensures in
    let width = c.requires.width in
    let atoms_least = c.give_at_most-by_atoms.ensures.least in
    let atoms_most = c.give_at_most-by_atoms.ensures.most in
    let constant = c.args.self.now.potentials.now.constant_in_range in
    let constant_least = constant.least in
    let constant_most = constant.most in
    let is = c.constant.ensures in
    let least = c.in_ok-by_tables.ensures.least in
    let most = c.in_ok-by_tables.ensures.most in
    let few_tables = tables.few in
    let many = length-map tables.tables.items indexed_of in
    decides-goals (task_in c.args.ground.now) (atoms_in c.args.ground.now) (function_of c.args.self.now) c.weights.result.now c.weights.ensures width literals
    c.constant.result c.give_at_most-by_atoms.result c.in_ok-by_tables.by_tables _ c.is_at_most.result c.goal_literals-literals.ensures (sym c.in_ok-is_shut_out.ensures ∙ c.if-branch.false)
    c.constant.ensures
    (c.give_at_most-by_atoms.ensures.value literals (subst (λ n. AreSaid literals n c.in_ok-goal.goal) (c.width.ensures ∙ sym (long ∙ width)) c.in_ok-goal.ensures)) c.in_ok-by_tables.ensures.value (omega (arith, ints)) c.is_at_most.ensures
