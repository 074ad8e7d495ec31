-- The code's trees, in the model's terms.
use Rattle.std.specs.Prelude.{List, map}
use Rattle.std.specs.Option.{option_map}
use Rattle.std.specs.Global.{Vec}
use Rattle.pddl_tree.specs.declared.tree.TaskFile.{TaskFile}
use Rattle.pddl_tree.specs.declared.tree.TaskFile.TheVariants as file
use Rattle.pddl_tree.specs.declared.tree.Atom.{Atom}
use Rattle.pddl_tree.specs.declared.tree.Predicate.{Predicate}
use Rattle.pddl_tree.specs.declared.tree.Amount.{Amount}
use Rattle.pddl_tree.specs.declared.tree.Amount.TheVariants as amount
use Rattle.pddl_tree.specs.declared.tree.Increase.{Increase}
use Rattle.pddl_tree.specs.declared.tree.Action.{Action}
use Rattle.pddl_tree.specs.declared.tree.Domain.{Domain}
use Rattle.pddl_tree.specs.declared.tree.Group.{Group}
use Rattle.pddl_tree.specs.declared.tree.GroundAtom.{GroundAtom}
use Rattle.pddl_tree.specs.declared.tree.InitialCost.{InitialCost}
use Rattle.pddl_tree.specs.declared.tree.InitialValue.{InitialValue}
use Rattle.pddl_tree.specs.declared.tree.Fact.{Fact}
use Rattle.pddl_tree.specs.declared.tree.Fact.TheVariants as fact
use Rattle.pddl_tree.specs.declared.tree.Problem.{Problem}
use Rattle.pddl_tree.specs.declared.tree.Formula.{Formula, Row_of-Formula, end_of-Formula, more_of-Formula}
use Rattle.pddl_tree.specs.declared.tree.Formula as formula
use Rattle.pddl_tree.specs.declared.tree.EffectLiteral.{EffectLiteral}
use Rattle.pddl_tree.specs.declared.tree.EffectLiteral.TheVariants as literal
use Rattle.pddl_tree.specs.declared.tree.Effect.{Effect, Row_of-Effect, end_of-Effect, more_of-Effect}
use Rattle.pddl_tree.specs.declared.tree.Effect as effect
use Rattle.model.specs.Trees as tree
pub use Rattle.pddl_tree.specs.Terms.{name_of, term_of}

abbrev pub file_of : TaskFile → tree.TaskFile
file_of file.Domain = tree.domain_file
file_of file.Problem = tree.problem_file

abbrev pub atom_of : Atom → tree.Atom
atom_of a = record { predicate = name_of a.predicate; terms = map term_of a.terms.items }

abbrev pub group_of : Group → tree.Group
group_of g = record { names = map name_of g.names.items; types = map name_of g.types.items }

abbrev pub groups_of : Vec Group → List tree.Group
groups_of groups = map group_of groups.items

abbrev mutual
  pub formula_of : Formula → tree.Formula
  formula_of (formula.Atom a) = tree.atom (atom_of a)
  formula_of (formula.Equal t u) = tree.equal (term_of t) (term_of u)
  formula_of (formula.And' shape parts) = tree.and (formulas_of parts)
  formula_of (formula.Or' shape parts) = tree.or (formulas_of parts)
  formula_of (formula.Not' place part) = tree.not (formula_of part)
  formula_of (formula.Imply' place premise other conclusion) = tree.imply (formula_of premise) (formula_of conclusion)
  formula_of (formula.Exists' variables place part) = tree.exists (groups_of variables) (formula_of part)
  formula_of (formula.Forall' variables place part) = tree.forall (groups_of variables) (formula_of part)

  pub formulas_of : {m : _} → Row_of-Formula m → tree.Formulas
  formulas_of end_of-Formula = tree.no_formula
  formulas_of (more_of-Formula first rest) = tree.more_formulas (formula_of first) (formulas_of rest)

abbrev pub effect_literal_of : EffectLiteral → tree.EffectLiteral
effect_literal_of (literal.Add a) = tree.add (atom_of a)
effect_literal_of (literal.Delete a) = tree.delete (atom_of a)

abbrev mutual
  pub effect_of : Effect → tree.Effect
  effect_of (effect.Literal l) = tree.literal (effect_literal_of l)
  effect_of (effect.And' shape parts) = tree.both (effects_of parts)
  effect_of (effect.Forall' variables place part) = tree.each (groups_of variables) (effect_of part)
  effect_of (effect.When condition literals) = tree.when (formula_of condition) (map effect_literal_of literals.items)

  pub effects_of : {m : _} → Row_of-Effect m → tree.Effects
  effects_of end_of-Effect = tree.no_effect
  effects_of (more_of-Effect first rest) = tree.more_effects (effect_of first) (effects_of rest)

abbrev pub predicate_of : Predicate → tree.Predicate
predicate_of p = record { name = name_of p.name; parameters = groups_of p.parameters }

abbrev pub amount_of : Amount → tree.Amount
amount_of (amount.Number n) = tree.by_number n
amount_of (amount.Function f) = tree.by_function (atom_of f)

abbrev pub increase_of : Increase → tree.Increase
increase_of i = record { word = name_of i.word; amount = amount_of i.amount }

abbrev pub action_of : Action → tree.Action
action_of a = record {
  name = name_of a.name;
  parameters = groups_of a.parameters;
  precondition = formula_of a.precondition;
  effect = effect_of a.effect;
  increases = map increase_of a.increases.items;
}

abbrev pub domain_of : Domain → tree.Domain
domain_of d = record {
  name = name_of d.name;
  types = groups_of d.types;
  constants = groups_of d.constants;
  predicates = map predicate_of d.predicates.items;
  functions = map predicate_of d.functions.items;
  actions = map action_of d.actions.items;
}

abbrev pub ground_atom_of : GroundAtom → tree.GroundAtom
ground_atom_of a = record { predicate = name_of a.predicate; objects = map name_of a.objects.items }

abbrev pub initial_cost_of : InitialCost → tree.InitialCost
initial_cost_of c = record { equals = name_of c.equals; function = name_of c.function; amount = c.amount; number = name_of c.number }

abbrev pub initial_value_of : InitialValue → tree.InitialValue
initial_value_of v = record { function = ground_atom_of v.function; value = v.value }

abbrev pub fact_of : Fact → tree.Fact
fact_of (fact.Atom a) = tree.fact (ground_atom_of a)
fact_of (fact.Negated n a) = tree.negated (name_of n) (ground_atom_of a)
fact_of (fact.InitialCost c) = tree.initial_cost (initial_cost_of c)
fact_of (fact.InitialValue v) = tree.initial_value (initial_value_of v)

abbrev pub problem_of : Problem → tree.Problem
problem_of p = record {
  name = name_of p.name;
  domain = name_of p.domain;
  objects = groups_of p.objects;
  init = map fact_of p.init.items;
  goal = formula_of p.goal;
  metric = option_map name_of p.metric;
}
