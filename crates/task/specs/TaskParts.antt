-- The parts of the code's task, in the model's terms.
use Rattle.std.specs.Prelude.{ℕ, List, map}
use Rattle.std.specs.Global.{Vec}
use Rattle.std.specs.List.Sorted.{IsStrictlySortedBy}
use Rattle.task.specs.declared.atoms.TypeId.{TypeId}
use Rattle.task.specs.declared.atoms.ObjectId.{ObjectId}
use Rattle.task.specs.declared.atoms.PredicateId.{PredicateId}
use Rattle.task.specs.declared.atoms.SchemaId.{SchemaId}
use Rattle.task.specs.declared.atoms.Atom.{Atom}
use Rattle.task.specs.declared.atoms.Term.{Term}
use Rattle.task.specs.declared.atoms.Term.TheVariants.{Variable, Object}
use Rattle.task.specs.declared.atoms.LiftedAtom.{LiftedAtom}
use Rattle.task.specs.declared.schemas.Formula.{Formula, Row_of-Formula, end_of-Formula, more_of-Formula}
use Rattle.task.specs.declared.schemas.Formula as formula
use Rattle.task.specs.declared.schemas.EffectLiteral.{EffectLiteral}
use Rattle.task.specs.declared.schemas.EffectLiteral.TheVariants as effect_literal
use Rattle.task.specs.declared.schemas.Effect.{Effect, Row_of-Effect, end_of-Effect, more_of-Effect}
use Rattle.task.specs.declared.schemas.Effect as effect
use Rattle.task.specs.declared.schemas.Increase.{Increase}
use Rattle.task.specs.declared.schemas.Increase.TheVariants as increase
use Rattle.task.specs.declared.schemas.Predicate.{Predicate}
use Rattle.task.specs.declared.schemas.Schema.{Schema}
use Rattle.task.specs.declared.schemas.TypeUnion.{TypeUnion}
use Rattle.task.specs.declared.parts.TaskParts.{TaskParts}
use Rattle.task.specs.Names.{names_in}
use Rattle.task.specs.VariableNames.{VariableNames}
use Rattle.model.specs.Task as task
use Rattle.model.specs.Meaning.{atom_cmp}

abbrev pub object_of : ObjectId → ℕ
object_of o = o.0

abbrev pub predicate_id_of : PredicateId → ℕ
predicate_id_of p = p.0

abbrev pub schema_id_of : SchemaId → ℕ
schema_id_of s = s.0

abbrev pub atom_of : Atom → task.Atom
atom_of a = record { predicate = a.predicate.0; objects = map object_of a.objects.items }

-- the atoms are in ascending order, so that each occurs once
abbrev pub AreInOrder : List Atom → Type 0
AreInOrder atoms = IsStrictlySortedBy (λ a b. atom_cmp (atom_of a) (atom_of b)) atoms

abbrev pub term_of : Term → task.Term
term_of (Variable v) = task.variable v.0
term_of (Object o) = task.object o.0

abbrev pub lifted_atom_of : LiftedAtom → task.LiftedAtom
lifted_atom_of a = record { predicate = a.predicate.0; terms = map term_of a.terms.items }

abbrev pub type_of : TypeId → ℕ
type_of t = t.0

abbrev pub union_of : TypeUnion → task.Union
union_of types = map type_of types.0.items

abbrev mutual
  pub formula_of : Formula → task.Formula
  formula_of (formula.Atom a) = task.atom (lifted_atom_of a)
  formula_of (formula.Equal t u) = task.equal (term_of t) (term_of u)
  formula_of (formula.And' shape parts) = task.and (formulas_of parts)
  formula_of (formula.Or' shape parts) = task.or (formulas_of parts)
  formula_of (formula.Not' p part) = task.not (formula_of part)
  formula_of (formula.Imply' p premise q conclusion) = task.imply (formula_of premise) (formula_of conclusion)
  formula_of (formula.Exists' types p part) = task.exists (union_of types) (formula_of part)
  formula_of (formula.Forall' types p part) = task.forall (union_of types) (formula_of part)

  pub formulas_of : {m : _} → Row_of-Formula m → task.Formulas
  formulas_of end_of-Formula = task.no_formula
  formulas_of (more_of-Formula first rest) = task.more_formulas (formula_of first) (formulas_of rest)

abbrev pub effect_literal_of : EffectLiteral → task.EffectLiteral
effect_literal_of (effect_literal.Add a) = task.add (lifted_atom_of a)
effect_literal_of (effect_literal.Delete a) = task.delete (lifted_atom_of a)

abbrev mutual
  pub effect_of : Effect → task.Effect
  effect_of (effect.Literal l) = task.literal (effect_literal_of l)
  effect_of (effect.And' shape parts) = task.both (effects_of parts)
  effect_of (effect.Forall' types p part) = task.each (union_of types) (effect_of part)
  effect_of (effect.When condition literals) = task.when (formula_of condition) (map effect_literal_of literals.items)

  pub effects_of : {m : _} → Row_of-Effect m → task.Effects
  effects_of end_of-Effect = task.no_effect
  effects_of (more_of-Effect first rest) = task.more_effects (effect_of first) (effects_of rest)

abbrev pub increase_of : Increase → task.Increase
increase_of (increase.Number n) = task.by_number n
increase_of (increase.Function f) = task.by_function (lifted_atom_of f)

-- a schema without its name: the types of its parameters, its precondition, its effect and its cost increase
abbrev pub shape_of : Schema → List task.Union × task.Formula × task.Effect × task.Increase
shape_of s = (map union_of s.parameters.items, formula_of s.precondition, effect_of s.effect, increase_of s.increase)

abbrev pub shape_of_schema : task.Schema → List task.Union × task.Formula × task.Effect × task.Increase
shape_of_schema s = (s.parameters, s.precondition, s.effect, s.increase)

abbrev pub predicate_of : Vec ℕ × Predicate → task.Predicate
predicate_of entry = record { name = entry.0.items; arguments = map union_of entry.1.arguments.items }

abbrev pub schema_of : Vec ℕ × Schema → task.Schema
schema_of entry = record {
  name = entry.0.items;
  parameters = map union_of entry.1.parameters.items;
  precondition = formula_of entry.1.precondition;
  effect = effect_of entry.1.effect;
  increase = increase_of entry.1.increase;
}

abbrev pub type_entry_of : Vec ℕ × Vec TypeId → task.ObjectType
type_entry_of entry = record { name = entry.0.items; supertypes = map type_of entry.1.items }

abbrev pub object_entry_of : Vec ℕ × TypeId → task.Object
object_entry_of entry = record { name = entry.0.items; type = type_of entry.1 }

abbrev pub value_of : Atom × ℕ → task.FunctionValue
value_of entry = record { function = atom_of entry.0; value = entry.1 }

-- the task with these parts
abbrev pub task_of_parts : TaskParts → task.Task
task_of_parts p = record {
  types = map type_entry_of p.types.entries;
  objects = map object_entry_of p.objects.entries;
  predicates = map predicate_of p.predicates.entries;
  functions = map predicate_of p.functions.entries;
  schemas = map schema_of p.schemas.entries;
  init = map atom_of p.init.items;
  values = map value_of p.values.entries;
  goal = formula_of p.goal;
  has_metric = p.has_metric;
}

-- the names of the quantified variables in the precondition of a schema
abbrev pub precondition_names_of : Vec ℕ × Schema → List task.Name
precondition_names_of entry = names_in entry.1.precondition_names.items

-- the names of the quantified variables of the task with these parts
abbrev pub variable_names_of_parts : TaskParts → VariableNames
variable_names_of_parts p = record { actions = map precondition_names_of p.schemas.entries; goal = names_in p.goal_names.items }
