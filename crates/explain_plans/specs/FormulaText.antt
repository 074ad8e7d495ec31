-- The text of a formula, in lower-case PDDL, with objects in place of bound variables, and names for quantified ones.
use Rattle.std.specs.Char.{to_ascii_lowercase}
use Rattle.std.specs.Prelude.{ℕ, ◌+◌, ◌-◌, List, [], ◌∷◌, ◌++◌, codes, drop, length, map, slice_get}
use Rattle.std.specs.Fmt.{decimal}
use Rattle.std.specs.List.{flat_map}
use Rattle.std.specs.Option.{option_map_or}
use Rattle.model.specs.Task.{Task, Name, Union, Term, Formula, Formulas, variable, object, atom, equal, and, or, not, imply, exists, forall, no_formula, more_formulas}
use Rattle.explain_plans.specs.NamesLeft.{names_left}
use Rattle.task.specs.NumberedNames.{predicate_name, type_name}
use Rattle.model.specs.PlanWriting.{object_text}

-- ---- variables

-- scope for printing: the objects of bound variables, the names of the others, and the names still to be given to quantified
-- variables, in textual order
pub record Scope : Type 0 where
  pub objects : List ℕ
  pub names : List Name
  pub coming : List Name

-- only the bound variables
abbrev pub scope_at : List ℕ → (coming : List Name) → Scope
scope_at objects coming = record { objects = objects; names = []; coming = coming }

-- the name of the next variable: the first one, in lower case; when none is left, `?1`, `?2` and so on
abbrev pub named_next : List Name → (place : ℕ) → Name
named_next [] place = codes "?" ++ decimal (place + 1)
named_next (name ∷ others) place = map to_ascii_lowercase name

abbrev pub next_name : Scope → Name
next_name scope = named_next scope.coming (length scope.names)

-- the scope inside the next variable's quantifier
abbrev pub with_next : Scope → Scope
with_next scope = record { objects = scope.objects; names = scope.names ++ next_name scope ∷ []; coming = drop 1 scope.coming }

-- the scope after a formula, whose quantified variables have used up their names
abbrev pub scope_after : Scope → Formula → Scope
scope_after scope formula = record { objects = scope.objects; names = scope.names; coming = names_left formula scope.coming }

-- ---- terms, types and formulas

-- a blank, and a variable's object, or its name if it is unbound
abbrev pub variable_text : Task → Scope → ℕ → List ℕ
variable_text task scope number =
    option_map_or (object_text task) (slice_get scope.objects number)
    (codes " " ++ option_map_or (λ (name : Name). name) (slice_get scope.names (number - length scope.objects)) [])

-- a blank and a term
abbrev pub term_text : Task → Scope → Term → List ℕ
term_text task scope (variable number) = variable_text task scope number
term_text task scope (object number) = object_text task number

-- an atom with this name, or a function of terms
abbrev pub atom_text : Task → Scope → Name → List Term → List ℕ
atom_text task scope name terms = codes "(" ++ (name ++ (flat_map (term_text task scope) terms ++ codes ")"))

-- the name of the type, or `(either ..)` if there are several
abbrev pub union_text : Task → Union → List ℕ
union_text task (only ∷ []) = type_name task only
union_text task types = codes "(either" ++ (flat_map (λ number. codes " " ++ type_name task number) types ++ codes ")")

-- the variable of a quantifier, and its types
abbrev pub variable_declared : Task → Scope → Union → List ℕ
variable_declared task scope types = next_name scope ++ (codes " - " ++ (union_text task types ++ codes ") "))

abbrev mutual
  pub formula_text : Task → Scope → Formula → List ℕ
  formula_text task scope (atom a) = atom_text task scope (predicate_name task a.predicate) a.terms
  formula_text task scope (equal left right) = codes "(=" ++ (term_text task scope left ++ (term_text task scope right ++ codes ")"))
  formula_text task scope (and parts) = codes "(and" ++ (parts_text task scope parts ++ codes ")")
  formula_text task scope (or parts) = codes "(or" ++ (parts_text task scope parts ++ codes ")")
  formula_text task scope (not part) = codes "(not " ++ (formula_text task scope part ++ codes ")")
  formula_text task scope (imply premise conclusion) =
      codes "(imply " ++ (formula_text task scope premise ++ (codes " " ++ (formula_text task (scope_after scope premise) conclusion ++ codes ")")))
  formula_text task scope (exists types part) =
      codes "(exists (" ++ (variable_declared task scope types ++ (formula_text task (with_next scope) part ++ codes ")"))
  formula_text task scope (forall types part) =
      codes "(forall (" ++ (variable_declared task scope types ++ (formula_text task (with_next scope) part ++ codes ")"))

  -- a blank and each formula
  pub parts_text : Task → Scope → Formulas → List ℕ
  parts_text task scope no_formula = []
  parts_text task scope (more_formulas first rest) = codes " " ++ (formula_text task scope first ++ parts_text task (scope_after scope first) rest)
