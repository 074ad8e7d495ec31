-- A planning task: a domain and a problem with their names resolved to numbers. Types, objects, predicates, functions, schemas
-- and variables are numbered from 0, in the order of their declarations; type 0 is `object`.
use Rattle.std.specs.Prelude.{ℕ, Bool, List}

-- the bytes of a name, in lower case (PDDL 1.2 manual, "Domains": case does not matter in names)
abbrev pub Name : Type 0
Name = List ℕ

-- A type with all its supertypes: itself and its ancestors, up to `object` (PDDL 1.2 manual, "Domains").
pub record ObjectType : Type 0 where
  pub name : Name
  pub supertypes : List ℕ

-- an object with its declared type
pub record Object : Type 0 where
  pub name : Name
  pub type : ℕ

-- Alternative types, as in `(either t u)`: an object must be of one of them (PDDL 1.2 manual, "Domains").
abbrev pub Union : Type 0
Union = List ℕ

-- a predicate with the types of its arguments (PDDL 1.2 manual, "Domains"); or a function, which has numbers as values instead of
-- truth values (Fox & Long 2003, "Numeric Expressions")
pub record Predicate : Type 0 where
  pub name : Name
  pub arguments : List Union

-- a ground atom: a predicate applied to objects
pub record Atom : Type 0 where
  pub predicate : ℕ
  pub objects : List ℕ

-- An argument of an atom in an action or a goal: a variable in scope, or an object. The parameters of the action come first in
-- scope, then the variables of the enclosing quantifiers, outermost first.
pub data Term : Type 0 where
  variable : ℕ → Term
  object : ℕ → Term

-- a predicate applied to terms: an atom once the variables are bound to objects
pub record LiftedAtom : Type 0 where
  pub predicate : ℕ
  pub terms : List Term

-- A goal description (PDDL 1.2 manual, "Goal descriptions"). A quantifier has one variable of these types, which is the last in
-- the scope of its formula.
mutual
  pub data Formula : Type 0 where
    atom : LiftedAtom → Formula
    equal : Term → Term → Formula
    and : Formulas → Formula
    or : Formulas → Formula
    not : Formula → Formula
    imply : Formula → Formula → Formula
    exists : Union → Formula → Formula
    forall : Union → Formula → Formula

  pub data Formulas : Type 0 where
    no_formula : Formulas
    more_formulas : Formula → Formulas → Formulas

-- a literal of an effect: an atom becomes true, or false
pub data EffectLiteral : Type 0 where
  add : LiftedAtom → EffectLiteral
  delete : LiftedAtom → EffectLiteral

-- An effect (PDDL 1.2 manual, "Effects"): a literal, several effects together, an effect for each object of these types, bound to
-- the last variable in its scope (`forall`), or literals under a condition (`when`).
mutual
  pub data Effect : Type 0 where
    literal : EffectLiteral → Effect
    both : Effects → Effect
    each : Union → Effect → Effect
    when : Formula → List EffectLiteral → Effect

  pub data Effects : Type 0 where
    no_effect : Effects
    more_effects : Effect → Effects → Effects

-- The amount by which an action increases the total cost (action costs, 2008): a number, or the value of a function of terms. A
-- function of terms or objects is written like an atom, with the function's number in place of the predicate's.
pub data Increase : Type 0 where
  by_number : ℕ → Increase
  by_function : LiftedAtom → Increase

-- the value that `:init` gives to a function of objects
pub record FunctionValue : Type 0 where
  pub function : Atom
  pub value : ℕ

-- an action schema, with the types of its parameters (PDDL 1.2 manual, "Actions")
pub record Schema : Type 0 where
  pub name : Name
  pub parameters : List Union
  pub precondition : Formula
  pub effect : Effect
  -- the amount by which it increases the total cost, 0 if it does not (action costs, 2008)
  pub increase : Increase

-- a planning task (PDDL 1.2 manual, "Domains", "Problems")
pub record Task : Type 0 where
  pub types : List ObjectType
  pub objects : List Object
  pub predicates : List Predicate
  -- these have a name space of their own, and include `total-cost` if it is declared
  pub functions : List Predicate
  pub schemas : List Schema
  -- the atoms that are in `:init`
  pub init : List Atom
  -- the given values of functions, one for each function of the same objects
  pub values : List FunctionValue
  pub goal : Formula
  -- the metric is the total cost, to be minimized
  pub has_metric : Bool

-- an action: a schema with an object for each of its parameters
pub record Instance : Type 0 where
  pub schema : ℕ
  pub objects : List ℕ
