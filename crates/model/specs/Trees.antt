-- The trees of a domain file and of a problem file: their contents before names are resolved.
use Rattle.std.specs.Prelude.{ℕ, List, [], ◌∷◌, Option}
use Rattle.std.specs.List.{flat_map}
use Rattle.model.specs.Fault.{Span}

-- the two files that a task is read from
pub data TaskFile : Type 0 where
  domain_file : TaskFile
  problem_file : TaskFile

-- a name or a variable: its bytes as written, and their place
pub record Name : Type 0 where
  pub text : List ℕ
  pub span : Span

-- a name without a place
abbrev pub no_name : Name
no_name = record { text = []; span = record { start = 0; end = 0 } }

-- a term: a variable, or the name of an object
pub data Term : Type 0 where
  variable : Name → Term
  object : Name → Term

-- a predicate applied to terms
pub record Atom : Type 0 where
  pub predicate : Name
  pub terms : List Term

-- Names or variables of one type, such as `a b - place` or `?x ?y - (either t u)`: the types after the `-`; none if no type
-- follows (PDDL 1.2 manual, "Domains"). A typed list is a list of such groups.
pub record Group : Type 0 where
  pub names : List Name
  pub types : List Name

-- the names of a typed list, in order
abbrev pub names_of : List Group → List Name
names_of groups = flat_map (λ (g : Group). g.names) groups

-- a goal description (PDDL 1.2 manual, "Goal descriptions")
mutual
  pub data Formula : Type 0 where
    atom : Atom → Formula
    equal : Term → Term → Formula
    and : Formulas → Formula
    or : Formulas → Formula
    not : Formula → Formula
    imply : Formula → Formula → Formula
    exists : List Group → Formula → Formula
    forall : List Group → Formula → Formula

  pub data Formulas : Type 0 where
    no_formula : Formulas
    more_formulas : Formula → Formulas → Formulas

-- a literal of an effect: an atom becomes true, or false
pub data EffectLiteral : Type 0 where
  add : Atom → EffectLiteral
  delete : Atom → EffectLiteral

-- an effect (PDDL 1.2 manual, "Effects"): `both` is `and`, `each` is `forall`
mutual
  pub data Effect : Type 0 where
    literal : EffectLiteral → Effect
    both : Effects → Effect
    each : List Group → Effect → Effect
    when : Formula → List EffectLiteral → Effect

  pub data Effects : Type 0 where
    no_effect : Effects
    more_effects : Effect → Effects → Effects

-- formulas and effects from lists
abbrev pub formulas : List Formula → Formulas
formulas [] = no_formula
formulas (f ∷ fs) = more_formulas f (formulas fs)

abbrev pub effects : List Effect → Effects
effects [] = no_effect
effects (e ∷ es) = more_effects e (effects es)

-- a declaration of a predicate (PDDL 1.2 manual, "Domains"), or of a function (Fox & Long 2003, "Numeric Expressions"): its
-- name, and its arguments by their variables
pub record Predicate : Type 0 where
  pub name : Name
  pub parameters : List Group

-- The amount of an increase of the total cost (action costs, 2008): a number, or the value of a function of terms, which is
-- stored like an atom, with the function's name in place of the predicate's.
pub data Amount : Type 0 where
  by_number : ℕ → Amount
  by_function : Atom → Amount

-- an increase of the total cost by an action (action costs, 2008), with its word `increase`
pub record Increase : Type 0 where
  pub word : Name
  pub amount : Amount

-- an action (PDDL 1.2 manual, "Actions")
pub record Action : Type 0 where
  pub name : Name
  pub parameters : List Group
  pub precondition : Formula
  pub effect : Effect
  -- the increases in its effect; more than one is a fault
  pub increases : List Increase

-- a domain file (PDDL 1.2 manual, "Domains")
pub record Domain : Type 0 where
  pub name : Name
  pub types : List Group
  pub constants : List Group
  pub predicates : List Predicate
  -- the declarations in `:functions`: functions of objects, and `total-cost`, which has no arguments
  pub functions : List Predicate
  pub actions : List Action

-- a predicate applied to objects
pub record GroundAtom : Type 0 where
  pub predicate : Name
  pub objects : List Name

-- the fact `(= (total-cost) N)` of `:init` (action costs, 2008): its words `=` and `total-cost`, its number, and the number's
-- word
pub record InitialCost : Type 0 where
  pub equals : Name
  pub function : Name
  pub amount : ℕ
  pub number : Name

-- the fact `(= (f o ..) N)` of `:init` (Fox & Long 2003, "Numeric Expressions"): the function of these objects, stored like an
-- atom, and its value
pub record InitialValue : Type 0 where
  pub function : GroundAtom
  pub value : ℕ

-- a fact of `:init`: an atom, or a negated one, with its word `not`, or the initial total cost, or the value of a function of
-- objects
pub data Fact : Type 0 where
  fact : GroundAtom → Fact
  negated : Name → GroundAtom → Fact
  initial_cost : InitialCost → Fact
  initial_value : InitialValue → Fact

-- a problem file (PDDL 1.2 manual, "Problems")
pub record Problem : Type 0 where
  pub name : Name
  pub domain : Name
  pub objects : List Group
  pub init : List Fact
  pub goal : Formula
  -- the word `total-cost` of `:metric`
  pub metric : Option Name
