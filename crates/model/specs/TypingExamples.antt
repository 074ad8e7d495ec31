-- Worked examples of typing: the faults of small trees, and the task of a well-typed pair. Each is chosen to expose a wrong
-- reading.
use Rattle.std.specs.Prelude.{◌≡◌, ℕ, ◌+◌, Bool, true, false, List, [], ◌∷◌, ◌++◌, codes, map, None, Some, Contains}
use Rattle.model.specs.Task as task
use Rattle.model.specs.Task.{by_number, by_function, Schema, Task}
use Rattle.model.specs.Trees as tree
use Rattle.model.specs.Trees.{TaskFile, domain_file, problem_file, Name, Group, GroundAtom, Fact, Predicate, Increase, Action, Domain, Problem, Term, Atom, Formula, Effect, formulas, effects}
use Rattle.model.specs.Meaning.{State, holds, changes_of_instance}
use Rattle.model.specs.SureLiterals.{Literal, is_true, sure}
use Rattle.model.specs.StaticallyFalse.{is_unconditional}
use Rattle.model.specs.Resolution.{TypingFault, Placed, exists_over, forall_over, task_of_trees}
use Rattle.model.specs.Typing.{IsWellTyped, IsReported, faults_of}

-- a name at this offset
abbrev pub at : ℕ → List ℕ → Name
at start text = record { text = text; span = record { start = start; end = start + 1 } }

-- names with their types, and names without types
abbrev pub group : List Name → List Name → Group
group names types = record { names = names; types = types }

abbrev pub untyped : List Name → List Group
untyped names = group names [] ∷ []

-- the word at this offset is refused with this number
abbrev pub fault : TaskFile → ℕ → ℕ → TypingFault
fault file code start = record { file = file; fault = record { code = code; span = record { start = start; end = start + 1 } } }

abbrev pub atom : Name → List Term → Atom
atom predicate terms = record { predicate = predicate; terms = terms }

abbrev pub nothing : Formula
nothing = tree.and (formulas [])

-- (define (domain d) (:types t - v  v) (:constants k - v) (:predicates (p ?x - v)) (:action a :parameters (?y - t) :effect (p ?y)))
abbrev pub park : Action
park = record {
  name = at 40 (codes "a");
  parameters = group (at 41 (codes "?y") ∷ []) (at 42 (codes "t") ∷ []) ∷ [];
  precondition = nothing;
  effect = tree.literal (tree.add (atom (at 43 (codes "p")) (tree.variable (at 44 (codes "?y")) ∷ [])));
  increases = [];
}

abbrev pub fleet : Domain
fleet = record {
  name = at 1 (codes "d");
  types = group (at 10 (codes "t") ∷ []) (at 11 (codes "v") ∷ []) ∷ group (at 12 (codes "v") ∷ []) [] ∷ [];
  constants = group (at 20 (codes "k") ∷ []) (at 21 (codes "v") ∷ []) ∷ [];
  predicates = record { name = at 30 (codes "p"); parameters = group (at 31 (codes "?x") ∷ []) (at 32 (codes "v") ∷ []) ∷ [] } ∷ [];
  functions = [];
  actions = park ∷ [];
}

-- (define (problem q) (:domain D) (:objects o - T) (:init (p k)) (:goal (p o)))
abbrev pub parked : Problem
parked = record {
  name = at 1 (codes "q");
  domain = at 2 (codes "D");
  objects = group (at 10 (codes "o") ∷ []) (at 11 (codes "T") ∷ []) ∷ [];
  init = tree.fact (record { predicate = at 20 (codes "p"); objects = at 21 (codes "k") ∷ [] }) ∷ [];
  goal = tree.atom (atom (at 30 (codes "p")) (tree.object (at 31 (codes "o")) ∷ []));
  metric = None;
}

-- its task: `object`, t and v are the types 0, 1 and 2; the constant is object 0
abbrev pub task_park : Schema
task_park = record {
  name = codes "a";
  parameters = (1 ∷ []) ∷ [];
  precondition = task.and task.no_formula;
  effect = task.literal (task.add (record { predicate = 0; terms = task.variable 0 ∷ [] }));
  increase = by_number 0;
}

abbrev pub fleet_task : Task
fleet_task = record {
  types = record { name = codes "object"; supertypes = 0 ∷ [] }
      ∷ record { name = codes "t"; supertypes = 1 ∷ 2 ∷ 0 ∷ [] }
      ∷ record { name = codes "v"; supertypes = 2 ∷ 0 ∷ [] } ∷ [];
  objects = record { name = codes "k"; type = 2 } ∷ record { name = codes "o"; type = 1 } ∷ [];
  predicates = record { name = codes "p"; arguments = (2 ∷ []) ∷ [] } ∷ [];
  functions = [];
  schemas = task_park ∷ [];
  init = record { predicate = 0; objects = 0 ∷ [] } ∷ [];
  values = [];
  goal = task.atom (record { predicate = 0; terms = task.object 1 ∷ [] });
  has_metric = false;
}

-- the same domain with other types
abbrev pub with_types : List Group → Domain
with_types groups = record fleet { types = groups }

-- an action of the parameter ?y of these types, with the effect (p ?y)
abbrev pub with_parameter : List Name → Domain
with_parameter types = record fleet { actions = record park { parameters = group (at 41 (codes "?y") ∷ []) types ∷ [] } ∷ [] }

-- the same problem with another goal
abbrev pub with_goal : Formula → Problem
with_goal goal = record parked { goal = goal }

abbrev pub variable : ℕ → List ℕ → Term
variable start text = tree.variable (at start text)

-- (p ?x), with ?x at the offset after it
abbrev pub p_of_x : ℕ → Formula
p_of_x start = tree.atom (atom (at start (codes "p")) (variable (start + 1) (codes "?x") ∷ []))

-- (p o), in a goal, and its formula
abbrev pub p_of_o : Formula
p_of_o = parked.goal

abbrev pub task_p_of_o : task.Formula
task_p_of_o = fleet_task.goal

-- the sure literals of this goal
abbrev pub said_by : Formula → List Literal
said_by goal = sure (task_of_trees fleet (with_goal goal)) (task_of_trees fleet (with_goal goal)).goal []

-- (exists (?x ..) ..) with these types and this part
abbrev pub some_x : List Name → Formula → Formula
some_x types part = tree.exists (group (at 31 (codes "?x") ∷ []) types ∷ []) part

-- variables with these letters, at consecutive offsets
abbrev pub letters : ℕ → List ℕ → List Name
letters start [] = []
letters start (letter ∷ rest) = at start (letter ∷ []) ∷ letters (start + 1) rest

-- the action a with this precondition
abbrev pub with_precondition : Formula → Domain
with_precondition formula = record fleet { actions = record park { precondition = formula } ∷ [] }

-- the same with this effect, or with these increases and these declared `:functions`
abbrev pub with_effect : Effect → Domain
with_effect effect = record fleet { actions = record park { effect = effect } ∷ [] }

abbrev pub with_increases : List Predicate → List Increase → Domain
with_increases functions increases = record fleet { functions = functions; actions = record park { increases = increases } ∷ [] }

-- `total-cost` at this offset, its declaration, and (increase (total-cost) ..), whose word is at this offset
abbrev pub total_cost_at : ℕ → Name
total_cost_at start = at start (codes "total-cost")

abbrev pub total_cost : ℕ → Predicate
total_cost start = record { name = total_cost_at start; parameters = [] }

abbrev pub increase : ℕ → ℕ → Increase
increase start amount = record { word = at start (codes "increase"); amount = tree.by_number amount }

-- the declaration (f ?x - v) with this name, its words at consecutive offsets
abbrev pub function : ℕ → List ℕ → Predicate
function start name = record { name = at start name; parameters = group (at (start + 1) (codes "?x") ∷ []) (at (start + 2) (codes "v") ∷ []) ∷ [] }

-- `total-cost` and (length ?x - v) are declared, and no other function
abbrev pub of_length : List Predicate
of_length = total_cost 35 ∷ function 36 (codes "length") ∷ []

-- (increase (total-cost) (f ..)) with this function and these terms; its word is at 45 and the function at 46
abbrev pub increase_by : List ℕ → List Term → Increase
increase_by name terms = record { word = at 45 (codes "increase"); amount = tree.by_function (atom (at 46 name) terms) }

-- the domain whose action has this increase, with `total-cost` and (length ?x - v) declared
abbrev pub costs : List ℕ → List Term → Domain
costs name terms = with_increases of_length (increase_by name terms ∷ [])

-- the domain without increases
abbrev pub lengths : Domain
lengths = with_increases of_length []

-- (= (f ..) ..) with this function at the offset, these objects after it, and this number
abbrev pub value_of : ℕ → List ℕ → List Name → ℕ → Fact
value_of start name objects value = tree.initial_value (record { function = record { predicate = at start name; objects = objects }; value = value })

-- (= (length k) ..), with `length` at the offset and k at the one after it
abbrev pub length_of_k : ℕ → ℕ → Fact
length_of_k start value = value_of start (codes "length") (at (start + 1) (codes "k") ∷ []) value

-- (= (total-cost) ..), its words at consecutive offsets
abbrev pub starts_at : ℕ → ℕ → Fact
starts_at start amount = tree.initial_cost (record { equals = at start (codes "="); function = total_cost_at (start + 1); amount = amount; number = at (start + 2) (codes "1") })

-- the same problem with these initial costs or values of functions
abbrev pub with_start : List Fact → Problem
with_start stated = record parked { init = parked.init ++ stated }

-- the same with the metric, whose word `total-cost` is at 40
abbrev pub with_metric : Problem
with_metric = record parked { metric = Some (total_cost_at 40) }

-- (p t) as an effect, with t at the offset after it
abbrev pub p_of : ℕ → Term → Effect
p_of start t = tree.literal (tree.add (atom (at start (codes "p")) (t ∷ [])))

-- which changes of (when CONDITION (p ?y)) are unconditional, if ?y is the constant
abbrev pub unconditional_under : Formula → List Bool
unconditional_under condition =
    map is_unconditional (changes_of_instance (task_of_trees (with_effect (tree.when condition (tree.add (atom (at 50 (codes "p")) (variable 51 (codes "?y") ∷ [])) ∷ []))) parked)
    (record { schema = 0; objects = 0 ∷ [] }))

-- (forall (?x - v) ..)
abbrev pub each_x : Effect → Effect
each_x part = tree.each (group (at 51 (codes "?x") ∷ []) (at 52 (codes "v") ∷ []) ∷ []) part

-- (and (forall (?x - v ?z) (when (= ?z ?y) (and (p ?x) (not (p k))))) (p ?y))
abbrev pub of_two_variables : Effect
of_two_variables =
    tree.both (effects (
    tree.each (group (at 51 (codes "?x") ∷ []) (at 52 (codes "v") ∷ []) ∷ group (at 53 (codes "?z") ∷ []) [] ∷ [])
    (tree.when (tree.equal (variable 54 (codes "?z")) (variable 55 (codes "?y")))
    (tree.add (atom (at 56 (codes "p")) (variable 57 (codes "?X") ∷ [])) ∷ tree.delete (atom (at 58 (codes "p")) (tree.object (at 59 (codes "k")) ∷ [])) ∷ []))
    ∷ p_of 60 (variable 61 (codes "?y")) ∷ []
    ))

-- the first fault is reported for the pair; its phase has exactly the others besides, in this order
pub record HasFaults (d : Domain) (p : Problem) (first : TypingFault) (others : List TypingFault) : Type 0 where
  pub reported : IsReported d p first
  pub are_listed : faults_of d p ≡ first ∷ others

pub record AreTyped : Type 0 where
  -- Each name becomes its number, regardless of case.
  pub no_fault : IsWellTyped fleet parked
  pub its_task : task_of_trees fleet parked ≡ fleet_task
  -- A type is declared only once, and `object` is predeclared.
  pub type_again : HasFaults (with_types (untyped (at 10 (codes "t") ∷ at 11 (codes "v") ∷ at 12 (codes "T") ∷ at 13 (codes "object") ∷ []))) parked
      (fault domain_file 16 12) (fault domain_file 16 13 ∷ [])
  -- A parent is `object` or declared anywhere in the list.
  pub unknown_parent : HasFaults (with_types (group (at 10 (codes "t") ∷ []) (at 11 (codes "u") ∷ []) ∷ group (at 12 (codes "v") ∷ []) (at 13 (codes "object") ∷ []) ∷ [])) parked
      (fault domain_file 14 11) []
  -- The types v and w are on a cycle; t below them is not; faults of later phases are not reported.
  pub cycle : HasFaults (with_types (group (at 10 (codes "t") ∷ []) (at 11 (codes "v") ∷ []) ∷ group (at 12 (codes "v") ∷ []) (at 13 (codes "w") ∷ []) ∷ group (at 14 (codes "w") ∷ []) (at 15 (codes "v") ∷ []) ∷ []))
      (record parked { objects = untyped (at 10 (codes "o") ∷ at 11 (codes "o") ∷ []) })
      (fault domain_file 15 12) (fault domain_file 15 14 ∷ [])
  pub own_parent : HasFaults (with_types (group (at 10 (codes "t") ∷ at 11 (codes "v") ∷ []) (at 12 (codes "v") ∷ []) ∷ [])) parked (fault domain_file 15 11) []
  -- Constants and objects share a name space.
  pub object_again : HasFaults fleet (record parked { objects = untyped (at 10 (codes "K") ∷ []) }) (fault problem_file 16 10) []
  -- A variable of a supertype does not fit, nor does one with a type that does not.
  pub supertype : HasFaults (with_parameter (at 42 (codes "object") ∷ [])) parked (fault domain_file 19 44) []
  pub one_of_two : HasFaults (with_parameter (at 42 (codes "t") ∷ at 45 (codes "object") ∷ [])) parked (fault domain_file 19 44) []
  pub both_fit : IsWellTyped (with_parameter (at 42 (codes "t") ∷ at 45 (codes "v") ∷ [])) parked
  -- A variable of an unknown type fits nothing.
  pub unknown_type : HasFaults (with_parameter (at 42 (codes "u") ∷ [])) parked (fault domain_file 14 42) (fault domain_file 19 44 ∷ [])
  -- The problem's objects are not visible in an action.
  pub object_in_action : HasFaults (record fleet { actions = record park { precondition = tree.atom (atom (at 46 (codes "p")) (tree.object (at 47 (codes "o")) ∷ [])) } ∷ [] }) parked
      (fault domain_file 17 47) []
  -- An untyped object is only of type `object`, and no fact may be negated.
  pub wrong_fact : HasFaults fleet (record parked { objects = untyped (at 10 (codes "o") ∷ []); init = tree.fact (record { predicate = at 20 (codes "p"); objects = at 21 (codes "o") ∷ [] }) ∷ tree.negated (at 22 (codes "not")) (record { predicate = at 23 (codes "p"); objects = at 24 (codes "k") ∷ [] }) ∷ [] })
      (fault problem_file 19 21) (fault problem_file 24 22 ∷ [])
  -- Another domain name is reported together with the faults of types.
  pub other_domain : HasFaults fleet (record parked { domain = at 2 (codes "e") }) (fault problem_file 21 2) []
  -- A quantifier of two variables is two quantifiers, and its variables come after those in scope: in
  -- (exists (?x - v ?z) (forall (?w - t) (= ?w ?z))) the variables are 0, 1 and 2.
  pub quantified : (task_of_trees fleet (with_goal (tree.exists (group (at 31 (codes "?x") ∷ []) (at 32 (codes "v") ∷ []) ∷ group (at 33 (codes "?z") ∷ []) [] ∷ [])
      (tree.forall (group (at 34 (codes "?w") ∷ []) (at 35 (codes "t") ∷ []) ∷ []) (tree.equal (variable 36 (codes "?w")) (variable 37 (codes "?Z"))))))).goal
      ≡ task.exists (2 ∷ []) (task.exists (0 ∷ []) (task.forall (1 ∷ []) (task.equal (task.variable 2) (task.variable 1))))
  -- A quantifier over no variables is an `or` of its part, or an `and`, and holds if the part does.
  pub exists_of_none : (task_of_trees fleet (with_goal (tree.exists [] p_of_o))).goal ≡ task.or (task.more_formulas task_p_of_o task.no_formula)
  pub forall_of_none : (task_of_trees fleet (with_goal (tree.forall [] p_of_o))).goal ≡ task.and (task.more_formulas task_p_of_o task.no_formula)
  pub some_hold : (part : task.Formula) (binding : List ℕ) (state : State) → holds fleet_task (exists_over [] part) binding state ≡ holds fleet_task part binding state
  pub all_hold : (part : task.Formula) (binding : List ℕ) (state : State) → holds fleet_task (forall_over [] part) binding state ≡ holds fleet_task part binding state
  -- So `(exists () (p o))` has no sure literals, nor has `(not (forall () (p o)))`, while `(forall () (p o))` has one.
  pub exists_says_nothing : said_by (tree.exists [] p_of_o) ≡ []
  pub not_forall_says_nothing : said_by (tree.not (tree.forall [] p_of_o)) ≡ []
  pub forall_says : said_by (tree.forall [] p_of_o) ≡ is_true (record { predicate = 0; objects = 1 ∷ [] }) ∷ []
  -- What is under `(when (forall () (and)) ..)` is conditional, unlike what is under `(when (and) ..)`.
  pub under_forall : unconditional_under (tree.forall [] nothing) ≡ false ∷ []
  pub under_and : unconditional_under nothing ≡ true ∷ []
  -- Its variable is known inside it, with its types, and not after it.
  pub in_scope : IsWellTyped fleet (with_goal (some_x (at 32 (codes "v") ∷ []) (p_of_x 33)))
  pub of_the_root : HasFaults fleet (with_goal (some_x [] (p_of_x 33))) (fault problem_file 19 34) []
  pub out_of_scope : HasFaults fleet (with_goal (tree.and (formulas (some_x (at 32 (codes "v") ∷ []) (p_of_x 33) ∷ p_of_x 35 ∷ [])))) (fault problem_file 17 36) []
  -- Its types must be known, and no variable may be twice in its list.
  pub of_unknown_type : HasFaults fleet (with_goal (tree.forall (group (at 31 (codes "?x") ∷ []) (at 32 (codes "u") ∷ []) ∷ []) nothing)) (fault problem_file 14 32) []
  pub twice_in_a_list : HasFaults fleet (with_goal (tree.exists (untyped (at 31 (codes "?x") ∷ at 32 (codes "?X") ∷ [])) nothing)) (fault problem_file 16 32) []
  -- None may have the name of one in scope, be it a parameter or a variable of an enclosing quantifier; a later one may.
  pub as_a_parameter : HasFaults (with_precondition (tree.not (tree.exists (untyped (at 50 (codes "?Y") ∷ [])) nothing))) parked (fault domain_file 20 50) []
  pub as_one_around : HasFaults fleet (with_goal (some_x [] (tree.or (formulas (tree.forall (untyped (at 40 (codes "?x") ∷ [])) nothing ∷ []))))) (fault problem_file 20 40) []
  pub as_one_before : IsWellTyped fleet (with_goal (tree.imply (some_x [] nothing) (tree.exists (untyped (at 40 (codes "?x") ∷ [])) nothing)))
  -- At most 16 are in scope: with the parameter ?y, the sixteenth of a list is one too many.
  pub sixteen : IsWellTyped (with_precondition (tree.exists (untyped (letters 50 (codes "abcdefghijklmno"))) nothing)) parked
  pub seventeen : HasFaults (with_precondition (tree.exists (untyped (letters 50 (codes "abcdefghijklmnopq"))) nothing)) parked (fault domain_file 25 65) []
  -- The terms of an equality must be known, but may have any types.
  pub of_two_types : IsWellTyped (with_precondition (tree.equal (variable 50 (codes "?y")) (tree.object (at 51 (codes "k"))))) parked
  pub unknown_terms : HasFaults fleet (with_goal (tree.equal (variable 31 (codes "?x")) (tree.object (at 32 (codes "n"))))) (fault problem_file 17 31) (fault problem_file 17 32 ∷ [])
  -- The variable of a `forall` effect is known in its part, with its types, and not after it.
  pub in_its_part : IsWellTyped (with_effect (each_x (p_of 53 (variable 54 (codes "?X"))))) parked
  pub of_another_type : HasFaults (with_effect (tree.each (untyped (at 51 (codes "?x") ∷ [])) (p_of 53 (variable 54 (codes "?x"))))) parked (fault domain_file 19 54) []
  pub after_its_part : HasFaults (with_effect (tree.both (effects (each_x (p_of 53 (variable 54 (codes "?x"))) ∷ p_of 55 (variable 56 (codes "?x")) ∷ [])))) parked (fault domain_file 17 56) []
  -- Its list follows the rules of a quantifier's: known types, no repetition, no name in scope, at most 16.
  pub of_a_type_unknown : HasFaults (with_effect (tree.each (group (at 51 (codes "?x") ∷ []) (at 52 (codes "u") ∷ []) ∷ []) (tree.both (effects [])))) parked (fault domain_file 14 52) []
  pub twice_in_its_list : HasFaults (with_effect (tree.each (untyped (at 51 (codes "?x") ∷ at 52 (codes "?X") ∷ [])) (tree.both (effects [])))) parked (fault domain_file 16 52) []
  pub as_the_parameter : HasFaults (with_effect (tree.each (untyped (at 51 (codes "?Y") ∷ [])) (tree.both (effects [])))) parked (fault domain_file 20 51) []
  pub in_one_another : HasFaults (with_effect (each_x (tree.when (some_x [] nothing) []))) parked (fault domain_file 20 31) []
  pub one_too_many : HasFaults (with_effect (tree.each (untyped (letters 50 (codes "abcdefghijklmnop"))) (tree.both (effects [])))) parked (fault domain_file 25 65) []
  -- For a `when`, the condition and each literal are checked; the problem's objects are not visible.
  pub under_a_condition : HasFaults (with_effect (tree.when (tree.not (p_of_x 50)) (tree.add (atom (at 52 (codes "n")) []) ∷ tree.delete (atom (at 53 (codes "p")) (tree.object (at 54 (codes "o")) ∷ [])) ∷ []))) parked
      (fault domain_file 17 51) (fault domain_file 17 52 ∷ fault domain_file 17 54 ∷ [])
  -- `total-cost` is declared only once, and must be if the metric names it.
  pub cost_declared_again : HasFaults (with_increases (total_cost 35 ∷ total_cost 36 ∷ total_cost 37 ∷ []) []) parked (fault domain_file 16 36) (fault domain_file 16 37 ∷ [])
  pub metric_of_nothing : HasFaults fleet with_metric (fault problem_file 22 40) []
  pub metric_of_the_cost : IsWellTyped (with_increases (total_cost 35 ∷ []) []) with_metric
  -- These faults come before those of actions.
  pub before_the_actions : HasFaults (with_increases [] (increase 45 1 ∷ [])) with_metric (fault problem_file 22 40) []
  -- An action increases the cost at most once, and only if it is declared.
  pub increase_of_nothing : HasFaults (with_increases [] (increase 45 1 ∷ increase 46 1 ∷ [])) parked (fault domain_file 23 45) (fault domain_file 23 46 ∷ [])
  pub increases_again : HasFaults (with_increases (total_cost 35 ∷ []) (increase 45 1 ∷ increase 46 1 ∷ increase 47 1 ∷ [])) parked (fault domain_file 23 46) (fault domain_file 23 47 ∷ [])
  -- Its initial value is 0, given at most once, and only if it is declared.
  pub starts_at_nothing : IsWellTyped (with_increases (total_cost 35 ∷ []) []) (with_start (starts_at 22 0 ∷ []))
  pub starts_at_one : HasFaults (with_increases (total_cost 35 ∷ []) []) (with_start (starts_at 22 1 ∷ [])) (fault problem_file 23 24) []
  pub starts_again : HasFaults (with_increases (total_cost 35 ∷ []) []) (with_start (starts_at 22 0 ∷ starts_at 25 0 ∷ [])) (fault problem_file 23 25) []
  pub start_of_nothing : HasFaults fleet (with_start (starts_at 22 0 ∷ [])) (fault problem_file 23 23) []
  pub start_of_nothing_at_one : HasFaults fleet (with_start (starts_at 22 1 ∷ [])) (fault problem_file 23 23) (fault problem_file 23 24 ∷ [])
  -- A `forall` over two variables is two nested ones, after the parameter; an action that increases the cost costs that amount.
  pub its_effect : (task_of_trees (with_effect of_two_variables) parked).schemas ≡ record {
    name = codes "a";
    parameters = (1 ∷ []) ∷ [];
    precondition = task.and task.no_formula;
    effect = task.both (task.more_effects
        (task.each (2 ∷ []) (task.each (0 ∷ []) (task.when (task.equal (task.variable 2) (task.variable 0))
        (task.add (record { predicate = 0; terms = task.variable 1 ∷ [] }) ∷ task.delete (record { predicate = 0; terms = task.object 0 ∷ [] }) ∷ []))))
        (task.more_effects (task.literal (task.add (record { predicate = 0; terms = task.variable 0 ∷ [] }))) task.no_effect));
    increase = by_number 0;
  } ∷ []
  pub without_fault : IsWellTyped (with_effect of_two_variables) parked
  pub its_cost : (task_of_trees (with_increases (total_cost 35 ∷ []) (increase 45 7 ∷ [])) with_metric).schemas ≡ record task_park { increase = by_number 7 } ∷ []
  pub has_its_metric : (task_of_trees (with_increases (total_cost 35 ∷ []) []) with_metric).has_metric ≡ true
  pub has_no_metric : (task_of_trees (with_increases (total_cost 35 ∷ []) (increase 45 7 ∷ [])) parked).has_metric ≡ false
  -- A function is declared only once, regardless of case; its types must be known, and it has at most 8 arguments.
  pub function_again : HasFaults (with_increases (of_length ++ function 40 (codes "LENGTH") ∷ []) []) parked (fault domain_file 16 40) []
  pub function_of_an_unknown_type : HasFaults (with_increases (record { name = at 35 (codes "length"); parameters = group (at 36 (codes "?x") ∷ []) (at 37 (codes "u") ∷ []) ∷ [] } ∷ []) []) parked
      (fault domain_file 14 37) []
  pub eight_arguments : IsWellTyped (with_increases (record { name = at 35 (codes "length"); parameters = untyped (letters 36 (codes "abcdefgh")) } ∷ []) []) parked
  pub nine_arguments : HasFaults (with_increases (record { name = at 35 (codes "length"); parameters = untyped (letters 36 (codes "abcdefghi")) } ∷ []) []) parked (fault domain_file 25 44) []
  -- It may share its name with a predicate, a type, or an action.
  pub named_alike : IsWellTyped (with_increases (function 33 (codes "p") ∷ function 36 (codes "v") ∷ function 39 (codes "a") ∷ []) []) parked
  -- The amount of an increase is a declared function of known terms, with the right number and types. Predicates are not
  -- functions.
  pub by_a_length : IsWellTyped (costs (codes "Length") (variable 47 (codes "?y") ∷ [])) parked
  pub by_an_unknown : HasFaults (costs (codes "p") (variable 47 (codes "?y") ∷ [])) parked (fault domain_file 17 46) []
  pub by_another_count : HasFaults (costs (codes "length") []) parked (fault domain_file 18 46) []
  pub by_another_type : HasFaults (record (costs (codes "length") (variable 47 (codes "?y") ∷ [])) {
    types = untyped (at 10 (codes "t") ∷ at 12 (codes "v") ∷ []);
    actions = record park {
      effect = tree.both (effects []);
      increases = increase_by (codes "length") (variable 47 (codes "?y") ∷ []) ∷ [];
    } ∷ [];
  }) (record parked { goal = nothing }) (fault domain_file 19 47) []
  pub by_unknown_terms : HasFaults (with_increases (total_cost 35 ∷ record { name = at 36 (codes "length"); parameters = untyped (letters 37 (codes "xz")) } ∷ [])
      (increase_by (codes "length") (variable 47 (codes "?x") ∷ tree.object (at 48 (codes "o")) ∷ []) ∷ [])) parked
      (fault domain_file 17 47) (fault domain_file 17 48 ∷ [])
  -- It requires `total-cost`, and each increase is checked, even one that is refused.
  pub by_a_length_alone : HasFaults (with_increases (function 36 (codes "length") ∷ []) (increase_by (codes "length") (variable 47 (codes "?y") ∷ []) ∷ [])) parked (fault domain_file 23 45) []
  pub by_a_second : HasFaults (with_increases of_length (increase 44 1 ∷ increase_by (codes "n") [] ∷ [])) parked (fault domain_file 23 45) (fault domain_file 17 46 ∷ [])
  -- No predicate is a function, and no function a predicate.
  pub as_a_predicate : HasFaults lengths (with_goal (tree.atom (atom (at 30 (codes "length")) (tree.object (at 31 (codes "k")) ∷ [])))) (fault problem_file 17 30) []
  -- A value is given to a declared function of known objects, with the right number and types.
  pub values_given : IsWellTyped lengths (with_start (length_of_k 22 5 ∷ value_of 24 (codes "LENGTH") (at 25 (codes "o") ∷ []) 7 ∷ []))
  pub value_of_nothing : HasFaults fleet (with_start (length_of_k 22 5 ∷ [])) (fault problem_file 17 22) []
  pub value_of_a_predicate : HasFaults lengths (with_start (value_of 22 (codes "p") (at 23 (codes "k") ∷ []) 5 ∷ [])) (fault problem_file 17 22) []
  pub value_of_another_count : HasFaults lengths (with_start (value_of 22 (codes "length") [] 5 ∷ [])) (fault problem_file 18 22) []
  pub value_of_another_type : HasFaults lengths (record (with_start (value_of 22 (codes "length") (at 23 (codes "o") ∷ []) 5 ∷ [])) { objects = untyped (at 10 (codes "o") ∷ []); goal = nothing })
      (fault problem_file 19 23) []
  pub value_of_an_unknown : HasFaults lengths (with_start (value_of 22 (codes "length") (at 23 (codes "n") ∷ []) 5 ∷ [])) (fault problem_file 17 23) []
  -- The same number may be given again. A different one is refused, at the function's name, and the first one counts.
  pub given_again : IsWellTyped lengths (with_start (length_of_k 22 5 ∷ length_of_k 24 5 ∷ []))
  pub given_another : HasFaults lengths (with_start (length_of_k 22 5 ∷ length_of_k 24 6 ∷ length_of_k 26 5 ∷ length_of_k 28 6 ∷ [])) (fault problem_file 16 24) (fault problem_file 16 28 ∷ [])
  -- Values of unknown functions are ignored: two different numbers for one are not a further fault.
  pub given_to_an_unknown : HasFaults lengths (with_start (value_of 22 (codes "length") (at 23 (codes "n") ∷ []) 5 ∷ value_of 24 (codes "length") (at 25 (codes "n") ∷ []) 6 ∷ []))
      (fault problem_file 17 23) (fault problem_file 17 25 ∷ [])
  -- The functions are numbered in order, including `total-cost`, and each value is there once.
  pub its_functions : (task_of_trees lengths parked).functions ≡ record { name = codes "total-cost"; arguments = [] } ∷ record { name = codes "length"; arguments = (2 ∷ []) ∷ [] } ∷ []
  pub its_values : (task_of_trees lengths (with_start (value_of 22 (codes "length") (at 23 (codes "o") ∷ []) 7 ∷ length_of_k 24 5 ∷ value_of 26 (codes "LENGTH") (at 27 (codes "O") ∷ []) 7 ∷ []))).values
      ≡ record { function = record { predicate = 1; objects = 1 ∷ [] }; value = 7 } ∷ record { function = record { predicate = 1; objects = 0 ∷ [] }; value = 5 } ∷ []
  pub its_increase : (task_of_trees (costs (codes "Length") (variable 47 (codes "?Y") ∷ [])) parked).schemas
      ≡ record task_park { increase = by_function (record { predicate = 1; terms = task.variable 0 ∷ [] }) } ∷ []
