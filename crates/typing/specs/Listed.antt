-- The listed faults of a pair.
use Rattle.std.specs.Prelude.{◌≡◌, List, [], ◌∷◌, ◌++◌, map, take, All}
use Rattle.std.specs.List.Sorted.{IsPermutation}
use Rattle.typing.specs.Refusals.{TaskRefusal, refusal_of}
use Rattle.typing.specs.Declarations.{type_faults_of}
use Rattle.model.specs.Trees.{Domain, Problem, problem_file}
use Rattle.model.specs.Resolution.{TypingFault}
use Rattle.model.specs.Typing.{IsFaultOf, action_faults, declaration_faults, first_filled, formula_faults, function_faults, init_faults, known_in_domain, known_in_problem, object_faults, type_names}

-- the faults of the actions, of the initial state and of the goal, which do not depend on each other
abbrev pub use_faults : Domain → Problem → List TypingFault
use_faults d p = action_faults (known_in_domain d) d.actions ++ (init_faults problem_file (known_in_problem d p) p.init ++ formula_faults problem_file (known_in_problem d p) p.goal)

-- The faults of the pair: those of the first phase that has any, where actions, the initial state and the goal are one phase.
abbrev pub faults_listed : Domain → Problem → List TypingFault
faults_listed d p =
    first_filled (type_faults_of d p ∷ object_faults d p ∷ declaration_faults (type_names d) d.predicates ∷ function_faults d p ∷ use_faults d p ∷ [])

-- these faults, in some order, up to the limit
pub record AreListed (faults : List TypingFault) (listed : List TaskRefusal) : Type 0 where
  pub found : List TaskRefusal
  pub are : map refusal_of found ≡ take 1000 faults
  pub ordered : IsPermutation found listed

-- every listed fault is a fault of the pair
abbrev pub AreFaultsOf : Domain → Problem → List TaskRefusal → Type 0
AreFaultsOf d p listed = All (λ r. IsFaultOf d p (refusal_of r)) listed
