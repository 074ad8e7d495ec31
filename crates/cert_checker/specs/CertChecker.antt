-- What the answers of the checker of certificates say.
use Rattle.std.specs.Prelude.{◌≡◌, ℕ, ◌+◌, ◌<◌, List, length, slice_get, MatchOption, Option, None, Some, IsSome}
use Rattle.cert_checker.specs.declared.checker.Accepted.{Accepted}
use Rattle.cert_checker.specs.declared.checker.Accepted.TheVariants.{Optimal, AtLeast, Unsolvable}
use Rattle.cert_checker.specs.declared.refusal.Refusal.{Refusal}
use Rattle.cert_checker.specs.declared.refusal.Refusal.TheVariants as refusal
use Rattle.formulas.specs.State.{instance_of}
use Rattle.cert_checker.specs.Reasons.{reason_of}
use Rattle.model.specs.Task.{Task, Instance}
use Rattle.model.specs.Runs.{cost_of_all, IsOptimal, CostsAtLeast, IsUnsolvable}
use Rattle.model.specs.Meaning.{State, cost_of, system_of}
use Rattle.model.specs.NumberedAtoms.{numbered_atoms}
use Rattle.model.specs.Instances.{successors_of}
use Rattle.model.specs.Claims.{Claim, bound, none, expanded, Line, IsListedWithin}
use Rattle.lower_bounds.specs.PotentialFunctions.{PotentialFunction}
use Rattle.lower_bounds.specs.FairPotentials.{nothing, IsFirstUnfairAt}
use Rattle.lower_bounds.specs.TableFunctions.{TableFunction, functions_of, dead_ends_of}
use Rattle.lower_bounds.specs.FairTables as tables
use Rattle.certificate_definitions.specs.Certificates.{Version, one, two, three, four, Certificate, potentials_of, several_of, lines_of, AreAlikeFor}
use Rattle.certificate_definitions.specs.CertificateRefusals.{Reason, limit, unfair, unfair_goal, dead_unfair, dead_unfair_goal, successor_missing, successor_dearer, IsFirst, IsListed, HasState, IsUnfairIn, IsDeadUnfairIn, IsWrong, IsWrongAt}

-- The answer is true of all lists of instances: the given plan is optimal at this cost; every list that solves costs at least
-- this; no list solves.
abbrev pub IsShown : Task → Option (List Instance) → Accepted → Type 0
IsShown task plan (Optimal cost) = MatchOption plan ⊥ (λ p. IsOptimal (system_of task) p × (cost_of_all (system_of task) p ≡ cost))
IsShown task plan (AtLeast cost) = CostsAtLeast (system_of task) cost
IsShown task plan Unsolvable = IsUnsolvable (system_of task)

-- The answer fits the claim: its cost is the claimed one, and it names a plan as optimal exactly if one was given.
abbrev pub Answers : Claim → Option (List Instance) → Accepted → Type 0
Answers claim plan (Optimal cost) = (claim ≡ bound cost) × IsSome plan
Answers claim plan (AtLeast cost) = (claim ≡ bound cost) × (plan ≡ None)
Answers claim plan Unsolvable = (claim ≡ none) × (plan ≡ None)

-- the first kept instance that may lose more of the potential function than its allowance; the certificate's atoms are numbered
-- first
abbrev pub IsFirstToLoseAt : (allowance : Instance → ℕ) → Task → Certificate → PotentialFunction → Instance → Type 0
IsFirstToLoseAt allowance task c p i = (number : ℕ) × (first : IsFirstUnfairAt allowance task (numbered_atoms task c.atoms) p number) × (first.instance ≡ i)

-- the same of a table function, among instances that are not shut out
abbrev pub IsFirstToLoseByTables : (allowance : Instance → ℕ) → Task → Certificate → TableFunction → Instance → Type 0
IsFirstToLoseByTables allowance task c h i =
    (number : ℕ)
    × (first : tables.IsFirstUnfairAt (tables.is_asked task (numbered_atoms task c.atoms) c.tables) allowance task (numbered_atoms task c.atoms) h number) × (first.instance ≡ i)

-- the same of the value at this place, from 0
abbrev pub IsFirstToLoseIn : Version → Task → Certificate → ℕ → Instance → Type 0
IsFirstToLoseIn one task c place i = IsFirstToLoseAt (cost_of task) task c (potentials_of c) i
IsFirstToLoseIn two task c place i = IsFirstToLoseAt (cost_of task) task c (potentials_of c) i
IsFirstToLoseIn three task c place i = (h : TableFunction) × (slice_get (functions_of (several_of c)) place ≡ Some h) × IsFirstToLoseByTables (cost_of task) task c h i
IsFirstToLoseIn four task c place i = (h : TableFunction) × (slice_get (functions_of (several_of c)) place ≡ Some h) × IsFirstToLoseByTables (cost_of task) task c h i

abbrev pub IsFirstDeadToLoseIn : Version → Task → Certificate → Instance → Type 0
IsFirstDeadToLoseIn one task c = IsFirstToLoseAt nothing task c c.dead_ends
IsFirstDeadToLoseIn two task c = IsFirstToLoseAt nothing task c c.dead_ends
IsFirstDeadToLoseIn three task c = IsFirstToLoseByTables nothing task c (dead_ends_of (several_of c))
IsFirstDeadToLoseIn four task c = IsFirstToLoseByTables nothing task c (dead_ends_of (several_of c))

-- what is reported without a line is wrong, for one of the values if it is about values
abbrev pub IsWrongSomewhere : Task → Certificate → Option (List Instance) → ℕ → Reason → Type 0
IsWrongSomewhere task c plan most unfair_goal = (place : ℕ) × IsWrongAt task c unfair_goal place
IsWrongSomewhere task c plan most dead_unfair_goal = (place : ℕ) × IsWrongAt task c dead_unfair_goal place
IsWrongSomewhere task c plan most reason = IsWrong task c plan most reason

-- the refusal is true of the certificate, the given plan, if any, and the limit of kept instances
abbrev pub IsTrueRefusal : Task → Certificate → Option (List Instance) → ℕ → Refusal → Type 0
IsTrueRefusal task c plan most (refusal.Line code line) = MatchOption (reason_of code) ⊥ (λ reason. IsWrongAt task c reason line)
IsTrueRefusal task c plan most (refusal.Unfair i) = (place : ℕ) × IsUnfairIn c.version task c place (instance_of i)
IsTrueRefusal task c plan most (refusal.DeadUnfair i) = IsDeadUnfairIn c.version task c (instance_of i)
IsTrueRefusal task c plan most (refusal.Plain code) = MatchOption (reason_of code) ⊥ (λ reason. IsWrongSomewhere task c plan most reason)
IsTrueRefusal task c plan most refusal.NoMemory = Unit {0}
IsTrueRefusal task c plan most _ = ⊥

-- the refusal tells no fault of text, certificate or plan: a limit of the ground task is exceeded, memory was refused, or the
-- device failed
abbrev pub IsNoFault : Refusal → Type 0
IsNoFault (refusal.Plain code) = reason_of code ≡ Some limit
IsNoFault refusal.NoMemory = Unit {0}
IsNoFault refusal.Device = Unit {0}
IsNoFault _ = ⊥

-- This line lists an expanded state, from which this instance leads to this state. For each applicable instance before it, in the
-- order of all instances, a state alike the successor is listed at no more than the line's cost and the instance's.
pub record IsFirstToLeave (task : Task) (c : Certificate) (line : ℕ) (l : Line State) (i : Instance) (next : State) : Type 0 where
  pub found_there : HasState task c line l
  pub is_open : l.mark ≡ expanded
  pub place : ℕ
  pub leads : slice_get (successors_of task l.state) place ≡ Some (i, next)
  pub listed_before : (k : ℕ) (j : Instance) (s : State) → k < place → slice_get (successors_of task l.state) k ≡ Some (j, s)
      → IsListedWithin (AreAlikeFor task c) (lines_of task c) s (l.cost + (system_of task).cost j)

-- a successor that is reported is the line's first wrong one, in the order of the instances
abbrev pub IsFirstSuccessor : Task → Certificate → Reason → ℕ → Type 0
IsFirstSuccessor task c successor_missing line =
    (l : Line State) × (i : Instance) × (next : State) × IsFirstToLeave task c line l i next × ¬ IsListed (AreAlikeFor task c) (lines_of task c) next
IsFirstSuccessor task c successor_dearer line =
    (l : Line State) × (i : Instance) × (next : State) × IsFirstToLeave task c line l i next × IsListed (AreAlikeFor task c) (lines_of task c) next
    × ¬ IsListedWithin (AreAlikeFor task c) (lines_of task c) next (l.cost + (system_of task).cost i)
IsFirstSuccessor task c _ line = Unit {0}

-- what is reported without a line is the first that is wrong
abbrev pub IsFirstSomewhere : Task → Certificate → Option (List Instance) → ℕ → Reason → Type 0
IsFirstSomewhere task c plan most unfair_goal = (place : ℕ) × IsWrongAt task c unfair_goal place × IsFirst task c plan most unfair_goal place
IsFirstSomewhere task c plan most dead_unfair_goal = IsFirst task c plan most dead_unfair_goal (length c.values)
IsFirstSomewhere task c plan most reason = IsFirst task c plan most reason 0

-- nothing is wrong that comes earlier in the checker's order; nor is an earlier instance, or an earlier successor of the line
abbrev pub IsFirstRefusal : Task → Certificate → Option (List Instance) → ℕ → Refusal → Type 0
IsFirstRefusal task c plan most (refusal.Line code line) =
    MatchOption (reason_of code) ⊥ (λ reason. IsFirst task c plan most reason line × IsFirstSuccessor task c reason line)
IsFirstRefusal task c plan most (refusal.Unfair i) = (place : ℕ) × IsFirst task c plan most unfair place × IsFirstToLoseIn c.version task c place (instance_of i)
IsFirstRefusal task c plan most (refusal.DeadUnfair i) = IsFirst task c plan most dead_unfair (length c.values) × IsFirstDeadToLoseIn c.version task c (instance_of i)
IsFirstRefusal task c plan most (refusal.Plain code) = MatchOption (reason_of code) ⊥ (λ reason. IsFirstSomewhere task c plan most reason)
IsFirstRefusal task c plan most refusal.NoMemory = Unit {0}
IsFirstRefusal task c plan most _ = ⊥
