-- What a formula says beyond its sure literals, as far as no state is needed to tell.
use Rattle.std.specs.Prelude.{ℕ, Bool, true, false, not, ◌&&◌, List, [], ◌∷◌, Option, None, Some, if◌then◌else◌}
use Rattle.model.specs.Task.{Task, Formula, Formulas, atom, equal, and, or, not as negated, imply, exists, forall, no_formula, more_formulas}
use Rattle.model.specs.Meaning.{holds, initial_state}
use Rattle.model.specs.Fluents.{is_fluent}
use Rattle.grounding.specs.Outright.{is_simple, is_outright}

-- the formula has no atom of a fluent predicate
abbrev mutual
  pub is_static : Task → Formula → Bool
  is_static t (atom a) = not (is_fluent t a.predicate)
  is_static t (equal first second) = true
  is_static t (and parts) = all_are_static t parts
  is_static t (or parts) = all_are_static t parts
  is_static t (negated part) = is_static t part
  is_static t (imply premise conclusion) = is_static t premise && is_static t conclusion
  is_static t (exists types part) = is_static t part
  is_static t (forall types part) = is_static t part

  pub all_are_static : Task → Formulas → Bool
  all_are_static t no_formula = true
  all_are_static t (more_formulas first rest) = is_static t first && all_are_static t rest

-- whether the formula holds in each state with the initial static atoms, where it is static and so says the same in all
abbrev pub settled : Task → Formula → List ℕ → Option Bool
settled t formula binding = if is_static t formula then Some (holds t formula binding (initial_state t)) else None

-- the same, unless it is known that nothing is said beyond the literals
abbrev pub settled_unless : Bool → Task → Formula → List ℕ → Option Bool
settled_unless says_nothing t formula binding = if says_nothing then Some true else settled t formula binding

-- nothing is said beyond the literals
abbrev pub is_nothing : Option Bool → Bool
is_nothing (Some true) = true
is_nothing (Some false) = false
is_nothing None = false

-- the answer of the first part that says something
abbrev pub then_said : Option Bool → Option Bool → Option Bool
then_said said rest = if is_nothing said then rest else said

-- What a formula says beyond its sure literals, in states with the initial static atoms: `Some true` where it holds wherever
-- these are true, `Some false` where it holds nowhere, and `None` where only a look at the formula tells.
abbrev mutual
  pub beyond : Task → List ℕ → Formula → Option Bool
  beyond t binding (atom a) = Some true
  beyond t binding (equal first second) = Some true
  beyond t binding (and parts) = all_beyond t binding parts
  beyond t binding (or parts) = settled t (or parts) binding
  beyond t binding (negated part) = settled_unless (is_simple part) t (negated part) binding
  beyond t binding (imply premise conclusion) = settled t (imply premise conclusion) binding
  beyond t binding (exists types part) = settled t (exists types part) binding
  beyond t binding (forall types part) = settled_unless (is_outright part) t (forall types part) binding

  pub all_beyond : Task → List ℕ → Formulas → Option Bool
  all_beyond t binding no_formula = Some true
  all_beyond t binding (more_formulas first rest) = then_said (beyond t binding first) (all_beyond t binding rest)

-- the same of a conjunction
abbrev pub beyond_each : Task → List ℕ → List Formula → Option Bool
beyond_each t binding [] = Some true
beyond_each t binding (first ∷ rest) = then_said (beyond t binding first) (beyond_each t binding rest)
