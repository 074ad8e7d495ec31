-- Which predicates change: a predicate is fluent if some action adds or deletes an atom of it, otherwise static. The static atoms
-- that are initially true are true in every reachable state, and no other static atom is true in any.
use Rattle.std.specs.Prelude.{◌≡◌, ℕ, Bool, false, not, ◌||◌, ◌&&◌, ◌==◌, List, filter}
use Rattle.std.specs.List.{list_any}
use Rattle.std.specs.FinSet.{contains}
use Rattle.model.specs.Task.{Atom, EffectLiteral, add, delete, Effect, Effects, literal, both, each, when, no_effect, more_effects, Schema, Task}
use Rattle.model.specs.WellTyped.{is_atom}
use Rattle.model.specs.Meaning.{State, initial_state}

-- the literal has this predicate
abbrev pub is_literal_of : ℕ → EffectLiteral → Bool
is_literal_of predicate (add a) = a.predicate == predicate
is_literal_of predicate (delete a) = a.predicate == predicate

-- the effect has a literal with this predicate
abbrev mutual
  pub touches : ℕ → Effect → Bool
  touches predicate (literal l) = is_literal_of predicate l
  touches predicate (both parts) = any_touches predicate parts
  touches predicate (each types part) = touches predicate part
  touches predicate (when condition literals) = list_any (is_literal_of predicate) literals

  pub any_touches : ℕ → Effects → Bool
  any_touches predicate no_effect = false
  any_touches predicate (more_effects first rest) = touches predicate first || any_touches predicate rest

-- a predicate is fluent if some action adds or deletes an atom of it, otherwise static
abbrev pub is_fluent : Task → ℕ → Bool
is_fluent task predicate = list_any (λ (s : Schema). touches predicate s.effect) task.schemas

-- a well-typed atom of a fluent predicate
abbrev pub is_fluent_atom : Task → Atom → Bool
is_fluent_atom task a = is_atom task a && is_fluent task a.predicate

-- the static atoms that are initially true, and so in every reachable state
abbrev pub static_atoms : Task → List Atom
static_atoms task = filter (λ (a : Atom). not (is_fluent task a.predicate)) task.init

-- the static atoms of the state are those of the initial state, as in every reachable state
abbrev pub HasInitialStatics : Task → State → Type 0
HasInitialStatics task state = (a : Atom) → is_fluent task a.predicate ≡ false → contains state a ≡ contains (initial_state task) a
