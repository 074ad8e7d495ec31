-- Landmark values, as LM-cut finds them (Helmert & Domshlak 2009, "Landmarks, Critical Paths and Abstractions: What's the
-- Difference Anyway?"). A zone is a set of literals. Where none of them holds, and one of them is a literal of the goal, every plan
-- has an instance that makes one of them true: such instances are a disjunctive action landmark, and LM-cut's cut. A landmark
-- function is the sum of the weights of zones, which distribute the cost of an instance among the landmarks that it belongs to, as
-- a cost partitioning does (Katz & Domshlak 2010, "Optimal Admissible Composition of Abstraction Heuristics", AIJ 174).
use Rattle.std.specs.Prelude.{ℕ, nat_le, Bool, false, not, ◌&&◌, List, get_or, if◌then◌else◌, sum_by}
use Rattle.std.specs.List.{list_all, list_any}
use Rattle.model.specs.Task.{Atom, Task}
use Rattle.model.specs.Meaning.{State}
use Rattle.model.specs.NumberedLiterals.{NumberedLiteral}
use Rattle.lower_bounds.specs.TableFunctions.{Table, is_among, has_rows, in_state}

-- ---- zones

-- A zone: the numbers, in ascending order, of the atoms that are its literals, and of the atoms whose negations are.
pub record Zone : Type 0 where
  pub atoms : List ℕ
  pub negated : List ℕ

-- the literal is one of the zone's
abbrev pub is_in : Zone → NumberedLiteral → Bool
is_in zone l = if l.value then is_among zone.atoms l.atom else is_among zone.negated l.atom

-- one of these literals is one of the zone's
abbrev pub has_any : Zone → List NumberedLiteral → Bool
has_any zone literals = list_any (is_in zone) literals

-- The zone is whole in a packed state if none of its literals holds: its atoms are false, and the negated ones are true.
abbrev pub is_whole : List Bool → Zone → Bool
is_whole bits zone = list_all (λ number. not (get_or bits number false)) zone.atoms && list_all (λ number. get_or bits number false) zone.negated

-- ---- values

-- a zone with its share of costs
pub record Landmark : Type 0 where
  pub zone : Zone
  pub weight : ℕ

-- the weight, if the zone is whole
abbrev pub gives : List Bool → Landmark → ℕ
gives bits landmark = if is_whole bits landmark.zone then landmark.weight else 0

-- Landmarks, and the tables in which a state must have its rows. There may be no tables.
pub record LandmarkFunction : Type 0 where
  pub landmarks : List Landmark
  pub tables : List Table

-- the value of a packed state: the sum of the weights of the zones that are whole, or 0 if a table has no row for the state
abbrev pub value : LandmarkFunction → List Bool → ℕ
value h bits = if has_rows h.tables bits then sum_by (gives bits) h.landmarks else 0

-- the packed state is dead by this value if it is not 0
abbrev pub is_dead_by : LandmarkFunction → List Bool → Bool
is_dead_by h bits = nat_le 1 (value h bits)

-- the value of a state, for these numbered atoms: 0 if a fluent atom without a number is true
abbrev pub value_of_state : Task → List Atom → LandmarkFunction → State → ℕ
value_of_state task atoms h state = in_state task atoms (value h) state
