-- Potentials as what a search goes by: in version 2, or, where there are exchanges, as values over no tables.
use Rattle.std.proofs.Common.{◌≡◌, ◌∙◌, ℕ, Bool, true, List, [], length, max, refl, arith}
use Rattle.std.specs.Prelude.{AllPairs, ◌≢◌, ◌&&◌}
use Rattle.std.proofs.lemmas.List.Elements.{All-cons, All-nil}
use Rattle.grounding.specs.Ground.{task_in, atoms_in}
use Rattle.model.specs.Task.{Task, Atom}
use Rattle.model.specs.Grounding.{ground_system}
use Rattle.lower_bounds.specs.PotentialFunctions as potential
use Rattle.lower_bounds.specs.PotentialFunctions.{PotentialFunction, AreInRange}
use Rattle.lower_bounds.specs.FairPotentials as potentials
use Rattle.lower_bounds.specs.TableFunctions as tables
use Rattle.lower_bounds.specs.TableFunctions.{Row, Table, functions_of, dead_ends_of, greatest_value}
use Rattle.lower_bounds.specs.FairTables as fair_tables
use Rattle.lower_bounds.specs.TableLaws.{without_tables}
use Rattle.lower_bounds.proofs.WithoutTables.{potentials_are_table_functions}
use Rattle.solver.specs.Guidance.{by_potentials, by_tables, over_no_tables, estimate_by, reports_dead, CanBeWritten, AreFairBy}
use Rattle.solver.specs.Guided.{IsGuidanceFor}
use Rattle.solver.specs.Improved.{AreSettledOrHigh, AreDeadSettledOrHigh}
use Rattle.search_spaces.specs.SearchSpace.{ground_in, IsSearchSpace}
use Rattle.solver.specs.Written.{by_potentials_of}
use Rattle.search_spaces.specs.declared.search_space.SearchSpace.{SearchSpace}
use Rattle.search_spaces.specs.declared.search_space.SearchSpace.TheVariants as space
use Rattle.solver.proofs.GuidanceLemmas.{potentials-written}
use Rattle.solver.proofs.PotentialLemmas.{potentials-pass}

or_nothing : (n : ℕ) → max n 0 ≡ n
or_nothing n = omega arith

module _ (task : Task) (atoms : List Atom) (p dead_ends : PotentialFunction) where
  estimates-over_none : (bits : List Bool) → greatest_value (functions_of (over_no_tables p dead_ends)) bits ≡ potential.value p bits
  estimates-over_none bits = or_nothing _ ∙ (potentials_are_table_functions task atoms p).values bits

  reports-over_none : (bits : List Bool) → tables.is_dead_by (dead_ends_of (over_no_tables p dead_ends)) bits ≡ potential.is_dead_by dead_ends bits
  reports-over_none bits = (potentials_are_table_functions task atoms dead_ends).dead_ends bits

  fair-over_none : AreFairBy task atoms (by_potentials p dead_ends) → fair_tables.AreFair task atoms (over_no_tables p dead_ends)
  fair-over_none (fair, dead_fair) = record {
    values = All-cons (fair_tables.IsFair task atoms) (without_tables p) [] ((potentials_are_table_functions task atoms p).fair _ _ fair) (All-nil (fair_tables.IsFair task atoms));
    dead_ends =
        let there = (potentials_are_table_functions task atoms dead_ends).fair potentials.nothing (fair_tables.is_asked task atoms []) dead_fair in
        record {
          instances = λ k d below asked. let here = there.instances k d below asked in record { closed = here.closed; within = here.within };
          goals = record { within = there.goals.within };
        };
  }

-- the estimates and the dead ends are those of the potentials
pub same_estimates : (s : SearchSpace) (p dead_ends : PotentialFunction) → estimate_by (by_potentials_of s p dead_ends) ≡ potential.value p
same_estimates (space.Alone g) p dead_ends = refl
same_estimates (space.Orbits r) p dead_ends = let k = ground_in (space.Orbits r) in λ i bits. estimates-over_none (task_in k) (atoms_in k) p dead_ends bits i

pub same_reports : (s : SearchSpace) (p dead_ends : PotentialFunction) → reports_dead (by_potentials_of s p dead_ends) ≡ potential.is_dead_by dead_ends
same_reports (space.Alone g) p dead_ends = refl
same_reports (space.Orbits r) p dead_ends = let k = ground_in (space.Orbits r) in λ i bits. reports-over_none (task_in k) (atoms_in k) p dead_ends bits i

written-over_none : (count : ℕ) (p dead_ends : PotentialFunction) → AreInRange p → AreInRange dead_ends → length p.weights ≡ count → length dead_ends.weights ≡ count → CanBeWritten count (by_tables (over_no_tables p dead_ends))
written-over_none count p dead_ends range dead_range long dead_long =
    let value_passes = potentials-pass p count range long in
    let dead_ends_pass = potentials-pass dead_ends count dead_range dead_long in
    record {
      within_limits = λ i. (((((true && (value_passes i && true)) && dead_ends_pass i) && true) && true) && true) && true;
      rows_are_distinct = All-nil (λ (t : Table). AllPairs (λ (q r : Row). q.atoms ≢ r.atoms) t.rows);
    }

-- potentials in range that are fair and dead-fair, and settled or high
pub record AreGood (s : SearchSpace) (p dead_ends : PotentialFunction) : Type 0 where
  pub range : AreInRange p
  pub dead_range : AreInRange dead_ends
  pub long : length p.weights ≡ length (atoms_in (ground_in s))
  pub dead_long : length dead_ends.weights ≡ length (atoms_in (ground_in s))
  pub improved : AreSettledOrHigh (task_in (ground_in s)) (atoms_in (ground_in s)) p
  pub dead_ends_improved : AreDeadSettledOrHigh (task_in (ground_in s)) (atoms_in (ground_in s)) dead_ends

pub guides_by_potentials : (s : SearchSpace) → IsSearchSpace s → (p dead_ends : PotentialFunction) → AreGood s p dead_ends → IsGuidanceFor s (by_potentials_of s p dead_ends)
guides_by_potentials (space.Alone g) known p dead_ends good = record {
  written = potentials-written (length (atoms_in g.now)) p dead_ends good.range good.dead_range good.long good.dead_long;
  exchanges = refl;
  fair = (good.improved.fair, good.dead_ends_improved.fair);
  improved = good.improved;
  dead_ends_improved = good.dead_ends_improved;
  no_lower = omega arith;
}
guides_by_potentials (space.Orbits r) known p dead_ends good =
    let k = ground_in (space.Orbits r) in
    record {
      written = written-over_none (length (atoms_in k)) p dead_ends good.range good.dead_range good.long good.dead_long;
      exchanges = known.written;
      fair = fair-over_none (task_in k) (atoms_in k) p dead_ends (good.improved.fair, good.dead_ends_improved.fair);
      improved = good.improved;
      dead_ends_improved = good.dead_ends_improved;
      no_lower = let same = estimates-over_none (task_in k) (atoms_in k) p dead_ends (ground_system (task_in k) (atoms_in k)).initial in omega (arith, same);
    }
