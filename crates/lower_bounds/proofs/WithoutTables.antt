-- Potential functions as table functions without tables; and the atoms that a ground task numbers.
use Rattle.std.proofs.Common.{◌≡◌, ◌∙◌, ℕ, ◌||◌, Bool, List, [], length, get_or, refl, sym, ap, subst, arith, ℤ, pos, ◌+ℤ◌, ◌≤ℤ◌, nat_le}
use Rattle.std.specs.List.{flat_map}
use Rattle.std.proofs.lemmas.Bool.{or_right}
use Rattle.std.proofs.lemmas.Int.{ints}
use Rattle.model.specs.Task.{Atom, Task, Instance}
use Rattle.model.specs.StaticallyFalse.{kept_instances, counting_changes}
use Rattle.model.specs.NumberedAtoms.{occurs_in, touched_by, initial_fluent_atoms}
use Rattle.model.specs.NumberedLiterals.{NumberedChange, literals_of_instance}
use Rattle.model.proofs.NumberingLemmas.{occurs_in-flat_map}
use Rattle.model.proofs.GroundTaskLemmas.{occurs_in-numbered}
use Rattle.lower_bounds.specs.PotentialFunctions.{PotentialFunction, score, or_zero}
use Rattle.lower_bounds.specs.FairPotentials as potential
use Rattle.lower_bounds.specs.FairPotentials.{loses_at_most}
use Rattle.lower_bounds.specs.TableFunctions.{value}
use Rattle.lower_bounds.specs.FairTables.{IsFairAt, is_asked}
use Rattle.lower_bounds.specs.TableLaws.{without_tables, IsFairValueAt, PotentialsAreTableFunctions, PotentialsAreFairValues, GroundAtomsAreAllNumbered}
use Rattle.lower_bounds.proofs.TableSteps.{all_changes-are}
use Rattle.lower_bounds.proofs.FairValues.{tables_are_fair_values}

more-zero : (z : ℤ) → (z +ℤ pos 0) ≡ z
more-zero z = omega (arith, ints)

module _ (task : Task) (atoms : List Atom) (p : PotentialFunction) where
  same-value : (bits : List Bool) → value (without_tables p) bits ≡ or_zero (score p bits)
  same-value bits = ap or_zero (more-zero (score p bits))

  -- the greatest loss of an instance, by its changes with their conditions
  abbrev lost : Instance → List NumberedChange → ℤ
  lost i changes = loses_at_most (length atoms) p.weights (literals_of_instance task atoms i) changes

  fair-here : (allowance : ℕ) (i : Instance) → potential.IsFairAt allowance task atoms p.weights i → IsFairAt allowance task atoms (without_tables p) i
  fair-here allowance i fair = record {
    closed = refl;
    within =
        let most = fair.within in
        subst (λ changes. (lost i changes +ℤ pos 0) ≤ℤ pos allowance) (sym (all_changes-are task atoms (counting_changes task i))) (omega (arith, ints));
  }

  only-here : (allowance : ℕ) (i : Instance) → IsFairAt allowance task atoms (without_tables p) i → potential.IsFairAt allowance task atoms p.weights i
  only-here allowance i fair = record {
    within =
        let most = fair.within in
        subst (λ changes. lost i changes ≤ℤ pos allowance) (all_changes-are task atoms (counting_changes task i)) (omega (arith, ints));
  }

pub potentials_are_table_functions : PotentialsAreTableFunctions
potentials_are_table_functions task atoms p = record {
  values = same-value task atoms p;
  dead_ends = λ bits. ap (nat_le 1) (same-value task atoms p bits);
  fair = λ allowance asked fair. record {
    instances = λ k d below _. let i = get_or (kept_instances task) k d in fair-here task atoms p (allowance i) i (fair.instances k d below);
    goals = record { within = λ _. let most = fair.goals.within in omega (arith, ints) };
  };
  only_fair = λ allowance asked each fair. record {
    instances = λ k d below. let i = get_or (kept_instances task) k d in only-here task atoms p (allowance i) i (fair.instances k d below (each k d below));
    goals = record { within = let most = fair.goals.within refl in omega (arith, ints) };
  };
  first_unfair = λ allowance number first. record {
    instance = first.instance;
    named = first.named;
    is_asked = refl;
    unfair = λ fair. first.unfair (only-here task atoms p (allowance first.instance) first.instance fair);
    earlier = λ n i below named _. fair-here task atoms p (allowance i) i (first.earlier n i below named);
  };
  only_first_unfair = λ allowance number first. record {
    instance = first.instance;
    named = first.named;
    unfair = λ fair. first.unfair (fair-here task atoms p (allowance first.instance) first.instance fair);
    earlier = λ n i below named. only-here task atoms p (allowance i) i (first.earlier n i below named refl);
  };
}

pub potentials_are_fair_values : PotentialsAreFairValues
potentials_are_fair_values allowance task atoms p numberable width fair =
    subst (IsFairValueAt allowance task atoms) (λ i bits. same-value task atoms p bits i)
    (tables_are_fair_values allowance task atoms (without_tables p) numberable (record { weights = width; scopes = refl })
    ((potentials_are_table_functions task atoms p).fair allowance (is_asked task atoms []) fair))

pub ground_atoms_are_all_numbered : GroundAtomsAreAllNumbered
ground_atoms_are_all_numbered task more numberable = record {
  numberable = numberable;
  touched = λ i q kept touched.
      occurs_in-numbered task more q
      ∙ or_right (occurs_in more q || occurs_in (initial_fluent_atoms task) q) (occurs_in (flat_map (touched_by task) (kept_instances task)) q)
      (occurs_in-flat_map (touched_by task) (kept_instances task) i q kept touched);
}
