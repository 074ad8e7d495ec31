-- The estimate of fair values is consistent.
use Rattle.std.proofs.Common.{◌≡◌, ◌+◌, refl, true, [], length, le_refl, subst, arith}
use Rattle.std.proofs.lemmas.Bool.{and_parts}
use Rattle.model.specs.Meaning.{cost_of}
use Rattle.model.specs.NumberedAtoms.{numbered_atoms}
use Rattle.model.specs.Grounding.{ground_system}
use Rattle.grounding.specs.declared.ground.Ground.{Ground}
use Rattle.grounding.specs.Ground.{task_in, atoms_in}
use Rattle.certificate_definitions.specs.Certificates.{two, three, is_weight, is_dead_end_weight, are_potentials}
use Rattle.lower_bounds.specs.PotentialFunctions.{score}
use Rattle.potentials.proofs.GroundLemmas.{numberable}
use Rattle.potentials_improved.proofs.EstimateLemmas.{fair_guides}
use Rattle.lower_bounds.specs.TableLaws.{AreOver}
use Rattle.guides.proofs.GuideLemmas.{all_numbered, fair_ones_guide}
use Rattle.search.specs.Estimates.{IsConsistent}
use Rattle.solver.specs.Guidance.{Guidance, by_potentials, by_tables, estimate_by, values_by, CanBeWritten, AreFairBy}
use Rattle.certificate.proofs.WithinLimits.{one_weight_each, scopes_within, weights_of_each}
use Rattle.solver.proofs.GuidanceLemmas.{limits_of}
use Rattle.solver.proofs.PotentialLemmas.{value_by-value}

module _ (g : Ground) (numbered : atoms_in g ≡ numbered_atoms (task_in g) []) where
  pub consistent_by : (guidance : Guidance) → CanBeWritten (length (atoms_in g)) guidance → AreFairBy (task_in g) (atoms_in g) guidance
      → IsConsistent (ground_system (task_in g) (atoms_in g)) (estimate_by guidance)
  consistent_by (by_potentials p dead_ends) written fair =
      let count = length (atoms_in g) in
      let limits = limits_of two count (values_by (by_potentials p dead_ends)) written.within_limits in
      let width = one_weight_each is_weight count p (and_parts (are_potentials is_weight count p) true limits.values).0 in
      subst (IsConsistent (ground_system (task_in g) (atoms_in g))) (value_by-value (score p) p refl)
      ((fair_guides (task_in g) (atoms_in g) (numberable g) p width (cost_of (task_in g)) fair.0).estimate (λ i. le_refl (cost_of (task_in g) i)))
  consistent_by (by_tables s) written fair =
      let count = length (atoms_in g) in
      let limits = limits_of three count s written.within_limits in
      let weights = weights_of_each count s.values limits.values in
      let over : AreOver count s = record {
        values = λ k d below. let same = weights k d below in omega (arith, same);
        dead_ends = omega (arith, one_weight_each (is_dead_end_weight three) count s.dead_ends limits.dead_ends);
        scopes = scopes_within three count (length s.values + 1) count (omega arith) s.tables limits.tables;
      } in
      (fair_ones_guide (task_in g) (atoms_in g) s (all_numbered g [] numbered) over fair).estimate
