use Rattle.std.proofs.Common.{ℕ, sym, subst}
use Rattle.packed_state.specs.Packed.{bits_of}
use Rattle.model.specs.Grounding.{ground_system}
use Rattle.landmarks.specs.CutIndex.{atoms_of, task_of}
use Rattle.search.specs.Estimates.{IsLowerBound}
use Rattle.guides.specs.Shown.{admissible_at}
use Rattle.guides.proofs.on_demand.LandmarksOnDemandValuesOnDemand.value.Goals as goal

pub returns-clause-bound : goal.returns-clause-bound
returns-clause-bound c =
    let s = c.args.self.now in
    subst (λ (v : ℕ). IsLowerBound (ground_system (task_of s.index.now) (atoms_of s.index.now)) (bits_of c.args.state.now) v) (sym c.value_at.ensures.value)
    (admissible_at (task_of s.index.now) (atoms_of s.index.now) s.values.items s.tested c.args.basis.0 (bits_of c.args.state.now))
