use Rattle.std.proofs.Common.{length, ap, refl}
use Rattle.packed_state.specs.Packed.{bits_of}
use Rattle.model.specs.Grounding.{ground_system}
use Rattle.landmarks.specs.CutIndex.{atoms_of, task_of}
use Rattle.guides.specs.Shown.{dead_ends_at}
use Rattle.guides.proofs.on_demand.LandmarksOnDemandValuesOnDemand.ask.Goals as goal

pub find-requires-clause-few : goal.find-requires-clause-few
find-requires-clause-few c = c.is_done.ensures c.if-is_done.false

pub returns-in-Some-clause-answer : goal.returns-in-Some-clause-answer
returns-in-Some-clause-answer c =
    let s = c.args.self.now in
    (refl, dead_ends_at (task_of s.index.now) (atoms_of s.index.now) s.values.items s.tested c.in-Some.basis.0 (bits_of c.args.state.now) c.in-Some.ensures)

pub returns-in-None-clause-width : goal.returns-in-None-clause-width
returns-in-None-clause-width c = ap (λ i. length (atoms_of i)) c.find.ensures.index

pub returns-in-None-clause-system : goal.returns-in-None-clause-system
returns-in-None-clause-system c = ap (λ i. ground_system (task_of i) (atoms_of i)) c.find.ensures.index
