use Rattle.std.proofs.Common.{◌≡◌, ◌∙◌, ℕ, true, refl, sym, subst, arith}
use Rattle.packed_state.specs.Packed.{bits_of}
use Rattle.model.specs.Grounding.{ground_system}
use Rattle.landmarks.specs.CutIndex.{atoms_of, task_of}
use Rattle.search.specs.Estimates.{IsLowerBound}
use Rattle.guides.specs.Tested.{is_dead_by}
use Rattle.guides.proofs.ShownLemmas.{one_in}
use Rattle.guides.proofs.on_demand.LandmarksOnDemand.keep.Goals as goal

pub shows_dead_end-requires : goal.shows_dead_end-requires
shows_dead_end-requires c = one_in (task_of c.args.self.now.index.now) (atoms_of c.args.self.now.index.now) c.args.found (bits_of c.args.state.now) c.requires.found c.requires.width

pub value-higher-requires : goal.value-higher-requires
value-higher-requires c = one_in (task_of c.args.self.now.index.now) (atoms_of c.args.self.now.index.now) c.args.found (bits_of c.args.state.now) c.requires.found c.requires.width

pub returns-then-shows_dead_end-clause-answer : goal.returns-then-shows_dead_end-clause-answer
returns-then-shows_dead_end-clause-answer c =
    let dead : is_dead_by c.args.found (bits_of c.args.state.now) ≡ true = sym c.shows_dead_end.ensures ∙ c.if-shows_dead_end.true in
    (refl, c.requires.found.dead_ends (bits_of c.args.state.now) dead)

pub returns-clause-answer : goal.returns-clause-answer
returns-clause-answer c =
    let s = c.args.self.now in
    let bound = subst (λ (v : ℕ). IsLowerBound (ground_system (task_of s.index.now) (atoms_of s.index.now)) (bits_of c.args.state.now) v) (sym c.value-higher.ensures.value) (c.requires.found.admissible (bits_of c.args.state.now)) in
    (refl, bound, omega arith, c.value-higher.ensures.fits)
