use Rattle.std.proofs.Common.{◌≡◌, ◌∙◌, ◌<◌, ◌≤◌, ◌+◌, true, false, Some, ap, length, subst, sym, arith}
use Rattle.std.specs.Prelude.{slice_get}
use Rattle.std.specs.FinSet.{contains}
use Rattle.std.proofs.lemmas.List.{length-map}
use Rattle.packed_state.specs.declared.packed.Packed.{Packed}
use Rattle.packed_state.specs.Packed.{bits_of}
use Rattle.model.specs.Meaning.{initial_state}
use Rattle.model.specs.Grounding.{bits_of_state}
use Rattle.grounding.specs.Ground.{task_in, atoms_in}
use Rattle.grounding.proofs.InitialBits.{AreBegun, begun-none, begun-with, begun-without, begun-end}
use Rattle.grounding.proofs.ground.Ground.initial.Goals.{then-is_initial, else-is_initial}
use Rattle.grounding.proofs.ground.Ground.initial.Goals as goal

pub loop-number-init : goal.loop-number-init
loop-number-init c =
    let g = c.args.self.now in
    begun-none (bits_of_state (atoms_in g) (initial_state (task_in g))) (bits_of c.in_ok-state.state) c.width.result c.in_ok-state.ensures
    (omega (arith, c.width.ensures, length-map (atoms_in g) (contains (initial_state (task_in g)))))

pub insert-requires : goal.insert-requires
insert-requires c =
    let g = c.args.self.now in
    omega (arith, c.loop-number.invariant.as_long, length-map (atoms_in g) (contains (initial_state (task_in g))))

pub loop-number-preserved : goal.loop-number-preserved
loop-number-preserved c =
    let g = c.args.self.now in
    let n = c.loop-number.number in
    let whole = bits_of_state (atoms_in g) (initial_state (task_in g)) in
    let within : n < length whole = omega (arith, c.loop-number-test.true, c.width-number-end.ensures, length-map (atoms_in g) (contains (initial_state (task_in g)))) in
    elim c.if-is_initial.branch [
      | then-is_initial w ↦
          let at : Some true ≡ slice_get whole n = ap Some (sym w.if-is_initial.true) ∙ c.is_initial.ensures in
          begun-with whole (bits_of c.loop-number.state) (bits_of c.if-is_initial.state) n within at (ap bits_of w.state-is ∙ w.insert.ensures) c.loop-number.invariant
      | else-is_initial w ↦
          let at : Some false ≡ slice_get whole n = ap Some (sym w.if-is_initial.false) ∙ c.is_initial.ensures in
          subst (λ (p : Packed). AreBegun whole (bits_of p) (n + 1)) (sym w.state-is) (begun-without whole (bits_of c.loop-number.state) n at c.loop-number.invariant)
    ]

pub returns : goal.returns
returns c =
    let g = c.args.self.now in
    let whole = bits_of_state (atoms_in g) (initial_state (task_in g)) in
    let past : length whole ≤ c.loop-number.number = omega (arith, c.loop-number-test.false, c.width-number-end.ensures, length-map (atoms_in g) (contains (initial_state (task_in g)))) in
    begun-end whole (bits_of c.loop-number.state) c.loop-number.number past c.loop-number.invariant
