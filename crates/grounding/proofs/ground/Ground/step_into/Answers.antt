use Rattle.std.proofs.Common.{◌≡◌, ◌∙◌, [], Bool, true, false, List, Some, ap, length, sym}
use Rattle.std.specs.Option.{option_map_or}
use Rattle.std.proofs.lemmas.Option.{slice_get_within}
use Rattle.packed_state.specs.Packed.{bits_of}
use Rattle.model.specs.Task.{Instance}
use Rattle.model.specs.Meaning.{literals_in}
use Rattle.model.specs.StaticallyFalse.{kept_instances, counting_changes}
use Rattle.model.specs.Grounding.{state_of_bits}
use Rattle.grounding.specs.ChangedBits.{with_bits, numbers_changed}
use Rattle.grounding.specs.NumberedEffects.{effects_of_instance, numbers_made, numbers_set}
use Rattle.grounding.specs.Ground.{task_in, atoms_in}
use Rattle.grounding.proofs.ChangedBitsLemmas.{length-with_bits}
use Rattle.grounding.proofs.EffectLemmas.{numbers-made}
use Rattle.grounding.proofs.StepLemmas.{step-named, leads-bits}
use Rattle.grounding.proofs.ground.Ground.step_into.Goals as goal

pub make-requires-clause-within : goal.make-requires-clause-within
make-requires-clause-within c =
    let g = c.args.self.now in
    let i = step-named (task_in g) (atoms_in g) (bits_of c.args.state.now) c.args.number c.requires.applicable in
    slice_get_within (kept_instances (task_in g)) c.args.number i.0 i.1

pub make-requires-clause-into_width : goal.make-requires-clause-into_width
make-requires-clause-into_width c = ap length c.copy_from.ensures ∙ c.requires.width

pub make-requires-2-clause-within : goal.make-requires-2-clause-within
make-requires-2-clause-within c =
    let g = c.args.self.now in
    let i = step-named (task_in g) (atoms_in g) (bits_of c.args.state.now) c.args.number c.requires.applicable in
    slice_get_within (kept_instances (task_in g)) c.args.number i.0 i.1

pub make-requires-2-clause-into_width : goal.make-requires-2-clause-into_width
make-requires-2-clause-into_width c =
    ap length c.make.ensures ∙ length-with_bits false (bits_of c.copy_from.new.self) (numbers_set (task_in c.args.self.now) (atoms_in c.args.self.now) (bits_of c.args.state.now) false c.args.number) ∙ ap length c.copy_from.ensures ∙ c.requires.width

pub returns : goal.returns
returns c =
    let g = c.args.self.now in
    let t = task_in g in
    let atoms = atoms_in g in
    let bits = bits_of c.args.state.now in
    let i = step-named t atoms bits c.args.number c.requires.applicable in
    let s = state_of_bits t atoms bits in
    let literals = literals_in t s (counting_changes t i.0) in
    let set : (value : Bool) → numbers_set t atoms bits value c.args.number ≡ numbers_changed atoms value literals =
    λ value. ap (λ o. option_map_or (λ (j : Instance). numbers_made t s value (effects_of_instance t atoms j)) o []) i.1 ∙ numbers-made t s atoms value i.0 in
    leads-bits t atoms bits c.args.number i.0 i.1 g.numbering.distinct g.numbering.fluent c.requires.width c.requires.applicable
    ∙ ap Some (sym (c.make-2.ensures ∙ ap (λ (b : List Bool). with_bits true b (numbers_set t atoms bits true c.args.number)) (c.make.ensures ∙ ap (λ (b : List Bool). with_bits false b (numbers_set t atoms bits false c.args.number)) c.copy_from.ensures)
    ∙ (λ j. with_bits true (with_bits false bits (set false j)) (set true j))))
