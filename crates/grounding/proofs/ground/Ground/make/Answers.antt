use Rattle.std.proofs.Common.{◌≡◌, ◌∙◌, ◌<◌, ◌+◌, Bool, List, [], ◌∷◌, Some, ap, map, drop, length, sym, arith}
use Rattle.std.specs.Prelude.{slice_get}
use Rattle.std.specs.Option.{option_map_or}
use Rattle.std.proofs.lemmas.List.{drop_all, length-map}
use Rattle.packed_state.specs.Packed.{bits_of}
use Rattle.model.specs.Task.{Instance}
use Rattle.model.specs.StaticallyFalse.{kept_instances}
use Rattle.model.specs.Grounding.{state_of_bits}
use Rattle.grounding.specs.ChangedBits.{with_bits}
use Rattle.grounding.specs.NumberedEffects.{NumberedEffect, effects_of_instance, numbers_made}
use Rattle.grounding.specs.Changes.{effect_in, AreChangesOf}
use Rattle.grounding.specs.Ground.{task_in, atoms_in}
use Rattle.grounding.proofs.ChangedBitsLemmas.{length-with_bits}
use Rattle.grounding.proofs.ChangeLemmas.{change-fits, change-within, with_bits-more}
use Rattle.grounding.proofs.GroundLemmas.{got, got-mapped, named, changes-at}
use Rattle.grounding.proofs.StepLemmas.{kept-is_instance}
use Rattle.grounding.proofs.ground.Ground.make.Goals.{After-change-item}
use Rattle.grounding.proofs.ground.Ground.make.Goals as goal

-- the instance of the number
one : (c : After-change-item) → (i : Instance) × (slice_get (kept_instances (task_in c.args.self.now)) c.args.number ≡ Some i)
one c = named (task_in c.args.self.now) c.args.number c.requires.within

-- its changes, and the one that is made
are : (c : After-change-item) → AreChangesOf (task_in c.args.self.now) (atoms_in c.args.self.now) (one c).0 c.index.result.now
are c = changes-at c.args.self.now c.args.number (one c).0 (one c).1 c.index.result.now c.index.ensures

at : (c : After-change-item) → slice_get c.index.result.now.items c.loop-change.change-index ≡ Some c.change-item.result
at c =
    let k = c.loop-change.change-index in
    ap (λ l. slice_get l k) (sym c.as_slice-changes.ensures.value) ∙ got c.as_slice-changes.result.now k c.change-item.result c.loop-change-test.true c.change-item.is

pub make_one-requires-clause-fits : goal.make_one-requires-clause-fits
make_one-requires-clause-fits c =
    let s = (goal.at.make_one-requires-clause-fits c).After-change-item in
    let g = c.args.self.now in
    let i = one s in
    change-fits (task_in g) (atoms_in g) i.0 c.index.result.now (are s) c.loop-change.change-index c.change-item.result (at s)
    g.numbering.statics.task.now.well_typed (kept-is_instance (task_in g) c.args.number i.0 i.1)

pub make_one-requires-clause-compiled : goal.make_one-requires-clause-compiled
make_one-requires-clause-compiled c =
    let s = (goal.at.make_one-requires-clause-compiled c).After-change-item in
    (are s).compiled c.loop-change.change-index c.change-item.result (at s)

pub make_one-requires-clause-within : goal.make_one-requires-clause-within
make_one-requires-clause-within c =
    let s = (goal.at.make_one-requires-clause-within c).After-change-item in
    let g = c.args.self.now in
    let i = one s in
    let numbered : c.change-item.result.atom < length (atoms_in g) =
    change-within (task_in g) (atoms_in g) i.0 c.index.result.now (are s) c.loop-change.change-index c.change-item.result (at s) in
    omega (arith, numbered, c.loop-change.invariant.as_long)

pub loop-change-preserved : goal.loop-change-preserved
loop-change-preserved c =
    let g = c.args.self.now in
    let s = state_of_bits (task_in g) (atoms_in g) (bits_of c.args.before.now) in
    let items = c.as_slice-changes.result.now in
    let k = c.loop-change.change-index in
    let value = c.args.value in
    let effects = map effect_in items in
    let at : slice_get effects k ≡ Some (effect_in c.change-item.result) = got-mapped effect_in items k c.change-item.result c.loop-change-test.true c.change-item.is in
    record {
      made = ap (λ (b : List Bool). with_bits value b (numbers_made (task_in g) s value (drop (k + 1) effects))) c.make_one.ensures
          ∙ with_bits-more (task_in g) s value (bits_of c.loop-change.into) effects k (effect_in c.change-item.result) at ∙ c.loop-change.invariant.made;
      as_long = ap length c.make_one.ensures ∙ length-with_bits value (bits_of c.loop-change.into) (numbers_made (task_in g) s value (effect_in c.change-item.result ∷ [])) ∙ c.loop-change.invariant.as_long;
    }

pub returns : goal.returns
returns c =
    let g = c.args.self.now in
    let t = task_in g in
    let i = named t c.args.number c.requires.within in
    let are = changes-at g c.args.number i.0 i.1 c.index.result.now c.index.ensures in
    let s = state_of_bits t (atoms_in g) (bits_of c.args.before.now) in
    let items = c.as_slice-changes.result.now in
    let k = c.loop-change.change-index in
    let value = c.args.value in
    let effects = map effect_in items in
    let past : drop k effects ≡ [] = drop_all k effects (omega (arith, c.loop-change-test.false, length-map items effect_in)) in
    let same : effects ≡ effects_of_instance t (atoms_in g) i.0 = ap (map effect_in) c.as_slice-changes.ensures.value ∙ are.effects in
    ap (λ (l : List NumberedEffect). with_bits value (bits_of c.loop-change.into) (numbers_made t s value l)) (sym past)
    ∙ c.loop-change.invariant.made
    ∙ ap (λ (l : List NumberedEffect). with_bits value (bits_of c.args.into.now) (numbers_made t s value l)) same
    ∙ sym (ap (λ o. with_bits value (bits_of c.args.into.now) (option_map_or (λ (j : Instance). numbers_made t s value (effects_of_instance t (atoms_in g) j)) o [])) i.1)
