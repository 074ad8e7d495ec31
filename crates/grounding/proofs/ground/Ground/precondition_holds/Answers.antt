use Rattle.std.proofs.Common.{◌≡◌, ◌∙◌, ◌<◌, None, Some, ap, map, length, sym, arith}
use Rattle.std.specs.Prelude.{slice_get}
use Rattle.std.specs.Option.{option_map}
use Rattle.std.proofs.lemmas.List.{length-map}
use Rattle.packed_state.specs.Packed.{bits_of}
use Rattle.task.specs.TaskParts.{object_of, shape_of, shape_of_schema}
use Rattle.task.proofs.Shapes.{Shape, found}
use Rattle.formulas.specs.State.{instance_of}
use Rattle.formulas.proofs.Instances.{precondition_fits}
use Rattle.model.specs.Task.{Task, Formula, Schema}
use Rattle.model.specs.Meaning.{holds}
use Rattle.model.specs.StaticallyFalse.{kept_instances}
use Rattle.model.specs.Grounding.{state_of_bits}
use Rattle.grounding.specs.Ground.{task_in, atoms_in}
use Rattle.grounding.proofs.GroundLemmas.{got-mapped, schema-of}
use Rattle.grounding.proofs.StepLemmas.{kept-is_instance, applies}
use Rattle.grounding.proofs.ground.Ground.precondition_holds.Goals.{After-schema, In-Some}
use Rattle.grounding.proofs.ground.Ground.precondition_holds.Goals as goal

-- the instance is that of the number
at : (c : After-schema) → slice_get (kept_instances (task_in c.args.self.now)) c.args.number ≡ Some (instance_of c.index-instances-number.result)
at c =
    let items = c.instances.result.now in
    let kept : map instance_of items ≡ kept_instances (task_in c.args.self.now) = c.instances.ensures ∙ c.args.self.now.numbering.kept in
    let below : c.args.number < length items = omega (arith, c.requires.within, ap length kept, length-map items instance_of) in
    ap (λ l. slice_get l c.args.number) (sym kept) ∙ got-mapped instance_of items c.args.number c.index-instances-number.result below c.index-instances-number.is

-- the schema has the shape of the task's
shape_is : (c : In-Some) → Some (shape_of c.in-Some.schema.now) ≡ option_map shape_of_schema (slice_get (task_in c.args.self.now).schemas c.index-instances-number.result.schema.0)
shape_is c = c.in-Some.ensures.shape ∙ ap (λ (u : Task). option_map shape_of_schema (slice_get u.schemas c.index-instances-number.result.schema.0)) c.task.ensures

it : (c : In-Some) → (s : Schema) × (slice_get (task_in c.args.self.now).schemas c.index-instances-number.result.schema.0 ≡ Some s) × (shape_of c.in-Some.schema.now ≡ shape_of_schema s)
it c = found (slice_get (task_in c.args.self.now).schemas c.index-instances-number.result.schema.0) (shape_of c.in-Some.schema.now) (shape_is c)

pub evaluate-requires-clause-fits : goal.evaluate-requires-clause-fits
evaluate-requires-clause-fits c =
    let t = task_in c.args.self.now in
    let item = c.index-instances-number.result in
    precondition_fits t item.schema.0 (shape_of c.in-Some.schema.now) (shape_is (goal.at.evaluate-requires-clause-fits c).In-Some) (map object_of item.objects.items)
    (kept-is_instance t c.args.number (instance_of item) (at (goal.at.evaluate-requires-clause-fits c).After-schema)) c.args.self.now.numbering.statics.task.now.well_typed

pub unreachable-requires : goal.unreachable-requires
unreachable-requires c =
    let t = task_in c.args.self.now in
    let item = c.index-instances-number.result in
    let s = schema-of t (instance_of item) (kept-is_instance t c.args.number (instance_of item) (at (goal.at.unreachable-requires c).After-schema)) in
    let none : None ≡ option_map shape_of_schema (slice_get t.schemas item.schema.0) =
    c.in-None.ensures.shape ∙ ap (λ (u : Task). option_map shape_of_schema (slice_get u.schemas item.schema.0)) c.task.ensures in
    let two : None ≡ Some (shape_of_schema s.0) = none ∙ ap (option_map shape_of_schema) s.1 in
    absurd (cc)

pub returns : goal.returns
returns c =
    let g = c.args.self.now in
    let t = task_in g in
    let item = c.index-instances-number.result in
    let s = it (goal.at.returns c).In-Some in
    let bits = bits_of c.args.state.now in
    c.evaluate.ensures
    ∙ ap (λ (f : Formula). holds t f (map object_of item.objects.items) (state_of_bits t (atoms_in g) bits)) (ap (λ (shape : Shape). shape.1) s.2)
    ∙ sym (applies t (atoms_in g) bits c.args.number (instance_of item) (at (goal.at.returns c).After-schema) s.0 s.1)
