use Rattle.std.proofs.Common.{Bool, ◌∙◌, sym, map}
use Rattle.task.specs.Task.{task_of}
use Rattle.task.specs.TaskParts.{object_of}
use Rattle.model.specs.Task.{Formula}
use Rattle.model.specs.StaticallyFalse.{is_statically_false}
use Rattle.model.specs.WellTyped.{is_formula}
use Rattle.model.proofs.Tests.{passes_at, passes_map}
use Rattle.formulas.proofs.FluentTests.{any_here, any_nowhere}
use Rattle.formulas.proofs.Trees.{list_any_map}
use Rattle.grounding_instances.specs.Parameters.{lent_formula}
use Rattle.grounding_instances.proofs.statics.Statics.literal_is_statically_false.Goals as goal

pub is_statically_false-requires : goal.is_statically_false-requires
is_statically_false-requires c =
    let typed = is_formula (task_of c.args.self.now.task.now) c.requires.scope in
    record {
      scope = c.requires.scope;
      typed = passes_at (λ part. typed (lent_formula part)) c.args.literals.now c.loop-literal.literal-index c.literal-item.result c.loop-literal-test.true c.literal-item.is
          (sym (passes_map typed lent_formula c.args.literals.now) ∙ c.requires.typed);
      fits = c.requires.fits;
    }

pub returns-then-is_statically_false : goal.returns-then-is_statically_false
returns-then-is_statically_false c =
    let test : Formula → Bool = λ part. is_statically_false (task_of c.args.self.now.task.now) part (map object_of c.args.binding.now.items) in
    any_here (λ part. test (lent_formula part)) c.args.literals.now c.loop-literal.literal-index c.literal-item.result c.loop-literal-test.true c.literal-item.is
    (sym c.is_statically_false.ensures ∙ c.if-is_statically_false.true)
    ∙ sym (list_any_map test lent_formula c.args.literals.now)

pub returns : goal.returns
returns c =
    let test : Formula → Bool = λ part. is_statically_false (task_of c.args.self.now.task.now) part (map object_of c.args.binding.now.items) in
    any_nowhere (λ part. test (lent_formula part)) c.args.literals.now c.loop-literal.literal-index c.loop-literal-test.false c.loop-literal.invariant
    ∙ sym (list_any_map test lent_formula c.args.literals.now)
