use Rattle.std.proofs.Common.{◌∙◌, sym, map}
use Rattle.task.specs.Task.{task_of}
use Rattle.task.specs.TaskParts.{object_of}
use Rattle.grounding_instances.specs.Initial.{facts_of}
use Rattle.grounding_instances.proofs.Closings.{not_atom-fluent, not_atom-static, not_equal-closed}
use Rattle.grounding_instances.proofs.statics.Statics.not_is_statically_false.Goals as goal

pub returns-then-is_fluent : goal.returns-then-is_fluent
returns-then-is_fluent c =
    not_atom-fluent (task_of c.args.self.now.task.now) (facts_of c.args.self.now.initial) c.args.self.now.is_initial (map object_of c.args.binding.now.items) c.args.part.now c.in-Atom.atom c.in-Atom.is
    (sym c.is_fluent.ensures ∙ c.if-is_fluent.true)

pub returns-else-is_fluent : goal.returns-else-is_fluent
returns-else-is_fluent c =
    not_atom-static (task_of c.args.self.now.task.now) (facts_of c.args.self.now.initial) c.args.self.now.is_initial (map object_of c.args.binding.now.items) c.args.part.now c.in-Atom.atom c.in-Atom.is
    c.holds.result (sym c.is_fluent.ensures ∙ c.if-is_fluent.false) c.holds.ensures

pub returns-in-Equal : goal.returns-in-Equal
returns-in-Equal c =
    not_equal-closed (task_of c.args.self.now.task.now) (facts_of c.args.self.now.initial) c.args.self.now.is_initial (map object_of c.args.binding.now.items) c.args.part.now _ _ c.in-Equal.is
    c.holds-in-Equal.result c.holds-in-Equal.ensures
