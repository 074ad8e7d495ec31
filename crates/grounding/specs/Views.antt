-- What the crates above see of atoms, instances and numbered literals of the code, under names of this crate.
pub use Rattle.task.specs.TaskParts.{atom_of}
pub use Rattle.formulas.specs.State.{instance_of}
pub use Rattle.grounding_instances.specs.Numbers.{numbered_of}
pub use Rattle.grounding_instances.specs.declared.numbers.NumberedLiteral.{NumberedLiteral}
