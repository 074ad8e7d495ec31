use Rattle.std.proofs.Common.{◌∙◌, ◌||◌, true, false, refl, ap, arith}
use Rattle.std.specs.Bool.{beq}
use Rattle.grounding.specs.Views.{numbered_of}
use Rattle.potentials.specs.declared.said.Said.{Said}
use Rattle.potentials.proofs.GoalLemmas.{said-more, said-past}
use Rattle.potentials.proofs.goals.GoalAtoms.add.Goals as goal

pub returns-then-place-len : goal.returns-then-place-len
returns-then-place-len c literals count are =
    said-more literals (numbered_of c.args.literal) c.args.self.now _ _ count (omega (arith, c.len.ensures, c.if-place-len.true)) refl
    (c.with.ensures.is_false ∙ ap (λ (s : Said). s.is_false || beq c.args.literal.value false) c.of.ensures)
    (c.with.ensures.is_true ∙ ap (λ (s : Said). s.is_true || beq c.args.literal.value true) c.of.ensures) are

pub returns-else-place-len : goal.returns-else-place-len
returns-else-place-len c literals count are = said-past literals (numbered_of c.args.literal) c.args.self.now count (omega (arith, c.len.ensures, c.if-place-len.false)) are
