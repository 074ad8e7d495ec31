use Rattle.std.proofs.Common.{◌∙◌}
use Rattle.std.proofs.lemmas.Bool.{ne_eqb}
use Rattle.packed_state.proofs.Equality.{same_width, other_width}
use Rattle.packed_state.proofs.packed.PackedPartialEq.eq.Goals as goal

pub returns-then-self-other : goal.returns-then-self-other
returns-then-self-other c =
    same_width c.args.self.now c.args.other.now c.are_same.result c.if-self-other.true
    (rw (c.deref.ensures.value, c.deref-then-self-other.ensures.value) at c.are_same.ensures)

pub returns-else-self-other : goal.returns-else-self-other
returns-else-self-other c = ne_eqb c.args.self.now.width c.args.other.now.width c.if-self-other.false ∙ other_width c.args.self.now c.args.other.now c.if-self-other.false
