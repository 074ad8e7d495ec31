use Rattle.std.proofs.Common.{◌≡◌, ◌∙◌, length, arith}
use Rattle.packed_state.proofs.TableLemmas.{slot_before_as, slot_round_as}
use Rattle.packed_state.proofs.table.Table.slot.Goals as goal

pub returns-then-slot-slots-clause-slot : goal.returns-then-slot-slots-clause-slot
returns-then-slot-slots-clause-slot c =
    let entries = c.args.self.now.entries in
    let as_many : c.len-slots.result ≡ length entries.items = c.len-slots.ensures ∙ entries.ok.0 in
    slot_before_as (length entries.items) c.len-slots.result c.args.key c.args.step as_many (omega (arith, c.if-slot-slots.true))

pub returns-else-slot-slots-clause-slot : goal.returns-else-slot-slots-clause-slot
returns-else-slot-slots-clause-slot c =
    let entries = c.args.self.now.entries in
    let as_many : c.len-slots.result ≡ length entries.items = c.len-slots.ensures ∙ entries.ok.0 in
    slot_round_as (length entries.items) c.len-slots.result c.args.key c.args.step as_many (omega (arith, c.if-slot-slots.false))
