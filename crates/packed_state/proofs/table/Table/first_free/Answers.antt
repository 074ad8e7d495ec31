use Rattle.std.proofs.Common.{◌≡◌, ◌∙◌, get_or, ap, arith}
use Rattle.std.proofs.lemmas.List.{get_or_read}
use Rattle.packed_state.proofs.TableLemmas.{some_slots, further}
use Rattle.packed_state.proofs.table.Table.first_free.Goals as goal

pub taken-init : goal.taken-init
taken-init c = (some_slots c.args.self.now.entries.items c.requires.free, λ earlier before. absurd (omega arith))

pub taken-preserved : goal.taken-preserved
taken-preserved c =
    let entries = c.args.self.now.entries.items in
    let read : c.index-entry.result.now ≡ get_or entries c.slot-slot.result 0 =
    get_or_read entries c.slot-slot.result c.index-entry.result.now c.slot-slot.ensures.within c.index-entry.ensures 0 in
    further entries c.args.key c.taken.step c.requires.free c.taken.invariant.0 c.taken.invariant.1
    (λ free. absurd (c.if-entry-eq-FREE.false (read ∙ ap (λ slot. get_or entries slot 0) c.slot-slot.ensures.slot ∙ free)))
