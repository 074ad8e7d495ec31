use Rattle.std.proofs.Common.{◌≡◌, ◌∙◌, ◌<◌, length, get_or, ap, sym, refl, arith}
use Rattle.std.proofs.lemmas.Bool.{both_ways}
use Rattle.std.proofs.lemmas.List.{get_or_read}
use Rattle.packed_state.specs.Pool.{key_of, row_at}
use Rattle.packed_state.specs.Table.{slot_at, tag_of, number_of}
use Rattle.packed_state.proofs.TableLemmas.{entry_within}
use Rattle.packed_state.proofs.PoolSearch.{search_begins, search_continues, search_ends, search_finds}
use Rattle.packed_state.proofs.pool.Pool.look_up.Goals as goal

pub slots-init : goal.slots-init
slots-init c =
    let p = c.args.self.now in
    search_begins p.stride p.words.items p.table.count p.table.entries.items p.keys.items c.args.words.now (key_of c.args.words.now) c.requires

pub returns-then-entry-eq-FREE : goal.returns-then-entry-eq-FREE
returns-then-entry-eq-FREE c =
    let p = c.args.self.now in
    let entries = p.table.entries.items in
    let words = c.args.words.now in
    let read : c.index-entry.result.now ≡ get_or entries c.slot-slot.result 0 =
    get_or_read entries c.slot-slot.result c.index-entry.result.now c.slot-slot.ensures.within c.index-entry.ensures 0 in
    let at : c.slot-slot.result ≡ slot_at (length entries) (key_of words) c.slots.step =
    c.slot-slot.ensures.slot ∙ ap (λ key. slot_at (length entries) key c.slots.step) c.key-key.ensures in
    let ends =
    search_ends p.stride p.words.items p.table.count entries p.keys.items words (key_of words) c.slots.step c.slot-slot.result c.index-entry.result.now c.requires c.slots.invariant at read
    c.if-entry-eq-FREE.true refl in
    (ends.0, (c.key-key.ensures, ends.1))

pub returns-then-is_entry_of : goal.returns-then-is_entry_of
returns-then-is_entry_of c =
    let p = c.args.self.now in
    let entries = p.table.entries.items in
    let read : c.index-entry.result.now ≡ get_or entries c.slot-slot.result 0 =
    get_or_read entries c.slot-slot.result c.index-entry.result.now c.slot-slot.ensures.within c.index-entry.ensures 0 in
    let within : number_of c.index-entry.result.now < p.table.count =
    entry_within _ p.table.count entries c.slot-slot.result c.index-entry.result.now c.requires.table read (λ free. absurd (c.if-entry-eq-FREE.false free)) in
    search_finds p.stride p.words.items p.table.count c.args.words.now c.number.result (omega (arith, c.number.ensures))
    (ap (row_at p.stride p.words.items) c.number.ensures ∙ (c.is_entry_of.ensures.0 c.if-is_entry_of.true).1)

pub slots-preserved : goal.slots-preserved
slots-preserved c =
    let p = c.args.self.now in
    let entries = p.table.entries.items in
    let words = c.args.words.now in
    let read : c.index-entry.result.now ≡ get_or entries c.slot-slot.result 0 =
    get_or_read entries c.slot-slot.result c.index-entry.result.now c.slot-slot.ensures.within c.index-entry.ensures 0 in
    let at : c.slot-slot.result ≡ slot_at (length entries) (key_of words) c.slots.step =
    c.slot-slot.ensures.slot ∙ ap (λ key. slot_at (length entries) key c.slots.step) c.key-key.ensures in
    search_continues p.stride p.words.items p.table.count entries p.keys.items words (key_of words) c.slots.step c.slot-slot.result c.index-entry.result.now c.requires c.slots.invariant at read
    (λ free. absurd (c.if-entry-eq-FREE.false free))
    (λ both.
    both_ways _ c.if-is_entry_of.false
    (c.is_entry_of.ensures.1 (both.0 ∙ ap tag_of (sym c.key-key.ensures), both.1)))
