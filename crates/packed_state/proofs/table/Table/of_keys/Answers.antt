use Rattle.std.proofs.Common.{◌≡◌, ◌∙◌, ◌<◌, ℕ, length, get_or, set, ap, sym, subst, arith}
use Rattle.std.proofs.lemmas.List.{length-set, length-replicate}
use Rattle.packed_state.specs.Table.{entry_of, IsFirstFree, IsTable}
use Rattle.packed_state.proofs.TableLemmas.{empty_table, has_free, first_within, more_table_is}
use Rattle.packed_state.proofs.table.Table.of_keys.Goals as goal

pub loop-key-init : goal.loop-key-init
loop-key-init c =
    let is = c.in_ok-table.ensures in
    let key : ℕ → ℕ = λ n. get_or c.args.keys.now n 0 in
    record {
      within = omega arith;
      count = is.1;
      slots = ap length is.0 ∙ length-replicate c.args.slots 0;
      table = subst (λ n. IsTable key n c.in_ok-table.table.entries.items) (sym is.1) (empty_table key c.args.slots c.in_ok-table.table.entries.items (omega (arith, c.requires.room)) c.requires.slots is.0);
    }

pub first_free-slot-requires-clause-free : goal.first_free-slot-requires-clause-free
first_free-slot-requires-clause-free c = has_free _ c.loop-key.table.count c.loop-key.table.entries.items c.loop-key.invariant.table

pub first_free-slot-requires-clause-few : goal.first_free-slot-requires-clause-few
first_free-slot-requires-clause-few c = c.loop-key.invariant.table.few

pub put-requires-clause-slot : goal.put-requires-clause-slot
put-requires-clause-slot c = first_within c.loop-key.table.entries.items _ c.first_free-slot.result c.first_free-slot.ensures

pub loop-key-preserved : goal.loop-key-preserved
loop-key-preserved c =
    let key : ℕ → ℕ = λ n. get_or c.args.keys.now n 0 in
    let table = c.loop-key.table in
    let entries = table.entries.items in
    let slot = c.first_free-slot.result in
    let first : IsFirstFree entries (key table.count) slot = subst (λ n. IsFirstFree entries (key n) slot) (sym c.loop-key.invariant.count) c.first_free-slot.ensures in
    record {
      within = omega (arith, c.loop-key-test.true);
      count = omega (arith, c.put.ensures.count, c.loop-key.invariant.count);
      slots = ap length c.put.ensures.entries ∙ length-set entries slot _ ∙ c.loop-key.invariant.slots;
      table =
          more_table_is key table.count slot entries c.put.new.self.entries.items c.put.new.self.count
          (omega (arith, c.loop-key.invariant.count, c.loop-key-test.true, c.requires.few))
          c.loop-key.invariant.table first
          (omega (arith, c.loop-key.invariant.count, c.loop-key.invariant.slots, c.loop-key-test.true, c.requires.room))
          (c.put.ensures.entries ∙ ap (λ n. set entries slot (entry_of (key n) table.count)) (sym c.loop-key.invariant.count)) c.put.ensures.count;
    }

pub returns-clause-count : goal.returns-clause-count
returns-clause-count c = omega (arith, c.loop-key.invariant.count, c.loop-key.invariant.within, c.loop-key-test.false)
