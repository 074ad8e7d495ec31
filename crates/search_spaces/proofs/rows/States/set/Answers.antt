use Rattle.std.proofs.Common.{◌∙◌, ◌<◌, length, ap, arith}
use Rattle.std.proofs.lemmas.List.{with_items_is}
use Rattle.packed_state.specs.Packed.{bits_of}
use Rattle.packed_state.specs.Store.{sets_in}
use Rattle.packed_state.specs.Pool.{rows_in}
use Rattle.search_spaces.specs.Rows.{overwritten}
use Rattle.search_spaces.proofs.RowLemmas.{length-states, row_inside, stride_long, rows_replaced, states_replaced}
use Rattle.search_spaces.proofs.rows.States.set.Goals as goal

pub start-start-requires : goal.start-start-requires
start-start-requires c = let s = c.args.self.now in omega (arith, c.requires.there, length-states s.width s.stride s.count s.words.items s.rows)

pub overwrite-requires : goal.overwrite-requires
overwrite-requires c =
    let s = c.args.self.now in
    let within : c.args.place < s.count = omega (arith, c.requires.there, length-states s.width s.stride s.count s.words.items s.rows) in
    let inside = row_inside s.width s.stride s.count s.words.items s.rows c.args.place within in
    let long = stride_long s.width s.stride s.count s.words.items s.rows (length (bits_of c.args.state.now)) c.words.result.now c.requires.width c.words.ensures.packed in
    omega (arith, inside, long, c.start-start.ensures, ap length c.deref_mut.ensures.value)

pub invariant_of-self : goal.invariant_of-self
invariant_of-self c =
    let s = c.args.self.now in
    let row = c.words.result.now in
    let within : c.args.place < s.count = omega (arith, c.requires.there, length-states s.width s.stride s.count s.words.items s.rows) in
    record {
      rows =
          rw (with_items_is s.words c.overwrite.new.words (c.overwrite.auto.words ∙ c.deref_mut.ensures.len))
          (rows_replaced s.width s.stride s.count s.words.items s.rows (length (bits_of c.args.state.now)) row c.requires.width c.words.ensures.packed c.args.place c.start-start.result within
          c.start-start.ensures c.overwrite.new.words (c.overwrite.ensures ∙ ap (λ xs. overwritten xs c.start-start.result row) c.deref_mut.ensures.value)
          (c.overwrite.auto.words ∙ ap length c.deref_mut.ensures.value));
    }

pub returns-clause-states : goal.returns-clause-states
returns-clause-states c =
    let s = c.args.self.now in
    let row = c.words.result.now in
    let within : c.args.place < s.count = omega (arith, c.requires.there, length-states s.width s.stride s.count s.words.items s.rows) in
    ap (λ ws. sets_in s.width (rows_in s.stride ws s.count)) (with_items_is s.words c.overwrite.new.words (c.overwrite.auto.words ∙ c.deref_mut.ensures.len))
    ∙ states_replaced s.width s.stride s.count s.words.items s.rows (length (bits_of c.args.state.now)) row c.requires.width c.words.ensures.packed c.args.place c.start-start.result within
    c.start-start.ensures c.overwrite.new.words (c.overwrite.ensures ∙ ap (λ xs. overwritten xs c.start-start.result row) c.deref_mut.ensures.value) (bits_of c.args.state.now) c.words.ensures.bits
