use Rattle.std.proofs.Common.{◌∙◌, ◌<◌, ap, sym, Some, arith}
use Rattle.packed_state.specs.Packed.{bits_of}
use Rattle.packed_state.specs.PooledStore.{rows_of}
use Rattle.packed_state.proofs.StoreLemmas.{length-sets, row_for, got_state, got_width}
use Rattle.packed_state.proofs.PoolLemmas.{length-rows, row_in}
use Rattle.packed_state.proofs.pooled.PooledStoreStateStore.get.Goals as goal

pub row-requires-clause-place : goal.row-requires-clause-place
row-requires-clause-place c =
    let s = c.args.self.now in
    omega (arith, c.requires.there, length-sets s.width (rows_of s.pool), length-rows s.pool.stride s.pool.words.items s.pool.table.count)

pub copy_words-requires : goal.copy_words-requires
copy_words-requires c =
    let s = c.args.self.now in
    let within : c.args.place < s.pool.table.count =
    omega (arith, c.requires.there, length-sets s.width (rows_of s.pool), length-rows s.pool.stride s.pool.words.items s.pool.table.count) in
    row_for s.width _ (rows_of s.pool) c.args.place c.row.result.now c.requires.width s.pooled.stored
    (row_in s.pool.stride s.pool.words.items s.pool.table.count c.args.place within ∙ ap Some (sym c.row.ensures))

pub returns-clause-set : goal.returns-clause-set
returns-clause-set c =
    let s = c.args.self.now in
    let within : c.args.place < s.pool.table.count =
    omega (arith, c.requires.there, length-sets s.width (rows_of s.pool), length-rows s.pool.stride s.pool.words.items s.pool.table.count) in
    got_state s.width _ (rows_of s.pool) c.args.place c.row.result.now (bits_of c.copy_words.new.self) c.requires.width
    (row_in s.pool.stride s.pool.words.items s.pool.table.count c.args.place within ∙ ap Some (sym c.row.ensures)) c.copy_words.ensures

pub returns-clause-width : goal.returns-clause-width
returns-clause-width c = got_width c.args.self.now.width _ c.row.result.now (bits_of c.copy_words.new.self) c.requires.width c.copy_words.ensures
