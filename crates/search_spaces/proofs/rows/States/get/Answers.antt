use Rattle.std.proofs.Common.{length, arith}
use Rattle.packed_state.specs.Packed.{bits_of}
use Rattle.packed_state.proofs.StoreLemmas.{got_width}
use Rattle.search_spaces.proofs.RowLemmas.{length-states, row_packed, state_at}
use Rattle.search_spaces.proofs.rows.States.get.Goals as goal

pub row-requires : goal.row-requires
row-requires c = let s = c.args.self.now in omega (arith, c.requires.there, length-states s.width s.stride s.count s.words.items s.rows)

pub copy_words-requires : goal.copy_words-requires
copy_words-requires c =
    let s = c.args.self.now in
    row_packed s.width s.stride s.count s.words.items s.rows (length (bits_of c.args.into.now)) c.args.place c.row.result.now c.requires.width
    (omega (arith, c.requires.there, length-states s.width s.stride s.count s.words.items s.rows)) c.row.ensures

pub returns-clause-set : goal.returns-clause-set
returns-clause-set c =
    let s = c.args.self.now in
    state_at s.width s.stride s.count s.words.items s.rows (length (bits_of c.args.into.now)) c.args.place c.row.result.now (bits_of c.copy_words.new.self) c.requires.width
    (omega (arith, c.requires.there, length-states s.width s.stride s.count s.words.items s.rows)) c.row.ensures c.copy_words.ensures

pub returns-clause-width : goal.returns-clause-width
returns-clause-width c = got_width c.args.self.now.width (length (bits_of c.args.into.now)) c.row.result.now (bits_of c.copy_words.new.self) c.requires.width c.copy_words.ensures
