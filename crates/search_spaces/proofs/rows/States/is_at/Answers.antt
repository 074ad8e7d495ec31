use Rattle.std.proofs.Common.{length, arith}
use Rattle.packed_state.specs.Packed.{bits_of}
use Rattle.search_spaces.proofs.RowLemmas.{length-states, same_there}
use Rattle.search_spaces.proofs.rows.States.is_at.Goals as goal

pub row-requires : goal.row-requires
row-requires c = let s = c.args.self.now in omega (arith, c.requires.there, length-states s.width s.stride s.count s.words.items s.rows)

pub returns : goal.returns
returns c =
    let s = c.args.self.now in
    let bits = bits_of c.args.state.now in
    same_there s.width s.stride s.count s.words.items s.rows (length bits) c.args.place c.row.result.now c.words.result.now bits c.eq.result c.requires.width
    (omega (arith, c.requires.there, length-states s.width s.stride s.count s.words.items s.rows)) c.row.ensures c.words.ensures.packed c.words.ensures.bits c.eq.ensures
