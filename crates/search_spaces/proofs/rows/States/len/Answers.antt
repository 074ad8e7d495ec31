use Rattle.std.proofs.Common.{sym}
use Rattle.search_spaces.proofs.RowLemmas.{length-states}
use Rattle.search_spaces.proofs.rows.States.len.Goals as goal

pub returns : goal.returns
returns c = let s = c.args.self.now in sym (length-states s.width s.stride s.count s.words.items s.rows)
