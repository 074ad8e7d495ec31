use Rattle.std.proofs.Common.{◌≡◌, length, sym, subst}
use Rattle.std.proofs.lemmas.List.FromFn.{length-range_with_len}
use Rattle.table_rows.specs.Candidates.{candidates_of}
use Rattle.table_rows.proofs.candidates.Candidates.len.Goals as goal

pub returns-in-All : goal.returns-in-All
returns-in-All c = subst (λ s. c.in-All.count ≡ length (candidates_of s)) (sym c.in-All.is) (sym (length-range_with_len 0 c.in-All.count))
