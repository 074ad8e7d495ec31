use Rattle.std.proofs.Common.{◌≡◌, ◌<◌, length, get_or, Some, sym, subst, arith}
use Rattle.std.specs.Prelude.{slice_get}
use Rattle.std.proofs.lemmas.List.FromFn.{length-range_with_len}
use Rattle.table_rows.specs.Candidates.{candidates_of}
use Rattle.table_rows.proofs.FateLemmas.{item-at, range-at}
use Rattle.table_rows.proofs.candidates.Candidates.at.Goals as goal

pub prove-unreachable-requires : goal.prove-unreachable-requires
prove-unreachable-requires c =
    let within = subst (λ s. c.args.place < length (candidates_of s)) c.in-All.is c.requires in
    omega (arith, within, length-range_with_len 0 c.in-All.count, c.if-prove.true)

pub returns-in-All : goal.returns-in-All
returns-in-All c =
    let within = subst (λ s. c.args.place < length (candidates_of s)) c.in-All.is c.requires in
    subst (λ s. slice_get (candidates_of s) c.args.place ≡ Some c.args.place) (sym c.in-All.is) (range-at c.in-All.count c.args.place (omega (arith, within, length-range_with_len 0 c.in-All.count)))

pub returns-in-These : goal.returns-in-These
returns-in-These c =
    let within = subst (λ s. c.args.place < length (candidates_of s)) c.in-These.is c.requires in
    subst (λ s. slice_get (candidates_of s) c.args.place ≡ Some (get_or c.in-These.rows.now c.args.place 0)) (sym c.in-These.is) (item-at c.in-These.rows.now c.args.place 0 within)
