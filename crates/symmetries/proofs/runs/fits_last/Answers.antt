use Rattle.std.proofs.Common.{◌-◌, [], ◌∷◌, arith}
use Rattle.std.specs.Prelude.{vec_len}
use Rattle.symmetries.specs.NumberPairs.{pair_of}
use Rattle.symmetries.proofs.RunLists.{last_longer}
use Rattle.symmetries.proofs.runs.fits_last.Goals as goal

pub returns : goal.returns
returns c =
    let runs = c.args.runs.now in
    let last = c.in-Some.last.now in
    let some = c.in-Some.ensures.item.3.0 in
    last_longer runs.items (vec_len runs - 1) last c.in-Some-with.longer last (pair_of c.args.pair ∷ []) (omega (arith, some, runs.ok.0)) c.in-Some.ensures.value c.in-Some-with.ensures
