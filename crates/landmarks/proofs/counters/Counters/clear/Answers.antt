use Rattle.std.proofs.Common.{◌∙◌, arith}
use Rattle.std.proofs.lemmas.List.{length-set}
use Rattle.landmarks.proofs.ChargeLemmas.{cleared-more, cleared-all}
use Rattle.landmarks.proofs.counters.Counters.clear.Goals as goal

pub loop-place-preserved : goal.loop-place-preserved
loop-place-preserved c =
    let items = c.loop-place.self.counters.items in
    record {
      long = length-set items c.loop-place.place (record { seen = 0; charged = 0 }) ∙ c.loop-place.invariant.long;
      unseen = cleared-more items c.loop-place.place (omega (arith, c.loop-place-test.true)) c.loop-place.invariant.unseen;
    }

pub returns-clause-unseen : goal.returns-clause-unseen
returns-clause-unseen c = cleared-all c.loop-place.self.counters.items c.loop-place.place (omega (arith, c.loop-place-test.false)) c.loop-place.invariant.unseen
