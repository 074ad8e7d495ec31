use Rattle.std.proofs.Common.{◌∙◌, length, map, ap, arith}
use Rattle.std.proofs.lemmas.List.{length_push}
use Rattle.symmetries.specs.NumberPairs.{pair_of}
use Rattle.symmetries.proofs.NeighbourLemmas.{lowest_none, lowest_more}
use Rattle.symmetries.proofs.neighbours.neighbours_of.Goals as goal

pub lowest-init : goal.lowest-init
lowest-init c = record {
  room = let none = ap length c.new-numbers.ensures in omega (arith, none);
  found =
      lowest_none c.args.noted.now (map pair_of c.args.pairs.now) c.args.number c.new-numbers.result.items c.least_from-from.result c.new-numbers.ensures c.least_from-from.ensures.most
      c.least_from-from.ensures.least;
}

pub lowest-preserved : goal.lowest-preserved
lowest-preserved c = record {
  room =
      let room = c.lowest.invariant.room in
      let more = ap length c.push.ensures.items ∙ length_push c.lowest.numbers.items c.lowest.from in
      omega (arith, room, more);
  found =
      lowest_more c.args.noted.now (map pair_of c.args.pairs.now) c.args.number c.lowest.numbers.items c.push.new.self.items c.lowest.from c.least_from-from-in-lowest.result c.lowest.invariant.found
      c.push.ensures.items c.least_from-from-in-lowest.ensures.most c.least_from-from-in-lowest.ensures.least;
}
