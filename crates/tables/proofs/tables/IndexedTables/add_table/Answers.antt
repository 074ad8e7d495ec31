use Rattle.std.proofs.Common.{◌≡◌, ◌∙◌, ◌<◌, Some, length, refl, arith}
use Rattle.std.specs.Prelude.{slice_get}
use Rattle.std.proofs.lemmas.List.{length-set}
use Rattle.std.proofs.lemmas.Option.{slice_get_read}
use Rattle.grounding.specs.Ground.{task_in, atoms_in}
use Rattle.tables.proofs.TotalLemmas.{known-below-none, known-below-more, known-below-all, numbers-kept}
use Rattle.tables.proofs.tables.IndexedTables.add_table.Goals.{After-index_mut}
use Rattle.tables.proofs.tables.IndexedTables.add_table.Goals as goal

-- the instance that is looked at
read : (c : After-index_mut) → slice_get c.loop-index.all.items c.loop-index.index ≡ Some c.index_mut.result.now
read c =
    let items = c.loop-index.all.items in
    slice_get_read items (length items) c.loop-index.index c.index_mut.result.now refl (omega (arith, c.loop-index-test.true, c.len-index-end.ensures, c.loop-index.invariant.long)) c.index_mut.ensures.value

pub loop-index-init : goal.loop-index-init
loop-index-init c = record {
  long = refl;
  numbers = refl;
  known = known-below-none c.args.self.now (task_in c.args.ground.now) (atoms_in c.args.ground.now) c.args.table c.args.all.now.items c.requires.known;
}

pub add_lost-requires-clause-known : goal.add_lost-requires-clause-known
add_lost-requires-clause-known c = c.loop-index.invariant.known.left c.loop-index.index c.index_mut.result.now (omega arith) (read (goal.at.add_lost-requires-clause-known c).After-index_mut)

pub loop-index-preserved : goal.loop-index-preserved
loop-index-preserved c =
    let here = (goal.at.loop-index-preserved c).After-index_mut in
    let items = c.loop-index.all.items in
    let k = c.loop-index.index in
    let below : k < length items = omega (arith, c.loop-index-test.true, c.len-index-end.ensures, c.loop-index.invariant.long) in
    record {
      long = length-set items k c.add_lost.new.losses ∙ c.loop-index.invariant.long;
      numbers = numbers-kept items k c.index_mut.result.now c.add_lost.new.losses (read here) c.in_ok-add_lost.ensures.number ∙ c.loop-index.invariant.numbers;
      known = known-below-more c.args.self.now (task_in c.args.ground.now) (atoms_in c.args.ground.now) c.args.table k items c.add_lost.new.losses below c.loop-index.invariant.known c.in_ok-add_lost.ensures.known;
    }

pub returns-clause-known : goal.returns-clause-known
returns-clause-known c =
    known-below-all c.args.self.now (task_in c.args.ground.now) (atoms_in c.args.ground.now) c.args.table c.loop-index.index c.loop-index.all.items
    (omega (arith, c.loop-index-test.false, c.len-index-end.ensures, c.loop-index.invariant.long)) c.loop-index.invariant.known
