use Rattle.std.proofs.Common.{arith}
use Rattle.packed_state.specs.Packed.{bits_of}
use Rattle.tables.specs.AllTables.{tables_of}
use Rattle.tables.proofs.ProjectionsLemmas.{moved-none, moved-more, words-more, words-all}
use Rattle.tables.proofs.projections.Projections.move_to.Goals as goal

pub words-init : goal.words-init
words-init c = record {
  projections = c.requires.projections;
  moved = moved-none (tables_of c.args.tables.now) c.args.self.now;
  wide = omega (arith, c.requires.width);
  done = λ n below. absurd (omega (arith, below));
}

pub follow_word-requires-clause-place : goal.follow_word-requires-clause-place
follow_word-requires-clause-place c = omega (arith, c.words-test.true, c.words-words.ensures.packed.no_more)

pub words-preserved : goal.words-preserved
words-preserved c = record {
  projections = c.follow_word.ensures.projections;
  moved = moved-more (tables_of c.args.tables.now) c.args.self.now c.words.self c.follow_word.new.self c.words.invariant.moved c.follow_word.ensures.moved;
  wide = omega (arith, c.follow_word.ensures.width, c.words.invariant.wide);
  done = words-more c.words.place (bits_of c.words.self.state) (bits_of c.follow_word.new.self.state) (bits_of c.args.state.now) c.follow_word.ensures.here c.follow_word.ensures.others c.words.invariant.done;
}

pub returns-clause-state : goal.returns-clause-state
returns-clause-state c =
    words-all c.words.place (bits_of c.words.self.state) (bits_of c.args.state.now) c.words.invariant.wide (omega (arith, c.words-test.false, c.words-words.ensures.packed.enough)) c.words.invariant.done
