use mir.Facts.{Fits-lt-pow}
use Rattle.std.proofs.Common.{◌+◌, ◌*◌, ◌<◌, length, refl, sym, arith}
use Rattle.std.specs.Prelude.{slice_set}
use Rattle.std.specs.Int.{trailing_zeros, w64}
use Rattle.packed_state.specs.Packed.{bits_of}
use Rattle.packed_state.specs.Sets.{has}
use Rattle.packed_state.proofs.NumberLemmas.{without_lowest_smaller}
use Rattle.tables.specs.AllTables.{tables_of}
use Rattle.tables.proofs.ProjectionsLemmas.{moved-none, moved-more, left-begun, left-more, left-none, number-within}
use Rattle.tables.proofs.projections.Projections.follow_word.Goals as goal
use Rattle.tables.proofs.projections.Projections.follow_word.Goals.{In-rest}

some : (c : In-rest) → 0 < c.rest.rest
some c = omega (arith, c.rest-test.true)

inside : (c : In-rest) → c.args.place * 64 + trailing_zeros w64 c.rest.rest < length (bits_of c.args.state.now)
inside c =
    let state = bits_of c.args.state.now in
    let bits = bits_of c.rest.self.state in
    let number = c.args.place * 64 + trailing_zeros w64 c.rest.rest in
    number-within c.args.place c.rest.rest number (bits_of c.args.self.now.state) state bits (slice_set bits number (has state number)) (some c) (Fits-lt-pow c.rest.auto.rest-fits) (sym c.requires.width) (omega arith) refl c.rest.invariant.left

pub rest-init : goal.rest-init
rest-init c = record {
  projections = c.requires.projections;
  moved = moved-none (tables_of c.args.tables.now) c.args.self.now;
  left = left-begun c.args.place c.words.result.now c.words-2.result.now (bits_of c.args.self.now.state) (bits_of c.args.state.now) (sym c.requires.width) c.words.ensures.packed c.words.ensures.bits c.words-2.ensures.packed c.words-2.ensures.bits;
}

pub overflow_cast-place : goal.overflow_cast-place
overflow_cast-place c = omega (arith, c.requires.place, c.width.ensures, c.width.type_inv)

pub overflow_mul-place : goal.overflow_mul-place
overflow_mul-place c = omega (arith, c.requires.place, c.width.ensures, c.width.type_inv)

pub overflow_add-place : goal.overflow_add-place
overflow_add-place c = let there = inside (goal.at.overflow_add-place c).In-rest in omega (arith, there, c.width.ensures, c.width.type_inv)

pub follow-requires-clause-number : goal.follow-requires-clause-number
follow-requires-clause-number c = inside (goal.at.follow-requires-clause-number c).In-rest

pub rest-smaller : goal.rest-smaller
rest-smaller c = without_lowest_smaller c.rest.rest (omega (arith, c.rest-test.true)) (Fits-lt-pow c.rest.auto.rest-fits)

pub rest-preserved : goal.rest-preserved
rest-preserved c =
    let here = (goal.at.rest-preserved c).In-rest in
    record {
      projections = c.follow.ensures.projections;
      moved = moved-more (tables_of c.args.tables.now) c.args.self.now c.rest.self c.follow.new.self c.rest.invariant.moved c.follow.ensures.moved;
      left = left-more c.args.place c.rest.rest (c.args.place * 64 + trailing_zeros w64 c.rest.rest) (bits_of c.args.self.now.state) (bits_of c.args.state.now) (bits_of c.rest.self.state) (bits_of c.follow.new.self.state)
          (some here) (Fits-lt-pow c.rest.auto.rest-fits) (sym c.requires.width) (omega arith) c.follow.ensures.state c.rest.invariant.left;
    }

pub returns-clause-here : goal.returns-clause-here
returns-clause-here c = left-none c.args.place c.rest.rest (bits_of c.args.self.now.state) (bits_of c.args.state.now) (bits_of c.rest.self.state) c.rest-test.false c.rest.invariant.left
