use mir.Facts.{Fits-lt-pow}
use Rattle.std.proofs.Common.{◌/◌, arith}
use Rattle.packed_state.proofs.NextLemmas.{none_left, found, none_before}
use Rattle.packed_state.proofs.words.next.Goals as goal

pub words-preserved : goal.words-preserved
words-preserved c = (
  omega (arith, c.words.invariant.0),
  none_left c.args.words.now c.words.number c.args.from c.if-rest-ne0.false c.words.invariant.1,
)

pub returns-then-rest-ne0-clause-from : goal.returns-then-rest-ne0-clause-from
returns-then-rest-ne0-clause-from c = omega (arith, c.words.invariant.0)

pub returns-then-rest-ne0-clause-none_between : goal.returns-then-rest-ne0-clause-none_between
returns-then-rest-ne0-clause-none_between c =
    none_before c.args.words.now c.words.number (omega (arith, c.if-rest-ne0.true)) (Fits-lt-pow (c.type_inv.words (c.words.number / 64))) c.args.from c.words.invariant.1

pub returns-then-rest-ne0-clause-is_in : goal.returns-then-rest-ne0-clause-is_in
returns-then-rest-ne0-clause-is_in c _ =
    found c.args.words.now c.words.number (omega (arith, c.if-rest-ne0.true)) (Fits-lt-pow (c.type_inv.words (c.words.number / 64)))
