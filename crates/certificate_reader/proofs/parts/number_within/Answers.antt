use Rattle.std.proofs.Common.{◌≡◌, sym, ◌∙◌, arith}
use Rattle.certificate_reader.proofs.NumbersRead.{same_number, few_are_numbers}
use Rattle.certificate_reader.proofs.parts.number_within.Goals as goal
use Rattle.certificate_reader.proofs.parts.number_within.Goals.{else-from-next-via-then-from-next+else-next-count, else-from-next-via-else-from-next}

pub returns-else-from-next-clause-none : goal.returns-else-from-next-clause-none
returns-else-from-next-clause-none c = λ n above below same.
    let read = c.in-Some.ensures.some in
    let is : c.in-Some.next ≡ n = same_number c.in-Some.next n read.0 (few_are_numbers c.args.count n c.requires.few below) (read.1 ∙ sym same) in
    elim c.else-from-next.branch [
      | else-from-next-via-then-from-next+else-next-count w ↦ omega (arith, is, below, w.if-next-count.false)
      | else-from-next-via-else-from-next w ↦ omega (arith, is, above, c.from.ensures, w.if-from-next.false)
    ]
