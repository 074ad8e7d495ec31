use Rattle.std.proofs.Common.{sym, arith}
use Rattle.devices.proofs.files.reading.read_some.Goals as goal

pub returns-clause-ok : goal.returns-clause-ok
returns-clause-ok g c =
    let read = c.in_ok-count.ensures in
    record {
      bytes = _;
      appended = c.in_ok-extend_from_slice.ensures.items;
      consumed = read.bytes.0;
      counted = sym read.bound.1;
      within = omega (arith, read.bound.0, c.read.auto.into);
      ended = λ none some. read.bytes.1 none (omega (arith, some, c.read.auto.into));
    }
