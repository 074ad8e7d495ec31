use Rattle.grounding.specs.Ground.{task_in, atoms_in}
use Rattle.symmetries.specs.Exchange.{exchange_of}
use Rattle.symmetries.specs.SymmetryTest.{task_tested}
use Rattle.cert_checker.proofs.SymmetriesLemmas.{fails_by}
use Rattle.cert_checker.proofs.checker.symmetry.is_symmetry.Goals as goal

pub returns-then-not-is_symmetry : goal.returns-then-not-is_symmetry
returns-then-not-is_symmetry c =
    let g = c.args.grounded.now in
    fails_by (task_tested c.args.test.now) (task_in g) (atoms_in g) (exchange_of c.args.exchange.now) c.is_symmetry.result c.requires.tested c.is_symmetry.ensures c.if-not-is_symmetry.true
