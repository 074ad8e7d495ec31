use Rattle.certificate_reader.proofs.LinesRead.{no_number_first, no_numbers_after}
use Rattle.certificate_reader.proofs.parts.numbered.Goals as goal

pub returns-in_default-clause-none : goal.returns-in_default-clause-none
returns-in_default-clause-none c = no_number_first c.args.bytes.now _ _ c.args.atom_count c.first_word.ensures c.in_default.ensures.none

pub returns-in-None-clause-none : goal.returns-in-None-clause-none
returns-in-None-clause-none c =
    let never = rw c.in-None.is at c.in_ok-atoms.ensures.none in
    no_numbers_after c.args.bytes.now _ _ c.args.atom_count c.first_word.ensures never
