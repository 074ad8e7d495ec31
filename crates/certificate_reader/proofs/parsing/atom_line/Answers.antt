use Rattle.std.proofs.Common.{ap}
use Rattle.certificate_reader.specs.Lines.{named_atom_of}
use Rattle.certificate_reader.specs.Stages.{format_of}
use Rattle.certificate_reader.specs.Words.{text_in}
use Rattle.certificate_reader.proofs.LinesRead.{atom_is_read, nothing_after, no_atom_after}
use Rattle.certificate_reader.proofs.ParseLemmas.{malformed_atom}
use Rattle.certificate_reader.proofs.parsing.atom_line.Goals as goal

pub returns-in_default-following : goal.returns-in_default-following
returns-in_default-following c =
    let read = rw c.in-Some.is at c.in_ok-weights.ensures.some in
    malformed_atom c.args.rest.now (format_of c.args.format)
    (nothing_after c.args.rest.now (format_of c.args.format) c.in-Some.weights.items (text_in c.in-Some.following) read (ap text_in c.in_default-following.is))

pub returns-in-Some-2 : goal.returns-in-Some-2
returns-in-Some-2 c =
    let read = rw c.in-Some.is at c.in_ok-weights.ensures.some in
    let atom = rw c.in-Some-2.is at c.in_ok-predicate.ensures.some in
    atom_is_read c.args.rest.now (format_of c.args.format) c.in-Some.weights.items (text_in c.in-Some.following) read c.in-Some-following.following.now (ap text_in c.in-Some-following.is)
    (named_atom_of c.in-Some-2.field-0) atom.0 atom.1 c.requires.short

pub returns-in-None : goal.returns-in-None
returns-in-None c =
    let read = rw c.in-Some.is at c.in_ok-weights.ensures.some in
    let never = rw c.in-None.is at c.in_ok-predicate.ensures.none in
    malformed_atom c.args.rest.now (format_of c.args.format)
    (no_atom_after c.args.rest.now (format_of c.args.format) c.in-Some.weights.items (text_in c.in-Some.following) read c.in-Some-following.following.now (ap text_in c.in-Some-following.is) never)
