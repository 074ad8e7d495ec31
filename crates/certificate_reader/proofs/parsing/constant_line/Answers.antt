use Rattle.std.proofs.Common.{rules, codes, refl, sym, ◌∙◌}
use Rattle.certificate_reader.specs.Stages.{format_of}
use Rattle.certificate_reader.specs.Words.{text_in}
use Rattle.certificate_reader.proofs.LinesRead.{constant_continues, other_count}
use Rattle.certificate_reader.proofs.ParseLemmas.{may_continue, malformed}
use Rattle.certificate_reader.proofs.parsing.constant_line.Goals as goal

pub returns-then-is_some : goal.returns-then-is_some
returns-then-is_some c =
    let read = rw c.in-Some.is at c.in_ok-constants.ensures.some in
    let (bytes, at) = may_continue c.in-Some.following (sym c.is_some.ensures ∙ c.if-is_some.true) in
    malformed (codes "constant") c.args.rest.now (format_of c.args.format) refl
    (constant_continues c.args.rest.now (format_of c.args.format) c.in-Some.constants.items (text_in c.in-Some.following) read bytes at)

pub returns-then-not-is_weight_count : goal.returns-then-not-is_weight_count
returns-then-not-is_weight_count c =
    let read = rw c.in-Some.is at c.in_ok-constants.ensures.some in
    malformed (codes "constant") c.args.rest.now (format_of c.args.format) refl
    (other_count c.args.rest.now (format_of c.args.format) c.in-Some.constants.items (text_in c.in-Some.following) read
    (search rules))
