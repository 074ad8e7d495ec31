use Rattle.std.proofs.Common.{codes, sym, ◌∙◌}
use Rattle.certificate_reader.specs.Stages.{format_of}
use Rattle.certificate_reader.proofs.ParseLemmas.{parsed_as}
use Rattle.certificate_reader.proofs.PartsRead.{reported_as_part}
use Rattle.certificate_reader.proofs.parsing.parse_after.Goals as goal

pub returns-then-is : goal.returns-then-is
returns-then-is c =
    parsed_as c.args.word.now (codes "atom") c.args.rest.now (format_of c.args.format) c.atom_line.result (sym c.is.ensures ∙ c.if-is.true) c.atom_line.ensures

pub returns-then-is-2 : goal.returns-then-is-2
returns-then-is-2 c =
    parsed_as c.args.word.now (codes "swap") c.args.rest.now (format_of c.args.format) c.swap_line.result (sym c.is-2.ensures ∙ c.if-is-2.true) c.swap_line.ensures

pub returns-then-is-3 : goal.returns-then-is-3
returns-then-is-3 c =
    parsed_as c.args.word.now (codes "end") c.args.rest.now (format_of c.args.format) c.last_line.result (sym c.is-3.ensures ∙ c.if-is-3.true) (c.last_line.ensures (format_of c.args.format))

pub returns-then-is-4 : goal.returns-then-is-4
returns-then-is-4 c =
    parsed_as c.args.word.now (codes "claim") c.args.rest.now (format_of c.args.format) c.claim_line.result (sym c.is-4.ensures ∙ c.if-is-4.true) (c.claim_line.ensures (format_of c.args.format))

pub returns-then-is-5 : goal.returns-then-is-5
returns-then-is-5 c =
    parsed_as c.args.word.now (codes "constant") c.args.rest.now (format_of c.args.format) c.constant_line.result (sym c.is-5.ensures ∙ c.if-is-5.true) c.constant_line.ensures

pub returns-then-is-6 : goal.returns-then-is-6
returns-then-is-6 c =
    parsed_as c.args.word.now (codes "pddl-cert") c.args.rest.now (format_of c.args.format) c.head_line.result (sym c.is-6.ensures ∙ c.if-is-6.true) (c.head_line.ensures (format_of c.args.format))

pub returns-in-Err : goal.returns-in-Err
returns-in-Err c =
    reported_as_part c.args.word.now c.args.rest.now (format_of c.args.format) (sym c.is_state_word.ensures ∙ c.if-is_state_word.false) (sym c.is.ensures ∙ c.if-is.false)
    (sym c.is-2.ensures ∙ c.if-is-2.false) (sym c.is-3.ensures ∙ c.if-is-3.false) (sym c.is-4.ensures ∙ c.if-is-4.false) (sym c.is-5.ensures ∙ c.if-is-5.false)
    (sym c.is-6.ensures ∙ c.if-is-6.false) c.in-Err.fault c.in-Err.ensures
