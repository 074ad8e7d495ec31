use Rattle.std.proofs.Common.{codes, sym, ◌∙◌}
use Rattle.certificate_reader.specs.Stages.{format_of}
use Rattle.certificate_reader.proofs.PartsRead.{no_part, part_parsed_as}
use Rattle.certificate_reader.proofs.part_line.parse_part.Goals as goal

pub returns-then-is : goal.returns-then-is
returns-then-is c =
    part_parsed_as c.args.word.now (codes "row") c.args.rest.now (format_of c.args.format) c.row_line.result (sym c.is.ensures ∙ c.if-is.true) c.row_line.ensures

pub returns-then-is-2 : goal.returns-then-is-2
returns-then-is-2 c =
    part_parsed_as c.args.word.now (codes "table") c.args.rest.now (format_of c.args.format) c.table_line.result (sym c.is-2.ensures ∙ c.if-is-2.true) c.table_line.ensures

pub returns-then-is-3 : goal.returns-then-is-3
returns-then-is-3 c =
    part_parsed_as c.args.word.now (codes "zone") c.args.rest.now (format_of c.args.format) c.zone_line.result (sym c.is-3.ensures ∙ c.if-is-3.true) c.zone_line.ensures

pub returns-then-is-4 : goal.returns-then-is-4
returns-then-is-4 c =
    part_parsed_as c.args.word.now (codes "marks") c.args.rest.now (format_of c.args.format) c.marks_line.result (sym c.is-4.ensures ∙ c.if-is-4.true) c.marks_line.ensures

pub returns : goal.returns
returns c =
    no_part c.args.word.now c.args.rest.now (format_of c.args.format) (sym c.is.ensures ∙ c.if-is.false) (sym c.is-2.ensures ∙ c.if-is-2.false) (sym c.is-3.ensures ∙ c.if-is-3.false)
    (sym c.is-4.ensures ∙ c.if-is-4.false)
