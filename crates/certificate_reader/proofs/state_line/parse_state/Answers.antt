use Rattle.std.proofs.Common.{codes, sym, ◌∙◌}
use Rattle.certificate_reader.specs.Stages.{format_of}
use Rattle.certificate_reader.proofs.LinesRead.{is_dead_by}
use Rattle.certificate_reader.proofs.ParseLemmas.{parsed_as}
use Rattle.certificate_reader.proofs.state_line.parse_state.Goals as goal

pub returns-then-is : goal.returns-then-is
returns-then-is c =
    parsed_as c.args.word.now (codes "open") c.args.rest.now (format_of c.args.format) c.open_line.result (sym c.is.ensures ∙ c.if-is.true) c.open_line.ensures

pub returns-then-is-2 : goal.returns-then-is-2
returns-then-is-2 c =
    parsed_as c.args.word.now (codes "cut") c.args.rest.now (format_of c.args.format) c.cut_line.result (sym c.is-2.ensures ∙ c.if-is-2.true) c.cut_line.ensures

pub returns-then-is-3 : goal.returns-then-is-3
returns-then-is-3 c =
    parsed_as c.args.word.now (codes "dead") c.args.rest.now (format_of c.args.format) c.dead_line.result (sym c.is-3.ensures ∙ c.if-is-3.true) c.dead_line.ensures

pub returns-then-is-4 : goal.returns-then-is-4
returns-then-is-4 c =
    parsed_as c.args.word.now (codes "cut-by") c.args.rest.now (format_of c.args.format) c.cut_by_line.result (sym c.is-4.ensures ∙ c.if-is-4.true) c.cut_by_line.ensures

pub returns : goal.returns
returns c =
    let is = is_dead_by c.args.word.now c.requires.word (sym c.is.ensures ∙ c.if-is.false) (sym c.is-2.ensures ∙ c.if-is-2.false) (sym c.is-3.ensures ∙ c.if-is-3.false) (sym c.is-4.ensures ∙ c.if-is-4.false) in
    parsed_as c.args.word.now (codes "dead-by") c.args.rest.now (format_of c.args.format) c.dead_by_line.result is c.dead_by_line.ensures
