use Rattle.std.proofs.Common.{ap}
use Rattle.certificate_reader.specs.Stages.{format_of}
use Rattle.certificate_reader.specs.Words.{text_in}
use Rattle.certificate_reader.proofs.ParseLemmas.{no_line_of_a_word, parsed_whole}
use Rattle.certificate_reader.proofs.parsing.parse.Goals as goal

pub returns : goal.returns
returns c = parsed_whole c.args.bytes.now _ c.first_word.result.1 c.in-Some.rest (format_of c.args.format) c.parse_after.result c.first_word.ensures c.in-Some.is c.parse_after.ensures

pub returns-in_default : goal.returns-in_default
returns-in_default c = no_line_of_a_word c.args.bytes.now _ _ (format_of c.args.format) c.requires.some c.first_word.ensures (ap text_in c.in_default.is)
