use Rattle.std.proofs.Common.{◌∙◌, ◌%◌, map, sym, ap}
use Rattle.std.specs.Prelude.{◌==◌}
use Rattle.std.proofs.lemmas.List.{length-map}
use Rattle.certificate_reader.specs.Lines.{name_of}
use Rattle.certificate_reader.proofs.ExchangedRead.{paired-even}
use Rattle.certificate_reader.proofs.exchanged.are_paired.Goals as goal

pub returns : goal.returns
returns c = sym (paired-even (map name_of c.args.names.now) ∙ ap (λ n. n % 2 == 0) (length-map c.args.names.now name_of))
