use Rattle.std.proofs.Common.{◌∙◌, ◌++◌, ap, codes}
use Rattle.std.specs.List.{flat_map}
use Rattle.certificate_reader.specs.Lines.{line_of}
use Rattle.certificate.specs.Gathering.{number_text}
use Rattle.certificate.proofs.LineTextLemmas.{where_added, state_text}
use Rattle.certificate.proofs.line_text.add_state.Goals as goal

pub returns : goal.returns
returns c =
    let numbers = flat_map number_text c.args.line.now.atoms.items in
    where_added c.extend_from_slice.result _ _ (codes "\n") _ c.extend_from_slice.ensures.items
    (ap (λ xs. xs ++ codes "\n")
    (c.in_ok-add_numbers.ensures ∙ ap (λ xs. c.add_mark.new.text.items ++ flat_map number_text xs) c.as_slice.ensures.value
    ∙ ap (λ xs. xs ++ numbers) c.in_ok-add_mark.ensures)
    ∙ state_text (line_of c.args.line.now) c.args.text.now.items)
