use Rattle.std.proofs.Common.{◌∙◌, ◌++◌, ap, codes}
use Rattle.std.specs.List.{flat_map}
use Rattle.certificate.specs.Gathering.{number_text}
use Rattle.certificate.proofs.LineTextLemmas.{where_added, scope_text}
use Rattle.certificate.proofs.line_text.add_scope.Goals as goal

pub returns : goal.returns
returns c =
    where_added c.extend_from_slice-2.result _ _ (codes "\n") _ c.extend_from_slice-2.ensures.items
    (ap (λ xs. xs ++ codes "\n") (c.in_ok-add_numbers.ensures ∙ ap (λ xs. xs ++ flat_map number_text c.args.scope.now) c.in_ok-extend_from_slice.ensures.items)
    ∙ scope_text c.args.scope.now c.args.text.now.items)
