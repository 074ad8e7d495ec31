use Rattle.std.proofs.Common.{ap, sym, ◌∙◌}
use Rattle.std.specs.List.{position}
use Rattle.certificate_reader.specs.Ends.{is_end}
use Rattle.certificate_reader.proofs.FirstPlaces.{found_after, nowhere_after}
use Rattle.certificate_reader.proofs.waiting.end_after.Goals as goal

pub returns-in-Some : goal.returns-in-Some
returns-in-Some c =
    sym (found_after is_end c.args.passed_over c.args.bytes.now c.in-Some.following c.requires
    (sym (c.first_end.ensures ∙ ap (position is_end) c.rest_from.ensures) ∙ c.in-Some.is))

pub returns-in-None : goal.returns-in-None
returns-in-None c =
    sym (nowhere_after is_end c.args.passed_over c.args.bytes.now c.requires (sym (c.first_end.ensures ∙ ap (position is_end) c.rest_from.ensures) ∙ c.in-None.is))
