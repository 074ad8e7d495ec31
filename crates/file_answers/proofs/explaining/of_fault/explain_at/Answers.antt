use Rattle.std.proofs.Common.{◌≡◌, ◌∙◌, refl, subst, sym}
use Rattle.std.specs.String.{string_bytes}
use Rattle.explain_hints.specs.Files.{name_in, text_in}
use Rattle.explain_hints.specs.Places.{IsPlace}
use Rattle.explain_hints.specs.declared.place.LineColumn.{LineColumn}
use Rattle.file_answers.proofs.FurtherLemmas.{begins_at}
use Rattle.file_answers.proofs.explaining.of_fault.explain_at.Goals as goal

pub returns : goal.returns
returns c =
    let texts = c.args.texts.now in let fault = c.args.fault in let explained = c.in_ok-explained.explained in let at = c.in_ok-location.location in
    let is_name : string_bytes at.file ≡ name_in texts fault.file = c.in_ok-location.ensures.file ∙ c.name.ensures in
    record {
      subject = refl;
      located = record {
        name = is_name;
        place = subst (λ (p : LineColumn). IsPlace (text_in texts fault.file) fault.span.start p) (sym c.in_ok-location.ensures.place) c.in_ok-explained.ensures.is_place;
        length = c.in_ok-location.ensures.length;
      };
      says = begins_at texts fault explained.fault explained.place at (string_bytes c.in_ok-text.text)
          c.in_ok-explained.ensures.is_fault is_name c.in_ok-location.ensures.place c.in_ok-text.ensures;
    }
