use Rattle.std.proofs.Common.{◌≡◌, ◌∙◌, ◌++◌, ap}
use Rattle.std.specs.String.{string_bytes}
use Rattle.explain_hints.specs.Files.{text_in}
use Rattle.explain_faults.specs.Explained.{IsHeading}
use Rattle.file_answers.specs.ExplanationLines.{place_in}
use Rattle.file_answers.specs.FurtherFaults.{further_text}
use Rattle.file_answers.specs.declared.explanation.Location.{Location}
use Rattle.file_answers.proofs.FurtherLemmas.{says_before}
use Rattle.file_answers.proofs.explaining.further.FurtherSearch.with_further.Goals as goal

pub returns : goal.returns
returns c =
    let old = string_bytes c.args.alone.text in let new = string_bytes c.in_ok-text.text in let more = further_text c.in_ok-further.further.items in
    let is : new ≡ old ++ more = c.in_ok-text.ensures ∙ ap (λ t. old ++ t) (c.as_str.ensures.value ∙ c.in_ok-more.ensures ∙ ap further_text c.deref.ensures.value) in
    record {
      subject = c.requires.subject;
      located = c.requires.located;
      says = says_before c.args.alone.location (λ (at : Location). IsHeading (string_bytes at.file) (text_in c.args.self.texts.now c.args.self.first.file) c.args.self.first.span.start (place_in at) c.args.self.first.code) new old more is c.requires.says;
      further = c.in_ok-further.ensures.further;
      complete = c.in_ok-further.ensures.complete;
      says_further = (old, is);
    }
