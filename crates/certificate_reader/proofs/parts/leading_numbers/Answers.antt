use Rattle.std.proofs.Common.{◌<◌, ◌++◌, map, sym, ap, ◌∙◌, subst}
use Rattle.std.specs.Fmt.{decimal}
use Rattle.certificate_definitions.specs.Certificates.{rise}
use Rattle.certificate_reader.specs.Words.{text_in, then_words}
use Rattle.certificate_reader.proofs.NumbersRead.{bytes_left, fewer_left, done_rise, one_more_read, one_more_rises, stops_here}
use Rattle.certificate_reader.proofs.parts.leading_numbers.Goals as goal

pub words-smaller : goal.words-smaller
words-smaller c =
    subst (λ left. bytes_left (text_in c.first_word.result.1) < bytes_left (text_in left)) (sym c.in-Some.is) (fewer_left _ _ _ c.first_word.ensures)

pub words-preserved : goal.words-preserved
words-preserved c =
    let done = c.words.numbers.items in
    let read = ap (λ left. then_words (map decimal done) (text_in left)) (sym c.in-Some.is) ∙ c.words.invariant.read in
    let next = c.in-Some-number_within.ensures.some in
    record {
      read = ap (λ items. then_words (map decimal items) (text_in c.first_word.result.1)) c.in_ok-push.ensures.items
          ∙ one_more_read c.args.atom_count c.requires.few _ done c.words.least c.words.invariant.rises c.in-Some.bytes.now _ _ c.first_word.ensures read
          c.in-Some-number_within.next next.0 next.1 next.2;
      rises = λ more. ap (λ items. rise c.args.atom_count 0 (items ++ more)) c.in_ok-push.ensures.items
          ∙ one_more_rises c.args.atom_count c.requires.few _ done c.words.least c.words.invariant.rises c.in-Some.bytes.now _ _ c.first_word.ensures read
          c.in-Some-number_within.next next.0 next.1 next.2 more;
    }

pub returns-in_default-number_within : goal.returns-in_default-number_within
returns-in_default-number_within c =
    let done = c.words.numbers.items in
    record {
      rising = done_rise c.args.atom_count c.requires.few (text_in c.args.rest) done c.words.least c.words.invariant.rises;
      stops = λ n rest rising same. stops_here c.args.atom_count c.requires.few (text_in c.args.rest) done c.words.least c.words.invariant.rises c.in-Some.bytes.now _ _ c.first_word.ensures
          c.in_default-number_within.ensures.none n rest rising (sym (ap text_in c.in-Some.is) ∙ same);
      splits = c.words.invariant.read;
    }

pub returns : goal.returns
returns c = record {
  rising = done_rise c.args.atom_count c.requires.few (text_in c.args.rest) c.words.numbers.items c.words.least c.words.invariant.rises;
  stops = λ n rest rising same. absurd (cc same);
  splits = ap (λ left. then_words (map decimal c.words.numbers.items) (text_in left)) (sym c.in_default.is) ∙ c.words.invariant.read;
}
