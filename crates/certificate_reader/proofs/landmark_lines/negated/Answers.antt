use Rattle.std.proofs.Common.{◌≡◌, ◌≢◌, ℕ, List, None, Some, map, ap, sym, ◌∙◌}
use Rattle.std.specs.Prelude.{IsTrue}
use Rattle.std.specs.Fmt.{decimal}
use Rattle.std.specs.Global.{Vec}
use Rattle.certificate_definitions.specs.Certificates.{rise}
use Rattle.certificate_reader.specs.Words.{text_in, then_negated, then_words}
use Rattle.certificate_reader.proofs.LandmarksRead.{carried_none, carried_some, is_negated, no_negated, no_negated_alone, no_negation}
use Rattle.certificate_reader.proofs.landmark_lines.negated.Goals as goal

pub returns-then-not-is-clause-none : goal.returns-then-not-is-clause-none
returns-then-not-is-clause-none c = λ numbers rising same.
    no_negation c.in-Some.bytes.now _ _ c.first_word.ensures (sym c.is.ensures ∙ c.if-not-is.true) numbers (same ∙ ap text_in c.in-Some.is)

pub returns-in_default-following-clause-none : goal.returns-in_default-following-clause-none
returns-in_default-following-clause-none c = λ numbers rising same.
    no_negated_alone c.in-Some.bytes.now _ _ c.first_word.ensures (ap text_in c.in_default-following.is) numbers (same ∙ ap text_in c.in-Some.is)

pub returns-clause-some : goal.returns-clause-some
returns-clause-some c =
    carried_some (λ (numbers : Vec ℕ). IsTrue (rise c.args.atom_count 0 numbers.items) × (then_words (map decimal numbers.items) None ≡ Some c.in-Some-following.others.now))
    (λ (numbers : Vec ℕ). IsTrue (rise c.args.atom_count 0 numbers.items) × (then_negated numbers.items ≡ text_in c.args.left)) c.numbers.result
    (λ numbers read. (
      read.0,
      is_negated c.in-Some.bytes.now _ _ c.first_word.ensures c.in-Some-following.others.now (ap text_in c.in-Some-following.is) (sym c.is.ensures ∙ c.if-not-is.false) numbers.items read.1
          ∙ sym (ap text_in c.in-Some.is),
    ))
    c.numbers.ensures.some

pub returns-clause-none : goal.returns-clause-none
returns-clause-none c =
    carried_none ((numbers : List ℕ) → IsTrue (rise c.args.atom_count 0 numbers) → then_words (map decimal numbers) None ≢ Some c.in-Some-following.others.now)
    ((numbers : List ℕ) → IsTrue (rise c.args.atom_count 0 numbers) → then_negated numbers ≢ text_in c.args.left) c.numbers.result
    (λ never numbers rising same.
    no_negated c.in-Some.bytes.now _ _ c.first_word.ensures c.in-Some-following.others.now (ap text_in c.in-Some-following.is) c.args.atom_count never numbers rising (same ∙ ap text_in c.in-Some.is))
    c.numbers.ensures.none
