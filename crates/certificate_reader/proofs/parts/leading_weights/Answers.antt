use Rattle.std.proofs.Common.{rules, ◌≡◌, ◌<◌, ◌≤◌, [], ◌∷◌, ◌++◌, length, ap, sym, ◌∙◌, subst, arith}
use Rattle.std.specs.Prelude.{ℤ, IsTrue}
use Rattle.std.specs.Int.{w64}
use Rattle.std.specs.List.{list_all}
use Rattle.std.proofs.lemmas.Int.{to_z-of_z}
use Rattle.certificate_definitions.specs.Certificates.{is_weight}
use Rattle.certificate_reader.specs.Words.{text_in, then_weights}
use Rattle.certificate_reader.proofs.NumbersRead.{bytes_left, fewer_left}
use Rattle.certificate_reader.proofs.WeightsRead.{no_weights, one_weight_more, more_weights, one_longer}
use Rattle.certificate_reader.proofs.parts.leading_weights.Goals as goal

pub returns-in_default-weight-clause-none : goal.returns-in_default-weight-clause-none
returns-in_default-weight-clause-none c =
    no_weights (text_in c.args.rest) c.args.most c.words.weights.items c.words.invariant.are (omega (arith, c.words-test.true, c.len.ensures)) c.in-Some.bytes.now _ _ c.first_word.ensures
    (ap (λ left. then_weights c.words.weights.items (text_in left)) (sym c.in-Some.is) ∙ c.words.invariant.read) c.in_default-weight.ensures.none

pub words-preserved : goal.words-preserved
words-preserved c =
    let done = c.words.weights.items in
    let next = c.in-Some-weight.next in
    let read = ap (λ left. then_weights done (text_in left)) (sym c.in-Some.is) ∙ c.words.invariant.read in
    let fewer : length done < c.args.most = omega (arith, c.words-test.true, c.len.ensures) in
    let pushed : c.push.new.self.items ≡ done ++ next ∷ [] = c.in_ok-push.ensures.items ∙ ap (λ (n : ℤ). done ++ n ∷ []) (to_z-of_z w64 next (search rules)) in
    let weight = c.in-Some-weight.ensures.some in
    record {
      read = ap (λ items. then_weights items (text_in c.first_word.result.1)) pushed
          ∙ one_weight_more (text_in c.args.rest) c.args.most done c.words.invariant.are fewer c.in-Some.bytes.now _ _ c.first_word.ensures read next weight.1;
      are = subst (λ items. IsTrue (list_all is_weight items)) (sym pushed) (more_weights done next c.words.invariant.are weight.0);
      few = subst (λ items. length items ≤ c.args.most) (sym pushed) (one_longer done next c.args.most fewer);
    }

pub words-smaller : goal.words-smaller
words-smaller c = subst (λ left. bytes_left (text_in c.first_word.result.1) < bytes_left (text_in left)) (sym c.in-Some.is) (fewer_left _ _ _ c.first_word.ensures)
