use Rattle.std.proofs.Common.{subst}
use Rattle.explain_hints.specs.Files.{text_in}
use Rattle.explain_faults.specs.SameMistake.{AreOfOneMistake}
use Rattle.file_answers.specs.declared.explanation.FurtherFault.{FurtherFault}
use Rattle.file_answers.proofs.CompleteLemmas.{of_first, of_further}
use Rattle.file_answers.proofs.explaining.further.FurtherSearch.is_reported.Goals as goal

pub returns-then-are_of_one_mistake : goal.returns-then-are_of_one_mistake
returns-then-are_of_one_mistake c = λ _.
    of_first (text_in c.args.self.texts.now) c.args.self.first c.args.further.now c.args.fault (c.are_of_one_mistake.ensures c.if-are_of_one_mistake.true)

pub returns-then-are_of_one_mistake-2 : goal.returns-then-are_of_one_mistake-2
returns-then-are_of_one_mistake-2 c = λ _.
    let text_of = text_in c.args.self.texts.now in
    of_further text_of c.args.self.first c.args.further.now c.args.fault c.others.other-index c.other-item.result c.others-test.true
    (subst (λ (f : FurtherFault). AreOfOneMistake text_of c.args.fault f.fault) c.other-item.is (c.are_of_one_mistake-in-others.ensures c.if-are_of_one_mistake-2.true))
