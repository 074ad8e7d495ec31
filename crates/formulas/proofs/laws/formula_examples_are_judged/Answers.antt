use Rattle.model.proofs.FormulaExampleProofs.{are_judged}
use Rattle.formulas.proofs.laws.formula_examples_are_judged.Goals as goal

pub returns : goal.returns
returns c = are_judged
