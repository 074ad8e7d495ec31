use Rattle.model.specs.Meaning.{system_of}
use Rattle.validator.proofs.VerdictLaws.{exactly_one_verdict}
use Rattle.validator.proofs.verdict.exactly_one_verdict_is_true.Goals as goal

pub returns : goal.returns
returns c = λ t plan. exactly_one_verdict (system_of t) plan
