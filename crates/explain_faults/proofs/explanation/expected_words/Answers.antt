use Rattle.explain_faults.proofs.ExpectedWords.{whole_in_domain, whole_in_problem}
use Rattle.explain_faults.proofs.explanation.expected_words.Goals as goal

pub returns-in-Domain-clause-whole : goal.returns-in-Domain-clause-whole
returns-in-Domain-clause-whole c = λ of_words.
    whole_in_domain c.args.texts.now c.args.fault c.reported_bytes.result.now c.reported_bytes.ensures c.words_at.result c.in-Domain.is c.words_at.ensures.suggested

pub returns-in-Problem-clause-whole : goal.returns-in-Problem-clause-whole
returns-in-Problem-clause-whole c = λ of_words.
    whole_in_problem c.args.texts.now c.args.fault c.reported_bytes.result.now c.reported_bytes.ensures c.words_at-in-Problem.result c.in-Problem.is c.words_at-in-Problem.ensures.suggested
