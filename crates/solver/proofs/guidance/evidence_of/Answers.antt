use Rattle.std.proofs.Common.{◌∙◌, [], ◌∷◌, ◌++◌, ap, map}
use Rattle.certificate.specs.Evidence.{potential_of}
use Rattle.table_rows.specs.Tables.{table_of}
use Rattle.solver.proofs.guidance.evidence_of.Goals as goal

pub returns-clause-values : goal.returns-clause-values
returns-clause-values c =
    let values = ap (map potential_of) (c.in_ok-push.ensures.items ∙ ap (λ before. before ++ c.args.value ∷ []) c.new-values.ensures.items) in
    λ i. record { values = values i; dead_ends = potential_of c.args.dead_ends; tables = map table_of (c.new.ensures.items i) }
