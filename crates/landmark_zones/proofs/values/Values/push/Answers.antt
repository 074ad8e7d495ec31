use Rattle.std.proofs.Common.{◌≡◌, ◌∙◌, ◌+◌, length, ap, arith, length-append}
use Rattle.landmark_zones.specs.Rows.{rows_from, are_ends}
use Rattle.landmark_zones.proofs.RowLemmas.{ends-more, rows-more, ok_fact}
use Rattle.landmark_zones.proofs.values.Values.push.Goals as goal

pub returns-clause-fit : goal.returns-clause-fit
returns-clause-fit c =
    let v = c.args.self.now in
    let shares = ok_fact _ c.extend.result c.if-is_err.ensures.negation c.extend.ensures.shares in
    let ends = ok_fact _ c.extend.result c.if-is_err.ensures.negation c.extend.ensures.ends in
    let long : length c.extend.new.self.shares.items ≡ length v.shares.items + length c.args.shares.now = ap length shares ∙ length-append v.shares.items c.args.shares.now in
    (λ i. are_ends 0 (ends i) (long i))
    ∙ ends-more 0 v.ends.items (length v.shares.items) (length v.shares.items + length c.args.shares.now) c.requires (omega arith)

pub returns-clause-ok : goal.returns-clause-ok
returns-clause-ok c =
    let v = c.args.self.now in
    let shares = ok_fact _ c.extend.result c.if-is_err.ensures.negation c.extend.ensures.shares in
    let ends = ok_fact _ c.extend.result c.if-is_err.ensures.negation c.extend.ensures.ends in
    (λ i. rows_from 0 (ends i) (shares i)) ∙ rows-more 0 v.ends.items v.shares.items c.args.shares.now c.requires
