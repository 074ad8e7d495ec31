use Rattle.std.proofs.Common.{true, false, subst, Some}
use Rattle.packed_state.specs.Packed.{bits_of}
use Rattle.table_rows.specs.Places.{IsSetOf}
use Rattle.table_rows.specs.Tables.{table_of, IsInserted}
use Rattle.table_rows.proofs.AddingLemmas.{added}
use Rattle.table_rows.proofs.table.Table.add.Goals as goal

pub returns-then-branch-clause-ok : goal.returns-then-branch-clause-ok
returns-then-branch-clause-ok c =
    let t = c.args.self.now in
    let atoms = c.args.atoms.now in
    let set = subst (λ o. IsSetOf c.scope.result.now atoms o) c.in-Some.is c.in_ok-set.ensures in
    let marked = subst (λ scope. IsSetOf scope atoms (Some c.in-Some.set)) c.scope.ensures set in
    added (table_of t) (table_of c.insert.new.self) atoms c.args.weights.now (bits_of c.in-Some.set) true t.rising c.requires.rising marked.0 marked.1
    (subst (IsInserted (table_of t) (table_of c.insert.new.self) _) c.if-branch.true c.in_ok-insert.ensures.ok)

pub returns-clause-ok : goal.returns-clause-ok
returns-clause-ok c =
    let t = c.args.self.now in
    let atoms = c.args.atoms.now in
    let set = subst (λ o. IsSetOf c.scope.result.now atoms o) c.in-Some.is c.in_ok-set.ensures in
    let marked = subst (λ scope. IsSetOf scope atoms (Some c.in-Some.set)) c.scope.ensures set in
    added (table_of t) (table_of c.insert.new.self) atoms c.args.weights.now (bits_of c.in-Some.set) false t.rising c.requires.rising marked.0 marked.1
    (subst (IsInserted (table_of t) (table_of c.insert.new.self) _) c.if-branch.false c.in_ok-insert.ensures.ok)
