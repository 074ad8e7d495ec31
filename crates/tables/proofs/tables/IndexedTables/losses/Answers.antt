use Rattle.std.proofs.Common.{◌≡◌, ◌∙◌, ◌+◌, [], length, sym, ap, subst, arith}
use Rattle.std.proofs.lemmas.List.{length_push}
use Rattle.grounding.specs.Ground.{task_in, atoms_in}
use Rattle.tables.specs.AllTables.{tables_of}
use Rattle.tables.specs.TotalLosses.{AreFrom, AreKnownAfter, numbers_of}
use Rattle.tables.proofs.TotalLemmas.{from-none, from-more, known-none, known-pushed}
use Rattle.tables.proofs.tables.IndexedTables.losses.Goals as goal

pub loop-index-init : goal.loop-index-init
loop-index-init c =
    let none : c.new-all.result.items ≡ [] = c.new-all.ensures.items in
    record {
      long = ap length none;
      numbers = subst (λ l. AreFrom c.args.first (numbers_of l)) (sym none) (from-none c.args.first);
      known = subst (AreKnownAfter c.args.self.now (task_in c.args.ground.now) (atoms_in c.args.ground.now) 0) (sym none) (known-none c.args.self.now (task_in c.args.ground.now) (atoms_in c.args.ground.now) 0);
    }

pub loop-index-preserved : goal.loop-index-preserved
loop-index-preserved c =
    let old = c.loop-index.all.items in
    let new = c.in_ok-no_losses.field-0 in
    let is = c.in_ok-push.ensures.items in
    let numbered : new.number ≡ c.args.first + length old = omega (arith, c.in_ok-no_losses.ensures.number, c.loop-index.invariant.long) in
    record {
      long = ap length is ∙ length_push old new ∙ ap (λ n. n + 1) c.loop-index.invariant.long;
      numbers = subst (λ l. AreFrom c.args.first (numbers_of l)) (sym is) (from-more c.args.first old new c.loop-index.invariant.numbers numbered);
      known = subst (AreKnownAfter c.args.self.now (task_in c.args.ground.now) (atoms_in c.args.ground.now) 0) (sym is)
          (known-pushed c.args.self.now (task_in c.args.ground.now) (atoms_in c.args.ground.now) 0 old new c.in_ok-no_losses.ensures.known c.loop-index.invariant.known);
    }

pub loop-table-init : goal.loop-table-init
loop-table-init c = record {
  long = omega (arith, c.loop-index.invariant.long, c.loop-index-test.false, c.loop-index.auto.index-end);
  numbers = c.loop-index.invariant.numbers;
  known = c.loop-index.invariant.known;
}

pub loop-table-preserved : goal.loop-table-preserved
loop-table-preserved c = record {
  long = c.in_ok-add_table.ensures.long ∙ c.loop-table.invariant.long;
  numbers = subst (AreFrom c.args.first) (sym c.in_ok-add_table.ensures.numbers) c.loop-table.invariant.numbers;
  known = c.in_ok-add_table.ensures.known;
}

pub returns-clause-known : goal.returns-clause-known
returns-clause-known c =
    subst (λ n. AreKnownAfter c.args.self.now (task_in c.args.ground.now) (atoms_in c.args.ground.now) n c.loop-table.all.items) (let e : c.loop-table.table ≡ length (tables_of c.args.self.now) = omega (arith, c.loop-table-test.false, c.len-table-end.ensures) in e)
    c.loop-table.invariant.known
