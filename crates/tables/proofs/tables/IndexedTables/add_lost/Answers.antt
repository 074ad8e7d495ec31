use Rattle.std.proofs.Common.{ℕ, ◌+◌, sym, subst}
use Rattle.grounding.specs.Ground.{task_in, atoms_in}
use Rattle.tables.specs.AllTables.{tables_of, count_of}
use Rattle.tables.specs.TotalLosses.{StandsAfter}
use Rattle.tables.proofs.tables.IndexedTables.add_lost.Goals as goal

pub returns-in-ShutOut-clause-known : goal.returns-in-ShutOut-clause-known
returns-in-ShutOut-clause-known c =
    let s = c.args.self.now in
    let l = c.args.losses.now in
    let known = c.requires.known in
    let stands = λ (k : ℕ). StandsAfter (task_in c.args.ground.now) (atoms_in c.args.ground.now) (tables_of s) (count_of s) k l.number l.total.items in
    record {
      within = known.within;
      total = known.total;
      by_table = known.by_table;
      named = known.named;
      standing = subst (stands (c.args.table + 1)) (sym c.in-ShutOut.is) (subst (stands c.args.table) c.in-ShutOut.is known.standing);
    }

pub returns-in-LeadsOut-clause-known : goal.returns-in-LeadsOut-clause-known
returns-in-LeadsOut-clause-known c =
    let s = c.args.self.now in
    let l = c.args.losses.now in
    let known = c.requires.known in
    let stands = λ (k : ℕ). StandsAfter (task_in c.args.ground.now) (atoms_in c.args.ground.now) (tables_of s) (count_of s) k l.number l.total.items in
    record {
      within = known.within;
      total = known.total;
      by_table = known.by_table;
      named = known.named;
      standing = subst (stands (c.args.table + 1)) (sym c.in-LeadsOut.is) (subst (stands c.args.table) c.in-LeadsOut.is known.standing);
    }
