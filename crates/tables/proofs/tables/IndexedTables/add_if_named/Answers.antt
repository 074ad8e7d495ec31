use Rattle.std.proofs.Common.{◌≡◌, ◌∙◌, ℕ, ◌+◌, ◌<◌, ◌^◌, Bool, true, false, List, ◌++◌, length, map, take, drop, Some, sym, ap, subst, arith, ℤ}
use Rattle.std.specs.Prelude.{All, slice_get}
use Rattle.std.proofs.lemmas.List.{length-map, take-append-le, take_all}
use Rattle.std.proofs.lemmas.List.Elements.{All-contains}
use Rattle.std.proofs.lemmas.Option.{slice_get-get_or}
use Rattle.grounding.specs.Ground.{task_in, atoms_in}
use Rattle.grounding.specs.Views.{numbered_of}
use Rattle.grounding.specs.Changes.{conditional_of}
use Rattle.model.specs.ConditionalChanges.{ConditionalChange, conditional_of_number}
use Rattle.model.specs.NumberedLiterals.{NumberedLiteral, literals_of_number}
use Rattle.model.proofs.ListLemmas.{Contains-got}
use Rattle.packed_state.specs.Packed.{bits_of}
use Rattle.lower_bounds.specs.TableFunctions.{Table}
use Rattle.lower_bounds.specs.FairTables.{is_closed}
use Rattle.table_rows.specs.Fates.{IsLoss}
use Rattle.table_rows.specs.Losses.{indexed_of, indexed_count_of, AreLossesByTable}
use Rattle.table_rows.specs.declared.indexed.IndexedTable.{IndexedTable}
use Rattle.table_rows.proofs.FateLemmas.{row-there}
use Rattle.tables.specs.AllTables.{tables_of, count_of}
use Rattle.tables.specs.RowSums.{AreAdded}
use Rattle.tables.specs.TotalLosses.{IsShutOut, AreTotals, StandsAfter}
use Rattle.tables.proofs.TablesLemmas.{not-all, not-touched, read-at, by-all}
use Rattle.tables.proofs.TotalLemmas.{losses-range, totals-more, totals-small, totals-untouched}
use Rattle.tables.proofs.tables.IndexedTables.add_if_named.Goals.{Start, After-loses_by_each, After-deref}
use Rattle.tables.proofs.tables.IndexedTables.add_if_named.Goals as goal

-- what is known of it before
before : (c : Start) → IsShutOut (task_in c.args.ground.now) (atoms_in c.args.ground.now) (tables_of c.args.self.now) c.args.losses.now.number false
    × AreTotals (count_of c.args.self.now) (literals_of_number (task_in c.args.ground.now) (atoms_in c.args.ground.now) c.args.losses.now.number)
    (conditional_of_number (task_in c.args.ground.now) (atoms_in c.args.ground.now) c.args.losses.now.number) (tables_of c.args.self.now) c.args.table c.args.losses.now.total.items
before c =
    let s = c.args.self.now in
    let l = c.args.losses.now in
    subst (StandsAfter (task_in c.args.ground.now) (atoms_in c.args.ground.now) (tables_of s) (count_of s) c.args.table l.number l.total.items) c.requires.stays c.requires.known.standing

-- a whole list was written
written : (new old : List ℤ) (count : ℕ) → count ≡ length new → take count (new ++ drop (length new) old) ≡ new
written new old count all = take-append-le count new (drop (length new) old) (omega (arith, all)) ∙ take_all count new (omega (arith, all))

-- the answer for the table of this place
by-table : (c : After-loses_by_each) (closed : Bool)
    → AreLossesByTable (indexed_count_of c.index-tables-table.result) (map numbered_of c.literals-literals.result.now) (map conditional_of c.counting-changes.result.now) (indexed_of c.index-tables-table.result) c.loses_by_each.new.most closed
    → (t : Table) → slice_get (tables_of c.args.self.now) c.args.table ≡ Some t
    → AreLossesByTable (count_of c.args.self.now) (literals_of_number (task_in c.args.ground.now) (atoms_in c.args.ground.now) c.args.losses.now.number)
    (conditional_of_number (task_in c.args.ground.now) (atoms_in c.args.ground.now) c.args.losses.now.number) t c.loses_by_each.new.most closed
by-table c closed loses t at =
    let s = c.args.self.now in
    let indexed = c.index-tables-table.result in
    let most = c.loses_by_each.new.most in
    let long = ap length c.tables.ensures in
    let below : c.args.table < length c.tables.result.now = omega (arith, c.requires.table, length-map s.tables.items indexed_of, long) in
    let read : slice_get s.tables.items c.args.table ≡ Some indexed =
    ap (λ l. slice_get l c.args.table) (sym c.tables.ensures) ∙ slice_get-get_or c.tables.result.now c.args.table indexed below ∙ ap Some (sym c.index-tables-table.is) in
    let counts : indexed_count_of indexed ≡ count_of s = All-contains (λ (i : IndexedTable). indexed_count_of i ≡ s.count) s.tables.items indexed s.counts (Contains-got s.tables.items c.args.table indexed read) in
    let says = c.literals-literals.ensures in
    let makes = c.counting-changes.ensures.conditional in
    subst (λ (q : (ls : List NumberedLiteral) × List ConditionalChange). AreLossesByTable (count_of s) q.0 q.1 t most closed) (λ k. (says k, makes k))
    (subst (λ n. AreLossesByTable n (map numbered_of c.literals-literals.result.now) (map conditional_of c.counting-changes.result.now) t most closed) counts
    (subst (λ (u : Table). AreLossesByTable (indexed_count_of indexed) (map numbered_of c.literals-literals.result.now) (map conditional_of c.counting-changes.result.now) u most closed) (read-at s.tables.items c.args.table indexed t read at)
    loses))

-- what it loses by the table
lost : (c : After-deref) → c.deref.result.now ≡ c.loses_by_each.new.most
lost c =
    let room = c.args.losses.now.by_table in
    let most = c.loses_by_each.new.most in
    let long : room.len ≡ length most = omega (arith, room.ok.0, c.loses_by_each.auto.most, ap length c.deref_mut.ensures.value) in
    c.deref.ensures.value ∙ written most room.items room.len long

pub returns-then-not-has-clause-known : goal.returns-then-not-has-clause-known
returns-then-not-has-clause-known c =
    let task = task_in c.args.ground.now in
    let atoms = atoms_in c.args.ground.now in
    let s = c.args.self.now in
    let l = c.args.losses.now in
    let known = c.requires.known in
    let changes = conditional_of_number task atoms l.number in
    let t = row-there (tables_of s) c.args.table c.requires.table in
    let now = before (goal.at.returns-then-not-has-clause-known c).Start in
    let none = not-touched (tables_of s) s.by_atom (by-all s) c.args.table t.0 t.1 (bits_of l.named) (sym c.has.ensures ∙ c.if-not-has.true) changes known.named in
    record {
      within = known.within;
      total = known.total;
      by_table = known.by_table;
      named = known.named;
      standing = subst (StandsAfter task atoms (tables_of s) (count_of s) (c.args.table + 1) l.number l.total.items) (sym c.requires.stays)
          (now.0, totals-untouched (count_of s) (literals_of_number task atoms l.number) changes (tables_of s) c.args.table t.0 t.1 l.total.items none now.1);
    }

pub returns-then-not-branch-clause-known : goal.returns-then-not-branch-clause-known
returns-then-not-branch-clause-known c =
    let task = task_in c.args.ground.now in
    let atoms = atoms_in c.args.ground.now in
    let s = c.args.self.now in
    let l = c.args.losses.now in
    let known = c.requires.known in
    let literals = literals_of_number task atoms l.number in
    let changes = conditional_of_number task atoms l.number in
    let t = row-there (tables_of s) c.args.table c.requires.table in
    let now = before (goal.at.returns-then-not-branch-clause-known c).Start in
    let room = l.by_table in
    let most = c.loses_by_each.new.most in
    let indexed = c.index-tables-table.result in
    let long : room.len ≡ length most = omega (arith, room.ok.0, c.loses_by_each.auto.most, ap length c.deref_mut.ensures.value) in
    let many : length most ≡ count_of s = omega (arith, c.loses_by_each.auto.most, ap length c.deref_mut.ensures.value, known.by_table) in
    let leaves = by-table (goal.at.returns-then-not-branch-clause-known c).After-loses_by_each false
    (subst (AreLossesByTable (indexed_count_of indexed) (map numbered_of c.literals-literals.result.now) (map conditional_of c.counting-changes.result.now) (indexed_of indexed) most) c.if-not-branch.true c.in_ok-loses_by_each.ensures) t.0 t.1 in
    record {
      within = known.within;
      total = known.total;
      by_table = ap length (written most room.items room.len long) ∙ many;
      named = known.named;
      standing = (now.0, not-all (is_closed literals changes) (tables_of s) c.args.table t.0 t.1 leaves);
    }

pub add_each-requires-clause-range : goal.add_each-requires-clause-range
add_each-requires-clause-range c =
    let task = task_in c.args.ground.now in
    let atoms = atoms_in c.args.ground.now in
    let s = c.args.self.now in
    let n = c.args.losses.now.number in
    let t = row-there (tables_of s) c.args.table c.requires.table in
    let indexed = c.index-tables-table.result in
    let loses = subst (AreLossesByTable (indexed_count_of indexed) (map numbered_of c.literals-literals.result.now) (map conditional_of c.counting-changes.result.now) (indexed_of indexed) c.loses_by_each.new.most) c.if-not-branch.false c.in_ok-loses_by_each.ensures in
    subst (All IsLoss) (sym (lost (goal.at.add_each-requires-clause-range c).After-deref)) (losses-range (count_of s) (literals_of_number task atoms n) (conditional_of_number task atoms n) t.0 c.loses_by_each.new.most
    (by-table (goal.at.add_each-requires-clause-range c).After-loses_by_each true loses t.0 t.1))

pub add_each-requires-clause-small : goal.add_each-requires-clause-small
add_each-requires-clause-small c =
    let task = task_in c.args.ground.now in
    let atoms = atoms_in c.args.ground.now in
    let s = c.args.self.now in
    let l = c.args.losses.now in
    let few : c.args.table < 2 ^ 24 = omega (arith, c.requires.table, s.few, length-map s.tables.items indexed_of) in
    let now = before (goal.at.add_each-requires-clause-small c).Start in
    totals-small (count_of s) (literals_of_number task atoms l.number) (conditional_of_number task atoms l.number) (tables_of s) c.args.table l.total.items few c.requires.known.total now.1

pub returns-clause-known : goal.returns-clause-known
returns-clause-known c =
    let task = task_in c.args.ground.now in
    let atoms = atoms_in c.args.ground.now in
    let s = c.args.self.now in
    let l = c.args.losses.now in
    let known = c.requires.known in
    let literals = literals_of_number task atoms l.number in
    let changes = conditional_of_number task atoms l.number in
    let t = row-there (tables_of s) c.args.table c.requires.table in
    let now = before (goal.at.returns-clause-known c).Start in
    let indexed = c.index-tables-table.result in
    let loses = subst (AreLossesByTable (indexed_count_of indexed) (map numbered_of c.literals-literals.result.now) (map conditional_of c.counting-changes.result.now) (indexed_of indexed) c.loses_by_each.new.most) c.if-not-branch.false c.in_ok-loses_by_each.ensures in
    let by_this = by-table (goal.at.returns-clause-known c).After-loses_by_each true loses t.0 t.1 in
    let room = l.by_table in
    let old = l.total in
    let most = c.loses_by_each.new.most in
    let new = c.add_each.new.totals.items in
    let room_long : room.len ≡ length most = omega (arith, room.ok.0, c.loses_by_each.auto.most, ap length c.deref_mut.ensures.value) in
    let room_many : length most ≡ count_of s = omega (arith, c.loses_by_each.auto.most, ap length c.deref_mut.ensures.value, known.by_table) in
    let added : AreAdded old.items most new = subst (λ (q : List ℤ). AreAdded old.items q new) (lost (goal.at.returns-clause-known c).After-deref) c.add_each.ensures in
    record {
      within = known.within;
      total = c.add_each.ensures.long ∙ known.total;
      by_table = ap length (written most room.items room.len room_long) ∙ room_many;
      named = known.named;
      standing = subst (StandsAfter task atoms (tables_of s) (count_of s) (c.args.table + 1) l.number new) (sym c.requires.stays)
          (now.0, totals-more (count_of s) literals changes (tables_of s) c.args.table t.0 t.1 most old.items new now.1 by_this added);
    }
