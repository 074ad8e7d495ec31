use Rattle.std.proofs.Common.{◌∙◌, ◌<◌, length, false, refl, sym, ap, subst, arith}
use Rattle.std.specs.Prelude.{slice_set}
use Rattle.std.proofs.lemmas.List.{length-set}
use Rattle.packed_state.specs.Packed.{bits_of}
use Rattle.tables.specs.AllTables.{tables_of}
use Rattle.tables.specs.KnownRows.{AreKnown}
use Rattle.tables.proofs.KnownRowsLemmas.{place-within, known-more, left-more, none-left}
use Rattle.tables.proofs.known_rows.KnownRows.find_touched.Goals as goal
use Rattle.tables.proofs.known_rows.KnownRows.find_touched.Goals.{In-touched}

-- the place is that of a table
inside : (c : In-touched) → c.touched.place < length (tables_of c.args.tables.now)
inside c = omega (arith, c.touched-test.true, c.width.ensures, c.touched.invariant.projections.touched)

pub touched-init : goal.touched-init
touched-init c = record {
  projections = c.requires.projections;
  state = refl;
  sums = c.requires.sums;
  known = c.requires.known;
  left = record { long = refl; next = c.next-place.ensures };
}

pub find-row-requires-clause-there : goal.find-row-requires-clause-there
find-row-requires-clause-there c = inside (goal.at.find-row-requires-clause-there c).In-touched

pub find-row-requires-clause-projections : goal.find-row-requires-clause-projections
find-row-requires-clause-projections c = record {
  long = c.touched.invariant.projections.long;
  touched = ap length c.remove.ensures ∙ length-set (bits_of c.touched.self.projections.touched) c.touched.place false ∙ c.touched.invariant.projections.touched;
  wide = c.touched.invariant.projections.wide;
  each = c.touched.invariant.projections.each;
}

pub set_row-requires-clause-row : goal.set_row-requires-clause-row
set_row-requires-clause-row c = λ t at. place-within t (bits_of c.touched.self.projections.state) c.find-row.result (c.find-row.ensures t at)

pub set_row-requires-clause-there : goal.set_row-requires-clause-there
set_row-requires-clause-there c = inside (goal.at.set_row-requires-clause-there c).In-touched

pub touched-preserved : goal.touched-preserved
touched-preserved c =
    let inv = c.touched.invariant in
    let within : c.touched.place < length (bits_of c.touched.self.projections.touched) = omega (arith, c.touched-test.true, c.width.ensures) in
    record {
      projections = record {
        long = inv.projections.long;
        touched = ap length c.remove.ensures ∙ length-set (bits_of c.touched.self.projections.touched) c.touched.place false ∙ inv.projections.touched;
        wide = inv.projections.wide;
        each = inv.projections.each;
      };
      state = inv.state;
      sums = c.set_row.ensures.sums;
      known =
          (λ k t at untouched.
          subst (λ rows. AreKnown (tables_of c.args.tables.now) (bits_of c.remove.new.self) (bits_of c.touched.self.projections.state) rows) (sym c.set_row.ensures.rows)
          (subst (λ set. AreKnown (tables_of c.args.tables.now) set (bits_of c.touched.self.projections.state) (slice_set c.touched.self.sums.rows.items c.touched.place c.find-row.result)) (sym c.remove.ensures)
          (known-more (tables_of c.args.tables.now) (bits_of c.touched.self.projections.touched) (bits_of c.touched.self.projections.state) c.touched.self.sums.rows.items c.touched.place c.find-row.result inv.sums.rows
          c.find-row.ensures inv.known)) k t at untouched);
      left = left-more (bits_of c.args.self.now.projections.touched) (bits_of c.touched.self.projections.touched) (bits_of c.remove.new.self) c.touched.place c.next-place-in-touched.result within inv.left c.remove.ensures c.next-place-in-touched.ensures;
    }

pub returns-clause-known : goal.returns-clause-known
returns-clause-known c = record {
  projections = c.touched.invariant.projections;
  sums = c.touched.invariant.sums;
  rows = λ k t at. c.touched.invariant.known k t at (none-left (bits_of c.args.self.now.projections.touched) (bits_of c.touched.self.projections.touched) c.touched.place (omega (arith, c.touched-test.false, c.width.ensures)) c.touched.invariant.left k);
}
