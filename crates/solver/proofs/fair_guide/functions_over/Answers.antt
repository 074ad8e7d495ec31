use Rattle.std.proofs.Common.{◌∙◌, ◌+◌, ◌≤◌, length, map, sym, subst, arith}
use Rattle.std.specs.Prelude.{IsTrue}
use Rattle.std.proofs.lemmas.Bool.{leb-true}
use Rattle.std.proofs.lemmas.List.{length-map}
use Rattle.task.specs.TaskParts.{atom_of}
use Rattle.grounding.specs.Ground.{atoms_in}
use Rattle.certificate_definitions.specs.Certificates.{three}
use Rattle.potentials.specs.Potentials.{potentials_of}
use Rattle.lower_bounds.specs.TableLaws.{are_over}
use Rattle.lower_bounds.specs.TableFunctions.{SeveralValues}
use Rattle.table_rows.specs.Tables.{table_of}
use Rattle.tables.specs.AllTables.{tables_of}
use Rattle.solver.specs.SeveralOver.{several_over}
use Rattle.solver.proofs.GuidanceLemmas.{AreLimits, limits_of}
use Rattle.certificate.proofs.WithinLimits.{scopes_within, tables_in_range}
use Rattle.solver.proofs.TablesLemmas.{all_counted, dead_ends_weighed, few_values, values_weighed}
use Rattle.solver.proofs.fair_guide.functions_over.Goals as goal
use Rattle.solver.proofs.fair_guide.functions_over.Goals.{After-len}

abbrev values_in : After-len → SeveralValues
values_in c = several_over c.args.values.items c.args.dead_ends c.args.tables.now

limits : (c : After-len) → AreLimits three (length (atoms_in c.args.ground.now)) (values_in c)
limits c = limits_of three (length (atoms_in c.args.ground.now)) (values_in c) c.requires.within_limits

-- there are few values
few : (c : After-len) → c.len.result ≤ 32
few c = omega (arith, few_values (length (values_in c).values) (limits c).value_count, length-map c.args.values.items potentials_of, c.len.ensures, c.args.values.ok.0)

pub overflow_cast-count : goal.overflow_cast-count
overflow_cast-count c = omega (arith, few (goal.at.overflow_cast-count c).After-len)

pub overflow_add-count : goal.overflow_add-count
overflow_add-count c = omega (arith, few (goal.at.overflow_add-count c).After-len)

pub index-requires-clause-few : goal.index-requires-clause-few
index-requires-clause-few c =
    let most = leb-true (length (map table_of c.args.tables.now)) 4194304 (limits (goal.at.index-requires-clause-few c).After-len).few_tables in
    omega (arith, most, length-map c.args.tables.now table_of)

pub index-requires-clause-counts : goal.index-requires-clause-counts
index-requires-clause-counts c = all_counted (c.len.result + 1) c.args.tables.now (sym c.have_weights.ensures ∙ c.if-not-have_weights.false)

pub index-requires-clause-range : goal.index-requires-clause-range
index-requires-clause-range c =
    tables_in_range three (length (atoms_in c.args.ground.now)) (length (map potentials_of c.args.values.items) + 1) c.args.tables.now (limits (goal.at.index-requires-clause-range c).After-len).tables

-- the scopes are of numbered atoms
scopes : (c : After-len) → IsTrue (are_over (length (atoms_in c.args.ground.now)) (map table_of c.args.tables.now))
scopes c = scopes_within three (length (atoms_in c.args.ground.now)) (length (values_in c).values + 1) (length (atoms_in c.args.ground.now)) (omega arith) (map table_of c.args.tables.now) (limits c).tables

pub index-requires-clause-scopes : goal.index-requires-clause-scopes
index-requires-clause-scopes c = subst (λ n. IsTrue (are_over n (map table_of c.args.tables.now))) (sym c.width.ensures) (scopes (goal.at.index-requires-clause-scopes c).After-len)

pub new-requires : goal.new-requires
new-requires c =
    let after = (goal.at.new-requires c).After-len in
    let many = few after in
    let weighed = dead_ends_weighed (length (atoms_in c.args.ground.now)) (values_in after) c.requires.within_limits in
    let atoms = c.args.ground.now.numbering.few_atoms in
    let numbered = length-map c.args.ground.now.numbering.atoms.keys atom_of in
    record {
      counts = c.in_ok-indexed.ensures.count ∙ omega (arith, c.len.ensures, c.args.values.ok.0);
      widths = λ k d below. values_weighed (length (atoms_in c.args.ground.now)) c.args.values.items (limits after).values k d below ∙ sym weighed;
      few_values = omega (arith, many, c.len.ensures, c.args.values.ok.0);
      few = omega (arith, weighed, atoms, numbered);
      scopes = subst (λ n. IsTrue (are_over n (tables_of c.in_ok-indexed.indexed))) (sym weighed)
          (subst (λ those. IsTrue (are_over (length (atoms_in c.args.ground.now)) those)) (sym c.in_ok-indexed.ensures.tables) (scopes after));
    }

pub returns : goal.returns
returns c =
    c.new.ensures ∙ (λ i. record { values = map potentials_of c.args.values.items; dead_ends = potentials_of c.args.dead_ends; tables = c.in_ok-indexed.ensures.tables i })
