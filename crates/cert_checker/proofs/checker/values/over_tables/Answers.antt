use Rattle.std.proofs.Common.{◌≡◌, ◌∙◌, ◌+◌, ◌≤◌, length, map, sym, ap, subst, arith}
use Rattle.std.specs.Prelude.{All, IsTrue}
use Rattle.std.proofs.lemmas.Bool.{leb-true}
use Rattle.std.proofs.lemmas.List.{length-map}
use Rattle.task.specs.TaskParts.{atom_of}
use Rattle.grounding.specs.Ground.{atoms_in}
use Rattle.certificate.specs.Certificate.{certificate_of, tables_in}
use Rattle.lower_bounds.specs.PotentialFunctions.{IsInRange}
use Rattle.lower_bounds.specs.TableLaws.{are_over}
use Rattle.lower_bounds.specs.TableFunctions.{Row}
use Rattle.table_rows.specs.declared.table.Table.{Table}
use Rattle.table_rows.specs.Tables.{table_of, weight_count_of}
use Rattle.tables.specs.AllTables.{tables_of}
use Rattle.certificate.proofs.LimitsLemmas.{limits_of}
use Rattle.cert_checker.proofs.MadeLemmas.{few_values}
use Rattle.cert_checker.proofs.checker.values.over_tables.Goals as goal
use Rattle.cert_checker.proofs.checker.values.over_tables.Goals.{After-deref, After-len}
use Rattle.certificate.proofs.WithinLimits.{scopes_within, tables_in_range}

-- there are few values
few : (c : After-len) → c.len.result ≤ 32
few c =
    let cert = certificate_of c.args.cert.now in
    omega (arith, few_values cert.version (length cert.values) (limits_of cert c.args.cert.now.within_limits).value_count, c.requires.as_many, c.len.ensures, c.args.values.ok.0)

pub overflow_cast-count : goal.overflow_cast-count
overflow_cast-count c = omega (arith, few (goal.at.overflow_cast-count c).After-len)

pub overflow_add-count : goal.overflow_add-count
overflow_add-count c = omega (arith, few (goal.at.overflow_add-count c).After-len)

same_tables : (c : After-deref) → c.deref.result.now ≡ tables_in c.args.cert.now
same_tables c = c.deref.ensures.value ∙ c.evidence.ensures.in_memory

pub index-requires-clause-few : goal.index-requires-clause-few
index-requires-clause-few c =
    let cert = certificate_of c.args.cert.now in
    let most = leb-true (length cert.tables) 4194304 (limits_of cert c.args.cert.now.within_limits).few_tables in
    omega (arith, most, ap length (same_tables c), length-map (tables_in c.args.cert.now) table_of)

pub index-requires-clause-counts : goal.index-requires-clause-counts
index-requires-clause-counts c =
    let cert = certificate_of c.args.cert.now in
    let same : length cert.values + 1 ≡ c.len.result + 1 = omega (arith, c.requires.as_many, c.len.ensures, c.args.values.ok.0) in
    subst (All (λ (t : Table). weight_count_of t ≡ c.len.result + 1)) (sym (same_tables c)) (λ k d below. c.requires.counted k d below ∙ same)

pub index-requires-clause-range : goal.index-requires-clause-range
index-requires-clause-range c =
    let cert = certificate_of c.args.cert.now in
    subst (All (λ (t : Table). All (λ (r : Row). All IsInRange r.weights) (table_of t).rows)) (sym (same_tables c))
    (tables_in_range cert.version (length cert.atoms) (length cert.values + 1) (tables_in c.args.cert.now) (limits_of cert c.args.cert.now.within_limits).tables)

-- the scopes are of numbered atoms
scopes : (c : After-deref) → IsTrue (are_over (length (atoms_in c.args.grounded.now)) (map table_of c.deref.result.now))
scopes c =
    let cert = certificate_of c.args.cert.now in
    let width = length (atoms_in c.args.grounded.now) in
    subst (λ those. IsTrue (are_over width (map table_of those))) (sym (same_tables c))
    (scopes_within cert.version (length cert.atoms) (length cert.values + 1) width c.requires.enough cert.tables (limits_of cert c.args.cert.now.within_limits).tables)

pub index-requires-clause-scopes : goal.index-requires-clause-scopes
index-requires-clause-scopes c = subst (λ n. IsTrue (are_over n (map table_of c.deref.result.now))) (sym c.width.ensures) (scopes c)

pub new-requires : goal.new-requires
new-requires c =
    let many = few (goal.at.new-requires c).After-len in
    let atoms = c.args.grounded.now.numbering.few_atoms in
    let numbered = length-map c.args.grounded.now.numbering.atoms.keys atom_of in
    record {
      counts = c.in_ok-tables.ensures.count ∙ omega (arith, c.len.ensures, c.args.values.ok.0);
      widths = λ k d below. c.requires.values k d below ∙ sym c.requires.dead_ends;
      few_values = omega (arith, many, c.len.ensures, c.args.values.ok.0);
      few = omega (arith, c.requires.dead_ends, atoms, numbered);
      scopes = subst (λ n. IsTrue (are_over n (tables_of c.in_ok-tables.tables))) (sym c.requires.dead_ends)
          (subst (λ those. IsTrue (are_over (length (atoms_in c.args.grounded.now)) those)) (sym c.in_ok-tables.ensures.tables) (scopes (goal.at.new-requires c).After-deref));
    }
