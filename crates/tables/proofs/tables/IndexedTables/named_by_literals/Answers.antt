use Rattle.std.proofs.Common.{◌≡◌, ◌∙◌, [], length, sym, ap, subst, arith}
use Rattle.std.proofs.lemmas.List.{length-map}
use Rattle.packed_state.specs.Sets.{set_of}
use Rattle.tables.specs.AllTables.{tables_of}
use Rattle.tables.specs.ByAtom.{AreMarked}
use Rattle.table_rows.specs.Losses.{indexed_of}
use Rattle.tables.proofs.TablesLemmas.{marked-none}
use Rattle.tables.proofs.tables.IndexedTables.named_by_literals.Goals as goal

pub loop-literal-init : goal.loop-literal-init
loop-literal-init c =
    let s = c.args.self.now in
    let many : c.len.result ≡ length (tables_of s) = omega (arith, c.len.ensures, length-map s.tables.items indexed_of) in
    subst (AreMarked s.by_atom (length (tables_of s)) []) (sym (c.in_ok-named.ensures ∙ ap (λ n. set_of n []) many)) (marked-none s.by_atom (length (tables_of s)))
