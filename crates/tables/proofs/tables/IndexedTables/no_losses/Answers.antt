use Rattle.std.proofs.Common.{◌∙◌, length, map, sym, ap, subst, pos}
use Rattle.std.specs.Prelude.{replicate}
use Rattle.grounding.specs.Ground.{task_in, atoms_in}
use Rattle.model.specs.NumberedLiterals.{NumberedChange}
use Rattle.packed_state.specs.Packed.{bits_of}
use Rattle.lower_bounds.specs.FairTables.{changes_in}
use Rattle.table_rows.proofs.PlacingLemmas.{changes-in}
use Rattle.tables.specs.AllTables.{tables_of}
use Rattle.tables.specs.ByAtom.{AreMarked}
use Rattle.tables.proofs.TotalLemmas.{known-first}
use Rattle.tables.proofs.tables.IndexedTables.no_losses.Goals as goal

pub returns-clause-known : goal.returns-clause-known
returns-clause-known c =
    let s = c.args.self.now in
    let many = c.weight_count-count.ensures in
    known-first s (task_in c.args.ground.now) (atoms_in c.args.ground.now) _ c.requires (c.in_ok-total.ensures.items_if_clones_equal (λ y is. is) ∙ ap (λ n. replicate n (pos 0)) many)
    (c.in_ok-by_table.ensures.items_if_clones_equal (λ y is. is) ∙ ap (λ n. replicate n (pos 0)) many)
    (subst (λ l. AreMarked s.by_atom (length (tables_of s)) (map (λ (k : NumberedChange). k.atom) l) (bits_of c.in_ok-named.named)) (sym (changes-in c.counting-changes.result.now) ∙ ap changes_in c.counting-changes.ensures.conditional)
    c.in_ok-named.ensures) c.in_ok-standing.ensures
