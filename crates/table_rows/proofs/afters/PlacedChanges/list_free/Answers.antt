use Rattle.std.proofs.Common.{◌≡◌, ◌∙◌, ℕ, ◌≤◌, inl, inr, List, [], Some, map, sym, ap, subst, arith, length}
use Rattle.std.specs.Prelude.{fold}
use Rattle.std.proofs.lemmas.Bool.{leb-true}
use Rattle.std.proofs.lemmas.List.{take_all}
use Rattle.std.proofs.lemmas.Option.{slice_get-get_or}
use Rattle.packed_state.specs.Packed.{bits_of}
use Rattle.table_rows.specs.Afters.{freed}
use Rattle.table_rows.specs.PlacedChanges.{when_of}
use Rattle.table_rows.specs.declared.afters.When.{When}
use Rattle.table_rows.proofs.FateLemmas.{freed-before, freed-more, fits-at}
use Rattle.table_rows.proofs.afters.PlacedChanges.list_free.Goals as goal

pub add_free-requires-clause-fits : goal.add_free-requires-clause-fits
add_free-requires-clause-fits c =
    let items = c.deref-when-items.result.now in
    let at = slice_get-get_or items c.loop-when.when-index c.when-item.result c.loop-when-test.true ∙ ap Some (sym c.when-item.is) in
    fits-at (length (bits_of c.args.row.now)) c.args.self.now.whens.items items c.loop-when.when-index c.when-item.result c.deref-when-items.ensures.value at c.requires.row.whens

pub loop-when-preserved : goal.loop-when-preserved
loop-when-preserved c =
    let items = c.deref-when-items.result.now in
    let at = slice_get-get_or items c.loop-when.when-index c.when-item.result c.loop-when-test.true ∙ ap Some (sym c.when-item.is) in
    freed-more (bits_of c.args.row.now) (bits_of c.args.left.now) items c.loop-when.when-index c.when-item.result c.loop-when.free.items _ at c.loop-when.invariant c.in_ok-add_free.ensures

pub returns-then-are_enough : goal.returns-then-are_enough
returns-then-are_enough c =
    let row = bits_of c.args.row.now in
    let left = bits_of c.args.left.now in
    let items = c.deref-when-items.result.now in
    let found = c.loop-when.free.items in
    let count : c.len.result ≡ length found = omega (arith, c.len.ensures, c.loop-when.free.ok.0) in
    let test = leb-true 25 c.len.result (sym c.are_enough.ensures ∙ c.if-are_enough.true) in
    let many : 25 ≤ length found = omega (arith, test, count) in
    let before : length found ≤ length (fold (freed row left) [] (map when_of items)) =
    subst (λ (l : List ℕ). length l ≤ length (fold (freed row left) [] (map when_of items))) (sym c.loop-when.invariant) (freed-before row left items c.loop-when.when-index) in
    inr (many, subst (λ (l : List When). length found ≤ length (fold (freed row left) [] (map when_of l))) c.deref-when-items.ensures.value before)

pub returns : goal.returns
returns c =
    inl (c.loop-when.invariant
    ∙ ap (λ l. fold (freed (bits_of c.args.row.now) (bits_of c.args.left.now)) [] (map when_of l)) (take_all c.loop-when.when-index c.deref-when-items.result.now c.loop-when-test.false ∙ c.deref-when-items.ensures.value))
