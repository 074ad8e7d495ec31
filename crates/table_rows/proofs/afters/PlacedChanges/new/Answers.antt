use Rattle.std.proofs.Common.{◌∙◌, ◌<◌, true, false, length, map, sym, ap, subst}
use Rattle.std.specs.Prelude.{All}
use Rattle.grounding.specs.Changes.{counting_of, conditional_of}
use Rattle.packed_state.specs.Packed.{mask_bits_of}
use Rattle.packed_state.specs.Sets.{set_of}
use Rattle.table_rows.specs.PlacedChanges.{when_of}
use Rattle.table_rows.proofs.PlacingLemmas.{certain-below, other_whens, placed-is}
use Rattle.table_rows.proofs.afters.PlacedChanges.new.Goals as goal

pub new-requires : goal.new-requires
new-requires c =
    let scope = c.args.scope.now in
    subst (All (λ n. n < length scope)) (sym (c.deref-2.ensures.value ∙ c.in_ok-deleted.ensures)) (certain-below scope false (map counting_of c.args.changes.now))

pub new-requires-2 : goal.new-requires-2
new-requires-2 c =
    let scope = c.args.scope.now in
    subst (All (λ n. n < length scope)) (sym (c.deref-3.ensures.value ∙ c.in_ok-added.ensures)) (certain-below scope true (map counting_of c.args.changes.now))

pub returns : goal.returns
returns c =
    let scope = c.args.scope.now in
    placed-is scope c.args.changes.now c.in_ok-deleted.deleted.items c.in_ok-added.added.items (mask_bits_of c.in_ok-deletes.deletes) (mask_bits_of c.in_ok-adds.adds) (map when_of c.in_ok-whens.whens.items)
    c.in_ok-deleted.ensures c.in_ok-added.ensures (c.in_ok-deletes.ensures ∙ ap (set_of (length scope)) c.deref-2.ensures.value) (c.in_ok-adds.ensures ∙ ap (set_of (length scope)) c.deref-3.ensures.value)
    (c.in_ok-whens.ensures ∙ ap (λ added. other_whens scope added (map conditional_of c.args.changes.now)) c.deref.ensures.value)
