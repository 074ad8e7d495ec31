use Rattle.std.proofs.Common.{◌∙◌, Bool, List, length, ap, subst}
use Rattle.packed_state.specs.Packed.{bits_of}
use Rattle.table_rows.specs.Afters.{AreListed, free_places, left_of}
use Rattle.table_rows.specs.PlacedChanges.{changes_of}
use Rattle.table_rows.proofs.AfterLemmas.{length-changed}
use Rattle.table_rows.proofs.afters.Scratch.find.Goals as goal

pub list_free-requires-clause-left : goal.list_free-requires-clause-left
list_free-requires-clause-left c =
    let changes = changes_of c.args.changes.now in
    ap length c.leave.ensures ∙ length-changed (bits_of c.copy_from.new.self) changes.deletes changes.adds ∙ ap length c.copy_from.ensures

pub returns-clause-free : goal.returns-clause-free
returns-clause-free c =
    let changes = changes_of c.args.changes.now in
    subst (λ (l : List Bool). AreListed (free_places changes.whens (bits_of c.args.self.now.row) l) c.list_free.new.free.items) (c.leave.ensures ∙ ap (left_of changes) c.copy_from.ensures) c.in_ok-list_free.ensures
