use Rattle.std.proofs.Common.{◌∙◌, ◌≡◌, ◌++◌, ◌∷◌, [], ◌+◌, List, length, take, map, sym, ap, subst, arith}
use Rattle.std.proofs.lemmas.List.{take_all, map_more}
use Rattle.grounding.specs.Changes.{conditional_of}
use Rattle.model.specs.ConditionalChanges.{ConditionalChange}
use Rattle.table_rows.specs.Lists.{place_count}
use Rattle.landmarks.specs.Makers.{AreFiled}
use Rattle.landmarks.proofs.MakerLemmas.{change-within, filed-none, filed-more}
use Rattle.landmarks.proofs.makers.Makers.file_all.Goals as goal

pub loop-change-init : goal.loop-change-init
loop-change-init c = filed-none c.args.number c.args.self.now

pub file-requires-clause-adding : goal.file-requires-clause-adding
file-requires-clause-adding c =
    let below = change-within (place_count c.args.self.now.adding) c.args.changes.now c.loop-change.change-index c.change-item.result c.loop-change-test.true c.change-item.is c.requires.adding in
    omega (arith, below, c.loop-change.invariant.adding)

pub file-requires-clause-deleting : goal.file-requires-clause-deleting
file-requires-clause-deleting c =
    let below = change-within (place_count c.args.self.now.deleting) c.args.changes.now c.loop-change.change-index c.change-item.result c.loop-change-test.true c.change-item.is c.requires.deleting in
    omega (arith, below, c.loop-change.invariant.deleting)

pub loop-change-preserved : goal.loop-change-preserved
loop-change-preserved c =
    let changes = c.args.changes.now in
    let i = c.loop-change.change-index in
    let x = c.change-item.result in
    let longer : map conditional_of (take (i + 1) changes) ≡ map conditional_of (take i changes) ++ conditional_of x ∷ [] =
    map_more conditional_of changes i x c.loop-change-test.true ∙ ap (λ y. map conditional_of (take i changes) ++ conditional_of y ∷ []) (sym c.change-item.is) in
    subst (λ (l : List ConditionalChange). AreFiled c.args.number l c.args.self.now c.file.new.self) (sym longer)
    (filed-more c.args.number (map conditional_of (take i changes)) (conditional_of x ∷ []) c.args.self.now c.loop-change.self c.file.new.self c.loop-change.invariant c.in_ok-file.ensures)

pub returns : goal.returns
returns c =
    subst (λ l. AreFiled c.args.number (map conditional_of l) c.args.self.now c.loop-change.self) (take_all c.loop-change.change-index c.args.changes.now c.loop-change-test.false) c.loop-change.invariant
