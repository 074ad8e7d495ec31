use Rattle.std.proofs.Common.{◌≡◌, ◌∙◌, ◌<◌, ◌≤◌, [], Some, refl, sym, ap, map, take, length, get_or, arith}
use Rattle.std.specs.Prelude.{slice_get}
use Rattle.std.proofs.lemmas.List.{take_all}
use Rattle.std.proofs.lemmas.Option.{same_Some, slice_get_read, slice_get-get_or}
use Rattle.search_spaces.specs.GroundListing.{listed_states}
use Rattle.certificate.specs.CertificateParts.{listed_of}
use Rattle.search.specs.Outcome as search
use Rattle.solver.specs.Listing.{mark_of_line}
use Rattle.solver.proofs.FoundLines.{marks_next}
use Rattle.solver.proofs.searched.marks.Goals as goal

pub loop-place-init : goal.loop-place-init
loop-place-init c = λ estimate is_dead can. ap (map listed_of) c.in_ok-marks.ensures.items

pub loop-place-preserved : goal.loop-place-preserved
loop-place-preserved c = λ estimate is_dead can.
    let found = c.args.found.now in
    let states = listed_states found.store in
    let place = c.loop-place.place in
    let below : place < length found.nodes.items = omega (arith, c.loop-place-test.true, c.len-place-end.ensures) in
    let s = get_or states place [] in
    let node = c.index.result.now in
    let at_s : slice_get states place ≡ Some s = slice_get-get_or states place [] (omega (arith, below, can.one_for_each)) in
    let at_node : slice_get found.nodes.items place ≡ Some node = slice_get_read found.nodes.items _ place node refl below c.index.ensures in
    let read : slice_get found.estimates.items place ≡ Some c.index-in-loop-place.result.now = slice_get_read found.estimates.items _ place c.index-in-loop-place.result.now refl (omega (arith, below, c.requires)) c.index-in-loop-place.ensures in
    let is = c.listed.ensures estimate is_dead s (can.marked place s node at_s at_node)
    (λ cut. same_Some c.index-in-loop-place.result.now (estimate s) (sym read ∙ can.estimates.1 place s node at_s at_node cut)) in
    marks_next estimate is_dead c.loop-place.marks.items c.push.new.self.items c.listed.result states found.nodes.items place s node (c.loop-place.invariant estimate is_dead can) c.in_ok-push.ensures.items is at_s at_node

pub returns : goal.returns
returns c = λ estimate is_dead can.
    let found = c.args.found.now in
    let states = listed_states found.store in
    let nodes = found.nodes.items in
    let place = c.loop-place.place in
    let past : length nodes ≤ place = omega (arith, c.loop-place-test.false, c.len-place-end.ensures) in
    let all_states : take place states ≡ states = take_all place states (omega (arith, past, can.one_for_each)) in
    let all_nodes : take place nodes ≡ nodes = take_all place nodes past in
    c.loop-place.invariant estimate is_dead can ∙ (λ i. map mark_of_line (search.lines_of estimate is_dead (all_states i) (all_nodes i)))
