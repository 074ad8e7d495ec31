use Rattle.std.proofs.Common.{◌≡◌, ◌∙◌, ◌<◌, ◌≤◌, [], Some, refl, sym, ap, subst, map, take, length, get_or, arith}
use Rattle.std.specs.Prelude.{slice_get}
use Rattle.std.proofs.lemmas.List.{take_all, length_push}
use Rattle.std.proofs.lemmas.Option.{same_Some, slice_get_read, slice_get-get_or}
use Rattle.grounding.specs.declared.ground.Ground.{Ground}
use Rattle.grounding.specs.Ground.{atoms_in}
use Rattle.lower_bounds.specs.TableFunctions.{SeveralValues}
use Rattle.packed_state.proofs.PackedLemmas.{length-set_of}
use Rattle.search.specs.Outcome.{lines_of}
use Rattle.tables.specs.Several.{Knows, width_of}
use Rattle.tables.specs.declared.several.TableFunctions.{TableFunctions}
use Rattle.line_evidence.specs.Roles.{role_of, role_of_line}
use Rattle.line_evidence.proofs.RoleLemmas.{roles_next}
use Rattle.line_evidence.proofs.marked.marks_by.Goals as goal

pub loop-place-init : goal.loop-place-init
loop-place-init g c = record {
  roles = λ value is_dead can. ap (map role_of) c.in_ok-marks.ensures.items;
  long = ap length c.in_ok-marks.ensures.items;
  width = ap (λ (f : SeveralValues). length f.dead_ends.weights) c.functions-functions.ensures ∙ c.args.guide.now.width;
  state = ap length c.in_ok-empty.ensures ∙ length-set_of c.width.result [] ∙ c.width.ensures ∙ ap (λ (k : Ground). length (atoms_in k)) c.ground.ensures ∙ sym (ap (λ (f : SeveralValues). length f.dead_ends.weights) c.functions-functions.ensures ∙ c.args.guide.now.width);
  known = c.in_ok-known_state.ensures;
}

pub loop-place-preserved : goal.loop-place-preserved
loop-place-preserved g c = record {
  roles = λ value is_dead can.
      let found = c.args.found.now in
      let states = g.L.StateListing.states found.store in
      let place = c.loop-place.place in
      let below : place < length found.nodes.items = omega (arith, c.loop-place-test.true, c.len-place-end.ensures) in
      let s = get_or states place [] in
      let node = c.index-node.result.now in
      let at_s : slice_get states place ≡ Some s = slice_get-get_or states place [] (omega (arith, below, c.requires.one_for_each)) in
      let at_node : slice_get found.nodes.items place ≡ Some node = slice_get_read found.nodes.items _ place node refl below c.index-node.ensures in
      let read : slice_get found.estimates.items place ≡ Some c.index-estimate.result.now = slice_get_read found.estimates.items _ place c.index-estimate.result.now refl (omega (arith, below, c.requires.estimates)) c.index-estimate.ensures in
      let is = c.listed.ensures value is_dead s (can.marked place s node at_s at_node)
      (λ cut. same_Some c.index-estimate.result.now (value s) (sym read ∙ can.estimated.1 place s node at_s at_node cut)) in
      roles_next value is_dead c.loop-place.marks.items c.push.new.self.items c.listed.result states found.nodes.items place s node (c.loop-place.invariant.roles value is_dead can) c.in_ok-push.ensures.items is at_s at_node;
  long = omega (arith, ap length c.in_ok-push.ensures.items, length_push c.loop-place.marks.items c.listed.result, c.loop-place.invariant.long);
  width = ap width_of c.choose.ensures.functions ∙ c.loop-place.invariant.width;
  state = c.choose.ensures.state ∙ ap width_of (sym c.choose.ensures.functions);
  known = subst (λ (f : TableFunctions). Knows f c.choose.new.at.known) (sym c.choose.ensures.functions) c.choose.ensures.known;
}

pub returns-clause-roles : goal.returns-clause-roles
returns-clause-roles g c = λ value is_dead can.
    let found = c.args.found.now in
    let states = g.L.StateListing.states found.store in
    let nodes = found.nodes.items in
    let place = c.loop-place.place in
    let past : length nodes ≤ place = omega (arith, c.loop-place-test.false, c.len-place-end.ensures) in
    let all_states : take place states ≡ states = take_all place states (omega (arith, past, c.requires.one_for_each)) in
    let all_nodes : take place nodes ≡ nodes = take_all place nodes past in
    c.loop-place.invariant.roles value is_dead can ∙ (λ i. map role_of_line (lines_of value is_dead (all_states i) (all_nodes i)))
