use Rattle.std.proofs.Common.{◌≡◌, get_or, ap, ap₂, ◌∙◌, rules}
use Rattle.std.proofs.lemmas.Result.{IfOk-weaker}
use Rattle.std.specs.String.{string_bytes}
use Rattle.serde_json.specs.Data.{put}
use Rattle.serde_json.specs.View.{view, members_view}
use Rattle.serde_json.proofs.Views.{members_view-insert_entry}
use Rattle.printed_answers.specs.Members.{members_of}
use Rattle.printed_answers.proofs.MembersInOrder.{put_next, all_put}
use Rattle.printed_answers.proofs.JsonWritten.{text_reported, members_reported}
use Rattle.printed_answers.proofs.members.object_text.Goals as goal

pub members-preserved : goal.members-preserved
members-preserved c =
    let next = c.member-item.result in
    let is : get_or c.args.members.now c.members.member-index next ≡ next = search rules in
    let before = c.members.object.entries in
    record {
      built =
          ap members_view c.in_ok-insert.ensures.entries
          ∙ members_view-insert_entry before c.in_ok-key.key c.in_ok-value.value
          ∙ ap (λ k. put k (view c.in_ok-value.value) (members_view before)) c.in_ok-key.ensures.ok
          ∙ ap₂ (put next.key.now) c.in_ok-value.ensures c.members.invariant.built
          ∙ put_next c.args.members.now c.members.member-index next c.members-test.true is c.requires;
    }

pub returns-clause-text : goal.returns-clause-text
returns-clause-text c =
    let all = c.args.members.now in
    let built = all_put all c.members.member-index c.members.object c.members-test.false c.members.invariant.built in
    IfOk-weaker c.to_string.result _ _ (λ s said. text_reported (members_of all) _ built (string_bytes s) said) c.to_string.ensures.text

pub returns-clause-read : goal.returns-clause-read
returns-clause-read c =
    let all = c.args.members.now in
    let built = all_put all c.members.member-index c.members.object c.members-test.false c.members.invariant.built in
    IfOk-weaker c.to_string.result _ _ (λ s in_order. members_reported (members_of all) _ built (string_bytes s) in_order) c.to_string.ensures.order
