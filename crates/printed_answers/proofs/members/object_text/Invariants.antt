use Rattle.std.proofs.Common.{◌≡◌, take}
use Rattle.serde_json.specs.View.{members_view}
use Rattle.printed_answers.specs.Members.{members_of}
use Rattle.printed_answers.specs.MembersBuilt.{members_built}
use Rattle.printed_answers.proofs.members.object_text.Given as goal

abbrev pub invariant-members : goal.invariant-members
invariant-members l = record {
  built : members_view l.object.entries ≡ members_built (members_of (take l.member-index l.members));
}
