use Rattle.std.proofs.Common.{◌<◌, length, rules}
use Rattle.pddl_tree.specs.Tree.{file_of}
use Rattle.explain_faults.specs.Expected.{IsOfKeyword, MayFollow}
use Rattle.explain_faults.proofs.Candidates.{follow_all, some_hold, reported_all, stated_some}
use Rattle.explain_faults.proofs.allowed.words_after.Goals as goal

pub returns-then-not-starts_with : goal.returns-then-not-starts_with
returns-then-not-starts_with c = record {
  follow = follow_all (file_of c.args.file) c.args.before.now c.in_ok-all.all.items c.in_ok-all.ensures;
  suggested = reported_all (file_of c.args.file) c.args.before.now c.in_ok-all.all.items c.args.reported.now c.in_ok-all.ensures;
}

pub returns-then-is_empty : goal.returns-then-is_empty
returns-then-is_empty c = record {
  follow = follow_all (file_of c.args.file) c.args.before.now c.in_ok-all.all.items c.in_ok-all.ensures;
  suggested = reported_all (file_of c.args.file) c.args.before.now c.in_ok-all.all.items c.args.reported.now c.in_ok-all.ensures;
}

pub returns : goal.returns
returns c =
    let P = MayFollow (file_of c.args.file) c.args.before.now in
    let not_none : 0 < length c.in_ok-near.near.items = search rules in
    let is_of_keyword : IsOfKeyword c.args.reported.now = search rules in
    record {
      follow = some_hold P c.deref.result.now c.in_ok-near.near.items c.in_ok-near.ensures (rw c.deref.ensures.value (follow_all (file_of c.args.file) c.args.before.now c.in_ok-all.all.items c.in_ok-all.ensures));
      suggested =
          stated_some (file_of c.args.file) c.args.before.now c.in_ok-all.all.items c.args.reported.now c.deref.result.now c.in_ok-near.near.items c.deref.ensures.value
          c.in_ok-near.ensures is_of_keyword not_none c.in_ok-all.ensures;
    }
