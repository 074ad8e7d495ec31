use Rattle.std.proofs.Common.{◌≡◌, ℕ, Some, subst}
use Rattle.std.specs.Prelude.{IfOk, IfSome}
use Rattle.landmarks.specs.CutIndex.{atoms_of, task_of}
use Rattle.landmarks_drafted.specs.Drafts.{IsOneValue}
use Rattle.guides.specs.Shown.{kept_at}
use Rattle.guides.proofs.ShownLemmas.{tested_at}
use Rattle.guides.proofs.on_demand.LandmarksOnDemand.draft.Goals as goal

pub returns-in_default-clause-drafted : goal.returns-in_default-clause-drafted
returns-in_default-clause-drafted c = subst (λ (count : ℕ). IfOk c.draft.result (λ found. IfSome found (IsOneValue count))) c.args.self.now.drafts c.draft.ensures.form

pub known-requires : goal.known-requires
known-requires c =
    let s = c.args.self.now in
    let v = c.in-Some-kept_in.value.now in
    let at : kept_at s.values.items c.in-Some.basis.0 ≡ Some v = rw c.deref.ensures.value at c.in-Some-kept_in.ensures in
    (tested_at (task_of s.index.now) (atoms_of s.index.now) s.values.items s.tested c.in-Some.basis.0 v at).one.one

pub returns-in-Some-kept_in-clause-drafted : goal.returns-in-Some-kept_in-clause-drafted
returns-in-Some-kept_in-clause-drafted c = subst (λ (count : ℕ). IfOk c.draft_from.result (λ found. IfSome found (IsOneValue count))) c.args.self.now.drafts c.draft_from.ensures.form

pub returns-in-None-clause-drafted : goal.returns-in-None-clause-drafted
returns-in-None-clause-drafted c = subst (λ (count : ℕ). IfOk c.draft-in-None.result (λ found. IfSome found (IsOneValue count))) c.args.self.now.drafts c.draft-in-None.ensures.form
