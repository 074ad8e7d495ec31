use Rattle.std.proofs.Common.{◌∙◌, ◌<◌, List, Option, true, length, ap, subst, sym}
use Rattle.std.specs.Prelude.{IfOk}
use Rattle.packed_state.specs.Packed.{bits_of}
use Rattle.model.specs.Grounding.{ground_system}
use Rattle.landmarks.specs.declared.cut_index.CutIndex.{CutIndex}
use Rattle.landmarks.specs.CutIndex.{atoms_of, task_of}
use Rattle.search.specs.OnDemand.{IsAnswer}
use Rattle.guides.specs.declared.tested.TestedValue.{TestedValue}
use Rattle.guides.proofs.on_demand.LandmarksOnDemand.find.Goals as goal

pub test-requires-clause-draft : goal.test-requires-clause-draft
test-requires-clause-draft c = rw c.in-Some.is at c.in_ok-draft.ensures.drafted

pub keep-requires-clause-found : goal.keep-requires-clause-found
keep-requires-clause-found c = rw c.in-Some-2.is at c.in_ok-found.ensures

pub keep-requires-clause-width : goal.keep-requires-clause-width
keep-requires-clause-width c = c.requires.width ∙ ap (λ (i : CutIndex). length (atoms_of i)) (sym c.draft.ensures.index)

pub keep-requires-clause-few : goal.keep-requires-clause-few
keep-requires-clause-few c = subst (λ (values : List (Option TestedValue)). length values < 1048576) (sym c.draft.ensures.values) c.requires.few

pub returns-clause-index : goal.returns-clause-index
returns-clause-index c = c.keep.ensures.index ∙ c.draft.ensures.index

pub returns-clause-answer : goal.returns-clause-answer
returns-clause-answer c =
    subst (λ (i : CutIndex). IfOk c.keep.result (IsAnswer true (ground_system (task_of i) (atoms_of i)) (bits_of c.args.state.now) c.args.value)) c.draft.ensures.index c.keep.ensures.answer
