use Rattle.std.proofs.Common.{◌≡◌, ◌+◌, ◌++◌, map, take, Some, None, refl, ap, sym, ◌∙◌, append_assoc, arith}
use Rattle.std.specs.Prelude.{slice_get}
use Rattle.std.specs.Option.{option_map}
use Rattle.std.proofs.lemmas.Option.{slice_get-map, slice_get_read}
use Rattle.task.specs.Task.{task_of}
use Rattle.formulas.specs.State.{plan_of}
use Rattle.explain_plans.specs.Parts.{history_of, part_of}
use Rattle.explain_plans.specs.PlanLines.{reason_line, reason_lines}
use Rattle.explain_plans.proofs.PlanLinesLemmas.{lines_end, lines_more}
use Rattle.explain_plans.proofs.printing.PlanPrinter.add_each.Goals as goal

pub loop-index-preserved : goal.loop-index-preserved
loop-index-preserved c =
    let task = task_of c.args.self.now.task.now in
    let plan = plan_of c.args.self.now.plan.now in
    let parts = c.args.parts.now in
    let part = c.index-parts-index.result in
    let all = map part_of parts in
    let stated = map history_of c.args.histories.now in
    let index = c.loop-index.index in
    let before = c.args.text.now.items in
    let here : slice_get all index ≡ Some (part_of part) =
    slice_get-map part_of parts index ∙ ap (option_map part_of) (slice_get_read parts _ index part refl c.loop-index-test.true c.index-parts-index.is) in
    let there : slice_get stated index ≡ Some (history_of c.in-Some.history) = sym c.history_at.ensures ∙ ap (option_map history_of) c.in-Some.is in
    let line = reason_line task plan (part_of part) (history_of c.in-Some.history) in
    c.in_ok-add_reason-in-Some.ensures ∙ ap (λ l. l ++ line) c.loop-index.invariant
    ∙ append_assoc before (reason_lines task plan (take index all) stated) line
    ∙ ap (λ l. before ++ l) (sym (lines_more task plan index (index + 1) (omega arith) all stated (part_of part) (history_of c.in-Some.history) here there))

pub returns-in-None : goal.returns-in-None
returns-in-None c =
    let stated = map history_of c.args.histories.now in
    let none : slice_get stated c.loop-index.index ≡ None = sym c.history_at.ensures ∙ ap (option_map history_of) c.in-None.is in
    c.loop-index.invariant
    ∙ ap (λ l. c.args.text.now.items ++ l) (lines_end (task_of c.args.self.now.task.now) (plan_of c.args.self.now.plan.now) c.loop-index.index (map part_of c.args.parts.now) stated none)
