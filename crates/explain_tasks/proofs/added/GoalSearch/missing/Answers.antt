use Rattle.std.proofs.Common.{◌∙◌, [], ap, map, sym}
use Rattle.std.specs.List.{fold}
use Rattle.task.specs.TaskParts.{atom_of}
use Rattle.formulas.specs.Literals.{literal_of}
use Rattle.formulas.specs.State.{state_of}
use Rattle.grounding_instances.specs.Numbering.{task_in}
use Rattle.explain_tasks.specs.Goals.{atom_asked_for, is_neither, with_passing}
use Rattle.explain_tasks.proofs.FoldLemmas.{folded_next, folded_all}
use Rattle.formulas.proofs.MentionLemmas.{flat_map_map}
use Rattle.explain_tasks.proofs.added.GoalSearch.missing.Goals as goal

pub loop-literal-preserved : goal.loop-literal-preserved
loop-literal-preserved c =
    let search = c.args.self.now in
    folded_next (with_passing (is_neither (task_in search.numbering.now) (state_of search.added.now)) search.limit) (λ one. atom_asked_for (literal_of one)) c.args.literals.now c.loop-literal.literal-index []
    c.literal-item.result (map atom_of c.loop-literal.found.items) (map atom_of c.add_if_missing.new.found.items) c.loop-literal-test.true c.literal-item.is c.in_ok-add_if_missing.ensures c.loop-literal.invariant

pub returns : goal.returns
returns c =
    let search = c.args.self.now in
    let step = with_passing (is_neither (task_in search.numbering.now) (state_of search.added.now)) search.limit in
    folded_all step (λ one. atom_asked_for (literal_of one)) c.args.literals.now c.loop-literal.literal-index [] (map atom_of c.loop-literal.found.items) c.loop-literal-test.false c.loop-literal.invariant
    ∙ ap (fold step []) (sym (flat_map_map atom_asked_for literal_of c.args.literals.now))
