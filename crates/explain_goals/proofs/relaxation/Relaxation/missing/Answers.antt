use Rattle.std.proofs.Common.{◌∙◌, [], ap, map, sym}
use Rattle.std.specs.List.{fold}
use Rattle.task.specs.TaskParts.{atom_of}
use Rattle.formulas.specs.Literals.{literal_of}
use Rattle.explain_tasks.specs.Goals.{atom_asked_for, with_passing}
use Rattle.explain_tasks.proofs.FoldLemmas.{folded_next, folded_all}
use Rattle.formulas.proofs.MentionLemmas.{flat_map_map}
use Rattle.explain_goals.specs.Notes.{most_found}
use Rattle.explain_goals.specs.Views.{is_out}
use Rattle.explain_goals.proofs.relaxation.Relaxation.missing.Goals as goal

pub loop-literal-preserved : goal.loop-literal-preserved
loop-literal-preserved c =
    folded_next (with_passing (is_out c.args.self.now) most_found) (λ one. atom_asked_for (literal_of one)) c.args.literals.now c.loop-literal.literal-index []
    c.literal-item.result (map atom_of c.loop-literal.found.items) (map atom_of c.add_if_missing.new.found.items) c.loop-literal-test.true c.literal-item.is c.in_ok-add_if_missing.ensures c.loop-literal.invariant

pub returns : goal.returns
returns c =
    let step = with_passing (is_out c.args.self.now) most_found in
    folded_all step (λ one. atom_asked_for (literal_of one)) c.args.literals.now c.loop-literal.literal-index [] (map atom_of c.loop-literal.found.items) c.loop-literal-test.false c.loop-literal.invariant
    ∙ ap (fold step []) (sym (flat_map_map atom_asked_for literal_of c.args.literals.now))
