use Rattle.std.proofs.Common.{◌≡◌, ◌∙◌, ap, map}
use Rattle.std.specs.List.{list_all, filter_map}
use Rattle.task.specs.TaskParts.{object_of, formula_of}
use Rattle.formulas.specs.Literals.{literal_of}
use Rattle.model.specs.SureLiterals.{sure}
use Rattle.model.specs.NumberedLiterals.{numbered_literal}
use Rattle.grounding_instances.specs.Numbering.{task_in, atoms_in}
use Rattle.grounding_instances.specs.Numbers.{numbered_of}
use Rattle.grounding.specs.Settled.{beyond}
use Rattle.grounding.specs.Unnumbered.{may_hold}
use Rattle.grounding.specs.Conditions.{beyond_of}
use Rattle.grounding.proofs.Conditions.{condition-of}
use Rattle.grounding.proofs.condition.Condition.new.Goals as goal

pub returns : goal.returns
returns c =
    let n = c.args.numbering.now in
    let t = task_in n in
    let f = formula_of c.args.formula.now in
    let binding = map object_of c.args.binding.now.items in
    let same : map literal_of c.as_slice-outright.result.now ≡ sure t f binding = ap (map literal_of) c.as_slice-outright.ensures.value ∙ c.in_ok-outright.ensures ∙ ap (λ task. sure task f binding) c.task.ensures in
    condition-of t (atoms_in n) n.distinct n.fluent f binding _
    (ap (map numbered_of) (c.in_ok-literals.ensures.ok ∙ c.as_slice.ensures.value) ∙ c.in_ok-numbered.ensures ∙ ap (filter_map (numbered_literal (atoms_in n))) same)
    (c.asked_beyond-beyond.ensures ∙ ap (λ ls. beyond_of (list_all (may_hold t (atoms_in n)) ls) (beyond t binding f)) same)
