use Rattle.std.proofs.Common.{◌≡◌, true, subst, sym, ◌∙◌, true≢false}
use Rattle.std.specs.Prelude.{◌&&◌}
use Rattle.task.specs.Task.{task_of}
use Rattle.task.specs.TaskParts.{atom_of}
use Rattle.model.specs.WellTyped.{is_atom}
use Rattle.model.specs.Fluents.{is_fluent}
use Rattle.certificate_reader.specs.Lines.{named_atom_of}
use Rattle.cert_checker.proofs.NamesLemmas.{few_objects, one_named}
use Rattle.cert_checker.proofs.named_atoms.fluent_atom_named.Goals as goal

pub returns-in_default-clause-none : goal.returns-in_default-clause-none
returns-in_default-clause-none c = λ (a, names, typed, fluent).
    c.in_default.ensures.none a names (few_objects (task_of c.args.task.now) a c.args.task.now.well_typed typed)

pub returns-else-is_fluent-clause-none : goal.returns-else-is_fluent-clause-none
returns-else-is_fluent-clause-none c = λ (a, names, typed, fluent).
    let task = task_of c.args.task.now in
    let same = one_named task (named_atom_of c.args.name.now) a (atom_of c.in-Some.atom) names c.in-Some.ensures.some in
    let here : is_atom task (atom_of c.in-Some.atom) ≡ true = subst (λ a. is_atom task a ≡ true) same typed in
    let there : is_fluent task (atom_of c.in-Some.atom).predicate ≡ true = subst (λ a. is_fluent task a.predicate ≡ true) same fluent in
    absurd (true≢false (sym (c.if-is_fluent.ensures ∙ (λ i. here i && there i))))
