use Rattle.std.proofs.Common.{◌∙◌, ◌≡◌, [], ap, subst, map, List}
use Rattle.std.specs.List.{flat_map, list_all}
use Rattle.faults.proofs.Results.{passed_on}
use Rattle.task.specs.Task.{task_of}
use Rattle.task.specs.TaskParts.{atom_of}
use Rattle.model.specs.Task.{Atom}
use Rattle.model.specs.Meaning.{is_instance}
use Rattle.model.specs.StaticallyFalse.{kept_instances}
use Rattle.model.specs.NumberedAtoms as numbered
use Rattle.model.specs.NumberedAtoms.{with_atoms, touched_by, initial_fluent_atoms}
use Rattle.grounding_instances.specs.Atoms.{ReportsAtoms}
use Rattle.grounding_instances.proofs.NumberLists.{three-parts, reported-first, reported-second, reported-third, kept-are}
use Rattle.grounding_instances.proofs.atoms.numbered_atoms.Goals as goal

pub number_touched-requires-clause-instances : goal.number_touched-requires-clause-instances
number_touched-requires-clause-instances c =
    let t = task_of c.args.statics.now.task.now in
    ap (list_all (is_instance t)) c.requires ∙ kept-are t

pub returns-in_err-number_all-clause-reported : goal.returns-in_err-number_all-clause-reported
returns-in_err-number_all-clause-reported c =
    let t = task_of c.args.statics.now.task.now in
    let more = map atom_of c.args.more.now in
    let e = c.in_err-number_all.field-0.0 in
    let none : map atom_of c.new-atoms.result.keys ≡ [] = ap (map atom_of) c.new-atoms.ensures.empty in
    passed_on (ReportsAtoms (numbered.numbered_atoms t more)) c.from_residual.result e c.from_residual.ensures.1
    (reported-first more (initial_fluent_atoms t) (flat_map (touched_by t) (kept_instances t)) e
    (subst (λ (l : List Atom). ReportsAtoms (with_atoms l more) e) none c.in_err-number_all.ensures.reported))

pub returns-in_err-number_initial-clause-reported : goal.returns-in_err-number_initial-clause-reported
returns-in_err-number_initial-clause-reported c =
    let t = task_of c.args.statics.now.task.now in
    let more = map atom_of c.args.more.now in
    let e = c.in_err-number_initial.field-0.0 in
    let first : map atom_of c.number_all.new.atoms.keys ≡ with_atoms [] more = c.in_ok-number_all.ensures.numbered ∙ ap (λ l. with_atoms l more) (ap (map atom_of) c.new-atoms.ensures.empty) in
    passed_on (ReportsAtoms (numbered.numbered_atoms t more)) c.from_residual-in_err-number_initial.result e c.from_residual-in_err-number_initial.ensures.1
    (reported-second more (initial_fluent_atoms t) (flat_map (touched_by t) (kept_instances t)) e
    (subst (λ (l : List Atom). ReportsAtoms (with_atoms l (initial_fluent_atoms t)) e) first c.in_err-number_initial.ensures.reported))

pub returns-in_err-number_touched-clause-reported : goal.returns-in_err-number_touched-clause-reported
returns-in_err-number_touched-clause-reported c =
    let t = task_of c.args.statics.now.task.now in
    let more = map atom_of c.args.more.now in
    let e = c.in_err-number_touched.field-0.0 in
    let first : map atom_of c.number_all.new.atoms.keys ≡ with_atoms [] more = c.in_ok-number_all.ensures.numbered ∙ ap (λ l. with_atoms l more) (ap (map atom_of) c.new-atoms.ensures.empty) in
    let second : map atom_of c.number_initial.new.atoms.keys ≡ with_atoms (with_atoms [] more) (initial_fluent_atoms t) = c.in_ok-number_initial.ensures.numbered ∙ ap (λ l. with_atoms l (initial_fluent_atoms t)) first in
    passed_on (ReportsAtoms (numbered.numbered_atoms t more)) c.from_residual-in_err-number_touched.result e c.from_residual-in_err-number_touched.ensures.1
    (reported-third more (initial_fluent_atoms t) (flat_map (touched_by t) (kept_instances t)) e
    (subst (λ (l : List Atom). ReportsAtoms l e) (λ i. with_atoms (second i) (flat_map (touched_by t) (c.requires i))) c.in_err-number_touched.ensures.reported))

pub returns-clause-numbered : goal.returns-clause-numbered
returns-clause-numbered c =
    let t = task_of c.args.statics.now.task.now in
    let more = map atom_of c.args.more.now in
    let first : map atom_of c.number_all.new.atoms.keys ≡ with_atoms [] more = c.in_ok-number_all.ensures.numbered ∙ ap (λ l. with_atoms l more) (ap (map atom_of) c.new-atoms.ensures.empty) in
    let second : map atom_of c.number_initial.new.atoms.keys ≡ with_atoms (with_atoms [] more) (initial_fluent_atoms t) = c.in_ok-number_initial.ensures.numbered ∙ ap (λ l. with_atoms l (initial_fluent_atoms t)) first in
    c.in_ok-number_touched.ensures.numbered ∙ (λ i. with_atoms (second i) (flat_map (touched_by t) (c.requires i)))
    ∙ three-parts more (initial_fluent_atoms t) (flat_map (touched_by t) (kept_instances t))
