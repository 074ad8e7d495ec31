use Rattle.std.proofs.Common.{◌≡◌, ◌∙◌, map, ap, sym}
use Rattle.indexmap.proofs.CallerLemmas.{insert_entry-new}
use Rattle.task.specs.TaskParts as parts
use Rattle.std.proofs.lemmas.List.{map_push}
use Rattle.model.specs.Task as task
use Rattle.model.specs.Meaning.{value_in}
use Rattle.task.proofs.AtomEquality.{atom_eq, value-alike}
use Rattle.typing.proofs.Values.{kept_before, differs_by_first, put_last, none_differs}
use Rattle.typing.proofs.statements.put_value.Goals.{After-copied}
use Rattle.typing.proofs.statements.put_value.Goals as goal

-- the value of the function of these objects
looked : (c : After-copied) → value_in (map parts.value_of c.args.values.now.entries) (parts.atom_of c.args.function) ≡ c.copied.result
looked c = sym (c.copied.ensures ∙ c.get.ensures.value ∙ value-alike c.args.function c.args.values.now.entries)

-- the value given
value : After-copied → task.FunctionValue
value c = record { function = parts.atom_of c.args.function; value = c.args.value }

pub returns-in-Some-clause-value : goal.returns-in-Some-clause-value
unfolding value
returns-in-Some-clause-value c =
    let s = (goal.at.returns-in-Some-clause-value c).After-copied in
    kept_before (map parts.value_of c.args.values.now.entries) (value s) c.in-Some.first (looked s ∙ c.in-Some.is)

pub returns-in-Some-clause-differs : goal.returns-in-Some-clause-differs
unfolding value
returns-in-Some-clause-differs c =
    let s = (goal.at.returns-in-Some-clause-differs c).After-copied in
    differs_by_first (map parts.value_of c.args.values.now.entries) (value s) c.in-Some.first (looked s ∙ c.in-Some.is)

pub returns-in_ok-insert-in-None-clause-value : goal.returns-in_ok-insert-in-None-clause-value
unfolding value
returns-in_ok-insert-in-None-clause-value c =
    let s = (goal.at.returns-in_ok-insert-in-None-clause-value c).After-copied in
    let entries = c.args.values.now.entries in
    ap (map parts.value_of) (c.in_ok-insert-in-None.ensures.entries
    ∙ insert_entry-new atom_eq c.args.values.now c.args.function c.args.value (value-alike c.args.function entries ∙ looked s ∙ c.in-None.is))
    ∙ map_push parts.value_of entries (c.args.function, c.args.value)
    ∙ put_last (map parts.value_of entries) (value s) (looked s ∙ c.in-None.is)

pub returns-in_ok-insert-in-None-clause-differs : goal.returns-in_ok-insert-in-None-clause-differs
unfolding value
returns-in_ok-insert-in-None-clause-differs c =
    let s = (goal.at.returns-in_ok-insert-in-None-clause-differs c).After-copied in
    none_differs (map parts.value_of c.args.values.now.entries) (value s) (looked s ∙ c.in-None.is)
