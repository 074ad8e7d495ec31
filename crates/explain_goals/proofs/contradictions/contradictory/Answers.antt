use Rattle.std.proofs.Common.{ap, length, map, refl, subst}
use Rattle.std.specs.Prelude.{Contains}
use Rattle.std.specs.List.{each_same}
use Rattle.std.proofs.lemmas.Option.{slice_get_read}
use Rattle.task.specs.TaskParts.{atom_of}
use Rattle.formulas.specs.Literals.{literal_of}
use Rattle.formulas.specs.State.{state_of}
use Rattle.formulas.proofs.States.{copied}
use Rattle.model.proofs.ListLemmas.{Contains-got, Contains-map}
use Rattle.explain_goals.proofs.ChainLemmas.{both-of}
use Rattle.explain_goals.proofs.contradictions.contradictory.Goals as goal

pub returns-then-is_required : goal.returns-then-is_required
returns-then-is_required c =
    let literals = c.args.literals.now in
    let k = c.literals.literal-index in
    let one = c.literal-item.result in
    let a = c.in-IsFalse.atom in
    let copy = c.in_ok-clone.field-0 in
    both-of (map literal_of literals) (atom_of a) (atom_of copy) (state_of c.in_ok-alone.field-0) c.in_ok-alone.ensures (c.is_required.ensures c.if-is_required.true)
    (subst (λ l. Contains (map literal_of literals) l) (ap literal_of c.in-IsFalse.is)
    (Contains-map literal_of literals one (Contains-got literals k one (slice_get_read literals (length literals) k one refl c.literals-test.true c.literal-item.is))))
    (copied a copy c.in_ok-clone.ensures.cases.0 (each_same a.objects.items copy.objects.items c.in_ok-clone.ensures.cases.1))
