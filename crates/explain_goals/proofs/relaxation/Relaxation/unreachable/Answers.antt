use Rattle.std.proofs.Common.{◌∙◌, ap, length, map, refl, subst, sym}
use Rattle.std.specs.Prelude.{All}
use Rattle.std.proofs.lemmas.List.Elements.{All-push}
use Rattle.std.proofs.lemmas.Option.{slice_get_read}
use Rattle.task.specs.TaskParts.{atom_of}
use Rattle.formulas.specs.Literals.{literal_of}
use Rattle.formulas.specs.State.{state_of}
use Rattle.model.proofs.ListLemmas.{Contains-got, Contains-map}
use Rattle.explain_goals.specs.Needed.{IsNeed, IsOutChain, IsUnreachable}
use Rattle.explain_goals.proofs.ChainLemmas.{missing-need}
use Rattle.explain_goals.proofs.relaxation.Relaxation.unreachable.Goals.{After-atom-item}
use Rattle.explain_goals.proofs.relaxation.Relaxation.unreachable.Goals as goal

-- the next atom is required and may not become true
need : (c : After-atom-item) → IsNeed c.args.self.now (map literal_of c.args.literals.now) (atom_of c.atom-item.result)
need c =
    let items = c.deref-atom-items.result.now in
    missing-need c.args.self.now (map literal_of c.args.literals.now) (map atom_of items) (atom_of c.atom-item.result)
    (ap (map atom_of) c.deref-atom-items.ensures.value ∙ c.in_ok-missing.ensures)
    (Contains-map atom_of items c.atom-item.result
    (Contains-got items c.atoms.atom-index c.atom-item.result (slice_get_read items (length items) c.atoms.atom-index c.atom-item.result refl c.atoms-test.true c.atom-item.is)))

pub with_chain-requires-clause-out : goal.with_chain-requires-clause-out
with_chain-requires-clause-out c = (need (goal.at.with_chain-requires-clause-out c).After-atom-item).1

pub atoms-preserved : goal.atoms-preserved
atoms-preserved c =
    let r = c.args.self.now in
    let literals = map literal_of c.args.literals.now in
    let u = c.in_ok-with_chain.field-0 in
    let one : IsUnreachable r literals u = (
      subst (λ a. IsNeed r literals a) (sym c.in_ok-with_chain.ensures.atom) (need (goal.at.atoms-preserved c).After-atom-item),
      subst (λ a. IsOutChain r a (map state_of u.chain.items)) (sym c.in_ok-with_chain.ensures.atom) c.in_ok-with_chain.ensures.chain,
    ) in
    subst (λ l. All (IsUnreachable r literals) l) (sym c.in_ok-push.ensures.items) (All-push (IsUnreachable r literals) c.atoms.found.items u c.atoms.invariant one)
