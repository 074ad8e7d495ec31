use Rattle.std.proofs.Common.{◌≡◌, ◌∙◌, ◌++◌, ◌∷◌, [], List, ap, map, subst, sym}
use Rattle.task.specs.TaskParts.{atom_of}
use Rattle.formulas.specs.State.{state_of}
use Rattle.model.specs.Meaning.{State}
use Rattle.explain_goals.specs.Needed.{IsOutChain}
use Rattle.explain_goals.proofs.ChainLemmas.{chain-begun}
use Rattle.explain_goals.proofs.relaxation.Relaxation.chain.Goals as goal

pub links-init : goal.links-init
links-init c =
    let r = c.args.self.now in
    let a = atom_of c.args.atom.now in
    let first = c.in_ok-alone.field-0 in
    let links : map state_of c.push.new.self.items ≡ state_of first ∷ [] = ap (map state_of) (c.in_ok-push.ensures.items ∙ ap (λ l. l ++ first ∷ []) c.new-links.ensures.items) in
    subst (λ (l : List State). IsOutChain r a l) (sym links) (chain-begun r a (state_of first) c.in_ok-alone.ensures c.requires.out)
