use Rattle.std.proofs.Common.{◌≡◌, ◌∙◌, ◌+◌, ◌-◌, Some, ap, map, length, subst, sym, arith}
use Rattle.std.specs.Prelude.{IfSome, slice_get}
use Rattle.std.specs.Option.{option_map}
use Rattle.std.proofs.lemmas.List.{length-map, map_push}
use Rattle.std.proofs.lemmas.Option.{slice_get-map, slice_get_read}
use Rattle.formulas.specs.State.{state_of}
use Rattle.grounding.specs.Ground.{task_in}
use Rattle.explain_goals.specs.Chains.{NeedOneOf}
use Rattle.explain_goals.specs.Needed.{AreOut, IsOutChain}
use Rattle.explain_goals.proofs.ChainLemmas.{chain-longer}
use Rattle.explain_goals.proofs.relaxation.Relaxation.extend.Goals as goal

pub returns : goal.returns
returns c a chain =
    let r = c.args.self.now in
    let links = c.args.links.now in
    let items = links.items in
    let k = c.len-count.result - 1 in
    let last = c.index-last.result.now in
    let needed = c.in-Some.needed in
    let count = c.len-count.ensures in
    let some = c.if-count-eq0.false in
    let wide : length items ≡ c.len-count.result = let held = links.ok.0 in omega (arith, count, held) in
    let long : length (map state_of items) ≡ k + 1 = let mapped = length-map items state_of in omega (arith, wide, some, mapped) in
    let at : slice_get (map state_of items) k ≡ Some (state_of last) =
    slice_get-map state_of items k ∙ ap (option_map state_of) (slice_get_read items c.len-count.result k last (sym wide) (omega (arith, some)) c.index-last.ensures) in
    subst (λ l. IsOutChain r a l) (sym (ap (map state_of) c.in_ok-push.ensures.items ∙ map_push state_of items needed))
    (chain-longer r a (map state_of items) k (state_of last) (state_of needed) long at
    (subst (λ o. IfSome o (λ n. NeedOneOf (task_in r.ground.now) (state_of last) (state_of n))) c.in-Some.is c.in_ok-needed.ensures.needed)
    (subst (λ o. IfSome o (λ n. AreOut r (state_of n))) c.in-Some.is c.in_ok-needed.ensures.out) chain)
