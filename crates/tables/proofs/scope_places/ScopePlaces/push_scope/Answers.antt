use Rattle.std.proofs.Common.{◌∙◌, ◌++◌, ◌∷◌, [], take, get_or, refl, sym, subst, arith}
use Rattle.std.proofs.lemmas.List.{take_more, length-take-le}
use Rattle.tables.specs.ScopePlaces.{AreScopePlaces}
use Rattle.tables.proofs.ScopePlacesLemmas.{places-begun, places-more}
use Rattle.tables.proofs.scope_places.ScopePlaces.push_scope.Goals as goal

pub loop-place-init : goal.loop-place-init
loop-place-init c = record { width = refl; places = λ scopes is before. places-begun scopes c.args.self.now before }

pub loop-place-preserved : goal.loop-place-preserved
loop-place-preserved c =
    let scope = c.args.scope.now in
    let k = c.loop-place.place in
    record {
      width = c.in_ok-push.ensures.width ∙ c.loop-place.invariant.width;
      places = λ scopes is before.
          subst (λ l. AreScopePlaces (scopes ++ l ∷ []) c.push.new.self) (sym (take_more scope k 0 c.loop-place-test.true))
          (places-more scopes (take k scope) (get_or scope k 0) (record { table = c.args.table; place = k }) c.loop-place.self c.push.new.self is
          (sym (length-take-le k scope (omega (arith, c.loop-place-test.true)))) c.in_ok-push.ensures.places (c.loop-place.invariant.places scopes is before));
    }
