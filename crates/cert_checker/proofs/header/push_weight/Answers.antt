use Rattle.std.proofs.Common.{rules, ◌++◌, ◌∷◌, [], Some, sym, ap, ◌∙◌}
use Rattle.std.specs.Int.{w64}
use Rattle.std.proofs.lemmas.Int.{to_z-of_z}
use Rattle.std.proofs.lemmas.Option.{slice_get-get_or}
use Rattle.cert_checker.proofs.HeaderLemmas.{set_pushes}
use Rattle.cert_checker.proofs.header.push_weight.Goals as goal

pub returns : goal.returns
returns c =
    let before = c.index_mut.result.now in
    let weights_are = c.in_ok-push.ensures.items ∙ ap (λ w. before.weights.items ++ w ∷ []) (to_z-of_z w64 c.args.weight (search rules)) in
    set_pushes c.args.values.now.items c.args.place before (record { constant = before.constant; weights = c.push.new.self }) c.args.weight
    (slice_get-get_or c.args.values.now.items c.args.place before c.requires ∙ ap Some (sym c.index_mut.ensures.value))
    (λ i. record { constant = before.constant; weights = weights_are i })
