-- One more exchange that passes the test.
use Rattle.std.proofs.Common.{◌≡◌, ◌∙◌, ◌+◌, ◌<◌, ◌&&◌, true, List, [], ◌∷◌, ◌++◌, length, map, ap, arith, length-append}
use Rattle.std.specs.List.{list_all}
use Rattle.std.proofs.lemmas.Bool.{and_from}
use Rattle.std.proofs.lemmas.List.{map-append}
use Rattle.std.proofs.lemmas.List.Folds.{list_all-append}
use Rattle.model.specs.Task.{Task}
use Rattle.symmetries_definitions.specs.Symmetries.{is_symmetry}
use Rattle.symmetries.specs.declared.exchange.Exchange.{Exchange}
use Rattle.symmetries.specs.Exchange.{exchange_of}
use Rattle.symmetries_drafted.specs.Drafts.{AreTested, most}

pub one_more : (task : Task) (exchanges : List Exchange) (exchange : Exchange) → AreTested task exchanges → length exchanges < most
    → is_symmetry task (exchange_of exchange) ≡ true → AreTested task (exchanges ++ exchange ∷ [])
one_more task exchanges exchange tested room passes =
    let long = length-append exchanges (exchange ∷ []) in
    record {
      symmetries =
          ap (list_all (is_symmetry task)) (map-append exchange_of exchanges (exchange ∷ []))
          ∙ list_all-append (is_symmetry task) (map exchange_of exchanges) (exchange_of exchange ∷ [])
          ∙ and_from (list_all (is_symmetry task) (map exchange_of exchanges)) (is_symmetry task (exchange_of exchange) && true) tested.symmetries (ap (λ b. b && true) passes);
      few = omega (arith, room, long);
    }
