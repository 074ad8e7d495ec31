use Rattle.std.proofs.Common.{◌≡◌, ◌∙◌, map, Some, ap, sym}
use Rattle.std.specs.Global.{Vec}
use Rattle.std.specs.Option.{option_map}
use Rattle.task.specs.declared.atoms.ObjectId.{ObjectId}
use Rattle.task.specs.TaskParts.{object_of}
use Rattle.symmetries_definitions.specs.Exchanges.{image_of_object, are_different}
use Rattle.symmetries.specs.ObjectPairs.{pairs_in, two_by_two}
use Rattle.symmetries.proofs.PairLemmas.{objects_paired}
use Rattle.symmetries.proofs.exchange.Exchange.new.Goals as goal

pub invariant_of-result : goal.invariant_of-result
invariant_of-result c =
    let objects = map object_of c.args.objects.now in
    let pairs = pairs_in c.in-Some.pairs.items in
    let paired : two_by_two objects ≡ Some pairs = sym c.in_ok-pairs.ensures ∙ ap (option_map (λ (made : Vec (ObjectId × ObjectId)). pairs_in made.items)) c.in-Some.is in
    record {
      different = ap are_different (objects_paired objects pairs paired) ∙ sym c.in_ok-different.ensures ∙ c.if-not-different.false;
      imaged = λ o. c.in_ok-images.ensures o ∙ ap (λ l. image_of_object (pairs_in l) o) c.as_slice.ensures.value;
    }
