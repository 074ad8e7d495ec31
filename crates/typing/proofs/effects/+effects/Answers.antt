use Rattle.typing.specs.Resolver.{file_in, known_to}
use Rattle.typing.specs.Walk.{found_by}
use Rattle.typing.proofs.EffectTrees.{both_by_parts, both_faults_by_parts}
use Rattle.typing.proofs.effects.+effects.Goals as goal

pub effect-returns-in_ok-parts-in-And-clause-value : goal.effect-returns-in_ok-parts-in-And-clause-value
effect-returns-in_ok-parts-in-And-clause-value t c =
    both_by_parts (file_in c.args.resolver.now) (known_to c.args.resolver.now) c.args.given.now c.in-And.parts c.deref.result.now c.deref.ensures.value
    c.in-And.is c.in_ok-parts-in-And.parts c.in_ok-parts-in-And.ensures.value

pub effect-returns-in_ok-parts-in-And-clause-finds : goal.effect-returns-in_ok-parts-in-And-clause-finds
effect-returns-in_ok-parts-in-And-clause-finds t c =
    both_faults_by_parts (file_in c.args.resolver.now) (known_to c.args.resolver.now) c.args.given.now c.in-And.parts c.deref.result.now c.deref.ensures.value
    c.in-And.is (found_by c.several.new.resolver.walk) (found_by c.args.resolver.now.walk) c.in_ok-parts-in-And.ensures.finds
