use Rattle.std.proofs.Common.{◌≡◌, ◌∙◌, ◌++◌, ◌-◌, ◌+◌, length, map, ap, arith}
use Rattle.std.proofs.lemmas.List.{length-map, map_push}
use Rattle.task.specs.TaskParts as parts
use Rattle.model.specs.Typing as typing
use Rattle.typing.proofs.ChainSteps.{one_type_more, root_ends, steps_end}
use Rattle.typing.proofs.chains.chain.Goals as goal

pub loop-init : goal.loop-init
loop-init c =
    let parents = map parts.type_of c.args.parents.now in
    let whole : length parents - 0 ≡ length parents = omega arith in
    ap (λ items. map parts.type_of items ++ typing.chain parents (length parents - 0) c.args.id.0) c.new-chain.ensures.items ∙ ap (λ n. typing.chain parents n c.args.id.0) whole

pub returns-then-next-eq0 : goal.returns-then-next-eq0
returns-then-next-eq0 c =
    let parents = map parts.type_of c.args.parents.now in
    ap (map parts.type_of) c.in_ok-push.ensures.items ∙ map_push parts.type_of c.loop.chain.items c.loop.next
    ∙ root_ends parents (length parents) c.loop.counter c.loop.next.0 (map parts.type_of c.loop.chain.items) _
    (omega (arith, c.loop-test.true, length-map c.args.parents.now parts.type_of)) c.if-next-eq0.true c.loop.invariant

pub loop-preserved : goal.loop-preserved
loop-preserved c =
    let parents = map parts.type_of c.args.parents.now in
    ap (λ items. items ++ typing.chain parents (length parents - (c.loop.counter + 1)) c.parent-next.result.0) (ap (map parts.type_of) c.in_ok-push.ensures.items ∙ map_push parts.type_of c.loop.chain.items c.loop.next)
    ∙ one_type_more parents (length parents) c.loop.counter c.loop.next.0 c.parent-next.result.0 (map parts.type_of c.loop.chain.items) _
    (omega (arith, c.loop-test.true, length-map c.args.parents.now parts.type_of)) c.if-next-eq0.false c.parent-next.ensures c.loop.invariant

pub returns : goal.returns
returns c =
    let parents = map parts.type_of c.args.parents.now in
    steps_end parents (length parents) c.loop.counter c.loop.next.0 (map parts.type_of c.loop.chain.items) _
    (omega (arith, c.loop-test.false, length-map c.args.parents.now parts.type_of)) c.loop.invariant
