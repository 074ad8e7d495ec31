use Rattle.grounding.specs.Ground.{task_in}
use Rattle.solver.proofs.answer.solve_ground.Goals as goal

pub returns-in_err-say-clause-said : goal.returns-in_err-say-clause-said
returns-in_err-say-clause-said g c = λ origin before.
    let limits = c.args.limits in
    c.say.ensures.said (task_in c.args.ground.now) limits.seconds limits.states limits.instances
    (c.ground_report.ensures limits.seconds limits.states limits.instances) origin before

pub returns-in_err-answer-clause-said : goal.returns-in_err-answer-clause-said
returns-in_err-answer-clause-said g c = λ origin before.
    let limits = c.args.limits in
    let counts = c.say.ensures.said (task_in c.args.ground.now) limits.seconds limits.states limits.instances (c.ground_report.ensures limits.seconds limits.states limits.instances) in
    c.solve_in_version.ensures.said origin (counts origin before)

pub returns-in_err-say_end-clause-said : goal.returns-in_err-say_end-clause-said
returns-in_err-say_end-clause-said g c = λ origin before.
    let task = task_in c.args.ground.now in
    let limits = c.args.limits in
    let counts = c.say.ensures.said task limits.seconds limits.states limits.instances (c.ground_report.ensures limits.seconds limits.states limits.instances) in
    c.say_end.ensures.said task limits.seconds limits.states limits.instances c.in_ok-answer.ensures.answer.0 origin
    (c.solve_in_version.ensures.said origin (counts origin before))

pub returns-clause-said : goal.returns-clause-said
returns-clause-said g c = λ origin before.
    let task = task_in c.args.ground.now in
    let limits = c.args.limits in
    let counts = c.say.ensures.said task limits.seconds limits.states limits.instances (c.ground_report.ensures limits.seconds limits.states limits.instances) in
    c.say_end.ensures.said task limits.seconds limits.states limits.instances c.in_ok-answer.ensures.answer.0 origin
    (c.solve_in_version.ensures.said origin (counts origin before))
