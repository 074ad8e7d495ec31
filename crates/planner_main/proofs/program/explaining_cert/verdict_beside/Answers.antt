use Rattle.planner_main.proofs.program.explaining_cert.verdict_beside.Goals as goal

pub returns-in-Err-clause-failures : goal.returns-in-Err-clause-failures
returns-in-Err-clause-failures g c = c.no_verdict.ensures.failures (g.F.Files.failures c.args.files.now) (g.F.Files.failures c.verdict_on.new.files) c.in-Err.ensures.failures

pub returns-in-Err-clause-unfailed : goal.returns-in-Err-clause-unfailed
returns-in-Err-clause-unfailed g c = c.no_verdict.ensures.unfailed (g.F.Files.failures c.args.files.now) (g.F.Files.failures c.verdict_on.new.files) c.in-Err.ensures.failures
