use Rattle.std.specs.Prelude.{Result, Ok}
use Rattle.devices.proofs.WrittenFiles.{written_alone, partly_alone}
use Rattle.planner_main.proofs.ProgramReported.{one_file}
use Rattle.planner_main.proofs.program.writing.save.Goals as goal

pub returns-in_err-size-clause-partly : goal.returns-in_err-size-clause-partly
returns-in_err-size-clause-partly g c = λ failed.
    let saved = c.write_counted.ensures in
    partly_alone _ _ (record { name = c.in-Some.name.now; text = g.D.Document.text c.in-Some-document.document }) _ saved.kept
    _ (one_file c.args.name c.in-Some.name c.in-Some.is g.D.Document.text c.args.document.now c.in-Some-document.document c.in-Some-document.is) saved.partly

pub returns-clause-written : goal.returns-clause-written
returns-clause-written g c =
    let saved = c.write_counted.ensures in
    let done : Result (Unit {0}) (Unit {0}) = Ok tt in
    written_alone _ _ (record { name = c.in-Some.name.now; text = g.D.Document.text c.in-Some-document.document }) _ saved.kept
    _ done (one_file c.args.name c.in-Some.name c.in-Some.is g.D.Document.text c.args.document.now c.in-Some-document.document c.in-Some-document.is) c.in_ok-size.ensures.held

pub returns-clause-begun : goal.returns-clause-begun
returns-clause-begun g c =
    let saved = c.write_counted.ensures in
    partly_alone _ _ (record { name = c.in-Some.name.now; text = g.D.Document.text c.in-Some-document.document }) _ saved.kept
    _ (one_file c.args.name c.in-Some.name c.in-Some.is g.D.Document.text c.args.document.now c.in-Some-document.document c.in-Some-document.is) saved.partly
