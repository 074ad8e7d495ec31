use Rattle.std.proofs.Common.{subst, sym}
use Rattle.faults.proofs.Results.{if_ok}
use Rattle.potentials_drafted.specs.ProgramInputs.{IsInputOf}
use Rattle.potentials_drafted.proofs.program_input.ProgramInput.new.Goals as goal

pub returns : goal.returns
returns c = if_ok c.finish.result (λ it is. subst (IsInputOf c.args.ground.now) (sym is) c.in_ok-incidence.ensures) c.finish.ensures
