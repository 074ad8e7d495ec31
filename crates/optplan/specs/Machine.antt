-- How often calls of the machine's files and streams have failed.
use Rattle.std.specs.Prelude.{ℕ, ◌+◌, ◌-◌, ◌^◌, min}
use Rattle.optplan.specs.declared.machine.Input.{Input}
use Rattle.optplan.specs.declared.machine.Input.TheVariants as input
use Rattle.optplan.specs.declared.machine.Output.{Output}
use Rattle.optplan.specs.declared.machine.Output.TheVariants as output

-- those of an open file, or of a stream
abbrev pub failed_reads : Input → ℕ
failed_reads (input.File device) = device.failures
failed_reads (input.Stream replayed) = replayed.source.failures

abbrev pub failed_writes : Output → ℕ
failed_writes (output.File device) = device.failures
failed_writes (output.Stream device) = device.failures

-- those of the files and of the streams together, up to the last value of 64 bits
abbrev pub together : (files streams : ℕ) → ℕ
together files streams = min (files + streams) (2 ^ 64 - 1)
