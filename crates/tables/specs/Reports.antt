-- Reports on the first unfair value.
use Rattle.std.specs.Prelude.{ℕ, nat_lt, if◌then◌else◌, length, Option, None, Some}
use Rattle.lower_bounds.specs.TableFunctions.{SeveralValues}
use Rattle.tables.specs.declared.several.ValuesFairness.{ValuesFairness}
use Rattle.tables.specs.declared.several.ValuesFairness.TheVariants as reported
use Rattle.tables.specs.declared.unfair.Unfair.{Unfair}

-- the value at this place is unfair at goals
abbrev pub goals_report : SeveralValues → ℕ → ValuesFairness
goals_report s place = if nat_lt place (length s.values) then reported.Goals place else reported.DeadEndGoals

-- a value is unfair for an instance
abbrev pub instance_report : SeveralValues → Unfair → ValuesFairness
instance_report s u = if nat_lt u.place (length s.values) then reported.Instance u.place u.number else reported.DeadEndInstance u.number

abbrev pub first_report : SeveralValues → Option Unfair → ValuesFairness
first_report s None = reported.Fair
first_report s (Some u) = instance_report s u
