-- Devices that fail at one call.
use Rattle.std.specs.Prelude.{ℕ, ◌-◌, ◌==◌, Bool, false, Option, None, Some, if◌then◌else◌}
use Rattle.test_support.specs.declared.failing.FailsAt.{FailsAt}

-- how many calls do not fail by themselves before the one that does; None if none does
abbrev pub calls_left : {D : Type 0} → FailsAt D → Option ℕ
calls_left device = device.calls_before

-- the call that begins now is the one that fails
abbrev pub fails_now : Option ℕ → Bool
fails_now None = false
fails_now (Some calls) = calls == 0

-- how many calls are left after it
abbrev pub after_a_call : Option ℕ → Option ℕ
after_a_call None = None
after_a_call (Some calls) = if calls == 0 then None else Some (calls - 1)
