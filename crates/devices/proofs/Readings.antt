-- What was read from a source with known bytes, and how a failed read is counted.
use Rattle.std.proofs.Common.{◌≡◌, ℕ, ◌<◌, ◌≤◌, inl, inr, List, ◌++◌, ◌∙◌, length, take, sym, ap, subst, arith, append-nil, take_at}
use Rattle.std.proofs.lemmas.List.{take_all}
use Rattle.std.proofs.lemmas.Bool.{cases_lt}
use Rattle.std.specs.Prelude.{Option, None, Some, IfSome, Result, Ok, Err, IfOk}
use Rattle.std.specs.Global.{Vec}
use Rattle.std.specs.Io.KnownBytes.{Consumes, IsAtEnd}
use Rattle.devices.specs.declared.device.IoFault.{IoFault}
use Rattle.devices.specs.declared.device.IoFault.TheVariants as device
use Rattle.devices.specs.Devices.{CountsDevice, IsKept, IsReading, one_more}

-- what was read is a prefix of the source: all of it if that is within the limit
beginning : (limit : ℕ) (bytes : List ℕ) (after : Option (List ℕ)) (text : List ℕ) → Consumes (Some bytes) after text
    → length text ≤ limit → (length text < limit → IsAtEnd after) → text ≡ take limit bytes
beginning limit bytes None text consumed within whole = absurd consumed
beginning limit bytes (Some rest) text consumed within whole =
    elim (cases_lt (length text) limit) [
      | inl shorter ↦
          let all : bytes ≡ text = consumed ∙ ap (λ l. text ++ l) (whole shorter) ∙ append-nil text in
          sym (ap (take limit) all ∙ take_all limit text within)
      | inr reached ↦
          let long : length text ≡ limit = omega arith in
          sym (ap (take limit) consumed ∙ take_at text rest limit long)
    ]

reading_of_known : (limit : ℕ) (known before after : Option (List ℕ)) (text : List ℕ) → IsKept known before → IsReading limit before after text
    → IfSome known (λ bytes. text ≡ take limit bytes)
reading_of_known limit None before after text kept reading = tt
reading_of_known limit (Some bytes) before after text kept reading =
    beginning limit bytes after text (subst (λ known. Consumes known after text) kept reading.consumed) reading.within reading.whole

-- the same for the result of a call
pub answered_reading : {E : Type 0} (limit : ℕ) (known before after : Option (List ℕ)) (answer : Result (Vec ℕ) E) → IsKept known before
    → IfOk answer (λ text. IsReading limit before after text.items) → IfOk answer (λ text. IfSome known (λ bytes. text.items ≡ take limit bytes))
answered_reading limit known before after (Ok text) kept reading = reading_of_known limit known before after text.items kept reading
answered_reading limit known before after (Err fault) kept reading = tt

-- A failed read of an opened file counts as one failure of the files.
pub reading_counted : {T : Type 0} (before opened after input input_after : ℕ) (r : Result T IoFault) → opened ≡ before → input ≡ 0
    → CountsDevice input input_after r → (input_after ≡ 0 → after ≡ opened) → (0 < input_after → after ≡ one_more opened) → CountsDevice before after r
reading_counted before opened after input input_after (Ok text) same fresh counted unfailed failed = unfailed (counted ∙ fresh) ∙ same
reading_counted before opened after input input_after (Err device.Device) same fresh counted unfailed failed =
    failed (omega (arith, counted, fresh)) ∙ ap one_more same
reading_counted before opened after input input_after (Err device.NoMemory) same fresh counted unfailed failed = unfailed (counted ∙ fresh) ∙ same
