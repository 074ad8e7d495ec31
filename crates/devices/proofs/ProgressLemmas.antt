-- Reports made one line after another.
use Rattle.std.proofs.Common.{◌≡◌, ℕ, Bool, List, refl}
use Rattle.std.specs.Prelude.{Option}
use Rattle.devices.specs.Devices.{IsWritten}
use Rattle.devices.specs.Progress.{Stream, stream, AreSaid, nothing, one_more, MayContinue}

-- one more line is reported
pub one_line : (IsLine : List ℕ → Type 0) (may_lack_memory : Bool) (failures : ℕ) (taken : Option (List ℕ)) (failures_after : ℕ) (taken_after : Option (List ℕ)) (line : List ℕ)
    → IsLine line → IsWritten may_lack_memory failures failures_after taken taken_after line → MayContinue IsLine may_lack_memory failures taken failures_after taken_after
one_line IsLine may_lack_memory failures taken failures_after taken_after line is written origin said =
    one_more (stream failures taken) (stream failures_after taken_after) line said is written

-- reports after earlier reports
pub said_after : {IsLine : List ℕ → Type 0} {may_lack_memory : Bool} {before now after : Stream} → AreSaid IsLine may_lack_memory before now → AreSaid IsLine may_lack_memory now after
    → AreSaid IsLine may_lack_memory before after
said_after first nothing = first
said_after first (one_more now after line said is written) = one_more now after line (said_after first said) is written

-- reports of some lines are reports of more kinds of lines
pub said_of_more : {IsLine IsMore : List ℕ → Type 0} {may_lack_memory : Bool} {before after : Stream} → ((line : List ℕ) → IsLine line → IsMore line)
    → AreSaid IsLine may_lack_memory before after → AreSaid IsMore may_lack_memory before after
said_of_more more nothing = nothing
said_of_more more (one_more now after line said is written) = one_more now after line (said_of_more more said) (more line is) written

pub continues_of_more : (IsLine IsMore : List ℕ → Type 0) (may_lack_memory : Bool) (failures : ℕ) (taken : Option (List ℕ)) (failures_after : ℕ) (taken_after : Option (List ℕ))
    → ((line : List ℕ) → IsLine line → IsMore line) → MayContinue IsLine may_lack_memory failures taken failures_after taken_after
    → MayContinue IsMore may_lack_memory failures taken failures_after taken_after
continues_of_more IsLine IsMore may_lack_memory failures taken failures_after taken_after more may_continue origin said =
    said_after said (said_of_more more (may_continue (stream failures taken) nothing))

-- nothing is reported if no line may be
pub none_said : (IsLine : List ℕ → Type 0) (may_lack_memory : Bool) (before after : Stream) → ((line : List ℕ) → IsLine line → ⊥) → AreSaid IsLine may_lack_memory before after → after ≡ before
none_said IsLine may_lack_memory before _ none nothing = refl
none_said IsLine may_lack_memory before _ none (one_more now after line said is written) = absurd (none line is)

-- one line is reported
pub said_once : (IsLine : List ℕ → Type 0) (may_lack_memory : Bool) (failures : ℕ) (taken : Option (List ℕ)) (failures_after : ℕ) (taken_after : Option (List ℕ)) (line : List ℕ)
    → IsLine line → IsWritten may_lack_memory failures failures_after taken taken_after line → AreSaid IsLine may_lack_memory (stream failures taken) (stream failures_after taken_after)
said_once IsLine may_lack_memory failures taken failures_after taken_after line is written =
    one_more (stream failures taken) (stream failures_after taken_after) line nothing is written
