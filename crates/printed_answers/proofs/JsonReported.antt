-- The text of an object whose members are built by calls is that of the intended members.
use Rattle.std.proofs.Common.{◌≡◌, List, String, Global, subst}
use Rattle.std.specs.Prelude.{Result, IfOk}
use Rattle.std.specs.String.{string_bytes}
use Rattle.printed_answers.specs.JsonText.{Member, object_text}

pub reported_as_meant : {E : Type 0} (r : Result (String Global) E) (made meant : List Member) → made ≡ meant
    → IfOk r (λ said. string_bytes said ≡ object_text made) → IfOk r (λ said. string_bytes said ≡ object_text meant)
reported_as_meant r made meant same said = subst (λ (members : List Member). IfOk r (λ said. string_bytes said ≡ object_text members)) same said
