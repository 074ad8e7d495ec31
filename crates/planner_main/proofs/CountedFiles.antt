-- The contents of a file after it was created, written through a byte counter, and closed.
use Rattle.std.proofs.Common.{◌≡◌, ℕ, List, [], ◌∙◌, ap, subst}
use Rattle.std.specs.Prelude.{Option, Some, IfSome, Result, Ok}
use Rattle.std.specs.Io.KnownBytes.{Appends}
use Rattle.devices.specs.Devices.{AppendsBeginning}
use Rattle.devices.specs.Written.{HoldsBeginning}
use Rattle.devices.proofs.WrittenFiles.{written_partly, whole_if_written}

-- what the file took is what was counted, from its first byte on
module _ (before made after : List ℕ → Option (List ℕ)) (name closed : List ℕ) (named : closed ≡ name) (taken : Option (List ℕ)) (first counted : List ℕ)
    (same : taken ≡ Some counted) (empty : first ≡ []) (text : List ℕ) where
  pub counted_partly : AppendsBeginning (Some first) (Some counted) text → HoldsBeginning (before name) (made name) [] → IfSome taken (HoldsBeginning (made closed) (after closed))
      → HoldsBeginning (before name) (after name) text
  counted_partly beginning started held =
      written_partly before made after name closed named (Some first) (Some counted) text (ap Some empty) beginning started
      (subst (λ taken. IfSome taken (HoldsBeginning (made closed) (after closed))) same held)

  pub counted_whole : Appends (Some first) (Some counted) text → after closed ≡ taken → after name ≡ Some text
  counted_whole appended held =
      let written : Result (Unit {0}) (Unit {0}) = Ok tt in
      whole_if_written before made after name closed named (Some first) (Some counted) text written (ap Some empty) appended (held ∙ same)
