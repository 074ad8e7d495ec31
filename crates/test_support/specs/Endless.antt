-- Endless devices, whose bytes repeat forever.
use Rattle.std.specs.Prelude.{ℕ, List, [], ◌∷◌, ◌++◌, drop}
use Rattle.test_support.specs.declared.endless.Endless.{Endless}

-- the bytes that repeat
abbrev pub again : Endless → List ℕ
again device = device.again.items

-- what comes before they begin again: first the text, and then one repetition
abbrev pub left : Endless → List ℕ
left device = drop device.text_read device.text.items ++ drop device.again_read device.again.items

-- the rest, or the repeated bytes if nothing is left
abbrev pub or_anew : (rest bytes : List ℕ) → List ℕ
or_anew [] bytes = bytes
or_anew (byte ∷ rest) bytes = byte ∷ rest
