-- Devices that move a limited number of bytes per call.
use Rattle.std.specs.Prelude.{ℕ}
use Rattle.test_support.specs.declared.pieces.InPieces.{InPieces}

-- the maximum number of bytes per call
abbrev pub piece_length : {D : Type 0} → InPieces D → ℕ
piece_length device = device.length
