-- The parts of a text, cut one after another.
use Rattle.std.specs.Prelude.{ℕ, cond, List, [], ◌∷◌, ◌++◌}
use Rattle.model.specs.Words.{may_continue, Part, form}

-- a part of one byte
abbrev pub alone : ℕ → Part
alone byte = record { first = byte; others = [] }

-- a part, and the bytes that continue it
abbrev pub with_more : Part → List ℕ → Part
with_more part more = record { first = part.first; others = part.others ++ more }

-- the parts of the rest, after a part has begun
abbrev pub going : Part → List ℕ → List Part
going part [] = part ∷ []
going part (byte ∷ rest) =
    cond (may_continue (form part) byte) (going (with_more part (byte ∷ [])) rest) (part ∷ going (alone byte) rest)

abbrev pub cut : List ℕ → List Part
cut [] = []
cut (byte ∷ rest) = going (alone byte) rest
