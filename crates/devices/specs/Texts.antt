-- What is read from files.
use Rattle.std.specs.Prelude.{◌≡◌, ℕ, List, take, Option, IfSome}
use Rattle.std.specs.Global.{Vec}
use Rattle.std.specs.Option.{option_map}

-- the text of the file with this name: if its contents are known, their first 16,777,217 bytes, or all if there are fewer
abbrev pub IsText : (List ℕ → Option (List ℕ)) → List ℕ → List ℕ → Type 0
IsText contents name text = IfSome (contents name) (λ bytes. text ≡ take 16777217 bytes)

-- each file is unchanged
abbrev pub AreKept : (before after : List ℕ → Option (List ℕ)) → Type 0
AreKept before after = (name : List ℕ) → after name ≡ before name

-- the bytes of a text that was read, if there is one
abbrev pub items_in : Option (Vec ℕ) → Option (List ℕ)
items_in = option_map (λ (text : Vec ℕ). text.items)
