-- Look-ups in tables of names, in terms of the names.
use Rattle.std.proofs.Common.{◌≡◌, ℕ, Bool, List, [], ◌∷◌, map, refl, ap, sym, ◌∙◌, nat_eq}
use Rattle.std.specs.Global.{Vec}
use Rattle.std.specs.Cmp.Lexicographic.{pointwise}
use Rattle.std.specs.List.{position}
use Rattle.std.specs.Map.{keys_of}
use Rattle.model.specs.Task as task
use Rattle.model.specs.Typing.{is_same}
use Rattle.task.specs.Names.{keys_in}
use Rattle.task.proofs.Lists.{position-map}

-- a test of the keys for a name
abbrev pub key_is : List ℕ → Vec ℕ → Bool
key_is q key = pointwise nat_eq q key.items

-- the names of a table are its keys
pub keys_in-named : {V S : Type 0} (shown : Vec ℕ × V → S) (label : S → task.Name) (named : (e : Vec ℕ × V) → label (shown e) ≡ e.0.items) (entries : List (Vec ℕ × V))
    → keys_in entries ≡ map label (map shown entries)
keys_in-named shown label named [] = refl
keys_in-named shown label named (e ∷ es) = λ i. sym (named e) i ∷ keys_in-named shown label named es i

-- so a look-up of a key finds the index of the name
pub named_at : {V S : Type 0} (shown : Vec ℕ × V → S) (label : S → task.Name) (named : (e : Vec ℕ × V) → label (shown e) ≡ e.0.items) (q : List ℕ) (entries : List (Vec ℕ × V))
    → position (key_is q) (keys_of entries) ≡ position (is_same q) (map label (map shown entries))
named_at shown label named q entries = position-map (is_same q) (λ (key : Vec ℕ). key.items) (keys_of entries) ∙ ap (position (is_same q)) (keys_in-named shown label named entries)
