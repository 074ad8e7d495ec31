-- States listed one after another.
use Rattle.std.specs.Prelude.{◌≡◌, ◌≢◌, Bool, List, [], ◌∷◌, ◌++◌, map, AllPairs, Contains, MatchBool}
use Rattle.packed_state.specs.PooledView.{pooled_states, pooled_width}
use Rattle.packed_state.specs.Sets.{set_of}
use Rattle.certificate_definitions.specs.Certificates.{StateLine}
use Rattle.certificate.specs.declared.states.States.{States}
use Rattle.certificate.specs.CertificateParts.{listed_of}
use Rattle.certificate.specs.ListedSets.{marked}

-- no state is listed twice
abbrev pub ListOnce : List StateLine → Type 0
ListOnce lines = AllPairs (λ (k l : StateLine). k.atoms ≢ l.atoms) lines

-- the set of the line's atoms, with the width of the others
abbrev pub set_in : States → StateLine → List Bool
set_in states line = set_of (pooled_width states.sets) line.atoms

-- the line's state is appended, unless it is there already
abbrev pub IsPushed : (old new : States) → StateLine → Bool → Type 0
IsPushed old new line is_new =
    MatchBool is_new
    ((¬ Contains (pooled_states old.sets) (set_in old line)) × (pooled_states new.sets ≡ pooled_states old.sets ++ set_in old line ∷ [])
    × (map listed_of new.marks.items ≡ map listed_of old.marks.items ++ marked line ∷ []))
    (Contains (pooled_states old.sets) (set_in old line))
