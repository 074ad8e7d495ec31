-- Classes of alike states, as the code keeps them.
use Rattle.std.specs.Prelude.{◌≡◌, ℕ, Bool, List, [], length, slice_get, Option, None, Some}
use Rattle.packed_state.specs.declared.pooled.PooledStore.{PooledStore}
use Rattle.packed_state.specs.PooledView.{pooled_width, pooled_states}
use Rattle.model.specs.Task.{Atom, Task}
use Rattle.symmetries_definitions.specs.Orbits.{packed_representative}
use Rattle.symmetries.specs.Representatives.{task_of, atoms_of, exchanges_of}
use Rattle.certificate.specs.Certificate.{certificate_of, store_in}
use Rattle.certificate_definitions.specs.Certificates.{Certificate}
use Rattle.cert_checker.specs.declared.checker.classes.Classes.{Classes}
use Rattle.cert_checker.specs.Represented.{Represents}
use Rattle.cert_checker.specs.CheapestPlaces.{AreCheapest, costs_of}

-- ---- while they are made

abbrev pub key_by : Classes → List Bool → List Bool
key_by classes = packed_representative (task_of classes.representatives) (atoms_of classes.representatives) (exchanges_of classes.representatives)

abbrev pub keys_in : Classes → List (List Bool)
keys_in classes = pooled_states classes.keys

-- states, numbered atoms and keys have one width
pub record AreOfOneWidth (classes : Classes) : Type 0 where
  pub atoms : length (atoms_of classes.representatives) ≡ pooled_width (store_in classes.cert.now)
  pub keys : pooled_width classes.keys ≡ pooled_width (store_in classes.cert.now)

-- the first `count` of the certificate's states are in their classes
abbrev pub AreCheapestUpTo : Classes → ℕ → Type 0
AreCheapestUpTo classes count =
    AreCheapest (key_by classes) (pooled_states (store_in classes.cert.now)) (costs_of (certificate_of classes.cert.now)) count (keys_in classes) classes.cheapest.items

-- the place kept for this key
abbrev pub IsKeptFor : Classes → List Bool → ℕ → Type 0
IsKeptFor classes key place = (at : ℕ) × (slice_get (keys_in classes) at ≡ Some key) × (slice_get classes.cheapest.items at ≡ Some place)

-- ---- of a certificate

-- The classes of the certificate's states, whose sets the store has, by its exchanges, in the ground task that numbers these
-- atoms.
pub record AreClassesOf (task : Task) (atoms : List Atom) (c : Certificate) (store : PooledStore) (classes : Classes) : Type 0 where
  pub represents : Represents task atoms c.exchanges classes.representatives
  pub width : pooled_width classes.keys ≡ length atoms
  pub cheapest : AreCheapest (packed_representative task atoms c.exchanges) (pooled_states store) (costs_of c) (length c.lines) (keys_in classes) classes.cheapest.items

-- the same; without classes, the certificate has no exchanges
pub record AreClassified (task : Task) (atoms : List Atom) (c : Certificate) (store : PooledStore) (classes : Option Classes) : Type 0 where
  pub alone : classes ≡ None → c.exchanges ≡ []
  pub by_exchanges : (found : Classes) → classes ≡ Some found → AreClassesOf task atoms c store found
