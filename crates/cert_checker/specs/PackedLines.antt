-- A certificate's lines as packed states.
use Rattle.std.specs.Prelude.{◌≡◌, ◌≢◌, ℕ, ◌<◌, Bool, List, length, map, AllPairs, Contains}
use Rattle.packed_state.specs.declared.pooled.PooledStore.{PooledStore}
use Rattle.packed_state.specs.PooledView.{pooled_width, pooled_states}
use Rattle.packed_state.specs.Sets.{set_of}
use Rattle.cert_checker.specs.FluentAtoms.{AreFluent}
use Rattle.model.specs.Task.{Atom, Task}
use Rattle.model.specs.NumberedAtoms.{numbered_atoms}
use Rattle.certificate_definitions.specs.Certificates.{Certificate, StateLine}

-- the line's numbers as a set
abbrev pub packed_line : ℕ → StateLine → List Bool
packed_line width l = set_of width l.atoms

-- the line's numbers are those of atoms of the certificate
abbrev pub NamesAtoms : Certificate → StateLine → Type 0
NamesAtoms c l = (number : ℕ) → Contains l.atoms number → number < length c.atoms

-- The store has the certificate's lines, in order, as sets of numbers below the width. The sets are distinct.
pub record HoldsLines (c : Certificate) (width : ℕ) (store : PooledStore) : Type 0 where
  pub wide : pooled_width store ≡ width
  pub sets : pooled_states store ≡ map (packed_line width) c.lines
  pub distinct : AllPairs (λ (s t : List Bool). s ≢ t) (pooled_states store)
  pub named : (l : StateLine) → Contains c.lines l → NamesAtoms c l

-- The store has the certificate's lines as packed states of the ground task, which numbers the certificate's atoms first.
pub record IsPackedListing (task : Task) (atoms : List Atom) (c : Certificate) (store : PooledStore) : Type 0 where
  pub fluent : AreFluent task c.atoms
  pub numbered : atoms ≡ numbered_atoms task c.atoms
  pub holds : HoldsLines c (length atoms) store
