-- What an instance may do to an atom, as represented in the code.
use Rattle.std.specs.Prelude.{◌≡◌, ℕ, Bool, true, false, ◌||◌, List}
use Rattle.model.specs.NumberedLiterals.{NumberedLiteral, NumberedChange}
use Rattle.lower_bounds.specs.FairPotentials.{Pair, is_pair, makes}
use Rattle.potentials.specs.declared.swing.Swing.{Swing}
use Rattle.potentials.specs.declared.swing.Kind.{Kind}
use Rattle.potentials.specs.declared.swing.Kind.TheVariants.{Add, Delete, MayAdd, MayDelete}
use Rattle.potentials.specs.declared.swing.Makers.{Makers}
use Rattle.potentials.specs.declared.swing.Transition.{Transition}
use Rattle.potentials.specs.declared.swing.Transition.TheVariants.{StaysFalse, Rises, Falls, StaysTrue}

-- the atom's truth values before and after
abbrev pub pair_of : Transition → Pair
pair_of StaysFalse = record { before = false; after = false }
pair_of Rises = record { before = false; after = true }
pair_of Falls = record { before = true; after = false }
pair_of StaysTrue = record { before = true; after = true }

-- a change of this kind takes effect whenever the instance is applied
abbrev pub is_always : Kind → Bool
is_always Add = true
is_always Delete = true
is_always MayAdd = false
is_always MayDelete = false

-- it makes the atom true
abbrev pub adds : Kind → Bool
adds Add = true
adds Delete = false
adds MayAdd = true
adds MayDelete = false

-- which of the changes affect the atom with this number
pub record AreMakers (changes : List NumberedChange) (number : ℕ) (m : Makers) : Type 0 where
  pub add : m.add ≡ makes changes true true number
  pub delete : m.delete ≡ makes changes true false number
  pub may_add : m.may_add ≡ makes changes false true number
  pub may_delete : m.may_delete ≡ makes changes false false number

-- what an instance with these literals and changes may do to the atom with this number
pub record IsSwing (literals : List NumberedLiteral) (changes : List NumberedChange) (number : ℕ) (s : Swing) : Type 0 where
  pub falls : s.falls ≡ is_pair literals changes number (record { before = true; after = false })
  pub stays : s.stays ≡ (is_pair literals changes number (record { before = false; after = false }) || is_pair literals changes number (record { before = true; after = true }))
  pub rises : s.rises ≡ is_pair literals changes number (record { before = false; after = true })
