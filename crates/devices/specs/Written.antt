-- The contents of files written one after another.
use Rattle.std.specs.Prelude.{◌≡◌, ◌≢◌, ℕ, ◌⊎◌, List, [], ◌∷◌, ◌++◌, Option, Some, if◌then◌else◌}
use Rattle.std.specs.Str.{bytes_eq}

-- The file is unchanged, or holds a prefix of these bytes.
abbrev pub HoldsBeginning : (before after : Option (List ℕ)) → List ℕ → Type 0
HoldsBeginning before after bytes = (after ≡ before) ⊎ ((front rest : List ℕ) × (bytes ≡ front ++ rest) × (after ≡ Some front))

-- a text, with the name of its file
pub record NamedText : Type 0 where
  pub name : List ℕ
  pub text : List ℕ

-- the contents of files once this one has its text
abbrev pub with_file : (List ℕ → Option (List ℕ)) → NamedText → List ℕ → Option (List ℕ)
with_file contents file name = if bytes_eq name file.name then Some file.text else contents name

-- the contents of files once each of these has its text, one after another
abbrev pub with_files : (List ℕ → Option (List ℕ)) → List NamedText → List ℕ → Option (List ℕ)
with_files contents [] = contents
with_files contents (file ∷ rest) = with_files (with_file contents file) rest

-- each file is unchanged, except these, which have their texts
abbrev pub AreWritten : (before after : List ℕ → Option (List ℕ)) → List NamedText → Type 0
AreWritten before after files = (name : List ℕ) → after name ≡ with_files before files name

-- These are written, and the next one has a prefix of its text or is unchanged; each other file is unchanged.
pub record AreWrittenPartly (before after : List ℕ → Option (List ℕ)) (files : List NamedText) (next : NamedText) : Type 0 where
  pub beginning : HoldsBeginning (with_files before files next.name) (after next.name) next.text
  pub others : (other : List ℕ) → other ≢ next.name → after other ≡ with_files before files other
