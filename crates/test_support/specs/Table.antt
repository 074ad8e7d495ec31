-- The contents of a table of files in memory.
use Rattle.std.specs.Prelude.{◌≡◌, ◌≢◌, ℕ, Bool, List, [], ◌∷◌, Option, None, Some, if◌then◌else◌}
use Rattle.std.specs.String.{string_bytes}
use Rattle.std.specs.Str.{bytes_eq}
use Rattle.test_support.specs.declared.table.Entry.{Entry}
use Rattle.test_support.specs.declared.table.Draft.{Draft}
use Rattle.test_support.specs.declared.table.Table.{Table}

-- the entry is that of a file with this name
abbrev pub is_named : List ℕ → Entry → Bool
is_named name entry = bytes_eq (string_bytes entry.name) name

-- what the first entry with this name gives
abbrev pub first_of : {X : Type 0} → (Entry → Option X) → List Entry → List ℕ → Option X
first_of given [] name = None
first_of given (entry ∷ rest) name = if is_named name entry then given entry else first_of given rest name

-- the bytes of the first file with this name
abbrev pub contents_of : List Entry → List ℕ → Option (List ℕ)
contents_of = first_of (λ entry. Some entry.bytes.items)

-- how many reads of the first file with this name succeed before the one that fails; None if none fails
abbrev pub reads_before_of : List Entry → List ℕ → Option ℕ
reads_before_of = first_of (λ entry. entry.reads_before)

-- this name has this value, and every other name has the same as before
pub record Puts {X : Type 0} (before after : List ℕ → Option X) (name : List ℕ) (value : Option X) : Type 0 where
  pub put : after name ≡ value
  pub others : (other : List ℕ) → other ≢ name → after other ≡ before other

-- every name has the same as before
abbrev pub Keeps : {X : Type 0} → (before after : List ℕ → Option X) → Type 0
Keeps before after = (name : List ℕ) → after name ≡ before name

-- The file with this name holds these bytes, and its read after this many fails (None: none does); each other file is unchanged.
abbrev pub PutsFile : (before after : Table) → (name bytes : List ℕ) → (reads_before : Option ℕ) → Type 0
PutsFile before after name bytes reads_before =
    Puts (contents_of before.entries.items) (contents_of after.entries.items) name (Some bytes)
    × Puts (reads_before_of before.entries.items) (reads_before_of after.entries.items) name reads_before

-- each file is unchanged
abbrev pub KeepsFiles : (before after : Table) → Type 0
KeepsFiles before after =
    Keeps (contents_of before.entries.items) (contents_of after.entries.items)
    × Keeps (reads_before_of before.entries.items) (reads_before_of after.entries.items)

-- how many reads of the file with this name succeed before the one that fails; None if none fails
abbrev pub reads_before : Table → List ℕ → Option ℕ
reads_before table = reads_before_of table.entries.items

-- the name of a file that is being written
abbrev pub draft_name : Draft → List ℕ
draft_name draft = string_bytes draft.name
