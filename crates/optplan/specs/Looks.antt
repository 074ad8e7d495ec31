-- The line about a file that cannot be read.
use Rattle.std.specs.Prelude.{ℕ, List, ◌++◌, codes}
use Rattle.optplan.specs.declared.looks.Look.{Look}
use Rattle.optplan.specs.declared.looks.Look.TheVariants.{Missing, Folder, Forbidden, Unreadable}

abbrev pub reason : Look → List ℕ
reason Missing = codes "there is no such file"
reason Folder = codes "this is a folder, and no file"
reason Forbidden = codes "this file may not be read"
reason Unreadable = codes "this file cannot be opened"

-- the file's name as given, and the reason
abbrev pub line_of : (name : List ℕ) → Look → List ℕ
line_of name look = name ++ (codes ": " ++ (reason look ++ codes "\n"))
