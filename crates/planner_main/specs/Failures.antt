-- The standard error of the program without an answer, and the exit statuses.
use Rattle.std.specs.Prelude.{ℕ, ◌==◌, Bool, List, [], ◌∷◌, ◌++◌, codes}
use Rattle.std.specs.List.{list_any}
use Rattle.std.specs.Fmt.{decimal}
use Rattle.faults.specs.Fault.{name_in, names}
use Rattle.explain_hints.specs.Files.{name_of_file}
use Rattle.model.specs.Files.{FileFault}

-- the line of a fault: `fault CODE Name in FILE at S..E`
abbrev pub line_of_fault : FileFault → List ℕ
line_of_fault f =
    codes "fault " ++ (decimal f.fault.code ++ (codes " " ++ (name_in names f.fault.code
    ++ (codes " in " ++ (name_of_file f.file
    ++ (codes " at " ++ (decimal f.fault.span.start ++ (codes ".." ++ (decimal f.fault.span.end ++ codes "\n")))))))))

-- the line for a failed device, and that for a failed allocation
abbrev pub device_line : List ℕ
device_line = codes "fault 61 Device\n"

abbrev pub no_memory_line : List ℕ
no_memory_line = codes "fault 60 NoMemory\n"

-- the last line if the words are not a command, or ask for help
abbrev pub nothing_done_line : List ℕ
nothing_done_line = codes "optplan: nothing was done\n"

-- the exit statuses without a verdict: words that are not a command; a refused text; a failed device; a failed allocation
abbrev pub is_failure : ℕ → Bool
is_failure status = list_any (λ n. n == status) (2 ∷ 20 ∷ 21 ∷ 22 ∷ [])
