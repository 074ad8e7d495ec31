-- Summaries of a task, byte by byte.
use Rattle.std.specs.Prelude.{◌≡◌, ℕ, Bool, List, ◌++◌, codes, if◌then◌else◌, length}
use Rattle.std.specs.Fmt.{decimal}
use Rattle.explain_tasks.specs.declared.forms.Forms.{Forms}
use Rattle.explain_tasks.specs.declared.summary.Summary.{Summary}
use Rattle.explain_tasks.specs.Forms.{AreForms}
use Rattle.model.specs.Task.{Task}

-- the numbers and features are those of the task; the numbers of predicates and functions fit into machine words
pub record IsSummaryOf (task : Task) (s : Summary) : Type 0 where
  pub types : s.types ≡ length task.types
  pub objects : s.objects ≡ length task.objects
  pub predicates : s.predicates ≡ length task.predicates
  pub functions : s.functions ≡ length task.functions
  pub actions : s.actions ≡ length task.schemas
  pub costs : s.has_costs ≡ task.has_metric
  pub forms : AreForms task s.forms

-- yes or no
abbrev pub answer : Bool → List ℕ
answer is_so = if is_so then codes "yes" else codes "no"

-- the features in words
abbrev pub forms_text : Forms → List ℕ
forms_text f =
    codes "conditional effects " ++ (answer f.conditional_effects ++ (codes ", quantifiers " ++ (answer f.quantifiers
    ++ (codes ", negations " ++ (answer f.negations ++ (codes ", disjunctions " ++ answer f.disjunctions))))))

-- the two lines of a summary
abbrev pub numbers_line : Summary → List ℕ
numbers_line s =
    codes "types " ++ (decimal s.types ++ (codes ", objects " ++ (decimal s.objects ++ (codes ", predicates " ++ (decimal s.predicates
    ++ (codes ", functions " ++ (decimal s.functions ++ (codes ", actions " ++ (decimal s.actions ++ codes "\n")))))))))

abbrev pub forms_line : Summary → List ℕ
forms_line s = codes "costs " ++ (answer s.has_costs ++ (codes ", " ++ (forms_text s.forms ++ codes "\n")))

abbrev pub summary_text : Summary → List ℕ
summary_text s = numbers_line s ++ forms_line s
