-- The input files in the model's terms, with their names and bytes.
use Rattle.std.specs.Prelude.{ℕ, List, codes}
use Rattle.explain_hints.specs.declared.texts.File.{File}
use Rattle.explain_hints.specs.declared.texts.File.TheVariants.{Domain, Problem, Plan}
use Rattle.explain_hints.specs.declared.texts.NamedTexts.{NamedTexts}
use Rattle.model.specs.Trees.{domain_file, problem_file}
use Rattle.model.specs.Files as model

abbrev pub file_view : File → model.File
file_view Domain = model.of_task domain_file
file_view Problem = model.of_task problem_file
file_view Plan = model.the_plan

-- the name of a file
abbrev pub name_of_file : model.File → List ℕ
name_of_file (model.of_task domain_file) = codes "domain"
name_of_file (model.of_task problem_file) = codes "problem"
name_of_file model.the_plan = codes "plan"

-- the bytes of a file
abbrev pub text_in : NamedTexts → File → List ℕ
text_in texts Domain = texts.domain.text.now
text_in texts Problem = texts.problem.text.now
text_in texts Plan = texts.plan.text.now

-- the name of a file, as given
abbrev pub name_in : NamedTexts → File → List ℕ
name_in texts Domain = texts.domain.name.now
name_in texts Problem = texts.problem.name.now
name_in texts Plan = texts.plan.name.now
