-- What a task mentions: the predicates that its formulas use, and the objects that it names.
use Rattle.std.specs.Prelude.{List, ◌++◌, map}
use Rattle.std.specs.List.{flat_map}
use Rattle.formulas.specs.Mentions.{Mention, mentions, named, schema_mentions}
use Rattle.model.specs.Task.{Task, Atom}

-- the objects of a fact
abbrev pub fact_mentions : Atom → List Mention
fact_mentions a = map named a.objects

-- the mentions in the goal, the actions and the initial facts
abbrev pub task_mentions : Task → List Mention
task_mentions t = (mentions t.goal ++ flat_map schema_mentions t.schemas) ++ flat_map fact_mentions t.init
