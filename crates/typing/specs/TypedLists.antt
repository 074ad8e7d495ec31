-- The declarations of typed lists, in the model's terms.
use Rattle.std.specs.Prelude.{List, map}
use Rattle.typing.specs.declared.typed_lists.Declared.{Declared}
use Rattle.typing.specs.declared.typed_lists.Placed.{Placed}
use Rattle.pddl_tree.specs.Tree.{file_of}
use Rattle.pddl_tree.specs.Tree.{name_of}
use Rattle.pddl_tree.specs.declared.terms.Name.{Name}
use Rattle.model.specs.Trees.{TaskFile}
use Rattle.model.specs.Trees as tree
use Rattle.model.specs.Typing as typing

abbrev pub declared_of : Declared → typing.Declared
declared_of d = record { file = file_of d.placed.file; name = name_of d.placed.name; types = map name_of d.types.now }

-- the declaration of a name in a group with these types
abbrev pub declared_by : TaskFile → List tree.Name → Name → typing.Declared
declared_by file types n = record { file = file; name = name_of n; types = types }

-- a name in a file
abbrev pub placed_in : Placed → typing.Placed
placed_in p = typing.placed (file_of p.file) (name_of p.name)

-- the word of a declaration
abbrev pub placed_of : Declared → typing.Placed
placed_of d = placed_in d.placed
