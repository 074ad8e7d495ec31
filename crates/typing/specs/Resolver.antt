-- The names visible to a resolver, in the model's terms.
use Rattle.typing.specs.declared.resolver.Resolver.{Resolver}
use Rattle.typing.specs.Scope.{known_over}
use Rattle.pddl_tree.specs.Tree.{file_of}
use Rattle.model.specs.Trees.{TaskFile}
use Rattle.model.specs.Typing.{Known}

abbrev pub known_to : Resolver → Known
known_to r = known_over r.globals.now r.variables.entries

abbrev pub file_in : Resolver → TaskFile
file_in r = file_of r.globals.now.file
