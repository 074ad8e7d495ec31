-- The constants and the objects of a pair, in the model's terms.
use Rattle.std.specs.Prelude.{◌≡◌, List, [], map}
use Rattle.typing.specs.declared.names.DeclaredObjects.{DeclaredObjects}
use Rattle.task.specs.TaskParts.{object_entry_of}
use Rattle.model.specs.Task as task
use Rattle.model.specs.Trees as tree
use Rattle.model.specs.Typing.{Declared, constants_of, objects_of, declared_constants, declared_objects, object_in, objects_faults}

-- these are the constants and objects of the pair
pub record AreObjectsOf (d : tree.Domain) (p : tree.Problem) (o : DeclaredObjects) : Type 0 where
  pub constants : map object_entry_of o.constants.entries ≡ constants_of d
  pub all : map object_entry_of o.all.entries ≡ objects_of d p

-- their declarations have no fault, and these are they
pub record AreObjects (types : List task.Name) (d : tree.Domain) (p : tree.Problem) (o : DeclaredObjects) : Type 0 where
  pub right : objects_faults types (declared_objects d p) ≡ []
  pub constants : map object_entry_of o.constants.entries ≡ map (object_in types) (declared_constants d)
  pub all : map object_entry_of o.all.entries ≡ map (object_in types) (declared_objects d p)

-- the declarations of the objects have no fault, and these are they, with the constants
pub record AreMade (types : List task.Name) (constants objects : List Declared) (o : DeclaredObjects) : Type 0 where
  pub right : objects_faults types objects ≡ []
  pub constants_are : map object_entry_of o.constants.entries ≡ map (object_in types) constants
  pub all_are : map object_entry_of o.all.entries ≡ map (object_in types) objects
