-- The place at which the domain's actions are resolved.
use Rattle.std.specs.Prelude.{◌≡◌, []}
use Rattle.typing.specs.Resolver.{file_in}
use Rattle.typing.specs.declared.resolver.Resolver.{Resolver}
use Rattle.model.specs.Trees.{domain_file}

-- the resolver is in the domain, with no variable in scope
pub record IsInDomain (r : Resolver) : Type 0 where
  pub file : file_in r ≡ domain_file
  pub outside : r.variables.entries ≡ []
