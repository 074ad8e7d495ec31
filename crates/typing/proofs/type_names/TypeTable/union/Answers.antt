use Rattle.std.proofs.Common.{◌≡◌, ◌==◌, ◌∙◌, false, List, [], ◌∷◌, map, length, refl, sym, true≢false}
use Rattle.typing.specs.Scope.{keys_in}
use Rattle.pddl_tree.specs.Tree as read
use Rattle.pddl_tree.specs.declared.terms.Name.{Name}
use Rattle.model.specs.Task as task
use Rattle.model.specs.Typing as typing
use Rattle.typing.proofs.type_names.TypeTable.union.Goals as goal

-- if there are any, they are the union
some_written : (names : List task.Name) (ns : List Name) → (length ns == 0) ≡ false → map (λ n. typing.number_in names (read.name_of n)) ns ≡ typing.union_in names (map read.name_of ns)
some_written names [] e = absurd (true≢false e)
some_written names (n ∷ ns) e = each (n ∷ ns)
  where
    each : (ms : List Name) → map (λ m. typing.number_in names (read.name_of m)) ms ≡ map (typing.number_in names) (map read.name_of ms)
    each [] = refl
    each (m ∷ ms) = λ i. typing.number_in names (read.name_of m) ∷ each ms i

pub returns-in_ok-numbers : goal.returns-in_ok-numbers
returns-in_ok-numbers c =
    c.in_ok-numbers.ensures ∙ some_written (keys_in c.args.self.now.by_name.entries) c.args.types.now (sym c.is_empty.ensures ∙ c.if-is_empty.false)
