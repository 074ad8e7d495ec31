-- Properties of the numbered atoms of a task: each has a fluent predicate, and none has two numbers.
use Rattle.std.proofs.Common.{◌≡◌, ◌∙◌, true, List, sym, ap}
use Rattle.std.specs.Prelude.{All, IsTrue}
use Rattle.std.specs.Cmp.{second_so}
use Rattle.model.specs.Task.{Atom, Task}
use Rattle.model.specs.Fluents.{is_fluent, is_fluent_atom}
use Rattle.model.specs.NumberedAtoms.{occurs_in, are_distinct, numbered_atoms}
use Rattle.model.proofs.GroundTaskLemmas.{numbered-fluent, numbered-distinct}

module _ (t : Task) (more : List Atom) where
  pub fluent-predicates : All (λ (a : Atom). IsTrue (is_fluent_atom t a)) more → All (λ (a : Atom). IsTrue (is_fluent t a.predicate)) more
  fluent-predicates fluent k d below = second_so _ _ (fluent k d below)

  module _ (atoms : List Atom) (is : atoms ≡ numbered_atoms t more) where
    pub atoms-fluent : All (λ (a : Atom). IsTrue (is_fluent_atom t a)) more → (a : Atom) → occurs_in atoms a ≡ true → is_fluent t a.predicate ≡ true
    atoms-fluent fluent a at = numbered-fluent t more (fluent-predicates fluent) a (ap (λ l. occurs_in l a) (sym is) ∙ at)

    pub atoms-distinct : are_distinct atoms ≡ true
    atoms-distinct = ap are_distinct is ∙ numbered-distinct t more
