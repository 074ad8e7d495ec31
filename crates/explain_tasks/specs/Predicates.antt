-- Predicates that are asked for although no action makes their atoms true.
use Rattle.std.specs.Prelude.{◌≡◌, ℕ, Bool, false, not, ◌&&◌, ◌||◌, ◌==◌, List, length, filter}
use Rattle.std.specs.List.{list_any, range_with_len}
use Rattle.formulas.specs.Marks.{is_marked}
use Rattle.model.specs.Task.{Task, Atom, Schema, EffectLiteral, add, delete, Effect, Effects, literal, both, each, when, no_effect, more_effects}
use Rattle.explain_tasks.specs.Unused.{is_asked_for}
use Rattle.explain_tasks.specs.declared.predicates.Becoming.{Becoming}
use Rattle.explain_tasks.specs.declared.predicates.Becoming.TheVariants.{True, False}
use Rattle.explain_tasks.specs.declared.predicates.Doubt.{Doubt}
use Rattle.explain_tasks.specs.declared.predicates.Doubt.TheVariants.{Unasked, NeverTrue, OnlyDeleted}
use Rattle.explain_tasks.specs.declared.predicates.PredicateUses.{PredicateUses}

-- some literal of the effect passes the test, whatever its condition
abbrev mutual
  pub has_literal : (EffectLiteral → Bool) → Effect → Bool
  has_literal test (literal l) = test l
  has_literal test (both parts) = some_has_literal test parts
  has_literal test (each types part) = has_literal test part
  has_literal test (when condition literals) = list_any test literals

  pub some_has_literal : (EffectLiteral → Bool) → Effects → Bool
  some_has_literal test no_effect = false
  some_has_literal test (more_effects first rest) = has_literal test first || some_has_literal test rest

-- the literal makes an atom of the predicate true, or false
abbrev pub makes : Becoming → ℕ → EffectLiteral → Bool
makes True predicate (add a) = a.predicate == predicate
makes True predicate (delete a) = false
makes False predicate (add a) = false
makes False predicate (delete a) = a.predicate == predicate

-- so does an effect of some action
abbrev pub is_made : Task → Becoming → ℕ → Bool
is_made t becoming predicate = list_any (λ (s : Schema). has_literal (makes becoming predicate) s.effect) t.schemas

abbrev pub is_of_predicate : ℕ → Atom → Bool
is_of_predicate predicate a = a.predicate == predicate

-- some atom of the predicate is initially true
abbrev pub is_initial : Task → ℕ → Bool
is_initial t predicate = list_any (is_of_predicate predicate) t.init

-- Something is doubtful about a predicate: nothing asks for it; or it is asked for, but its atoms are false in every state; or it is
-- asked for, but its atoms, of which some are initially true, are only ever deleted.
abbrev pub is_doubtful : Task → Doubt → ℕ → Bool
is_doubtful t Unasked predicate = not (is_asked_for t predicate)
is_doubtful t NeverTrue predicate = is_asked_for t predicate && (not (is_initial t predicate) && not (is_made t True predicate))
is_doubtful t OnlyDeleted predicate = is_asked_for t predicate && (is_initial t predicate && (is_made t False predicate && not (is_made t True predicate)))

-- the predicates of which this is so, in order
abbrev pub doubtful_predicates : Task → Doubt → List ℕ
doubtful_predicates t doubt = filter (is_doubtful t doubt) (range_with_len 0 (length t.predicates))

-- the tables are of the task's predicates
pub record AreUsesOf (t : Task) (u : PredicateUses) : Type 0 where
  pub asked : (n : ℕ) → is_marked u.asked.items n ≡ is_asked_for t n
  pub initial : (n : ℕ) → is_marked u.initial.items n ≡ is_initial t n
  pub added : (n : ℕ) → is_marked u.added.items n ≡ is_made t True n
  pub deleted : (n : ℕ) → is_marked u.deleted.items n ≡ is_made t False n
