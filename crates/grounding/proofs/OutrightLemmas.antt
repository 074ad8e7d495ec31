-- A formula that is built of literals by `and` and `forall` alone holds where these literals do.
use Rattle.std.proofs.Common.{◌≡◌, ◌∙◌, ℕ, Bool, true, false, ◌&&◌, List, [], ◌∷◌, ◌++◌, map, refl, sym, ap, true≢false}
use Rattle.std.specs.Prelude.{nat_eq}
use Rattle.std.specs.Prelude as bool
use Rattle.std.specs.Global.{Vec}
use Rattle.std.specs.List.{flat_map, list_all}
use Rattle.std.specs.FinSet.{contains}
use Rattle.std.proofs.lemmas.Bool.{and_parts}
use Rattle.std.proofs.lemmas.List.Folds.{list_all-append}
use Rattle.task.specs.declared.schemas.Formula as code
use Rattle.task.specs.TaskParts.{formula_of}
use Rattle.formulas.proofs.Trees.{formulas_in, formula_of-And}
use Rattle.model.specs.Task.{Task, Formula, Formulas, atom, equal, and, or, not, imply, exists, forall, no_formula, more_formulas}
use Rattle.model.specs.Meaning.{State, object_of, objects_of, ground_atom, holds, all_hold}
use Rattle.model.specs.SureLiterals.{literal_holds, sure_not, sure, all_sure}
use Rattle.grounding.specs.Outright.{is_simple, is_outright, all_are_outright}

and_true : (b : Bool) → b ≡ (b && true)
and_true true = refl
and_true false = refl

-- all pass of what is given for each of these where each does
all_of_each : {X Y : Type 0} (test : Y → Bool) (of : X → List Y) (holds : X → Bool) → ((x : X) → holds x ≡ list_all test (of x))
    → (xs : List X) → list_all holds xs ≡ list_all test (flat_map of xs)
all_of_each test of holds each [] = refl
all_of_each test of holds each (x ∷ xs) =
    (λ i. each x i && all_of_each test of holds each xs i) ∙ sym (list_all-append test (of x) (flat_map of xs))

simple_not : (task : Task) (part : Formula) (binding : List ℕ) (state : State) → is_simple part ≡ true → bool.not (holds task part binding state) ≡ list_all (literal_holds state) (sure_not part binding)
simple_not task (atom a) binding state is = and_true (bool.not (contains state (ground_atom binding a)))
simple_not task (equal t u) binding state is = and_true (bool.not (nat_eq (object_of binding t) (object_of binding u)))
simple_not task (and parts) binding state is = absurd (true≢false (sym is))
simple_not task (or parts) binding state is = absurd (true≢false (sym is))
simple_not task (not part) binding state is = absurd (true≢false (sym is))
simple_not task (imply premise conclusion) binding state is = absurd (true≢false (sym is))
simple_not task (exists types part) binding state is = absurd (true≢false (sym is))
simple_not task (forall types part) binding state is = absurd (true≢false (sym is))

mutual
  pub holds_outright : (task : Task) (formula : Formula) (binding : List ℕ) (state : State) → is_outright formula ≡ true
      → holds task formula binding state ≡ list_all (literal_holds state) (sure task formula binding)
  holds_outright task (atom a) binding state is = and_true (contains state (ground_atom binding a))
  holds_outright task (equal t u) binding state is = and_true (nat_eq (object_of binding t) (object_of binding u))
  holds_outright task (and parts) binding state is = all_hold_outright task parts binding state is
  holds_outright task (or parts) binding state is = absurd (true≢false (sym is))
  holds_outright task (not part) binding state is = simple_not task part binding state is
  holds_outright task (imply premise conclusion) binding state is = absurd (true≢false (sym is))
  holds_outright task (exists types part) binding state is = absurd (true≢false (sym is))
  holds_outright task (forall types part) binding state is =
      all_of_each (literal_holds state) (λ one. sure task part (binding ++ one ∷ [])) (λ one. holds task part (binding ++ one ∷ []) state)
      (λ one. holds_outright task part (binding ++ one ∷ []) state is) (objects_of task types)

  all_hold_outright : (task : Task) (parts : Formulas) (binding : List ℕ) (state : State) → all_are_outright parts ≡ true
      → all_hold task parts binding state ≡ list_all (literal_holds state) (all_sure task parts binding)
  all_hold_outright task no_formula binding state is = refl
  all_hold_outright task (more_formulas first rest) binding state is =
      let both = and_parts (is_outright first) (all_are_outright rest) is in
      (λ i. holds_outright task first binding state both.0 i && all_hold_outright task rest binding state both.1 i)
      ∙ sym (list_all-append (literal_holds state) (sure task first binding) (all_sure task rest binding))

-- ---- the code's formulas

outright-list : (parts : List code.Formula) → all_are_outright (formulas_in parts) ≡ list_all is_outright (map formula_of parts)
outright-list [] = refl
outright-list (part ∷ rest) = ap (λ b. is_outright (formula_of part) && b) (outright-list rest)

-- a conjunction, by the list of its parts
pub outright_by_all : (f : code.Formula) (parts : Vec code.Formula) (items : List code.Formula) → f ≡ code.And parts → items ≡ parts.items
    → is_outright (formula_of f) ≡ list_all is_outright (map formula_of items)
outright_by_all f parts items is same =
    ap (λ g. is_outright (formula_of g)) is ∙ ap is_outright (formula_of-And parts) ∙ outright-list parts.items ∙ ap (λ l. list_all is_outright (map formula_of l)) (sym same)
