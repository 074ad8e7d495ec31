-- What a formula says beyond its sure literals is so in each state with the initial static atoms.
use Rattle.std.proofs.Common.{◌≡◌, ◌∙◌, ℕ, Bool, true, false, not, ◌&&◌, ◌||◌, List, [], ◌∷◌, ◌++◌, map, length, take, get_or, Option, None, Some, refl, sym, ap, true≢false, ◌<◌, ◌≤◌, ◌+◌, subst}
use Rattle.std.specs.Prelude.{if◌then◌else◌}
use Rattle.std.specs.Global.{Vec}
use Rattle.std.specs.List.{list_all, list_any}
use Rattle.std.proofs.lemmas.Bool.{and_parts, not-true}
use Rattle.std.proofs.Math.ListN.{drop}
use Rattle.std.proofs.lemmas.List.{at_drop_more, drop_all}
use Rattle.std.proofs.lemmas.List.Folds.{list_all-append}
use Rattle.task.specs.declared.schemas.Formula as code
use Rattle.task.specs.TaskParts.{formula_of}
use Rattle.formulas.proofs.Trees.{formulas_in, formula_of-And, formula_of-Or}
use Rattle.model.specs.Task.{Task, Formula, Formulas, atom, equal, and, or, not as negated, imply, exists, forall, no_formula, more_formulas}
use Rattle.model.specs.Meaning.{State, initial_state, objects_of, ground_atom, holds, all_hold, some_holds}
use Rattle.model.specs.Fluents.{is_fluent, HasInitialStatics}
use Rattle.model.specs.SureLiterals.{literal_holds, sure, all_sure}
use Rattle.model.proofs.SureLiteralsHold.{sure_literals_hold}
use Rattle.grounding.specs.Outright.{is_simple, is_outright}
use Rattle.grounding.specs.Settled.{is_static, all_are_static, settled, settled_unless, is_nothing, then_said, beyond, all_beyond, beyond_each}
use Rattle.grounding.proofs.OutrightLemmas.{holds_outright}

module _ (t : Task) (state : State) (statics : HasInitialStatics t state) where
  -- ---- a static formula says what it says at the start
  mutual
    pub static_same : (f : Formula) (binding : List ℕ) → is_static t f ≡ true → holds t f binding state ≡ holds t f binding (initial_state t)
    static_same (atom a) binding is = statics (ground_atom binding a) (not-true (is_fluent t a.predicate) is)
    static_same (equal first second) binding is = refl
    static_same (and parts) binding is = all_same parts binding is
    static_same (or parts) binding is = some_same parts binding is
    static_same (negated part) binding is = ap not (static_same part binding is)
    static_same (imply premise conclusion) binding is =
        let both = and_parts (is_static t premise) (is_static t conclusion) is in
        λ i. not (static_same premise binding both.0 i) || static_same conclusion binding both.1 i
    static_same (exists types part) binding is = λ i. list_any (λ one. static_same part (binding ++ one ∷ []) is i) (objects_of t types)
    static_same (forall types part) binding is = λ i. list_all (λ one. static_same part (binding ++ one ∷ []) is i) (objects_of t types)

    all_same : (parts : Formulas) (binding : List ℕ) → all_are_static t parts ≡ true → all_hold t parts binding state ≡ all_hold t parts binding (initial_state t)
    all_same no_formula binding is = refl
    all_same (more_formulas first rest) binding is =
        let both = and_parts (is_static t first) (all_are_static t rest) is in
        λ i. static_same first binding both.0 i && all_same rest binding both.1 i

    some_same : (parts : Formulas) (binding : List ℕ) → all_are_static t parts ≡ true → some_holds t parts binding state ≡ some_holds t parts binding (initial_state t)
    some_same no_formula binding is = refl
    some_same (more_formulas first rest) binding is =
        let both = and_parts (is_static t first) (all_are_static t rest) is in
        λ i. static_same first binding both.0 i || some_same rest binding both.1 i

  -- ---- what is said beyond the literals

  -- what holds has true literals
  held-all : (held all : Bool) → (held ≡ true → all ≡ true) → held ≡ (held && all)
  held-all true all sure = sym (sure refl)
  held-all false all sure = refl

  settled-says : (f : Formula) (binding : List ℕ) (said : Bool) → settled t f binding ≡ Some said → holds t f binding state ≡ (said && list_all (literal_holds state) (sure t f binding))
  settled-says f binding said is =
      elim (is_static t f) as (λ b. is_static t f ≡ b → (if b then Some (holds t f binding (initial_state t)) else None) ≡ Some said
      → holds t f binding state ≡ (said && list_all (literal_holds state) (sure t f binding))) [
        | true ↦ λ static same.
            let start : holds t f binding (initial_state t) ≡ said = cc in
            let at : holds t f binding state ≡ said = static_same f binding static ∙ start in
            held-all (holds t f binding state) (list_all (literal_holds state) (sure t f binding)) (sure_literals_hold t f binding state)
            ∙ ap (λ b. b && list_all (literal_holds state) (sure t f binding)) at
        | false ↦ λ static none. absurd (cc)
      ] refl is

  unless-says : (f : Formula) (binding : List ℕ) (says_nothing said : Bool) → (says_nothing ≡ true → is_outright f ≡ true) → settled_unless says_nothing t f binding ≡ Some said
      → holds t f binding state ≡ (said && list_all (literal_holds state) (sure t f binding))
  unless-says f binding true said outright is =
      let yes : true ≡ said = cc in
      holds_outright t f binding state (outright refl) ∙ ap (λ b. b && list_all (literal_holds state) (sure t f binding)) yes
  unless-says f binding false said outright is = settled-says f binding said is

  -- of a conjunction, by its first part and the others
  both-say : (first rest : Option Bool) (said held held_rest all all_rest : Bool) → ((one : Bool) → first ≡ Some one → held ≡ (one && all))
      → ((one : Bool) → rest ≡ Some one → held_rest ≡ (one && all_rest)) → then_said first rest ≡ Some said → (held && held_rest) ≡ (said && (all && all_rest))
  both-say (Some true) rest said held held_rest all all_rest says later is =
      (λ i. says true refl i && later said is i) ∙ in_turn all said all_rest
    where
      in_turn : (a s b : Bool) → (a && (s && b)) ≡ (s && (a && b))
      in_turn true s b = refl
      in_turn false true b = refl
      in_turn false false b = refl
  both-say (Some false) rest said held held_rest all all_rest says later is =
      let no : false ≡ said = cc in
      (λ i. says false refl i && held_rest) ∙ ap (λ b. b && (all && all_rest)) no
  both-say None rest said held held_rest all all_rest says later is = absurd (cc)

  mutual
    pub beyond-says : (f : Formula) (binding : List ℕ) (said : Bool) → beyond t binding f ≡ Some said → holds t f binding state ≡ (said && list_all (literal_holds state) (sure t f binding))
    beyond-says (atom a) binding said is = unless-says (atom a) binding true said (λ _. refl) is
    beyond-says (equal first second) binding said is = unless-says (equal first second) binding true said (λ _. refl) is
    beyond-says (and parts) binding said is = all-say parts binding said is
    beyond-says (or parts) binding said is = settled-says (or parts) binding said is
    beyond-says (negated part) binding said is = unless-says (negated part) binding (is_simple part) said (λ simple. simple) is
    beyond-says (imply premise conclusion) binding said is = settled-says (imply premise conclusion) binding said is
    beyond-says (exists types part) binding said is = settled-says (exists types part) binding said is
    beyond-says (forall types part) binding said is = unless-says (forall types part) binding (is_outright part) said (λ outright. outright) is

    all-say : (parts : Formulas) (binding : List ℕ) (said : Bool) → all_beyond t binding parts ≡ Some said → all_hold t parts binding state ≡ (said && list_all (literal_holds state) (all_sure t parts binding))
    all-say no_formula binding said is = cc
    all-say (more_formulas first rest) binding said is =
        both-say (beyond t binding first) (all_beyond t binding rest) said (holds t first binding state) (all_hold t rest binding state)
        (list_all (literal_holds state) (sure t first binding)) (list_all (literal_holds state) (all_sure t rest binding))
        (beyond-says first binding) (all-say rest binding) is
        ∙ ap (λ b. said && b) (sym (list_all-append (literal_holds state) (sure t first binding) (all_sure t rest binding)))

-- ---- the code's formulas

beyond-list : (t : Task) (binding : List ℕ) (parts : List code.Formula) → all_beyond t binding (formulas_in parts) ≡ beyond_each t binding (map formula_of parts)
beyond-list t binding [] = refl
beyond-list t binding (part ∷ rest) = ap (then_said (beyond t binding (formula_of part))) (beyond-list t binding rest)

-- of a conjunction, by the list of its parts
pub beyond_by_all : (t : Task) (binding : List ℕ) (f : code.Formula) (parts : Vec code.Formula) (items : List code.Formula) → f ≡ code.And parts → items ≡ parts.items
    → beyond t binding (formula_of f) ≡ beyond_each t binding (map formula_of items)
beyond_by_all t binding f parts items is same =
    ap (λ g. beyond t binding (formula_of g)) is ∙ ap (beyond t binding) (formula_of-And parts) ∙ beyond-list t binding parts.items ∙ ap (λ l. beyond_each t binding (map formula_of l)) (sym same)

static-list : (t : Task) (parts : List code.Formula) → all_are_static t (formulas_in parts) ≡ list_all (is_static t) (map formula_of parts)
static-list t [] = refl
static-list t (part ∷ rest) = ap (λ b. is_static t (formula_of part) && b) (static-list t rest)

-- a conjunction and a disjunction are static where their parts are
pub static_by_all : (t : Task) (f : code.Formula) (parts : Vec code.Formula) (items : List code.Formula) → f ≡ code.And parts → items ≡ parts.items
    → is_static t (formula_of f) ≡ list_all (is_static t) (map formula_of items)
static_by_all t f parts items is same =
    ap (λ g. is_static t (formula_of g)) is ∙ ap (is_static t) (formula_of-And parts) ∙ static-list t parts.items ∙ ap (λ l. list_all (is_static t) (map formula_of l)) (sym same)

pub static_by_some : (t : Task) (f : code.Formula) (parts : Vec code.Formula) (items : List code.Formula) → f ≡ code.Or parts → items ≡ parts.items
    → is_static t (formula_of f) ≡ list_all (is_static t) (map formula_of items)
static_by_some t f parts items is same =
    ap (λ g. is_static t (formula_of g)) is ∙ ap (is_static t) (formula_of-Or parts) ∙ static-list t parts.items ∙ ap (λ l. list_all (is_static t) (map formula_of l)) (sym same)

-- ---- the loop over the parts

module _ (t : Task) (binding : List ℕ) (parts : List code.Formula) (i : ℕ) where
  -- what is said by those that are left, of which this is the first
  left_say : (part : code.Formula) → i < length parts → part ≡ get_or parts i part
      → beyond_each t binding (map formula_of (drop i parts)) ≡ then_said (beyond t binding (formula_of part)) (beyond_each t binding (map formula_of (drop (i + 1) parts)))
  left_say part lt at =
      at_drop_more (λ xs. beyond_each t binding (map formula_of xs)) parts i part lt
      ∙ ap (λ x. then_said (beyond t binding (formula_of x)) (beyond_each t binding (map formula_of (drop (i + 1) parts)))) (sym at)

  -- nothing is said by this one
  pub next_said : (part : code.Formula) → i < length parts → part ≡ get_or parts i part → is_nothing (beyond t binding (formula_of part)) ≡ true
      → beyond_each t binding (map formula_of (drop (i + 1) parts)) ≡ beyond_each t binding (map formula_of (drop i parts))
  next_said part lt at nothing =
      sym (left_say part lt at ∙ ap (λ b. if b then beyond_each t binding (map formula_of (drop (i + 1) parts)) else beyond t binding (formula_of part)) nothing)

  -- something is
  pub said_here : (part : code.Formula) → i < length parts → part ≡ get_or parts i part → is_nothing (beyond t binding (formula_of part)) ≡ false
      → beyond_each t binding (map formula_of (drop i parts)) ≡ beyond t binding (formula_of part)
  said_here part lt at something =
      left_say part lt at ∙ ap (λ b. if b then beyond_each t binding (map formula_of (drop (i + 1) parts)) else beyond t binding (formula_of part)) something

  -- none is left
  pub nothing_left : length parts ≤ i → beyond_each t binding (map formula_of (drop i parts)) ≡ Some true
  nothing_left past = ap (λ xs. beyond_each t binding (map formula_of xs)) (drop_all i parts past)
