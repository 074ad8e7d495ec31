-- The instances built by the plan reader, and the faults of steps.
use Rattle.std.proofs.Common.{◌≡◌, ◌≢◌, ℕ, ◌+◌, ◌<◌, ◌≤◌, true, false, List, [], ◌∷◌, ◌++◌, length, map, get_or, take, drop, Option, Some, None, IfSome, sym, refl, ap, ◌∙◌, subst, arith}
use Rattle.std.specs.Prelude.{slice_get}
use Rattle.std.specs.Cmp.Lexicographic.{pointwise}
use Rattle.std.specs.List.{position}
use Rattle.std.specs.Option.{option_map, option_map_or}
use Rattle.std.proofs.Common.{take-append-drop}
use Rattle.std.proofs.lemmas.List.{drop_more, take_more, map-append, length-map}
use Rattle.std.proofs.lemmas.List.Quantifiers.{position-Some}
use Rattle.model.specs.Fault.{Fault}
use Rattle.model.specs.Words.{Part, AreParts}
use Rattle.model.specs.Trees.{Name}
use Rattle.model.specs.Task.{Union, Task, Schema, Instance}
use Rattle.model.specs.Typing.{folded, is_same}
use Rattle.model.specs.Meaning.{is_of, fits}
use Rattle.model.specs.PlanText.{Step, HasSteps, IsNumberOf, AreNumbersOf, schema_names, object_names, Means, AllMean, IsStepFault, unknown_action, wrong_count, wrong_object, IsPlanText, IsFormFault, IsPlanFault, of_form, of_step}
use Rattle.model.proofs.PlanMeaning.{names_each, numbers_push, plan_length, few_steps, one_reading, no_fault, one_fault}
use Rattle.formulas.proofs.Quantifiers.{pointwise_push}
use Rattle.tokens.proofs.Cut.{cut_unique}
use Rattle.plan_file.specs.PlanFile.{IsNoObject, IsWrongObject, IsFirstFault}

-- what is reported, if it is known
pub reported_some : (P : Fault → Type 0) (o : Option Fault) (fault : Fault) → o ≡ Some fault → P fault → IfSome o P
reported_some P o fault e h = subst (λ p. IfSome p P) (sym e) h

pub reported_none : (P : Fault → Type 0) (o : Option Fault) → IfSome o P → ((fault : Fault) → P fault → ⊥) → o ≡ None
reported_none P None h never = refl
reported_none P (Some fault) h never = absurd (never fault h)

pub reported_more : (P Q : Fault → Type 0) (o : Option Fault) → ((fault : Fault) → P fault → Q fault) → IfSome o P → IfSome o Q
reported_more P Q None f h = tt
reported_more P Q (Some fault) f h = f fault h

-- a list at an index
pub split_at : {A B : Type 0} (f : A → B) (xs : List A) (i : ℕ) (x : A) → i < length xs → x ≡ get_or xs i x → map f xs ≡ map f (take i xs) ++ f x ∷ map f (drop (i + 1) xs)
split_at f xs i x inside is =
    ap (map f) (sym (take-append-drop i xs)) ∙ map-append f (take i xs) (drop i xs)
    ∙ ap (λ rest. map f (take i xs) ++ map f rest) (drop_more xs i x inside ∙ ap (λ y. y ∷ drop (i + 1) xs) (sym is))

pub taken_at : {A B : Type 0} (f : A → B) (xs : List A) (i : ℕ) (x : A) → i < length xs → x ≡ get_or xs i x → map f (take (i + 1) xs) ≡ map f (take i xs) ++ f x ∷ []
taken_at f xs i x inside is =
    ap (map f) (take_more xs i x inside ∙ ap (λ y. take i xs ++ y ∷ []) (sym is)) ∙ map-append f (take i xs) (x ∷ [])

-- one more element
pub numbers_more : {A B : Type 0} (declared : List (List ℕ)) (f : A → Name) (xs : List A) (i : ℕ) (x : A) (g : B → ℕ) (items more : List B) (y : B) → i < length xs → x ≡ get_or xs i x → more ≡ items ++ y ∷ []
    → AreNumbersOf declared (map f (take i xs)) (map g items) → IsNumberOf declared (f x) (g y) → AreNumbersOf declared (map f (take (i + 1) xs)) (map g more)
numbers_more declared f xs i x g items more y inside is more_is are number =
    subst (λ ns. AreNumbersOf declared ns (map g more)) (sym (taken_at f xs i x inside is))
    (subst (AreNumbersOf declared (map f (take i xs) ++ f x ∷ [])) (sym (ap (map g) more_is ∙ map-append g items (y ∷ [])))
    (numbers_push declared (map f (take i xs)) (map g items) (f x) (g y) are number))

-- the number of a name is below the number of declared names
number_within : (declared : List (List ℕ)) (name : Name) (number : ℕ) → IsNumberOf declared name number → number < length declared
number_within declared name number is = (position-Some (is_same (folded name)) declared number [] is).0

pub schema_within : (task : Task) (name : Name) (number : ℕ) → IsNumberOf (schema_names task) name number → number < length task.schemas
schema_within task name number is =
    let within = number_within (schema_names task) name number is in
    omega (arith, within, length-map task.schemas (λ (s : Schema). s.name))

-- the types of a schema's parameters
abbrev pub HasParameters : Task → ℕ → List Union → Type 0
HasParameters task number unions = option_map (λ (s : Schema). s.parameters) (slice_get task.schemas number) ≡ Some unions

record Found (task : Task) (number : ℕ) (unions : List Union) : Type 0 where
  schema : Schema
  here : slice_get task.schemas number ≡ Some schema
  parameters : schema.parameters ≡ unions

found : (task : Task) (number : ℕ) (unions : List Union) → HasParameters task number unions → Found task number unions
found task number unions e = by_schema (slice_get task.schemas number) refl e
  where
    by_schema : (s : Option Schema) → slice_get task.schemas number ≡ s → option_map (λ (s : Schema). s.parameters) s ≡ Some unions → Found task number unions
    by_schema None here e = absurd (cc)
    by_schema (Some schema) here e = record { schema = schema; here = here; parameters = cc }

-- the fault of a step, and its meaning
module _ (task : Task) (step : Step) where
  pub action_refused : position (is_same (folded step.action)) (schema_names task) ≡ None → (o : Option Fault) → o ≡ Some (record { code = 32; span = step.action.span }) → IfSome o (IsStepFault task step)
  action_refused none o reported =
      reported_some (IsStepFault task step) o _ reported (unknown_action (λ (number, is). let both : Some number ≡ None = sym is ∙ none in cc) refl refl)

  pub count_refused : (number : ℕ) (unions : List Union) → IsNumberOf (schema_names task) step.action number → HasParameters task number unions → length step.objects ≢ length unions → (o : Option Fault) → o ≡ Some (record { code = 33; span = step.action.span }) → IfSome o (IsStepFault task step)
  count_refused number unions is has differs o reported =
      let f = found task number unions has in
      reported_some (IsStepFault task step) o _ reported (wrong_count number f.schema is f.here (λ h. differs (h ∙ ap length f.parameters)) refl refl)

  pub objects_refused : (number : ℕ) (unions : List Union) → IsNumberOf (schema_names task) step.action number → HasParameters task number unions → length step.objects ≡ length unions → (o : Option Fault) → IfSome o (IsWrongObject task unions step.objects) → IfSome o (IsStepFault task step)
  objects_refused number unions is has same o h =
      let f = found task number unions has in
      reported_more (IsWrongObject task unions step.objects) (IsStepFault task step) o
      (λ fault w. wrong_object number f.schema is f.here (same ∙ sym (ap length f.parameters)) w.before w.after w.name w.theirs w.others w.types w.names_in_order (f.parameters ∙ w.types_in_order) w.objects_before w.wrong.is_none w.wrong.code w.wrong.span) h

  pub step_means : (i : Instance) (unions : List Union) → IsNumberOf (schema_names task) step.action i.schema → HasParameters task i.schema unions → AreNumbersOf (object_names task) step.objects i.objects → pointwise (is_of task) unions i.objects ≡ true → Means task step i
  step_means i unions is has objects fit =
      let f = found task i.schema unions has in
      record {
        action = is;
        objects = objects;
        fits = ap (λ (o : Option Schema). option_map_or (λ (s : Schema). fits task s i.objects) o false) f.here ∙ ap (λ us. pointwise (is_of task) us i.objects) f.parameters ∙ fit;
      }

-- the objects so far are of the types at their indices, and one more is
pub fit_more : {A B : Type 0} (task : Task) (f : A → Union) (xs : List A) (i : ℕ) (x : A) (g : B → ℕ) (items more : List B) (y : B) → i < length xs → x ≡ get_or xs i x → more ≡ items ++ y ∷ []
    → pointwise (is_of task) (map f (take i xs)) (map g items) ≡ true → is_of task (f x) (g y) ≡ true → pointwise (is_of task) (map f (take (i + 1) xs)) (map g more) ≡ true
fit_more task f xs i x g items more y inside is more_is fit here =
    (λ j. pointwise (is_of task) (taken_at f xs i x inside is j) ((ap (map g) more_is ∙ map-append g items (y ∷ [])) j))
    ∙ pointwise_push (is_of task) (map f (take i xs)) (map g items) (f x) (g y) fit here

-- the fault of the first object that is not of the types at its index
pub object_refused : {A B C : Type 0} (task : Task) (f : A → Union) (xs : List A) (g : B → Name) (ys : List B) (i : ℕ) (x : A) (y : B) (h : C → ℕ) (items : List C) → i < length xs → i < length ys → x ≡ get_or xs i x → y ≡ get_or ys i y
    → AreNumbersOf (object_names task) (map g (take i ys)) (map h items) → pointwise (is_of task) (map f (take i xs)) (map h items) ≡ true
    → (o : Option Fault) → IfSome o (IsNoObject task (f x) (g y)) → IfSome o (IsWrongObject task (map f xs) (map g ys))
object_refused task f xs g ys i x y h items inside within types_are name_is are fit o reported =
    reported_more (IsNoObject task (f x) (g y)) (IsWrongObject task (map f xs) (map g ys)) o
    (λ fault wrong. record {
      before = map g (take i ys);
      after = map g (drop (i + 1) ys);
      name = g y;
      theirs = map f (take i xs);
      others = map f (drop (i + 1) xs);
      types = f x;
      names_in_order = split_at g ys i y within name_is;
      types_in_order = split_at f xs i x inside types_are;
      objects_before = names_each task (map f (take i xs)) (map g (take i ys)) (map h items) are fit;
      wrong = wrong;
    }) reported

-- the fault of a text
pub form_refused : (task : Task) (text : List ℕ) (o : Option Fault) → IfSome o (IsFormFault text) → IfSome o (IsPlanFault task text)
form_refused task text o h = reported_more (IsFormFault text) (IsPlanFault task text) o (λ fault wrong. of_form wrong) h

pub meaning_refused : (task : Task) (text : List ℕ) (steps : List Step) → HasSteps text steps → (o : Option Fault) → IfSome o (IsFirstFault task steps) → IfSome o (IsPlanFault task text)
meaning_refused task text steps has o h =
    reported_more (IsFirstFault task steps) (IsPlanFault task text) o
    (λ fault first. of_step steps first.before first.after first.step first.plan has first.in_order first.mean first.wrong) h

-- the laws
one_cut : (text : List ℕ) (a b : List Part) → AreParts text a → AreParts text b → a ≡ b
one_cut text a b are others = cut_unique text a are ∙ sym (cut_unique text b others)

pub one_list_of_instances : (task : Task) (text : List ℕ) (plan other : List Instance) → IsPlanText task text plan → IsPlanText task text other → plan ≡ other
one_list_of_instances task text plan other = one_reading text (one_cut text) task plan other

pub no_fault_of_plan : (task : Task) (text : List ℕ) (plan : List Instance) (fault : Fault) → IsPlanText task text plan → IsPlanFault task text fault → ⊥
no_fault_of_plan task text plan fault = no_fault text (one_cut text) task plan fault

pub one_fault_of_text : (task : Task) (text : List ℕ) (fault other : Fault) → IsPlanFault task text fault → IsPlanFault task text other → fault ≡ other
one_fault_of_text task text fault other = one_fault text (one_cut text) task fault other

pub none_of_plan : (task : Task) (text : List ℕ) (o : Option Fault) → IfSome o (IsPlanFault task text) → (plan : List Instance) → IsPlanText task text plan → o ≡ None
none_of_plan task text o h plan is =
    reported_none (IsPlanFault task text) o h
    (λ fault. no_fault_of_plan task text plan fault is)

-- the number of a text's steps is within the limit of a plan
pub few_instances : (task : Task) (text : List ℕ) (steps : List Step) (plan : List Instance) → HasSteps text steps → AllMean task steps plan → length plan ≤ 16777216
few_instances task text steps plan has mean =
    let few = few_steps text steps has in
    let same = plan_length task steps plan mean in
    omega (arith, few, same)
