-- The features found part by part are those of the whole.
use Rattle.std.specs.Prelude.{◌≡◌, ℕ, ◌+◌, ◌<◌, ◌≤◌, Bool, true, false, ◌||◌, List, [], ◌∷◌, ◌++◌, length, take, get_or, slice_get, Option, Some, None, refl}
use Rattle.std.proofs.Common.{sym, ◌∙◌, ap, inl, inr, arith}
use Rattle.std.specs.Borrow.{Bor}
use Rattle.std.specs.Global.{Vec}
use Rattle.std.specs.List.{flat_map, list_any}
use Rattle.std.specs.Option.{option_map}
use Rattle.std.proofs.lemmas.Grind.{flat_map-append, fold-append}
use Rattle.std.proofs.lemmas.List.{append-nil, take_all, take_more}
use Rattle.std.proofs.lemmas.Option.{slice_get_cases}
use Rattle.task.specs.declared.schemas.Formula.{Formula}
use Rattle.task.specs.declared.schemas.Formula as formula
use Rattle.task.specs.declared.schemas.Effect.{Effect}
use Rattle.task.specs.declared.schemas.Effect as effect
use Rattle.task.specs.declared.schemas.Schema.{Schema}
use Rattle.task.specs.TaskParts.{effect_of, formula_of, shape_of, shape_of_schema}
use Rattle.formulas.proofs.Trees.{effects_in, effect_of-And, formulas_in, formula_of-And, formula_of-Or}
use Rattle.model.specs.Task as task
use Rattle.explain_tasks.specs.declared.forms.Forms.{Forms}
use Rattle.explain_tasks.specs.Forms.{Form, conditional_effect, quantifier, negation, disjunction, AreForms, added, forms_in, forms_in_all, forms_in_effect, forms_in_effects, forms_of_schema, forms_of_task, is_same, with_form}

-- ---- the parts of a formula or an effect

forms_in_all-list : (parts : List Formula) → forms_in_all (formulas_in parts) ≡ flat_map (λ part. forms_in (formula_of part)) parts
forms_in_all-list [] = refl
forms_in_all-list (part ∷ rest) = ap (λ l. forms_in (formula_of part) ++ l) (forms_in_all-list rest)

forms_in_effects-list : (parts : List Effect) → forms_in_effects (effects_in parts) ≡ flat_map (λ part. forms_in_effect (effect_of part)) parts
forms_in_effects-list [] = refl
forms_in_effects-list (part ∷ rest) = ap (λ l. forms_in_effect (effect_of part) ++ l) (forms_in_effects-list rest)

pub forms_by_and : (f : Formula) (parts : Vec Formula) (items : List Formula) → f ≡ formula.And parts → items ≡ parts.items
    → forms_in (formula_of f) ≡ flat_map (λ part. forms_in (formula_of part)) items
forms_by_and f parts items is same =
    ap (λ g. forms_in (formula_of g)) is ∙ ap forms_in (formula_of-And parts) ∙ forms_in_all-list parts.items
    ∙ ap (flat_map (λ part. forms_in (formula_of part))) (sym same)

pub forms_by_or : (f : Formula) (parts : Vec Formula) (items : List Formula) → f ≡ formula.Or parts → items ≡ parts.items
    → forms_in (formula_of f) ≡ disjunction ∷ flat_map (λ part. forms_in (formula_of part)) items
forms_by_or f parts items is same =
    ap (λ g. forms_in (formula_of g)) is ∙ ap forms_in (formula_of-Or parts) ∙ ap (λ l. disjunction ∷ l) (forms_in_all-list parts.items)
    ∙ ap (λ l. disjunction ∷ flat_map (λ part. forms_in (formula_of part)) l) (sym same)

pub forms_by_both : (e : Effect) (parts : Vec Effect) (items : List Effect) → e ≡ effect.And parts → items ≡ parts.items
    → forms_in_effect (effect_of e) ≡ flat_map (λ part. forms_in_effect (effect_of part)) items
forms_by_both e parts items is same =
    ap (λ g. forms_in_effect (effect_of g)) is ∙ ap forms_in_effect (effect_of-And parts) ∙ forms_in_effects-list parts.items
    ∙ ap (flat_map (λ part. forms_in_effect (effect_of part))) (sym same)

-- no feature
abbrev pub none : Forms
none = record { conditional_effects = false; quantifiers = false; negations = false; disjunctions = false }

-- ---- one part after another

-- the features of the parts so far, and those of the next one
pub added_next : {X : Type 0} (f : X → List Form) (xs : List X) (i : ℕ) (x : X) (forms : Forms) → i < length xs → x ≡ get_or xs i x
    → added (added forms (flat_map f (take i xs))) (f x) ≡ added forms (flat_map f (take (i + 1) xs))
added_next f xs i x forms within is =
    sym (fold-append with_form forms (flat_map f (take i xs)) (f x))
    ∙ ap (λ l. added forms (flat_map f (take i xs) ++ l)) (sym (append-nil (f x)))
    ∙ ap (added forms) (sym (flat_map-append f (take i xs) (x ∷ [])))
    ∙ ap (λ l. added forms (flat_map f l)) (ap (λ y. take i xs ++ y ∷ []) is ∙ sym (take_more xs i x within))

pub added_all : {X : Type 0} (f : X → List Form) (xs : List X) (i : ℕ) (forms : Forms) → length xs ≤ i
    → added forms (flat_map f (take i xs)) ≡ added forms (flat_map f xs)
added_all f xs i forms past = ap (λ l. added forms (flat_map f l)) (take_all i xs past)

-- ---- one schema after another

abbrev shape_forms : List task.Union × task.Formula × task.Effect × task.Increase → List Form
shape_forms (_, precondition, changes, _) = forms_in precondition ++ forms_in_effect changes

pub schema_added : (schemas : List task.Schema) (number : ℕ) (read : Option (Bor Schema)) (schema : Bor Schema)
    → option_map (λ (s : Bor Schema). shape_of s.now) read ≡ option_map shape_of_schema (slice_get schemas number) → read ≡ Some schema
    → (s : task.Schema) → slice_get schemas number ≡ Some s
    → (forms : Forms) → added (added forms (forms_in (formula_of schema.now.precondition))) (forms_in_effect (effect_of schema.now.effect)) ≡ added forms (forms_of_schema s)
schema_added schemas number read schema shape is s there forms =
    let same : shape_of schema.now ≡ shape_of_schema s = cc (ap (option_map (λ (r : Bor Schema). shape_of r.now)) is, shape, ap (option_map shape_of_schema) there) in
    sym (fold-append with_form forms (forms_in (formula_of schema.now.precondition)) (forms_in_effect (effect_of schema.now.effect)))
    ∙ ap (λ shape. added forms (shape_forms shape)) same

pub no_schema : (schemas : List task.Schema) (number : ℕ) (read : Option (Bor Schema))
    → option_map (λ (s : Bor Schema). shape_of s.now) read ≡ option_map shape_of_schema (slice_get schemas number) → read ≡ None
    → (s : task.Schema) → slice_get schemas number ≡ Some s → ⊥
no_schema schemas number read shape is s there =
    absurd (cc (ap (option_map (λ (r : Bor Schema). shape_of r.now)) is, shape, ap (option_map shape_of_schema) there))

pub schemas_next : (schemas : List task.Schema) (number : ℕ) (start old new : Forms) → number < length schemas
    → old ≡ added start (flat_map forms_of_schema (take number schemas))
    → ((s : task.Schema) → slice_get schemas number ≡ Some s → new ≡ added old (forms_of_schema s))
    → new ≡ added start (flat_map forms_of_schema (take (number + 1) schemas))
schemas_next schemas number start old new within is next =
    elim (slice_get_cases schemas number).1 [
      | inl found ↦ next found.0 found.2 ∙ ap (λ forms. added forms (forms_of_schema found.0)) is
          ∙ added_next forms_of_schema schemas number found.0 start within (sym found.3)
      | inr past ↦ absurd (let beyond = past.0 in omega (arith, within, beyond))
    ]

pub all_schemas : (t : task.Task) (number : ℕ) (forms : Forms) → length t.schemas ≤ number
    → forms ≡ added (added none (forms_in t.goal)) (flat_map forms_of_schema (take number t.schemas)) → forms ≡ added none (forms_of_task t)
all_schemas t number forms past is =
    is ∙ added_all forms_of_schema t.schemas number (added none (forms_in t.goal)) past
    ∙ sym (fold-append with_form none (forms_in t.goal) (flat_map forms_of_schema t.schemas))

-- ---- which features were added

or-false : (b : Bool) → (b || false) ≡ b
or-false true = refl
or-false false = refl

or-true : (b : Bool) → (b || true) ≡ true
or-true true = refl
or-true false = refl

conditional_effects-added : (forms : Forms) (fs : List Form) → (added forms fs).conditional_effects ≡ (forms.conditional_effects || list_any (is_same conditional_effect) fs)
conditional_effects-added forms [] = sym (or-false forms.conditional_effects)
conditional_effects-added forms (conditional_effect ∷ fs) = conditional_effects-added (with_form forms conditional_effect) fs ∙ sym (or-true forms.conditional_effects)
conditional_effects-added forms (quantifier ∷ fs) = conditional_effects-added (with_form forms quantifier) fs
conditional_effects-added forms (negation ∷ fs) = conditional_effects-added (with_form forms negation) fs
conditional_effects-added forms (disjunction ∷ fs) = conditional_effects-added (with_form forms disjunction) fs

quantifiers-added : (forms : Forms) (fs : List Form) → (added forms fs).quantifiers ≡ (forms.quantifiers || list_any (is_same quantifier) fs)
quantifiers-added forms [] = sym (or-false forms.quantifiers)
quantifiers-added forms (conditional_effect ∷ fs) = quantifiers-added (with_form forms conditional_effect) fs
quantifiers-added forms (quantifier ∷ fs) = quantifiers-added (with_form forms quantifier) fs ∙ sym (or-true forms.quantifiers)
quantifiers-added forms (negation ∷ fs) = quantifiers-added (with_form forms negation) fs
quantifiers-added forms (disjunction ∷ fs) = quantifiers-added (with_form forms disjunction) fs

negations-added : (forms : Forms) (fs : List Form) → (added forms fs).negations ≡ (forms.negations || list_any (is_same negation) fs)
negations-added forms [] = sym (or-false forms.negations)
negations-added forms (conditional_effect ∷ fs) = negations-added (with_form forms conditional_effect) fs
negations-added forms (quantifier ∷ fs) = negations-added (with_form forms quantifier) fs
negations-added forms (negation ∷ fs) = negations-added (with_form forms negation) fs ∙ sym (or-true forms.negations)
negations-added forms (disjunction ∷ fs) = negations-added (with_form forms disjunction) fs

disjunctions-added : (forms : Forms) (fs : List Form) → (added forms fs).disjunctions ≡ (forms.disjunctions || list_any (is_same disjunction) fs)
disjunctions-added forms [] = sym (or-false forms.disjunctions)
disjunctions-added forms (conditional_effect ∷ fs) = disjunctions-added (with_form forms conditional_effect) fs
disjunctions-added forms (quantifier ∷ fs) = disjunctions-added (with_form forms quantifier) fs
disjunctions-added forms (negation ∷ fs) = disjunctions-added (with_form forms negation) fs
disjunctions-added forms (disjunction ∷ fs) = disjunctions-added (with_form forms disjunction) fs ∙ sym (or-true forms.disjunctions)

pub all_are_forms : (t : task.Task) (forms : Forms) → forms ≡ added none (forms_of_task t) → AreForms t forms
all_are_forms t forms is = record {
  conditional_effects = ap (λ (f : Forms). f.conditional_effects) is ∙ conditional_effects-added none (forms_of_task t);
  quantifiers = ap (λ (f : Forms). f.quantifiers) is ∙ quantifiers-added none (forms_of_task t);
  negations = ap (λ (f : Forms). f.negations) is ∙ negations-added none (forms_of_task t);
  disjunctions = ap (λ (f : Forms). f.disjunctions) is ∙ disjunctions-added none (forms_of_task t);
}
