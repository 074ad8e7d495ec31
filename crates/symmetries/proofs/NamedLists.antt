-- The objects that formulas and actions name are those of their mentions.
use Rattle.std.proofs.Common.{◌≡◌, ◌∙◌, ℕ, ◌+◌, ◌<◌, List, [], ◌∷◌, ◌++◌, ◌||◌, get_or, length, map, take, refl, sym, ap, append_assoc}
use Rattle.std.specs.Prelude.{◌==◌}
use Rattle.std.specs.List.{flat_map, list_any}
use Rattle.std.proofs.lemmas.Grind.{flat_map-append}
use Rattle.std.proofs.lemmas.List.{get_or_default}
use Rattle.task.specs.declared.atoms.ObjectId.{ObjectId}
use Rattle.task.specs.TaskParts.{object_of}
use Rattle.formulas.specs.declared.mentions.Mention as code
use Rattle.formulas.specs.MentionViews.{mention_of}
use Rattle.formulas.proofs.MentionLemmas.{come_next}
use Rattle.formulas.specs.Mentions.{Mention, asked, named, term_mentions, terms_mentions, mentions, all_mentions, literal_mentions, effect_mentions, effects_mentions, increase_mentions, schema_mentions, is_naming}
use Rattle.model.specs.Task.{Term, variable, object, Formula, Formulas, atom, equal, and, or, not, imply, exists, forall, no_formula, more_formulas, EffectLiteral, add, delete, Effect, Effects, literal, both, each, when, no_effect, more_effects, Increase, by_number, by_function, Schema}
use Rattle.symmetries_definitions.specs.NamedObjects.{named_in_term, named_in_formula, named_in_formulas, named_in_literal, named_in_effect, named_in_effects, named_in_increase, named_in_schema}
use Rattle.symmetries.specs.Named.{AreAdded, is_among, named_by}

-- one list of mentions after another
two : (ms ns : List Mention) (xs ys : List ℕ) → flat_map named_by ms ≡ xs → flat_map named_by ns ≡ ys → flat_map named_by (ms ++ ns) ≡ xs ++ ys
two ms ns xs ys first second = flat_map-append named_by ms ns ∙ (λ i. first i ++ second i)

several : {X : Type 0} (f : X → List Mention) (g : X → List ℕ) → ((x : X) → flat_map named_by (f x) ≡ g x) → (xs : List X) → flat_map named_by (flat_map f xs) ≡ flat_map g xs
several f g same [] = refl
several f g same (x ∷ xs) = two (f x) (flat_map f xs) (g x) (flat_map g xs) (same x) (several f g same xs)

of_term : (t : Term) → flat_map named_by (term_mentions t) ≡ named_in_term t
of_term (variable number) = refl
of_term (object number) = refl

of_terms : (terms : List Term) → flat_map named_by (terms_mentions terms) ≡ flat_map named_in_term terms
of_terms terms = several term_mentions named_in_term of_term terms

mutual
  pub of_formula : (f : Formula) → flat_map named_by (mentions f) ≡ named_in_formula f
  of_formula (atom a) = of_terms a.terms
  of_formula (equal t u) = two (term_mentions t) (term_mentions u) (named_in_term t) (named_in_term u) (of_term t) (of_term u)
  of_formula (and parts) = of_formulas parts
  of_formula (or parts) = of_formulas parts
  of_formula (not part) = of_formula part
  of_formula (imply premise conclusion) =
      two (mentions premise) (mentions conclusion) (named_in_formula premise) (named_in_formula conclusion) (of_formula premise) (of_formula conclusion)
  of_formula (exists types part) = of_formula part
  of_formula (forall types part) = of_formula part

  of_formulas : (parts : Formulas) → flat_map named_by (all_mentions parts) ≡ named_in_formulas parts
  of_formulas no_formula = refl
  of_formulas (more_formulas first rest) = two (mentions first) (all_mentions rest) (named_in_formula first) (named_in_formulas rest) (of_formula first) (of_formulas rest)

of_literal : (l : EffectLiteral) → flat_map named_by (literal_mentions l) ≡ named_in_literal l
of_literal (add a) = of_terms a.terms
of_literal (delete a) = of_terms a.terms

mutual
  of_effect : (e : Effect) → flat_map named_by (effect_mentions e) ≡ named_in_effect e
  of_effect (literal l) = of_literal l
  of_effect (both parts) = of_effects parts
  of_effect (each types part) = of_effect part
  of_effect (when condition literals) =
      two (mentions condition) (flat_map literal_mentions literals) (named_in_formula condition) (flat_map named_in_literal literals) (of_formula condition)
      (several literal_mentions named_in_literal of_literal literals)

  of_effects : (parts : Effects) → flat_map named_by (effects_mentions parts) ≡ named_in_effects parts
  of_effects no_effect = refl
  of_effects (more_effects first rest) = two (effect_mentions first) (effects_mentions rest) (named_in_effect first) (named_in_effects rest) (of_effect first) (of_effects rest)

of_increase : (i : Increase) → flat_map named_by (increase_mentions i) ≡ named_in_increase i
of_increase (by_number amount) = refl
of_increase (by_function f) = of_terms f.terms

of_schema : (s : Schema) → flat_map named_by (schema_mentions s) ≡ named_in_schema s
of_schema s =
    let condition = named_in_formula s.precondition in
    let changes = named_in_effect s.effect in
    let costs = named_in_increase s.increase in
    two (mentions s.precondition) (effect_mentions s.effect ++ increase_mentions s.increase) condition (changes ++ costs) (of_formula s.precondition)
    (two (effect_mentions s.effect) (increase_mentions s.increase) changes costs (of_effect s.effect) (of_increase s.increase))
    ∙ sym (append_assoc condition changes costs)

pub of_schemas : (schemas : List Schema) → flat_map named_by (flat_map schema_mentions schemas) ≡ flat_map named_in_schema schemas
of_schemas schemas = several schema_mentions named_in_schema of_schema schemas

-- some mention names the object if it is among the objects that they name
pub naming_among : (o : ℕ) (ms : List Mention) → list_any (is_naming o) ms ≡ is_among (flat_map named_by ms) o
naming_among o [] = refl
naming_among o (asked predicate ∷ ms) = naming_among o ms
naming_among o (named number ∷ ms) = ap (λ b. (number == o) || b) (naming_among o ms)

-- the objects that one more mention names
pub named_next : (xs : List code.Mention) (i : ℕ) (one : code.Mention) (now new : List ObjectId) → i < length xs
    → map object_of now ≡ flat_map (λ x. named_by (mention_of x)) (take i xs) → AreAdded (named_by (mention_of (get_or xs i one))) now new
    → map object_of new ≡ flat_map (λ x. named_by (mention_of x)) (take (i + 1) xs)
named_next xs i one now new within before here =
    let x = get_or xs i one in
    come_next (λ y. named_by (mention_of y)) xs i [] x (map object_of now) (map object_of new) within (get_or_default xs i one x within) here before
