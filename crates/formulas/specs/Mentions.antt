-- What formulas and actions mention: the predicates that formulas use, and the objects that are named.
use Rattle.std.specs.Prelude.{ℕ, Bool, false, ◌==◌, List, [], ◌∷◌, ◌++◌}
use Rattle.std.specs.List.{flat_map}
use Rattle.model.specs.Task.{Term, variable, object, Formula, Formulas, atom, equal, and, or, not, imply, exists, forall, no_formula, more_formulas, EffectLiteral, add, delete, Effect, Effects, literal, both, each, when, no_effect, more_effects, Increase, by_number, by_function, Schema}

-- a formula uses an atom of this predicate, or this object is named
pub data Mention : Type 0 where
  asked : ℕ → Mention
  named : ℕ → Mention

-- the objects that terms name
abbrev pub term_mentions : Term → List Mention
term_mentions (variable number) = []
term_mentions (object number) = named number ∷ []

abbrev pub terms_mentions : List Term → List Mention
terms_mentions = flat_map term_mentions

-- the mentions in a formula and its parts
abbrev mutual
  pub mentions : Formula → List Mention
  mentions (atom a) = asked a.predicate ∷ terms_mentions a.terms
  mentions (equal t u) = term_mentions t ++ term_mentions u
  mentions (and parts) = all_mentions parts
  mentions (or parts) = all_mentions parts
  mentions (not part) = mentions part
  mentions (imply premise conclusion) = mentions premise ++ mentions conclusion
  mentions (exists types part) = mentions part
  mentions (forall types part) = mentions part

  pub all_mentions : Formulas → List Mention
  all_mentions no_formula = []
  all_mentions (more_formulas first rest) = mentions first ++ all_mentions rest

-- the objects that a literal of an effect names; it does not use its predicate
abbrev pub literal_mentions : EffectLiteral → List Mention
literal_mentions (add a) = terms_mentions a.terms
literal_mentions (delete a) = terms_mentions a.terms

-- the mentions in an effect, its parts and its conditions
abbrev mutual
  pub effect_mentions : Effect → List Mention
  effect_mentions (literal l) = literal_mentions l
  effect_mentions (both parts) = effects_mentions parts
  effect_mentions (each types part) = effect_mentions part
  effect_mentions (when condition literals) = mentions condition ++ flat_map literal_mentions literals

  pub effects_mentions : Effects → List Mention
  effects_mentions no_effect = []
  effects_mentions (more_effects first rest) = effect_mentions first ++ effects_mentions rest

abbrev pub increase_mentions : Increase → List Mention
increase_mentions (by_number amount) = []
increase_mentions (by_function f) = terms_mentions f.terms

abbrev pub schema_mentions : Schema → List Mention
schema_mentions s = mentions s.precondition ++ (effect_mentions s.effect ++ increase_mentions s.increase)

abbrev pub is_asking : ℕ → Mention → Bool
is_asking predicate (asked number) = number == predicate
is_asking predicate (named number) = false

abbrev pub is_naming : ℕ → Mention → Bool
is_naming o (asked number) = false
is_naming o (named number) = number == o
