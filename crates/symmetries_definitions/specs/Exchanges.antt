-- Exchanges of objects (products of disjoint transpositions), and the images of the parts of a task under them (the symmetries of
-- a planning task that permute its objects; Pochter, Zohar & Rosenschein 2011; Domshlak, Katz & Shleyfman 2015).
use Rattle.std.specs.Prelude.{ℕ, Bool, true, not, ◌&&◌, ◌==◌, List, [], ◌∷◌, map, if◌then◌else◌}
use Rattle.std.specs.List.{list_any, flat_map}
use Rattle.std.specs.FinSet.{from_list, items}
use Rattle.model.specs.Task.{Atom, LiftedAtom, Term, variable, object, Formula, Formulas, atom, equal, and, or, imply, exists, forall, no_formula, more_formulas, EffectLiteral, add, delete, Effect, Effects, literal, both, each, when, no_effect, more_effects, Increase, by_number, by_function, Instance}
use Rattle.model.specs.Task as task
use Rattle.model.specs.Meaning.{State}

-- ---- exchanges

-- The two objects of each pair are swapped, and all other objects stay in place.
abbrev pub Exchange : Type 0
Exchange = List (ℕ × ℕ)

-- the image of an object
abbrev pub image_of_object : Exchange → ℕ → ℕ
image_of_object [] o = o
image_of_object (pair ∷ rest) o = if pair.0 == o then pair.1 else if pair.1 == o then pair.0 else image_of_object rest o

-- the objects of the pairs
abbrev pub objects_in : Exchange → List ℕ
objects_in exchange = flat_map (λ (pair : ℕ × ℕ). pair.0 ∷ pair.1 ∷ []) exchange

-- no number is repeated
abbrev pub are_different : List ℕ → Bool
are_different [] = true
are_different (n ∷ rest) = not (list_any (λ other. other == n) rest) && are_different rest

-- ---- images under a mapping of objects

-- of a binding of variables
abbrev pub image_of_binding : (ℕ → ℕ) → List ℕ → List ℕ
image_of_binding to binding = map to binding

abbrev pub image_of_atom : (ℕ → ℕ) → Atom → Atom
image_of_atom to a = record { predicate = a.predicate; objects = map to a.objects }

-- the state in which the images of the atoms are true
abbrev pub image_of_state : (ℕ → ℕ) → State → State
image_of_state to state = from_list (map (image_of_atom to) (items state))

abbrev pub image_of_instance : (ℕ → ℕ) → Instance → Instance
image_of_instance to i = record { schema = i.schema; objects = image_of_binding to i.objects }

-- The image of a formula or an effect replaces the objects that it names.
abbrev pub image_of_term : (ℕ → ℕ) → Term → Term
image_of_term to (variable number) = variable number
image_of_term to (object number) = object (to number)

abbrev pub image_of_lifted : (ℕ → ℕ) → LiftedAtom → LiftedAtom
image_of_lifted to a = record { predicate = a.predicate; terms = map (image_of_term to) a.terms }

abbrev mutual
  pub image_of_formula : (ℕ → ℕ) → Formula → Formula
  image_of_formula to (atom a) = atom (image_of_lifted to a)
  image_of_formula to (equal t u) = equal (image_of_term to t) (image_of_term to u)
  image_of_formula to (and parts) = and (image_of_formulas to parts)
  image_of_formula to (or parts) = or (image_of_formulas to parts)
  image_of_formula to (task.not part) = task.not (image_of_formula to part)
  image_of_formula to (imply premise conclusion) = imply (image_of_formula to premise) (image_of_formula to conclusion)
  image_of_formula to (exists types part) = exists types (image_of_formula to part)
  image_of_formula to (forall types part) = forall types (image_of_formula to part)

  pub image_of_formulas : (ℕ → ℕ) → Formulas → Formulas
  image_of_formulas to no_formula = no_formula
  image_of_formulas to (more_formulas first rest) = more_formulas (image_of_formula to first) (image_of_formulas to rest)

abbrev pub image_of_literal : (ℕ → ℕ) → EffectLiteral → EffectLiteral
image_of_literal to (add a) = add (image_of_lifted to a)
image_of_literal to (delete a) = delete (image_of_lifted to a)

abbrev mutual
  pub image_of_effect : (ℕ → ℕ) → Effect → Effect
  image_of_effect to (literal l) = literal (image_of_literal to l)
  image_of_effect to (both parts) = both (image_of_effects to parts)
  image_of_effect to (each types part) = each types (image_of_effect to part)
  image_of_effect to (when condition literals) = when (image_of_formula to condition) (map (image_of_literal to) literals)

  pub image_of_effects : (ℕ → ℕ) → Effects → Effects
  image_of_effects to no_effect = no_effect
  image_of_effects to (more_effects first rest) = more_effects (image_of_effect to first) (image_of_effects to rest)

abbrev pub image_of_increase : (ℕ → ℕ) → Increase → Increase
image_of_increase to (by_number amount) = by_number amount
image_of_increase to (by_function f) = by_function (image_of_lifted to f)
