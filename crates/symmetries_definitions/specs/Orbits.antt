-- States that symmetries map to each other are in the same orbit, and are looked up by a representative, a canonical state (orbit
-- space search: Emerson & Sistla 1996; Pochter, Zohar & Rosenschein 2011; Domshlak, Katz & Shleyfman 2015).
use Rattle.std.specs.Prelude.{◌≡◌, ℕ, zero, suc, ◌+◌, ◌*◌, Bool, false, List, [], ◌∷◌, length, map, if◌then◌else◌, Option, Some}
use Rattle.std.specs.Bool.{beq}
use Rattle.std.specs.List.{list_all, find}
use Rattle.std.specs.Option.{option_map, option_map_or}
use Rattle.std.specs.FinSet.{contains}
use Rattle.model.specs.Task.{Atom, Task}
use Rattle.model.specs.Runs.{System}
use Rattle.model.specs.Meaning.{State}
use Rattle.model.specs.NumberedAtoms.{occurs_in}
use Rattle.model.specs.Grounding.{state_of_bits, bits_of_state}
use Rattle.symmetries_definitions.specs.Exchanges.{Exchange, image_of_object, image_of_atom, image_of_state}

-- ---- for any transition system

-- the mapping is onto and one-to-one
abbrev pub IsBijection : {X : Type 0} → (X → X) → Type 0
IsBijection {X} to = (back : X → X) × ((x : X) → back (to x) ≡ x) × ((x : X) → to (back x) ≡ x)

-- An automorphism: bijections of the states and of the actions that map steps to steps of the same cost, and goal states to goal
-- states.
pub record IsAutomorphism {S A : Type 0} (t : System S A) (states : S → S) (actions : A → A) : Type 0 where
  pub permutes_states : IsBijection states
  pub permutes_actions : IsBijection actions
  pub steps : (s : S) (a : A) → t.step (states s) (actions a) ≡ option_map states (t.step s a)
  pub costs : (s next : S) (a : A) → t.step s a ≡ Some next → t.cost (actions a) ≡ t.cost a
  pub goals : (s : S) → t.meets_goal (states s) ≡ t.meets_goal s

-- some automorphism maps one state to the other
abbrev pub AreOfOneOrbit : {S A : Type 0} → System S A → S → S → Type 0
AreOfOneOrbit {S} {A} t s r = (states : S → S) × (actions : A → A) × IsAutomorphism t states actions × (states s ≡ r)

-- ---- for a task

-- The first of these atoms on which the states differ is true in the first state.
abbrev pub comes_before : List Atom → State → State → Bool
comes_before [] s t = false
comes_before (a ∷ atoms) s t = if beq (contains s a) (contains t a) then comes_before atoms s t else contains s a

-- the image of the state under the first of the exchanges whose image comes before it
abbrev pub image_before : List Atom → List Exchange → State → Option State
image_before atoms exchanges s = find (λ image. comes_before atoms image s) (map (λ exchange. image_of_state (image_of_object exchange) s) exchanges)

-- up to this many such images, each replacing the one before
abbrev pub with_images : List Atom → List Exchange → ℕ → State → State
with_images atoms exchanges zero s = s
with_images atoms exchanges (suc n) s = option_map_or (with_images atoms exchanges n) (image_before atoms exchanges s) s

-- The maximum number of images: (n + 1)^2 for n exchanges. Exchanges of neighbours sort n + 1 interchangeable objects in n * (n +
-- 1) / 2 of them.
abbrev pub most_images : List Exchange → ℕ
most_images exchanges = (length exchanges + 1) * (length exchanges + 1)

-- The representative of a state, a canonical state found greedily (Pochter, Zohar & Rosenschein 2011): as long as some image
-- comes before it, the first such image replaces it, until there is none or the limit is reached. It is a function of the state;
-- states of the same orbit may have different ones.
abbrev pub representative : List Atom → List Exchange → State → State
representative atoms exchanges = with_images atoms exchanges (most_images exchanges)

-- the states have the same representative
abbrev pub AreAlike : List Atom → List Exchange → State → State → Type 0
AreAlike atoms exchanges s r = representative atoms exchanges s ≡ representative atoms exchanges r

-- ---- for a ground task

-- the image of each of these atoms is one of them
abbrev pub keeps_atoms : List Atom → Exchange → Bool
keeps_atoms atoms exchange = list_all (λ (a : Atom). occurs_in atoms (image_of_atom (image_of_object exchange) a)) atoms

-- the packed state of the representative
abbrev pub packed_representative : Task → List Atom → List Exchange → List Bool → List Bool
packed_representative task atoms exchanges bits = bits_of_state atoms (representative atoms exchanges (state_of_bits task atoms bits))

-- the packed states have the same representative
abbrev pub ArePackedAlike : Task → List Atom → List Exchange → List Bool → List Bool → Type 0
ArePackedAlike task atoms exchanges bits other = packed_representative task atoms exchanges bits ≡ packed_representative task atoms exchanges other
