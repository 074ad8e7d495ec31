-- The packed state of the state that some bits represent: it has the bits of the numbered atoms, however many bits there are.
use Rattle.std.proofs.Common.{◌≡◌, ◌∙◌, ℕ, ◌<◌, ◌≤◌, inl, inr, Bool, true, false, List, [], length, get_or, refl, sym, ap, arith, pos, ◌+ℤ◌}
use Rattle.std.specs.Prelude.{IsTrue, if◌then◌else◌}
use Rattle.std.specs.FinSet.{contains}
use Rattle.std.proofs.lemmas.Bool.{cases_lt}
use Rattle.std.proofs.lemmas.List.{length-map, get_or-map, get_or_past}
use Rattle.std.proofs.lemmas.List.Elements.{All-contains}
use Rattle.std.proofs.lemmas.Option.{slice_get-get_or}
use Rattle.model.specs.Task.{Atom, Task}
use Rattle.model.specs.Fluents.{is_fluent}
use Rattle.model.specs.NumberedAtoms.{occurs_in}
use Rattle.model.specs.Grounding.{state_of_bits, bits_of_state}
use Rattle.model.proofs.NumberingLemmas.{occurs_in-Contains}
use Rattle.model.proofs.PackedStates.{contains-numbered}
use Rattle.lower_bounds.specs.PotentialFunctions.{PotentialFunction, weight, sum_below, given, score}
use Rattle.lower_bounds.specs.PotentialLaws.{AreNumberable}
use Rattle.lower_bounds.proofs.Sums.{sum-alike, sum-past}
use Rattle.lower_bounds.proofs.PotentialFalls.{bit}

abbrev pub repacked : Task → List Atom → List Bool → List Bool
repacked task atoms bits = bits_of_state atoms (state_of_bits task atoms bits)

module _ (task : Task) (atoms : List Atom) (numberable : AreNumberable task atoms) where
  pub numbered-fluent : (q : Atom) → occurs_in atoms q ≡ true → is_fluent task q.predicate ≡ true
  numbered-fluent q there = All-contains (λ (a : Atom). IsTrue (is_fluent task a.predicate)) atoms q numberable.fluent (occurs_in-Contains atoms q there)

  repacked-long : (bits : List Bool) → length (repacked task atoms bits) ≡ length atoms
  repacked-long bits = length-map atoms (contains (state_of_bits task atoms bits))

  pub repacked-bit : (bits : List Bool) (n : ℕ) → n < length atoms → bit (repacked task atoms bits) n ≡ bit bits n
  repacked-bit bits n below =
      let anything : Atom = record { predicate = 0; objects = [] } in
      let a = get_or atoms n anything in
      get_or-map (contains (state_of_bits task atoms bits)) atoms n anything false below
      ∙ contains-numbered (is_fluent task) task.init atoms numberable.distinct bits n a (numberable.fluent n anything below) (slice_get-get_or atoms n anything below)

  module _ (p : PotentialFunction) (width : length p.weights ≤ length atoms) where
    -- bits past the atoms have no weight, and missing ones count as false
    sum-as-many : (bits : List Bool) → sum_below (length bits) (given p.weights bits) ≡ sum_below (length atoms) (given p.weights bits)
    sum-as-many bits =
        elim (cases_lt (length bits) (length atoms)) [
          | inl fewer ↦ sym (sum-past (length bits) (length atoms) (given p.weights bits) (omega arith)
              (λ k past. ap (λ b. if b then weight p.weights k else pos 0) (get_or_past bits k false past)))
          | inr more ↦ sum-past (length atoms) (length bits) (given p.weights bits) more
              (λ k past. ap (λ w. if bit bits k then w else pos 0) (get_or_past p.weights k (pos 0) (omega arith)) ∙ none (bit bits k))
        ]
      where
        none : (b : Bool) → (if b then pos 0 else pos 0) ≡ pos 0
        none true = refl
        none false = refl

    pub repacked-score : (bits : List Bool) → score p (repacked task atoms bits) ≡ score p bits
    repacked-score bits =
        ap (λ z. p.constant +ℤ z)
        (ap (λ n. sum_below n (given p.weights (repacked task atoms bits))) (repacked-long bits)
        ∙ sum-alike (length atoms) (given p.weights (repacked task atoms bits)) (given p.weights bits) (λ k below. ap (λ b. if b then weight p.weights k else pos 0) (repacked-bit bits k below))
        ∙ sym (sum-as-many bits))
