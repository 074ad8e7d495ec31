-- What the literals of a goal say of each atom, literal by literal.
use Rattle.std.proofs.Common.{◌≡◌, ◌∙◌, ℕ, ◌<◌, ◌≤◌, inl, inr, Bool, true, false, ◌||◌, ◌&&◌, ◌==◌, List, [], ◌∷◌, ◌++◌, length, length-set, get_or, set, replicate, refl, sym, ap, subst, arith, ℤ, pos}
use Rattle.std.specs.Prelude.{if◌then◌else◌}
use Rattle.std.specs.Bool.{beq}
use Rattle.std.specs.Int.{int_max}
use Rattle.std.proofs.lemmas.Bool.{cases_eq, eq-eqb, ne_eqb}
use Rattle.std.proofs.lemmas.List.{length-replicate, get_or-set_same, get_or-set_other, get_or-replicate}
use Rattle.std.proofs.lemmas.List.Folds.{list_any-append}
use Rattle.model.specs.NumberedLiterals.{NumberedLiteral}
use Rattle.lower_bounds.specs.PotentialFunctions.{weight}
use Rattle.lower_bounds.specs.FairPotentials.{says, goal_gives}
use Rattle.potentials.specs.declared.said.Said.{Said}
use Rattle.potentials.specs.declared.goals.GoalAtoms.{GoalAtoms}
use Rattle.potentials.specs.Said.{IsSaid}
use Rattle.potentials.specs.Goals.{said_of, AreSaid}

abbrev nothing : Said
nothing = record { is_false = false; is_true = false }

or_false : (b : Bool) → (b || false) ≡ b
or_false true = refl
or_false false = refl

says-append : (done : List NumberedLiteral) (l : NumberedLiteral) (n : ℕ) (v : Bool) → says (done ++ l ∷ []) n v ≡ (says done n v || (l.atom == n && beq l.value v))
says-append done l n v =
    list_any-append (λ (k : NumberedLiteral). k.atom == n && beq k.value v) done (l ∷ [])
    ∙ ap (λ b. says done n v || b) (or_false (l.atom == n && beq l.value v))

-- nothing is said by no literal
pub said-none : (count : ℕ) (g : GoalAtoms) → g.said.items ≡ replicate count (record { is_false = false; is_true = false }) → AreSaid [] count g
said-none count g is = record {
  width = ap length is ∙ length-replicate count nothing;
  each = λ n below.
      let here : said_of g n ≡ nothing = ap (λ l. get_or l n nothing) is ∙ get_or-replicate count n nothing nothing below in
      record { is_false = ap (λ (s : Said). s.is_false) here; is_true = ap (λ (s : Said). s.is_true) here };
}

module _ (done : List NumberedLiteral) (l : NumberedLiteral) where
  -- of another atom
  said-other : (n : ℕ) (s : Said) → (l.atom ≡ n → ⊥) → IsSaid done n s → IsSaid (done ++ l ∷ []) n s
  said-other n s other is = record {
    is_false = is.is_false ∙ sym (or_false (says done n false)) ∙ ap (λ b. says done n false || (b && beq l.value false)) (sym (ne_eqb l.atom n other)) ∙ sym (says-append done l n false);
    is_true = is.is_true ∙ sym (or_false (says done n true)) ∙ ap (λ b. says done n true || (b && beq l.value true)) (sym (ne_eqb l.atom n other)) ∙ sym (says-append done l n true);
  }

  -- of its own
  said-own : (s t : Said) → t.is_false ≡ (s.is_false || beq l.value false) → t.is_true ≡ (s.is_true || beq l.value true) → IsSaid done l.atom s → IsSaid (done ++ l ∷ []) l.atom t
  said-own s t falses trues is = record {
    is_false = falses ∙ ap (λ b. b || beq l.value false) is.is_false ∙ ap (λ b. says done l.atom false || (b && beq l.value false)) (sym (eq-eqb l.atom l.atom refl)) ∙ sym (says-append done l l.atom false);
    is_true = trues ∙ ap (λ b. b || beq l.value true) is.is_true ∙ ap (λ b. says done l.atom true || (b && beq l.value true)) (sym (eq-eqb l.atom l.atom refl)) ∙ sym (says-append done l l.atom true);
  }

  -- a literal whose atom has no place
  pub said-past : (old : GoalAtoms) (count : ℕ) → length old.said.items ≤ l.atom → AreSaid done count old → AreSaid (done ++ l ∷ []) count old
  said-past old count past are = record {
    width = are.width;
    each = λ n below. said-other n (said_of old n) (λ same. absurd (omega (arith, past, same, are.width, below))) (are.each n below);
  }

  -- one whose atom has
  pub said-more : (old new : GoalAtoms) (t : Said) (count : ℕ) → l.atom < length old.said.items → new.said.items ≡ set old.said.items l.atom t
      → t.is_false ≡ ((said_of old l.atom).is_false || beq l.value false) → t.is_true ≡ ((said_of old l.atom).is_true || beq l.value true)
      → AreSaid done count old → AreSaid (done ++ l ∷ []) count new
  said-more old new t count within is falses trues are = record {
    width = ap length is ∙ length-set old.said.items l.atom t ∙ are.width;
    each = λ n below. elim (cases_eq n l.atom) [
      | inl same ↦ subst (λ k. IsSaid (done ++ l ∷ []) k (said_of new k)) (sym same)
          (subst (IsSaid (done ++ l ∷ []) l.atom) (sym (ap (λ x. get_or x l.atom nothing) is ∙ get_or-set_same old.said.items l.atom t nothing within))
          (said-own (said_of old l.atom) t falses trues (are.each l.atom (omega (arith, within, are.width)))))
      | inr other ↦ subst (IsSaid (done ++ l ∷ []) n) (sym (ap (λ x. get_or x n nothing) is ∙ get_or-set_other old.said.items l.atom n t nothing other))
          (said-other n (said_of old n) (λ same. other (sym same)) (are.each n below))
    ];
  }

-- what the code computes of an atom
pub gives-is : (literals : List NumberedLiteral) (weights : List ℤ) (n : ℕ) (s : Said) (w v x : ℤ) → IsSaid literals n s → w ≡ weight weights n → v ≡ w
    → x ≡ (if s.is_false then pos 0 else if s.is_true then v else int_max (pos 0) v) → x ≡ goal_gives literals weights n
gives-is literals weights n s w v x is weighs same gives =
    gives
    ∙ ap (λ b. if b then pos 0 else if s.is_true then v else int_max (pos 0) v) is.is_false
    ∙ ap (λ b. if says literals n false then pos 0 else if b then v else int_max (pos 0) v) is.is_true
    ∙ ap (λ z. if says literals n false then pos 0 else if says literals n true then z else int_max (pos 0) z) (same ∙ weighs)
