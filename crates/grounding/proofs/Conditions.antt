-- What a condition decides is whether its formula holds, and its literals are of numbered atoms.
use Rattle.std.proofs.Common.{◌≡◌, ◌∙◌, ℕ, ◌<◌, Bool, true, false, ◌&&◌, List, [], ◌∷◌, length, Option, None, Some, refl, sym, ap, subst, true≢false}
use Rattle.std.specs.List.{All, list_all, filter_map, cons_option}
use Rattle.std.specs.Option.{option_map}
use Rattle.std.proofs.lemmas.Option.{slice_get_within}
use Rattle.std.proofs.lemmas.List.Elements.{All-nil, All-cons}
use Rattle.model.specs.Task.{Task, Atom, Formula}
use Rattle.model.specs.Meaning.{holds}
use Rattle.model.specs.Fluents.{is_fluent}
use Rattle.model.specs.SureLiterals.{Literal, is_true, is_false, are_same, are_different, literal_holds, sure}
use Rattle.model.specs.NumberedAtoms.{occurs_in, number_of, are_distinct}
use Rattle.model.specs.NumberedLiterals.{NumberedLiteral, numbered_literal, numbered_literals, agrees}
use Rattle.model.specs.Grounding.{state_of_bits}
use Rattle.model.proofs.NumberingLemmas.{got-number_of}
use Rattle.model.proofs.SureLiteralsHold.{sure_literals_hold}
use Rattle.grounding.specs.declared.condition.Condition.{Condition}
use Rattle.grounding.specs.Settled.{beyond}
use Rattle.grounding.specs.Unnumbered.{may_hold}
use Rattle.grounding.specs.Conditions.{literals_in, beyond_of, decided_by, may_of, IsConditionOf}
use Rattle.grounding.proofs.SettledLemmas.{beyond-says}
use Rattle.grounding.proofs.PackedTruth.{literals-packed, packed-statics}

-- ---- what is decided

and_true : (agreed : Bool) → (agreed && true) ≡ agreed
and_true true = refl
and_true false = refl

-- Where what is said beyond the literals is so, and where these are true where those with numbers are and the others may be, what
-- is decided is whether the formula holds.
truly : (held all agreed may : Bool) (said : Option Bool) → (held ≡ true → all ≡ true) → ((one : Bool) → said ≡ Some one → held ≡ (one && all)) → all ≡ (agreed && may)
    → (answer : Bool) → decided_by (beyond_of may said) agreed ≡ Some answer → held ≡ answer
truly held all agreed true (Some true) sure says is answer reported = says true refl ∙ is ∙ and_true agreed ∙ (cc)
truly held all agreed true (Some false) sure says is answer reported = says false refl ∙ (cc)
truly true all true true None sure says is answer reported = absurd (cc)
truly false all true true None sure says is answer reported = absurd (cc)
truly true all false true None sure says is answer reported = absurd (true≢false (sym (sure refl) ∙ is))
truly false all false true None sure says is answer reported = cc
truly true all true false said sure says is answer reported = absurd (true≢false (sym (sure refl) ∙ is))
truly true all false false said sure says is answer reported = absurd (true≢false (sym (sure refl) ∙ is))
truly false all agreed false said sure says is answer reported = cc

-- what is asked beyond says whether the literals without numbers may hold
may_beyond : (may : Bool) (said : Option Bool) → may_of (beyond_of may said) ≡ may
may_beyond false said = refl
may_beyond true (Some true) = refl
may_beyond true (Some false) = refl
may_beyond true None = refl

module _ (t : Task) (atoms : List Atom) (distinct : are_distinct atoms ≡ true) (fluent : (q : Atom) → occurs_in atoms q ≡ true → is_fluent t q.predicate ≡ true) (f : Formula) (binding : List ℕ) where
  pub decided-truly : (bits : List Bool) (answer : Bool)
      → decided_by (beyond_of (list_all (may_hold t atoms) (sure t f binding)) (beyond t binding f)) (list_all (agrees bits) (numbered_literals t atoms f binding)) ≡ Some answer
      → holds t f binding (state_of_bits t atoms bits) ≡ answer
  decided-truly bits answer reported =
      let state = state_of_bits t atoms bits in
      truly (holds t f binding state) (list_all (literal_holds state) (sure t f binding)) (list_all (agrees bits) (numbered_literals t atoms f binding))
      (list_all (may_hold t atoms) (sure t f binding)) (beyond t binding f)
      (λ held. sure_literals_hold t f binding state held)
      (beyond-says t state (packed-statics t atoms distinct fluent bits) f binding)
      (literals-packed t atoms distinct fluent bits (sure t f binding))
      answer reported

  -- so is what a condition with these literals decides
  pub condition-of : (c : Condition) → literals_in c ≡ numbered_literals t atoms f binding → c.beyond ≡ beyond_of (list_all (may_hold t atoms) (sure t f binding)) (beyond t binding f)
      → IsConditionOf t atoms f binding c
  condition-of c literals asked = record {
    literals = literals;
    may = ap may_of asked ∙ may_beyond (list_all (may_hold t atoms) (sure t f binding)) (beyond t binding f);
    decided = λ bits answer long reported.
        decided-truly bits answer (sym (λ i. decided_by (asked i) (list_all (agrees bits) (literals i))) ∙ reported);
  }

-- ---- numbers below the width

numbered-below : (atoms : List Atom) (l : Literal) (n : NumberedLiteral) → numbered_literal atoms l ≡ Some n → n.atom < length atoms
numbered-below atoms (is_true a) n is =
    elim (number_of atoms a) as (λ o. number_of atoms a ≡ o → option_map (λ (number : ℕ). record { atom = number; value = true }) o ≡ Some n → n.atom < length atoms) [
      | None ↦ λ _ none. absurd (cc)
      | Some k ↦ λ at some.
          let same : record { atom = k; value = true } ≡ n = cc in
          subst (λ (m : NumberedLiteral). m.atom < length atoms) same (slice_get_within atoms k a (got-number_of atoms a k at))
    ] refl is
numbered-below atoms (is_false a) n is =
    elim (number_of atoms a) as (λ o. number_of atoms a ≡ o → option_map (λ (number : ℕ). record { atom = number; value = false }) o ≡ Some n → n.atom < length atoms) [
      | None ↦ λ _ none. absurd (cc)
      | Some k ↦ λ at some.
          let same : record { atom = k; value = false } ≡ n = cc in
          subst (λ (m : NumberedLiteral). m.atom < length atoms) same (slice_get_within atoms k a (got-number_of atoms a k at))
    ] refl is
numbered-below atoms (are_same a b) n none = absurd (cc)
numbered-below atoms (are_different a b) n none = absurd (cc)

all-below : (atoms : List Atom) (width : ℕ) → width ≡ length atoms → (ls : List Literal) → All (λ (l : NumberedLiteral). l.atom < width) (filter_map (numbered_literal atoms) ls)
all-below atoms width long [] = All-nil (λ (m : NumberedLiteral). m.atom < width)
all-below atoms width long (l ∷ ls) =
    elim (numbered_literal atoms l) as (λ o. numbered_literal atoms l ≡ o → All (λ (m : NumberedLiteral). m.atom < width) (cons_option o (filter_map (numbered_literal atoms) ls))) [
      | None ↦ λ _. all-below atoms width long ls
      | Some n ↦ λ is. All-cons (λ (m : NumberedLiteral). m.atom < width) n (filter_map (numbered_literal atoms) ls) (subst (λ w. n.atom < w) (sym long) (numbered-below atoms l n is)) (all-below atoms width long ls)
    ] refl

-- the literals of a condition are of bits that a packed state has
pub literals-below : (t : Task) (atoms : List Atom) (formula : Formula) (binding : List ℕ) (c : Condition) → IsConditionOf t atoms formula binding c
    → (bits : List Bool) → length bits ≡ length atoms → All (λ (l : NumberedLiteral). l.atom < length bits) (literals_in c)
literals-below t atoms formula binding c is bits long =
    subst (All (λ (l : NumberedLiteral). l.atom < length bits)) (sym is.literals) (all-below atoms (length bits) long (sure t formula binding))

-- and of numbered atoms
pub literals-within : (t : Task) (atoms : List Atom) (formula : Formula) (binding : List ℕ) (c : Condition) → IsConditionOf t atoms formula binding c
    → All (λ (l : NumberedLiteral). l.atom < length atoms) (literals_in c)
literals-within t atoms formula binding c is =
    subst (All (λ (l : NumberedLiteral). l.atom < length atoms)) (sym is.literals) (all-below atoms (length atoms) refl (sure t formula binding))
