-- States that are listed, and states that occurred before.
use Rattle.std.proofs.Common.{◌≡◌, ℕ, Bool, true, List, [], ◌∷◌, ◌++◌, map, Some, refl, sym, ap, ◌∙◌, subst}
use Rattle.std.specs.Prelude.{◌&&◌, All, Contains, OnOk, Result, Ok, Err}
use Rattle.std.specs.List.{list_all}
use Rattle.std.proofs.lemmas.List.{map-append}
use Rattle.std.proofs.lemmas.List.Elements.{All-push, filter_map-append}
use Rattle.std.proofs.lemmas.List.Folds.{list_all-append}
use Rattle.packed_state.specs.Sets.{set_of}
use Rattle.model.specs.Task.{Task}
use Rattle.model.specs.Claims.{Claim, none}
use Rattle.certificate_definitions.specs.Certificates.{StateLine, rise}
use Rattle.model.proofs.ListLemmas.{Contains-filter_map, filter_map-Contains, Contains-map, Contains-place, map-Contains}
use Rattle.model.proofs.Tests.{passes_got}
use Rattle.certificate_definitions.specs.CertificateText.{TextLine, version, claims, constant, swapped, atom, part, listed, last}
use Rattle.certificate_definitions.specs.CertificateChecking.{IsCut, IsWrongAfter, ListsAtoms, not_of_scope, repeated_row, not_fluent, repeated_atom, repeated_state, cut_not_allowed}
use Rattle.certificate.specs.ListedSets.{Marked, marked}
use Rattle.cert_checker.specs.Given.{Heading, HaveGiven, state_in, states_given}
use Rattle.cert_checker.specs.Listed.{HaveListed}
use Rattle.certificate.proofs.SetsLemmas.{one_set}
use Rattle.cert_checker.proofs.GivenLemmas.{reported_else}

-- two clauses of a call combined
pub both_reported : {T E A B C : Type 0} (r : Result T E) → (A → B → C) → OnOk r A → OnOk r B → OnOk r C
both_reported (Ok x) joined a b = joined a b
both_reported (Err e) joined a b = tt

-- a listed state is in the lines, and a state in the lines is listed
reported_state : (lines : List TextLine) (l : StateLine) → Contains (states_given lines) l → Contains lines (listed l)
reported_state lines l reported = let (line, there, is) = filter_map-Contains state_in lines l reported in subst (Contains lines) (line_is line is) there
  where
    line_is : (line : TextLine) → state_in line ≡ Some l → line ≡ listed l
    line_is (version v) is = absurd (cc is)
    line_is (claims claim) is = absurd (cc is)
    line_is (constant k) is = absurd (cc is)
    line_is (swapped names) is = absurd (cc is)
    line_is (atom a) is = absurd (cc is)
    line_is (part p) is = absurd (cc is)
    line_is (listed m) is = let same : m ≡ l = cc in ap (λ l. listed l) same
    line_is (last count) is = absurd (cc is)

state_reported : (lines : List TextLine) (l : StateLine) → Contains lines (listed l) → Contains (states_given lines) l
state_reported lines l there = Contains-filter_map state_in lines (listed l) l there refl

module _ (before : List TextLine) (claim : Claim) (width : ℕ) (marks : List Marked) (sets : List (List Bool)) (have : HaveListed before claim width marks sets) (l : StateLine)
    (rising : rise width 0 l.atoms ≡ true) where
  rises_there : (m : StateLine) → Contains (states_given before) m → rise width 0 m.atoms ≡ true
  rises_there m occurs =
      let (place, at) = Contains-place (states_given before) m occurs in passes_got (λ (l : StateLine). rise width 0 l.atoms) (states_given before) place m at have.rising

  -- its set is among the sets exactly if a line lists its atoms
  pub set_was_listed : Contains sets (set_of width l.atoms) → ListsAtoms before l.atoms
  set_was_listed there =
      let (m, occurs, same) = map-Contains (λ (l : StateLine). set_of width l.atoms) (states_given before) (set_of width l.atoms) (subst (λ sets. Contains sets (set_of width l.atoms)) have.sets_are there) in
      (m, reported_state before m occurs, one_set width m.atoms l.atoms (rises_there m occurs) rising same)

  pub set_is_listed : ListsAtoms before l.atoms → Contains sets (set_of width l.atoms)
  set_is_listed (m, occurs, same) =
      subst (λ sets. Contains sets (set_of width l.atoms)) (sym have.sets_are)
      (subst (λ atoms. Contains (map (λ (l : StateLine). set_of width l.atoms) (states_given before)) (set_of width atoms)) same
      (Contains-map (λ (l : StateLine). set_of width l.atoms) (states_given before) m (state_reported before m occurs)))

  -- one more
  pub listed_more : ((claim ≡ none) × IsCut l.mark → ⊥) → (more_marks : List Marked) (more_sets : List (List Bool)) → more_marks ≡ marks ++ marked l ∷ [] → more_sets ≡ sets ++ set_of width l.atoms ∷ []
      → HaveListed (before ++ listed l ∷ []) claim width more_marks more_sets
  listed_more allowed more_marks more_sets marks_more sets_more =
      let states : states_given (before ++ listed l ∷ []) ≡ states_given before ++ l ∷ [] = filter_map-append state_in before (listed l ∷ []) in
      record {
        rising = ap (list_all (λ (l : StateLine). rise width 0 l.atoms)) states
            ∙ list_all-append (λ (l : StateLine). rise width 0 l.atoms) (states_given before) (l ∷ []) ∙ (λ i. have.rising i && (rising i && true));
        marks_are = marks_more ∙ ap (λ marks. marks ++ marked l ∷ []) have.marks_are ∙ sym (map-append marked (states_given before) (l ∷ [])) ∙ ap (map marked) (sym states);
        allowed = λ is_none. subst (All (λ (l : StateLine). ¬ IsCut l.mark)) (sym states) (All-push (λ (l : StateLine). ¬ IsCut l.mark) (states_given before) l (have.allowed is_none) (λ cut. allowed (is_none, cut)));
        sets_are = sets_more ∙ ap (λ sets. sets ++ set_of width l.atoms ∷ []) have.sets_are ∙ sym (map-append (λ (l : StateLine). set_of width l.atoms) (states_given before) (l ∷ []))
            ∙ ap (map (λ (l : StateLine). set_of width l.atoms)) (sym states);
      }

  module _ (task : Task) (heading : Heading) (claim_is : heading.claim ≡ claim) (reported : HaveGiven task before heading) where
    -- the line is right if its set is new, and it is not a forbidden cut
    right_state : (Contains sets (set_of width l.atoms) → ⊥) → ((claim ≡ none) × IsCut l.mark → ⊥) → (line : TextLine) (number : ℕ) → IsWrongAfter task before line number → line ≡ listed l → ⊥
    right_state new allowed line number (not_fluent b none_is) same = absurd (cc same)
    right_state new allowed line number (not_of_scope r atoms rows here no_scope) same = absurd (cc same)
    right_state new allowed line number (repeated_row r atoms rows here of_scope there) same = absurd (cc same)
    right_state new allowed line number (repeated_atom b is there) same = absurd (cc same)
    right_state new allowed line number (repeated_state m there) same =
        let is : m ≡ l = cc in new (set_is_listed (subst (λ (m : StateLine). ListsAtoms before m.atoms) is there))
    right_state new allowed line number (cut_not_allowed m first cut there) same =
        let is : m ≡ l = cc in allowed (sym claim_is ∙ reported.one_claim none there, subst (λ (m : StateLine). IsCut m.mark) is cut)

    pub state_reported_more : (Contains sets (set_of width l.atoms) → ⊥) → ((claim ≡ none) × IsCut l.mark → ⊥) → HaveGiven task (before ++ listed l ∷ []) heading
    state_reported_more new allowed =
        reported_else task before heading reported (listed l) (λ v same. cc same) (λ d same. cc same) (λ k same. cc same) refl refl refl (λ number wrong. right_state new allowed (listed l) number wrong refl)

    pub state_again : Contains sets (set_of width l.atoms) → IsWrongAfter task before (listed l) 44
    state_again there = repeated_state l (set_was_listed there)

    pub cut_is_wrong : (Contains sets (set_of width l.atoms) → ⊥) → (claim ≡ none) × IsCut l.mark → IsWrongAfter task before (listed l) 52
    cut_is_wrong new (is_none, cut) = cut_not_allowed l (λ listed. new (set_is_listed listed)) cut (reported.none_occurs (claim_is ∙ is_none))
