-- Lines beyond a limit, by the state in which they occur.
use Rattle.std.proofs.Common.{◌≡◌, ℕ, false, List, length, sym, ap, ◌∙◌, subst, Some}
use Rattle.std.specs.Prelude.{IsTrue}
use Rattle.certificate_definitions.specs.Certificates.{StateLine, has_basis}
use Rattle.certificate_definitions.specs.Parts.{Part, no_parts, how_many, counts_after, may_follow, has_room}
use Rattle.certificate_definitions.specs.CertificateText.{WeightedAtom, TextLine, swapped, atom, part, listed, is_line, line_text, most_swaps, most_atoms, most_states, IsOneTooMany, swaps, atoms, parts, states, Beginning, head_lines}
use Rattle.certificate_definitions.specs.CertificateMachine.{Body, CertificatePlace, at_version, at_claim, at_constant, in_body, ended, place_after}
use Rattle.certificate_definitions.proofs.Beginnings.{no_beginning_is_whole, one_beginning}
use Rattle.certificate_definitions.proofs.Machine.{ComesBefore, Keeps, body_of, no_atoms, no_states, occurs}
use Rattle.certificate_definitions.proofs.PartLemmas.{none_yet}

-- The bytes are a line that is not allowed in this body only because of a limit.
pub data IsOverIn (b : Body) (bytes : List ℕ) : Type 0 where
  a_swap : (names : List (List ℕ)) → b.format.atoms ≡ 0 → how_many b.parts ≡ 0 → b.states ≡ 0 → b.swaps ≡ most_swaps → IsTrue (is_line b.format (swapped names)) → bytes ≡ line_text (swapped names)
      → IsOverIn b bytes
  an_atom : (a : WeightedAtom) → how_many b.parts ≡ 0 → b.states ≡ 0 → b.format.atoms ≡ most_atoms → IsTrue (is_line b.format (atom a)) → bytes ≡ line_text (atom a) → IsOverIn b bytes
  a_part : (p : Part) → b.states ≡ 0 → IsTrue (may_follow b.parts p) → has_room b.parts p ≡ false → IsTrue (is_line b.format (part p)) → bytes ≡ line_text (part p) → IsOverIn b bytes
  a_state : (l : StateLine) → b.states ≡ most_states → IsTrue (has_basis b.parts.values l.mark) → IsTrue (is_line b.format (listed l)) → bytes ≡ line_text (listed l) → IsOverIn b bytes

abbrev pub IsTooManyAt : CertificatePlace → List ℕ → Type 0
IsTooManyAt (in_body b) bytes = IsOverIn b bytes
IsTooManyAt at_version bytes = ⊥
IsTooManyAt (at_claim v) bytes = ⊥
IsTooManyAt (at_constant v) bytes = ⊥
IsTooManyAt ended bytes = ⊥

-- the state after the first lines is in the body
place_past : (g : Beginning) (place : CertificatePlace) → ComesBefore place (head_lines g) → place ≡ in_body (body_of g)
place_past g at_version occurs = absurd (cc occurs)
place_past g (at_claim w) occurs = absurd (cc occurs)
place_past g (at_constant w) (other, is, are) = absurd (cc are)
place_past g (in_body b) body = ap in_body (sym body.body_is ∙ ap body_of (sym (one_beginning g body.beginning body.lines_are)))
place_past g ended (c, keeps, are) = absurd (no_beginning_is_whole c g are)

-- ---- the limit, by state

over_in : (bytes : List ℕ) (before : List TextLine) → (over : IsOneTooMany before bytes) → (g : Beginning) × (before ≡ head_lines g) × (Keeps g → IsOverIn (body_of g) bytes)
over_in bytes before (swaps g names are no_atom none_before no_state full is same) = (g, are, λ keeps. a_swap names (ap length no_atom) (ap (λ parts. how_many (counts_after no_parts parts)) none_before) (ap length no_state) full is same)
over_in bytes before (atoms g a are none_before no_state full is same) = (g, are, λ keeps. an_atom a (ap (λ parts. how_many (counts_after no_parts parts)) none_before) (ap length no_state) full is same)
over_in bytes before (parts g p are no_state follows full is same) = (g, are, λ keeps. a_part p (ap length no_state) follows full is same)
over_in bytes before (states g l are full given is same) = (g, are, λ keeps. a_state l full given is same)

-- the first lines before a state are within the limits
kept : (g : Beginning) (place : CertificatePlace) → ComesBefore place (head_lines g) → Keeps g
kept g at_version occurs = absurd (cc occurs)
kept g (at_claim w) occurs = absurd (cc occurs)
kept g (at_constant w) (other, is, are) = absurd (cc are)
kept g (in_body b) body = subst Keeps (sym (one_beginning g body.beginning body.lines_are)) body.keeps
kept g ended (c, keeps, are) = absurd (no_beginning_is_whole c g are)

module _ (before : List TextLine) (place : CertificatePlace) (leads : place_after before ≡ Some place) (bytes : List ℕ) where
  pub too_many_at : IsOneTooMany before bytes → IsTooManyAt place bytes
  too_many_at over =
      let (g, are, is) = over_in bytes before over in
      let comes : ComesBefore place (head_lines g) = subst (ComesBefore place) are (occurs before place leads) in
      subst (λ place. IsTooManyAt place bytes) (sym (place_past g place comes)) (is (kept g place comes))

of_over : (g : Beginning) → Keeps g → (before : List TextLine) (bytes : List ℕ) → before ≡ head_lines g → IsOverIn (body_of g) bytes → IsOneTooMany before bytes
of_over g keeps before bytes are (a_swap names no_atom none_before no_state full is same) =
    swaps g names are (no_atoms g.atoms no_atom) (none_yet g.parts none_before) (no_states g.states no_state) full is same
of_over g keeps before bytes are (an_atom a none_before no_state full is same) = atoms g a are (none_yet g.parts none_before) (no_states g.states no_state) full is same
of_over g keeps before bytes are (a_part p no_state follows full is same) = parts g p are (no_states g.states no_state) follows full is same
of_over g keeps before bytes are (a_state l full given is same) = states g l are full given is same

pub too_many_of : (before : List TextLine) (bytes : List ℕ) (place : CertificatePlace) → ComesBefore place before → IsTooManyAt place bytes → IsOneTooMany before bytes
too_many_of before bytes at_version occurs over = absurd over
too_many_of before bytes (at_claim v) occurs over = absurd over
too_many_of before bytes (at_constant v) occurs over = absurd over
too_many_of before bytes ended occurs over = absurd over
too_many_of before bytes (in_body b) body over =
    of_over body.beginning body.keeps before bytes body.lines_are (subst (λ b. IsOverIn b bytes) (sym body.body_is) over)
