-- What is reported for a whole line at a stage is the fault of the text there.
use Rattle.std.proofs.Common.{◌≡◌, ◌≢◌, ℕ, List, [], ◌∷◌, ◌++◌, codes, Option, None, Some, sym, ap, ◌∙◌, subst}
use Rattle.std.specs.Prelude.{IsTrue}
use Rattle.std.specs.Option.{option_and_then}
use Rattle.std.specs.Fmt.{decimal}
use Rattle.certificate_definitions.specs.Certificates.{is_number}
use Rattle.certificate_definitions.specs.CertificateText.{TextLine, version, claims, constant, swapped, atom, part, listed, last, is_line, line_text, MayFollow, IsOtherVersion, IsOneTooMany, HasLine, IsFaultAfter, other_version, malformed, too_many}
use Rattle.certificate_definitions.specs.CertificateMachine.{CertificatePlace, at_version, at_claim, at_constant, in_body, ended, format_at, next_place, place_from, place_after}
use Rattle.certificate_definitions.proofs.Machine.{ComesBefore, occurs, followed, place_same}
use Rattle.certificate_definitions.proofs.TooMany.{IsTooManyAt, a_swap, an_atom, a_part, a_state, too_many_at, too_many_of}
use Rattle.certificate_reader.specs.Stages.{IsOver}

-- ---- limits, in both formulations

over_is : (place : CertificatePlace) (line : TextLine) (bytes : List ℕ) → IsTrue (is_line (format_at place) line) → IsOver place line → line_text line ≡ bytes → IsTooManyAt place bytes
over_is (in_body b) (swapped names) bytes is (no_atom, none_yet, empty, full) same = a_swap names no_atom none_yet empty full is (sym same)
over_is (in_body b) (atom a) bytes is (none_yet, empty, full) same = an_atom a none_yet empty full is (sym same)
over_is (in_body b) (listed l) bytes is (given, full) same = a_state l full given is (sym same)
over_is (in_body b) (part p) bytes is (empty, follows, full) same = a_part p empty follows full is (sym same)
over_is (in_body b) (version w) bytes is over same = absurd over
over_is (in_body b) (claims claim) bytes is over same = absurd over
over_is (in_body b) (constant k) bytes is over same = absurd over
over_is (in_body b) (last count) bytes is over same = absurd over
over_is at_version line bytes is over same = absurd over
over_is (at_claim v) line bytes is over same = absurd over
over_is (at_constant v) line bytes is over same = absurd over
over_is ended line bytes is over same = absurd over

over_of : (place : CertificatePlace) (bytes : List ℕ) → IsTooManyAt place bytes → (line : TextLine) × IsTrue (is_line (format_at place) line) × IsOver place line × (line_text line ≡ bytes)
over_of (in_body b) bytes (a_swap names no_atom none_yet empty full is same) = (swapped names, is, (no_atom, none_yet, empty, full), sym same)
over_of (in_body b) bytes (an_atom a none_yet empty full is same) = (atom a, is, (none_yet, empty, full), sym same)
over_of (in_body b) bytes (a_part p empty follows full is same) = (part p, is, (empty, follows, full), sym same)
over_of (in_body b) bytes (a_state l full given is same) = (listed l, is, (given, full), sym same)
over_of at_version bytes over = absurd over
over_of (at_claim v) bytes over = absurd over
over_of (at_constant v) bytes over = absurd over
over_of ended bytes over = absurd over

-- ---- the faults

module _ (before : List TextLine) (place : CertificatePlace) (leads : place_after before ≡ Some place) (text line : List ℕ) (has : HasLine text line) where
  nothing_before : place ≡ at_version → before ≡ []
  nothing_before at = subst (λ place. ComesBefore place before) at (occurs before place leads)

  pub reported_other_version : place ≡ at_version → (number : ℕ) × IsTrue (is_number number) × (number ≢ 1) × (number ≢ 2) × (number ≢ 3) × (number ≢ 4) × (codes "pddl-cert " ++ decimal number ≡ line)
      → IsFaultAfter before text 41
  reported_other_version at (number, is, not_one, not_two, not_three, not_four, same) = other_version line has (nothing_before at, number, is, not_one, not_two, not_three, not_four, sym same)

  pub reported_too_many : (over : TextLine) → IsTrue (is_line (format_at place) over) → IsOver place over → line_text over ≡ line → IsFaultAfter before text 55
  reported_too_many over is limit same = too_many line has (too_many_of before line place (occurs before place leads) (over_is place over line is limit same))

  pub reported_malformed : ((other : TextLine) (next : CertificatePlace) → next_place place other ≡ Some next → line_text other ≢ line)
      → ((other : TextLine) → IsTrue (is_line (format_at place) other) → IsOver place other → line_text other ≢ line)
      → (place ≡ at_version → (number : ℕ) → IsTrue (is_number number) → number ≢ 1 → number ≢ 2 → number ≢ 3 → number ≢ 4 → codes "pddl-cert " ++ decimal number ≢ line)
      → IsFaultAfter before text 40
  reported_malformed nowhere within other = malformed line has no_line no_version not_over
    where
      no_line : MayFollow before line → ⊥
      no_line (l, begun, same) = let (next, is) = followed before place leads l begun in nowhere l next is same

      no_version : IsOtherVersion before line → ⊥
      no_version (empty, number, is, not_one, not_two, not_three, not_four, same) =
          other (place_same place at_version (sym leads ∙ ap place_after empty)) number is not_one not_two not_three not_four (sym same)

      not_over : IsOneTooMany before line → ⊥
      not_over over = let (l, is, limit, same) = over_of place line (too_many_at before place leads line over) in within l is limit same

-- the stage after one more line
line_after : (lines : List TextLine) (from place next : CertificatePlace) (line : TextLine) → place_from from lines ≡ Some place → next_place place line ≡ Some next
    → place_from from (lines ++ line ∷ []) ≡ Some next
line_after [] from place next line leads is =
    ap (option_and_then (λ next. place_from next [])) (ap (λ place. next_place place line) (place_same from place leads) ∙ is)
line_after (first ∷ lines) from place next line leads is =
    by_next (λ then more. line_after lines then place next line more is) (next_place from first) leads
  where
    by_next : ((then : CertificatePlace) → place_from then lines ≡ Some place → place_from then (lines ++ line ∷ []) ≡ Some next)
        → (then : Option CertificatePlace) → option_and_then (λ next. place_from next lines) then ≡ Some place → option_and_then (λ next. place_from next (lines ++ line ∷ [])) then ≡ Some next
    by_next more None leads = absurd (cc leads)
    by_next more (Some then) leads = more then leads

pub one_line_after : (before : List TextLine) (place next : CertificatePlace) (line : TextLine) → place_after before ≡ Some place → next_place place line ≡ Some next
    → place_after (before ++ line ∷ []) ≡ Some next
one_line_after before place next line leads is = line_after before at_version place next line leads is
