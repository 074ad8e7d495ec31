-- Why a refusal of the checker is the first: what the reading of the lines has found out so far.
use Rattle.std.proofs.Common.{◌≡◌, ℕ, ◌<◌, List, length, map, take, get_or, Option, None, Some, refl, sym, ap, ◌∙◌, subst, arith}
use Rattle.std.specs.Prelude.{All, IsTrue, MatchOption, Result, Ok, Err, IfErr, slice_get}
use Rattle.std.proofs.lemmas.List.Elements.{All-contains}
use Rattle.std.proofs.lemmas.List.{length-take, get_or-take, take-map}
use Rattle.std.proofs.lemmas.Option.{slice_get_within, slice_get-get_or, get_or_from_slice_get}
use Rattle.cert_checker.specs.declared.refusal.Refusal.{Refusal}
use Rattle.cert_checker.specs.declared.refusal.Refusal.TheVariants as refusal
use Rattle.cert_checker.specs.declared.refusal.RefusalCode.{RefusalCode}
use Rattle.cert_checker.specs.Reasons.{reason_of}
use Rattle.cert_checker.specs.CertChecker.{IsFirstRefusal, IsFirstSuccessor, IsFirstToLeave}
use Rattle.cert_checker.specs.FluentAtoms.{AreFluent}
use Rattle.cert_checker.specs.CheckedLines.{AreRowsDistinct, AreSymmetries, CutsAreAllowed, IsLineClosed, IsRightUpTo}
use Rattle.model.specs.Instances.{successors_of}
use Rattle.model.proofs.ListLemmas.{Contains-got}
use Rattle.cert_checker.proofs.CertCheckerLemmas.{AllListed, entry, slice_get-map, got_mapped}
use Rattle.cert_checker.proofs.RefusalsLemmas.{AreApart}
use Rattle.model.specs.Task.{Task, Instance}
use Rattle.model.specs.Meaning.{State, system_of}
use Rattle.model.specs.Limits.{max_numbered_atoms}
use Rattle.model.specs.Grounding.{exceeded_limit}
use Rattle.model.specs.Claims as claims
use Rattle.model.specs.Claims.{none, Line, IsListedWithin}
use Rattle.certificate_definitions.specs.Evidence.{LineMark, expanded, cut, dead, bare}
use Rattle.certificate_definitions.specs.Certificates.{Certificate, StateLine, keeps_limits, lines_of, AreAlikeFor, AreFairFor, AreLandmarksFair, IsClosedFor}
use Rattle.certificate_definitions.specs.CertificateRefusals.{Reason, state_line, IsFirst}
use Rattle.certificate_definitions.specs.CertificateChecking.{IsCut}
use Rattle.certificate_definitions.proofs.CertificateRefusalsLemmas.{apart}

both_of : (P Q : Reason → Type 0) (o : Option Reason) → MatchOption o ⊥ P → MatchOption o ⊥ Q → MatchOption o ⊥ (λ reason. P reason × Q reason)
both_of P Q (Some reason) p q = (p, q)
both_of P Q None p q = p

pub reported_first : (task : Task) (c : Certificate) (plan : Option (List Instance)) (most : ℕ) (r : Refusal) (code : RefusalCode) (line : ℕ) → r ≡ refusal.Line code line
    → MatchOption (reason_of code) ⊥ (λ reason. IsFirst task c plan most reason line) → MatchOption (reason_of code) ⊥ (λ reason. IsFirstSuccessor task c reason line) → IsFirstRefusal task c plan most r
reported_first task c plan most r code line is first successor =
    subst (IsFirstRefusal task c plan most) (sym is) (both_of (λ reason. IsFirst task c plan most reason line) (λ reason. IsFirstSuccessor task c reason line) (reason_of code) first successor)

slice_get-take : {X : Type 0} (k : ℕ) (xs : List X) (i : ℕ) (x : X) → i < k → slice_get xs i ≡ Some x → slice_get (take k xs) i ≡ Some x
slice_get-take k xs i x lt at =
    slice_get-get_or (take k xs) i x (omega (arith, length-take k xs, slice_get_within xs i x at)) ∙ ap Some (get_or-take k xs i x lt ∙ get_or_from_slice_get xs i x x at)

-- ---- the successors so far

-- the one that is gone through now is the first that may leave the listing
pub first_to_leave : {X : Type 0} (task : Task) (c : Certificate) (place : ℕ) (s : State) (cost : ℕ) (view : X → Instance × State) (xs : List X) (k : ℕ) (x : X)
    → slice_get (lines_of task c) place ≡ Some (record { state = s; cost = cost; mark = claims.expanded }) → k < length xs → x ≡ get_or xs k x → map view xs ≡ successors_of task s
    → AllListed task c cost (map view (take k xs))
    → IsFirstToLeave task c (state_line c place) (record { state = s; cost = cost; mark = claims.expanded }) (view x).0 (view x).1
first_to_leave {X} task c place s cost view xs k x there lt at is before = record {
  found_there = (place, refl, there);
  is_open = refl;
  place = k;
  leads = subst (λ those. slice_get those k ≡ Some (view x)) is (slice_get-map view xs k x (slice_get-get_or xs k x lt ∙ ap Some (sym at)));
  listed_before = λ earlier j next lt_k at_earlier.
      let there_earlier : slice_get (map view xs) earlier ≡ Some (j, next) = subst (λ those. slice_get those earlier ≡ Some (j, next)) (sym is) at_earlier in
      let in_first : slice_get (map view (take k xs)) earlier ≡ Some (j, next) =
      subst (λ those. slice_get those earlier ≡ Some (j, next)) (take-map view k xs) (slice_get-take k (map view xs) earlier (j, next) lt_k there_earlier) in
      before j next (Contains-got {X = Instance × State} (map view (take k xs)) earlier (j, next) in_first);
}

-- ---- cuts

-- a certificate that claims that there is no plan, and has no cut, cuts none that it may not
pub cuts_allowed : (task : Task) (c : Certificate) → (c.claim ≡ none → All (λ (l : StateLine). ¬ IsCut l.mark) c.lines) → CutsAreAllowed task c (length (lines_of task c))
cuts_allowed task c all place l rest below at at_cut claim =
    let (line, there, is) = got_mapped (entry task c) c.lines place l at in
    All-contains (λ (l : StateLine). ¬ IsCut l.mark) c.lines line (all claim) (Contains-got c.lines place line there) (is_cut line.mark (ap (λ (l : Line State). l.mark) is ∙ at_cut))
  where
    is_cut : (mark : LineMark) → bare mark ≡ claims.cut rest → IsCut mark
    is_cut expanded same = absurd (cc)
    is_cut (cut basis least) same = (basis, least, refl)
    is_cut (dead basis) same = absurd (cc)

-- ---- the lines so far

-- all is right up to the first state line
pub right_from : (task : Task) (c : Certificate) (most : ℕ) → IsTrue (keeps_limits c) → AreRowsDistinct c → AreApart task c → AreFluent task c.atoms → CutsAreAllowed task c (length (lines_of task c))
    → exceeded_limit most max_numbered_atoms task c.atoms ≡ None → AreSymmetries task c → AreFairFor task c → AreLandmarksFair task c → IsListedWithin (AreAlikeFor task c) (lines_of task c) (system_of task).initial 0
    → IsRightUpTo task c most 0
right_from task c most keeps rows apart atoms allowed few symmetric fair landmarks initial = record {
  keeps = keeps;
  rows = rows;
  atoms = atoms;
  distinct = apart;
  allowed = allowed;
  within = few;
  symmetric = symmetric;
  fair = fair;
  landmarks = landmarks;
  initial = initial;
  lines = λ k l lt at. absurd (omega arith);
}

pub right_to_line : (task : Task) (c : Certificate) (most place : ℕ) → IsRightUpTo task c most 0
    → ((k : ℕ) (l : StateLine) → k < place → slice_get c.lines k ≡ Some l → IsLineClosed task c l) → IsRightUpTo task c most place
right_to_line task c most place right lines = record {
  keeps = right.keeps;
  rows = right.rows;
  atoms = right.atoms;
  distinct = right.distinct;
  allowed = right.allowed;
  within = right.within;
  symmetric = right.symmetric;
  fair = right.fair;
  landmarks = right.landmarks;
  initial = right.initial;
  lines = lines;
}

-- ---- clauses of results

pub first_of : {T : Type 0} (task : Task) (c : Certificate) (plan : Option (List Instance)) (most : ℕ) (r : Result T Refusal) → IsClosedFor task c → exceeded_limit most max_numbered_atoms task c.atoms ≡ None
    → IfErr r (λ e. (m : ℕ) → IsClosedFor task c → exceeded_limit m max_numbered_atoms task c.atoms ≡ None → IsFirstRefusal task c plan m e) → IfErr r (IsFirstRefusal task c plan most)
first_of task c plan most (Ok v) closed within first = tt
first_of task c plan most (Err e) closed within first = first most closed within
