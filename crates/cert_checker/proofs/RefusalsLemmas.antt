-- Why the checker's refusals are true.
use Rattle.std.proofs.Common.{◌≡◌, ◌≢◌, ℕ, ◌+◌, ◌<◌, ◌≤◌, ◌⊎◌, Bool, false, List, length, map, get_or, Option, None, Some, inl, inr, refl, sym, ap, ◌∙◌, subst, arith}
use Rattle.std.specs.Prelude.{◌↔◌, Result, Ok, Err, IfErr, IsTrue, AllPairs, Contains, MatchOption, nat_eq, slice_get}
use Rattle.std.specs.Option.{option_eq}
use Rattle.std.proofs.lemmas.Bool.{cases_order, eq-eqb, false≢true}
use Rattle.cert_checker.specs.declared.refusal.Refusal.{Refusal}
use Rattle.cert_checker.specs.declared.refusal.Refusal.TheVariants as refusal
use Rattle.cert_checker.specs.declared.refusal.RefusalCode.{RefusalCode}
use Rattle.certificate.specs.declared.states.Listed.{Listed}
use Rattle.certificate_reader.specs.Lines.{mark_of}
use Rattle.certificate.specs.CertificateParts.{listed_of}
use Rattle.certificate.specs.ListedSets.{Marked, marked}
use Rattle.std.proofs.lemmas.List.{length-map}
use Rattle.cert_checker.specs.Reasons.{reason_of}
use Rattle.cert_checker.specs.CheckedLines.{HasCost, IsLeastCost, IsListedAs, IsListedBy, IsTrueAnyway}
use Rattle.cert_checker.proofs.CertCheckerLemmas.{got_mapped, slice_get-map}
use Rattle.model.specs.Task.{Task, Instance}
use Rattle.model.specs.Meaning.{State, meets_goal, system_of}
use Rattle.model.specs.Instances.{successors_of}
use Rattle.model.specs.Claims.{Claim, Allows, expanded, Line, IsListedWithin}
use Rattle.certificate_definitions.specs.Evidence.{Basis, cut, dead}
use Rattle.certificate_definitions.specs.Certificates.{Certificate, is_dead_end_by, lines_of, AreAlikeFor, value_by}
use Rattle.certificate_definitions.specs.CertificateRefusals.{goal_open, successor_missing, successor_dearer, cut_weak, not_dead, IsWrongAt, IsListed, state_line}
use Rattle.model.proofs.ListLemmas.{Contains-got, Contains-place, Contains-map}
use Rattle.model.proofs.InstancesLemmas.{successors-Contains}
use Rattle.certificate_definitions.proofs.CertificateRefusalsLemmas.{apart}

-- ---- a refusal with its line

pub reported : (task : Task) (c : Certificate) (r : Refusal) (code : RefusalCode) (line : ℕ) → r ≡ refusal.Line code line
    → MatchOption (reason_of code) ⊥ (λ reason. IsWrongAt task c reason line) → IsTrueAnyway task c r
reported task c r code line is wrong = subst (IsTrueAnyway task c) (sym is) (λ plan most. wrong)

-- ---- a line of the certificate, and its state

-- what is listed at a line's place has its cost and its mark
pub has_cost : (c : Certificate) (marks : List Listed) (place : ℕ) (listed : Listed) → map listed_of marks ≡ map marked c.lines → slice_get marks place ≡ Some listed
    → HasCost c place listed.cost (mark_of listed.mark)
has_cost c marks place listed same at =
    let there : slice_get (map marked c.lines) place ≡ Some (listed_of listed) = subst (λ those. slice_get those place ≡ Some (listed_of listed)) same (slice_get-map listed_of marks place listed at) in
    let (l, at_l, is) = got_mapped marked c.lines place (listed_of listed) there in
    (l, at_l, ap (λ (m : Marked). m.cost) is, ap (λ (m : Marked). m.mark) is)

pub as_many_marks : (c : Certificate) (marks : List Listed) → map listed_of marks ≡ map marked c.lines → length marks ≡ length c.lines
as_many_marks c marks same = sym (length-map marks listed_of) ∙ ap length same ∙ length-map c.lines marked

-- ---- distinct states are listed once

-- no state is listed twice
abbrev pub AreApart : Task → Certificate → Type 0
AreApart task c = AllPairs (λ (k l : Line State). k.state ≢ l.state) (lines_of task c)

-- a state is listed at one place
pub listed_once : {S : Type 0} (lines : List (Line S)) (place : ℕ) (k l : Line S) → AllPairs (λ (k l : Line S). k.state ≢ l.state) lines → slice_get lines place ≡ Some k → Contains lines l
    → k.state ≡ l.state → k ≡ l
listed_once {S} lines place k l pairs at among same =
    let R : Line S → Line S → Type 0 = λ a b. a.state ≢ b.state in
    let there = Contains-place lines l among in
    elim (cases_order place there.0) [
      | inl here ↦
          let at_k = subst (λ i. slice_get lines i ≡ Some k) here at in
          let at_l = there.1 in
          cc
      | inr (inl before) ↦ absurd (apart R lines place there.0 k l pairs before at there.1 same)
      | inr (inr after) ↦ absurd (apart R lines there.0 place l k pairs after there.1 at (sym same))
    ]

-- ---- the initial state

not_at_none : (cost : ℕ) → false ≡ nat_eq cost 0 → cost ≤ 0 → ⊥
not_at_none cost is le = false≢true (is ∙ eq-eqb cost 0 (omega arith))

pub not_within : {S : Type 0} (alike : S → S → Type 0) (lines : List (Line S)) (s : S) (listed most : ℕ) → IsLeastCost alike lines s listed → most < listed → ¬ IsListedWithin alike lines s most
not_within alike lines s listed most (place, cheapest, is) dearer (line, among, is_alike, low) = omega (arith, cheapest.least line among is_alike, is, dearer, low)

pub not_listed_at_none : (alike : State → State → Type 0) (lines : List (Line State)) (s t : State) (o : Option ℕ) → MatchOption o (¬ IsListed alike lines s) (IsLeastCost alike lines s)
    → false ≡ option_eq nat_eq o (Some 0) → s ≡ t → ¬ IsListedWithin alike lines t 0
not_listed_at_none alike lines s t None missing is same (l, among, is_alike, cost) = missing (l, among, subst (alike l.state) (sym same) is_alike)
not_listed_at_none alike lines s t (Some cost) listed is same within =
    elim (cases_order cost 0) [
      | inl none ↦ not_at_none cost is (omega (arith, none))
      | inr (inl below) ↦ absurd (omega (arith, below))
      | inr (inr above) ↦ not_within alike lines s cost 0 listed above (subst (λ r. IsListedWithin alike lines r 0) (sym same) within)
    ]

-- ---- expanded states

pub wrong_goal : (task : Task) (c : Certificate) (place : ℕ) (s : State) (cost : ℕ) → IsListedAs task c place s cost expanded → IsTrue (meets_goal task s) → ¬ Allows c.claim cost
    → IsWrongAt task c goal_open (state_line c place)
wrong_goal task c place s cost there goal denied = (record { state = s; cost = cost; mark = expanded }, (place, refl, there), refl, goal, denied)

-- each successor that is gone through is one that an instance leads to
pub leads_there : {X : Type 0} (task : Task) (c : Certificate) (s : State) (view : X → Instance × State) (xs : List X) (k : ℕ) (x : X) → k < length xs → x ≡ get_or xs k x
    → map view xs ≡ successors_of task s → (system_of task).step s (view x).0 ≡ Some (view x).1
leads_there task c s view xs k x lt at is =
    successors-Contains task s (view x).0 (view x).1 (subst (λ l. Contains {X = Instance × State} l (view x)) is (Contains-map view xs x (k, lt, sym at)))

pub wrong_missing : (task : Task) (c : Certificate) (place : ℕ) (s : State) (cost : ℕ) (i : Instance) (next : State) → IsListedAs task c place s cost expanded → (system_of task).step s i ≡ Some next
    → ¬ IsListed (AreAlikeFor task c) (lines_of task c) next → IsWrongAt task c successor_missing (state_line c place)
wrong_missing task c place s cost i next there leads missing =
    (record { state = s; cost = cost; mark = expanded }, i, next, ((place, refl, there), refl, leads), missing)

pub listed_somewhere : {S : Type 0} (alike : S → S → Type 0) (lines : List (Line S)) (s : S) (listed : ℕ) → IsLeastCost alike lines s listed → IsListed alike lines s
listed_somewhere alike lines s listed (place, cheapest, is) = (cheapest.line, Contains-got lines place cheapest.line cheapest.listed, cheapest.is_alike)

pub wrong_dearer : (task : Task) (c : Certificate) (place : ℕ) (s : State) (cost : ℕ) (i : Instance) (next : State) (listed : ℕ) → IsListedAs task c place s cost expanded
    → (system_of task).step s i ≡ Some next → IsLeastCost (AreAlikeFor task c) (lines_of task c) next listed → cost + (system_of task).cost i < listed
    → IsWrongAt task c successor_dearer (state_line c place)
wrong_dearer task c place s cost i next listed there leads at dearer = (
  record { state = s; cost = cost; mark = expanded },
  i,
  next,
  ((place, refl, there), refl, leads),
  listed_somewhere (AreAlikeFor task c) (lines_of task c) next listed at,
  not_within (AreAlikeFor task c) (lines_of task c) next listed (cost + (system_of task).cost i) at dearer,
)

-- ---- cuts

pub wrong_cut : (task : Task) (c : Certificate) (place : ℕ) (s : State) (cost : ℕ) (basis : Basis) (rest : ℕ) → IsListedBy task c place s cost (cut basis rest)
    → (value_by task c basis s < rest) ⊎ ¬ Allows c.claim (cost + rest) → IsWrongAt task c cut_weak (state_line c place)
wrong_cut task c place s cost basis rest (l, at, state_is, cost_is, mark_is) wrong = (
  l,
  basis,
  rest,
  (place, refl, at),
  mark_is,
  subst (λ (t : State). (value_by task c basis t < rest) ⊎ ¬ Allows c.claim (l.cost + rest)) (sym state_is)
      (subst (λ n. (value_by task c basis s < rest) ⊎ ¬ Allows c.claim (n + rest)) (sym cost_is) wrong),
)

-- ---- dead ends

pub wrong_dead : (task : Task) (c : Certificate) (place : ℕ) (s : State) (cost : ℕ) (basis : Basis) → IsListedBy task c place s cost (dead basis) → is_dead_end_by task c basis s ≡ false
    → IsWrongAt task c not_dead (state_line c place)
wrong_dead task c place s cost basis (l, at, state_is, cost_is, mark_is) alive =
    (l, basis, (place, refl, at), mark_is, ap (is_dead_end_by task c basis) state_is ∙ alive)

pub not_allowed : (claim whole : Claim) (cost : ℕ) (b : Bool) → claim ≡ whole → IsTrue b ↔ Allows claim cost → b ≡ false → ¬ Allows whole cost
not_allowed claim whole cost b same iff fails allowed = false≢true (sym fails ∙ iff.1 (subst (λ k. Allows k cost) (sym same) allowed))

-- ---- clauses of results

pub wrong_for : {X T E : Type 0} (x : X) (P : X → E → Type 0) (r : Result T E) → IfErr r (λ e. (y : X) → P y e) → IfErr r (P x)
wrong_for x P (Ok v) all = tt
wrong_for x P (Err e) all = all x

pub wrong_where : {X T E : Type 0} (x : X) (A : X → Type 0) (P : X → E → Type 0) (r : Result T E) → A x → IfErr r (λ e. (y : X) → A y → P y e) → IfErr r (P x)
wrong_where x A P (Ok v) a all = tt
wrong_where x A P (Err e) a all = all x a
