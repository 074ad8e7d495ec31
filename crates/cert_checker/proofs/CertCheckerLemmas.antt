-- Why a certificate that the checker goes through without a refusal is closed.
use Rattle.std.proofs.Common.{◌≡◌, ℕ, zero, suc, ◌+◌, ◌<◌, ◌≤◌, true, ◌&&◌, List, [], ◌∷◌, ◌++◌, length, map, take, get_or, Option, None, Some, inl, inr, refl, sym, ap, ◌∙◌, subst, arith}
use Rattle.std.specs.Prelude.{Bool, nat_lt, IsTrue, MatchOption, OnOk, Result, Ok, Err, nat_eq, Contains, slice_get}
use Rattle.std.specs.Option.{option_eq}
use Rattle.std.proofs.lemmas.Bool.{eqb-true, ltb-true, and_parts}
use Rattle.std.specs.List.{list_all}
use Rattle.std.proofs.lemmas.List.{take_all, take_more, map-append, length-map}
use Rattle.std.proofs.lemmas.List.Elements.{Contains-append_cases}
use Rattle.std.proofs.lemmas.Option.{slice_get_within}
use Rattle.model.proofs.Tests.{passes_got}
use Rattle.cert_checker.specs.CheckedLines.{HasCost, IsLeastCost, IsListedAs, IsListedBy, IsExpandedClosed, IsClosedAs, IsLineClosed}
use Rattle.model.specs.Task.{Task, Instance}
use Rattle.model.specs.Meaning.{State, system_of}
use Rattle.model.specs.Instances.{successors_of}
use Rattle.model.specs.Claims as claims
use Rattle.model.specs.Claims.{Allows, Line, IsListedWithin}
use Rattle.certificate_definitions.specs.Evidence.{Basis, of_all, landmark, LineMark, expanded, cut, dead, bare}
use Rattle.certificate_definitions.specs.Certificates.{Version, Certificate, StateLine, has_basis, is_basis, is_mark, is_number, is_state_line, keeps_limits, lines_of, AreAlikeFor, rise, state_of_line}
use Rattle.certificate_definitions.specs.CertificateRefusals.{IsListed}
use Rattle.model.proofs.ListLemmas.{Contains-cases, Contains-got, Contains-none}
use Rattle.certificate.proofs.LimitsLemmas.{limits_of}
use Rattle.model.proofs.InstancesLemmas.{Contains-successors}

-- ---- elements at their places

pub got : {X : Type 0} (xs : List X) (i : ℕ) (x : X) → i < length xs → x ≡ get_or xs i x → slice_get xs i ≡ Some x
got [] i x lt is = absurd (omega arith)
got (y ∷ xs) zero x lt is = ap Some (sym is)
got (y ∷ xs) (suc i) x lt is = got xs i x (omega arith) is

pub slice_get-map : {X Y : Type 0} (f : X → Y) (xs : List X) (i : ℕ) (x : X) → slice_get xs i ≡ Some x → slice_get (map f xs) i ≡ Some (f x)
slice_get-map f [] i x at = absurd (cc)
slice_get-map f (y ∷ xs) zero x at = let same : y ≡ x = cc in ap (λ z. Some (f z)) same
slice_get-map f (y ∷ xs) (suc i) x at = slice_get-map f xs i x at

pub got_mapped : {X Y : Type 0} (f : X → Y) (xs : List X) (i : ℕ) (y : Y) → slice_get (map f xs) i ≡ Some y → (x : X) × (slice_get xs i ≡ Some x) × (f x ≡ y)
got_mapped f [] i y at = absurd (cc)
got_mapped f (x ∷ xs) zero y at = (x, refl, cc)
got_mapped f (x ∷ xs) (suc i) y at = got_mapped f xs i y at

pub same_place : {X : Type 0} (xs : List X) (i : ℕ) (x y : X) → slice_get xs i ≡ Some x → slice_get xs i ≡ Some y → x ≡ y
same_place xs i x y at_x at_y = cc

-- ---- the listing

abbrev pub entry : Task → Certificate → StateLine → Line State
entry task cert l = record { state = state_of_line task cert l; cost = l.cost; mark = bare l.mark }

pub listed_within : {S : Type 0} (alike : S → S → Type 0) (lines : List (Line S)) (s : S) (listed cost : ℕ) → IsLeastCost alike lines s listed → listed ≤ cost → IsListedWithin alike lines s cost
listed_within alike lines s listed cost (place, cheapest, is) le =
    (cheapest.line, Contains-got lines place cheapest.line cheapest.listed, cheapest.is_alike, omega (arith, is, le))

-- ---- the successors of an expanded state

-- for each of these states one that is alike is listed at no more than this cost and that of the instance that leads to it
abbrev pub AllListed : Task → Certificate → ℕ → List (Instance × State) → Type 0
AllListed task cert cost found =
    (i : Instance) (next : State) → Contains {X = Instance × State} found (i, next) → IsListedWithin (AreAlikeFor task cert) (lines_of task cert) next (cost + (system_of task).cost i)

pub AllListed-none : (task : Task) (cert : Certificate) (cost : ℕ) → AllListed task cert cost []
AllListed-none task cert cost i next at = absurd (Contains-none {X = Instance × State} (i, next) at)

pub AllListed-more : {X : Type 0} (task : Task) (cert : Certificate) (cost : ℕ) (view : X → Instance × State) (xs : List X) (k : ℕ) (x : X)
    → k < length xs → x ≡ get_or xs k x → AllListed task cert cost (map view (take k xs)) → IsListedWithin (AreAlikeFor task cert) (lines_of task cert) (view x).1 (cost + (system_of task).cost (view x).0)
    → AllListed task cert cost (map view (take (k + 1) xs))
AllListed-more {X} task cert cost view xs k x lt at before here i next among =
    let both : map view (take (k + 1) xs) ≡ map view (take k xs) ++ view x ∷ [] =
    ap (map view) (take_more xs k x lt ∙ ap (λ y. take k xs ++ y ∷ []) (sym at)) ∙ map-append view (take k xs) (x ∷ []) in
    elim (Contains-append_cases (map view (take k xs)) (view x ∷ []) (i, next) (subst (λ l. Contains {X = Instance × State} l (i, next)) both among)) [
      | inl earlier ↦ before i next earlier
      | inr last ↦ elim (Contains-cases {X = Instance × State} (view x) [] (i, next) last) [
        | inl is ↦ subst (λ (p : Instance × State). IsListedWithin (AreAlikeFor task cert) (lines_of task cert) p.1 (cost + (system_of task).cost p.0)) is here
        | inr none ↦ absurd (Contains-none {X = Instance × State} (i, next) none)
      ]
    ]

pub open_closed : {X : Type 0} (task : Task) (cert : Certificate) (state : State) (cost : ℕ) (view : X → Instance × State) (xs : List X) (k : ℕ)
    → length xs ≤ k → map view xs ≡ successors_of task state → AllListed task cert cost (map view (take k xs))
    → (IsTrue ((system_of task).meets_goal state) → Allows cert.claim cost) → IsExpandedClosed task cert state cost
open_closed task cert state cost view xs k past is all goal = record {
  successors_listed = λ i next leads.
      all i next (subst (λ l. Contains {X = Instance × State} l (i, next)) (sym is ∙ ap (map view) (sym (take_all k xs past))) (Contains-successors task state i next leads));
  goal_allowed = goal;
}

-- ---- each line

-- the line lists its state
pub as_listed : (task : Task) (c : Certificate) (place : ℕ) (s : State) (cost : ℕ) (mark : LineMark) → IsListedBy task c place s cost mark → IsListedAs task c place s cost (bare mark)
as_listed task c place s cost mark (l, at, state_is, cost_is, mark_is) =
    slice_get-map (entry task c) c.lines place l at ∙ (λ i. Some (record { state = state_is i; cost = cost_is i; mark = bare (mark_is i) }))

-- an open one is right as an expanded state
open_as : (task : Task) (c : Certificate) (s : State) (cost : ℕ) (mark : LineMark) → bare mark ≡ claims.expanded → IsClosedAs task c s cost mark → IsExpandedClosed task c s cost
open_as task c s cost expanded is closed = closed
open_as task c s cost (cut basis rest) is closed = absurd (cc)
open_as task c s cost (dead basis) is closed = absurd (cc)

pub open_line : (task : Task) (c : Certificate) (l : StateLine) (line : Line State) → entry task c l ≡ line → line.mark ≡ claims.expanded → IsLineClosed task c l → IsExpandedClosed task c line.state line.cost
open_line task c l line is is_open closed =
    subst (λ (k : Line State). IsExpandedClosed task c k.state k.cost) is
    (open_as task c (state_of_line task c l) l.cost l.mark (ap (λ (k : Line State). k.mark) is ∙ is_open) closed)

-- and a cut is allowed by the claim
cut_as : (task : Task) (c : Certificate) (s : State) (cost rest : ℕ) (mark : LineMark) → bare mark ≡ claims.cut rest → IsClosedAs task c s cost mark → Allows c.claim (cost + rest)
cut_as task c s cost rest expanded is closed = absurd (cc)
cut_as task c s cost rest (cut basis least) is closed = let same : least ≡ rest = cc in subst (λ bound. Allows c.claim (cost + bound)) same closed.1
cut_as task c s cost rest (dead basis) is closed = absurd (cc)

pub cut_line : (task : Task) (c : Certificate) (l : StateLine) (line : Line State) (rest : ℕ) → entry task c l ≡ line → line.mark ≡ claims.cut rest → IsLineClosed task c l → Allows c.claim (line.cost + rest)
cut_line task c l line rest is is_cut closed =
    subst (λ (k : Line State). Allows c.claim (k.cost + rest)) is
    (cut_as task c (state_of_line task c l) l.cost rest l.mark (ap (λ (k : Line State). k.mark) is ∙ is_cut) closed)

-- ---- the initial state

pub listed_at_none : (alike : State → State → Type 0) (lines : List (Line State)) (s t : State) (o : Option ℕ) → MatchOption o (¬ IsListed alike lines s) (IsLeastCost alike lines s)
    → true ≡ option_eq nat_eq o (Some 0) → s ≡ t → IsListedWithin alike lines t 0
listed_at_none alike lines s t None listed is same = absurd (cc)
listed_at_none alike lines s t (Some cost) listed is same =
    subst (λ r. IsListedWithin alike lines r 0) same (listed_within alike lines s cost 0 listed (omega (arith, eqb-true cost 0 (sym is))))

-- ---- outcomes

pub line_if_ok : {T E : Type 0} (task : Task) (c : Certificate) (place : ℕ) (s : State) (cost : ℕ) (mark : LineMark) (r : Result T E) → IsListedBy task c place s cost mark
    → OnOk r (IsClosedAs task c s cost mark) → OnOk r ((other : StateLine) → slice_get c.lines place ≡ Some other → IsLineClosed task c other)
line_if_ok task c place s cost mark (Ok v) (l, at, state_is, cost_is, mark_is) closed = λ other there.
    let here : IsLineClosed task c l =
    subst (λ (m : LineMark). IsClosedAs task c (state_of_line task c l) l.cost m) (sym mark_is)
    (subst (λ n. IsClosedAs task c (state_of_line task c l) n mark) (sym cost_is) (subst (λ (t : State). IsClosedAs task c t cost mark) (sym state_is) closed)) in
    subst (IsLineClosed task c) (same_place c.lines place l other at there) here
line_if_ok task c place s cost mark (Err e) here closed = tt

pub lines_within : (task : Task) (cert : Certificate) (k : ℕ) (line : Line State) → slice_get (lines_of task cert) k ≡ Some line → k < length cert.lines
lines_within task cert k line at = omega (arith, slice_get_within (lines_of task cert) k line at, length-map cert.lines (entry task cert))

-- ---- limits

pub lines_within_limits : (c : Certificate) → keeps_limits c ≡ true → list_all (is_state_line c.version (length c.atoms)) c.lines ≡ true
lines_within_limits c keeps = (limits_of c keeps).states

small_line : (c : Certificate) (place : ℕ) (l : StateLine) → keeps_limits c ≡ true → slice_get c.lines place ≡ Some l → (is_number l.cost && is_mark c.version l.mark) ≡ true
small_line c place l keeps at =
    let all = lines_within_limits c keeps in
    (and_parts (is_number l.cost && is_mark c.version l.mark) (rise (length c.atoms) 0 l.atoms) (passes_got (is_state_line c.version (length c.atoms)) c.lines place l at all)).0

pub small_cost : (c : Certificate) (place cost : ℕ) (mark : LineMark) → keeps_limits c ≡ true → HasCost c place cost mark → cost < 1152921504606846976
small_cost c place cost mark keeps (l, at, cost_is, mark_is) =
    let small = ltb-true l.cost 1152921504606846976 (and_parts (is_number l.cost) (is_mark c.version l.mark) (small_line c place l keeps at)).0 in
    omega (arith, small, cost_is)

pub small_cut : (c : Certificate) (place cost : ℕ) (basis : Basis) (rest : ℕ) → keeps_limits c ≡ true → HasCost c place cost (cut basis rest) → rest < 1152921504606846976
small_cut c place cost basis rest keeps (l, at, cost_is, mark_is) =
    let small = (and_parts (is_number l.cost) (is_mark c.version l.mark) (small_line c place l keeps at)).1 in
    ltb-true rest 1152921504606846976 (cut_small c.version (subst (λ mark. is_mark c.version mark ≡ true) mark_is small))
  where
    cut_small : (v : Version) → is_mark v (cut basis rest) ≡ true → is_number rest ≡ true
    cut_small v is = (and_parts (is_basis v basis) (is_number rest) is).1

-- there is the landmark value that a line rests on
basis_kept : (c : Certificate) (place : ℕ) (l : StateLine) → keeps_limits c ≡ true → slice_get c.lines place ≡ Some l → has_basis (length c.landmarks.values) l.mark ≡ true
basis_kept c place l keeps at = passes_got (λ (l : StateLine). has_basis (length c.landmarks.values) l.mark) c.lines place l at (limits_of c keeps).bases

-- of this many landmark values there is the one that the basis names
abbrev pub has_value : ℕ → Basis → Bool
has_value count of_all = true
has_value count (landmark number) = nat_lt number count

pub cut_has_basis : (task : Task) (c : Certificate) (place : ℕ) (s : State) (cost : ℕ) (basis : Basis) (rest : ℕ) → keeps_limits c ≡ true → IsListedBy task c place s cost (cut basis rest)
    → has_value (length c.landmarks.values) basis ≡ true
cut_has_basis task c place s cost of_all rest keeps listed = refl
cut_has_basis task c place s cost (landmark number) rest keeps (l, at, state_is, cost_is, mark_is) = subst (λ mark. has_basis (length c.landmarks.values) mark ≡ true) mark_is (basis_kept c place l keeps at)

pub dead_has_basis : (task : Task) (c : Certificate) (place : ℕ) (s : State) (cost : ℕ) (basis : Basis) → keeps_limits c ≡ true → IsListedBy task c place s cost (dead basis)
    → has_value (length c.landmarks.values) basis ≡ true
dead_has_basis task c place s cost of_all keeps listed = refl
dead_has_basis task c place s cost (landmark number) keeps (l, at, state_is, cost_is, mark_is) = subst (λ mark. has_basis (length c.landmarks.values) mark ≡ true) mark_is (basis_kept c place l keeps at)
