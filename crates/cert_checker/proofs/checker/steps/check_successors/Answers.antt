use Rattle.certificate.specs.Certificate.{store_in}
use Rattle.std.proofs.Common.{◌≡◌, ◌+◌, ℕ, Some, map, get_or, refl, subst, sym, arith}
use Rattle.std.proofs.lemmas.List.{get_or_default}
use Rattle.packed_state.specs.Packed.{bits_of}
use Rattle.cert_checker.specs.declared.refusal.RefusalCode.TheVariants.{SuccessorMissing, SuccessorDearer}
use Rattle.cert_checker.specs.CertChecker.{IsFirstToLeave}
use Rattle.cert_checker.specs.CheckedLines.{IsLeastCost}
use Rattle.cert_checker.specs.PackedListing.{task_at, atoms_at, certificate_at, state_at}
use Rattle.model.specs.Task.{Instance}
use Rattle.model.specs.Meaning.{State, system_of}
use Rattle.model.specs.Instances.{successors_of}
use Rattle.model.specs.Grounding.{ground_system}
use Rattle.model.specs.Claims.{expanded, Line}
use Rattle.certificate_definitions.specs.Certificates.{lines_of, AreAlikeFor}
use Rattle.certificate_definitions.specs.CertificateRefusals.{successor_missing, successor_dearer, state_line, IsListed}
use Rattle.cert_checker.proofs.CertCheckerLemmas.{AllListed-none, AllListed-more, listed_within, open_closed}
use Rattle.model.proofs.GroundTaskLemmas.{length-step}
use Rattle.cert_checker.proofs.GroundSuccessors.{leads_by, applies_at, next_by, cost_by}
use Rattle.cert_checker.proofs.PackedListingLemmas.{successors_there}
use Rattle.cert_checker.proofs.OrderLemmas.{first_in_line, open_here}
use Rattle.cert_checker.proofs.FirstLemmas.{reported_first, first_to_leave}
use Rattle.cert_checker.proofs.RefusalsLemmas.{reported, leads_there, wrong_missing, wrong_dearer, listed_somewhere, not_within}
use Rattle.cert_checker.proofs.checker.steps.check_successors.Goals.{After-least_cost}
use Rattle.cert_checker.proofs.checker.steps.check_successors.Goals as goal

-- the instance of the number, and the state to which it leads
abbrev view : After-least_cost → ℕ → Instance × State
view c number = leads_by (task_at c.args.listing.now) (atoms_at c.args.listing.now) (bits_of c.args.state.now) number

abbrev there : After-least_cost → Instance × State
there c = view c (get_or c.args.numbers.now c.loop-number.number-index 0)

is_there : (c : After-least_cost) → (there c).1 ≡ state_at c.args.listing.now c.step_into.new.into
is_there c = next_by (task_at c.args.listing.now) (atoms_at c.args.listing.now) (bits_of c.args.state.now) (get_or c.args.numbers.now c.loop-number.number-index 0) _ c.step_into.ensures

cost_there : (c : After-least_cost) → (ground_system (task_at c.args.listing.now) (atoms_at c.args.listing.now)).cost (get_or c.args.numbers.now c.loop-number.number-index 0)
    ≡ (system_of (task_at c.args.listing.now)).cost (there c).0
cost_there c = cost_by (task_at c.args.listing.now) (atoms_at c.args.listing.now) (bits_of c.args.state.now) (get_or c.args.numbers.now c.loop-number.number-index 0) _ c.step_into.ensures

all_there : (c : After-least_cost) → map (view c) c.args.numbers.now ≡ successors_of (task_at c.args.listing.now) (state_at c.args.listing.now c.args.state.now)
all_there c =
    let listing = c.args.listing.now in
    successors_there (task_at listing) (atoms_at listing) (certificate_at listing) (store_in listing.cert.now) listing.listed (bits_of c.args.state.now) c.args.numbers.now c.requires.numbers

leads : (c : After-least_cost) → (system_of (task_at c.args.listing.now)).step (state_at c.args.listing.now c.args.state.now) (there c).0 ≡ Some (there c).1
leads c =
    let numbers = c.args.numbers.now in
    let k = c.loop-number.number-index in
    leads_there (task_at c.args.listing.now) (certificate_at c.args.listing.now) _ (view c) numbers k (get_or numbers k 0) c.loop-number-test.true (get_or_default numbers k 0 _ c.loop-number-test.true) (all_there c)

-- of the successors it is the first that may be at fault
leaves : (c : After-least_cost) → IsFirstToLeave (task_at c.args.listing.now) (certificate_at c.args.listing.now) (state_line (certificate_at c.args.listing.now) c.args.place)
    (record { state = state_at c.args.listing.now c.args.state.now; cost = c.args.cost; mark = expanded }) (there c).0 (there c).1
leaves c =
    let numbers = c.args.numbers.now in
    let k = c.loop-number.number-index in
    first_to_leave (task_at c.args.listing.now) (certificate_at c.args.listing.now) c.args.place _ c.args.cost (view c) numbers k (get_or numbers k 0) c.requires.listed c.loop-number-test.true
    (get_or_default numbers k 0 _ c.loop-number-test.true) (all_there c) c.loop-number.invariant.listed

pub least_cost-requires : goal.least_cost-requires
least_cost-requires c =
    length-step (task_at c.args.listing.now) (atoms_at c.args.listing.now) (bits_of c.args.state.now) _ (get_or c.args.numbers.now c.loop-number.number-index 0) c.step_into.ensures

pub loop-number-init : goal.loop-number-init
loop-number-init c = record {
  next = c.requires.next;
  listed = AllListed-none (task_at c.args.listing.now) (certificate_at c.args.listing.now) c.args.cost;
}

pub step_into-requires-clause-into_width : goal.step_into-requires-clause-into_width
step_into-requires-clause-into_width c = c.loop-number.invariant.next

pub step_into-requires-clause-applicable : goal.step_into-requires-clause-applicable
step_into-requires-clause-applicable c =
    let listing = c.args.listing.now in
    applies_at (task_at listing) (atoms_at listing) (bits_of c.args.state.now) c.args.numbers.now c.loop-number.number-index c.requires.numbers c.loop-number-test.true

pub loop-number-preserved : goal.loop-number-preserved
loop-number-preserved c =
    let listing = c.args.listing.now in
    let cert = certificate_at listing in
    let numbers = c.args.numbers.now in
    let number = get_or numbers c.loop-number.number-index 0 in
    let here = (goal.at.loop-number-preserved c).After-least_cost in
    let step = cost_there here in
    let listed = subst (λ s. IsLeastCost (AreAlikeFor (task_at listing) cert) (lines_of (task_at listing) cert) s c.in-Some.listed) (sym (is_there here)) c.in-Some.ensures.least in
    record {
      next = c.least_cost.ensures.packed;
      listed = AllListed-more (task_at listing) cert c.args.cost (view here) numbers c.loop-number.number-index number c.loop-number-test.true
          (get_or_default numbers c.loop-number.number-index 0 number c.loop-number-test.true)
          c.loop-number.invariant.listed (listed_within (AreAlikeFor (task_at listing) cert) (lines_of (task_at listing) cert) (there here).1 c.in-Some.listed _ listed (omega (arith, step, c.from.ensures, c.cost.ensures, c.if-listed-cost.false)));
    }

pub returns-clause-next : goal.returns-clause-next
returns-clause-next c = c.loop-number.invariant.next

pub returns-clause-right : goal.returns-clause-right
returns-clause-right c =
    let listing = c.args.listing.now in
    let task = task_at listing in
    let cert = certificate_at listing in
    let bits = bits_of c.args.state.now in
    let numbers = c.args.numbers.now in
    open_closed task cert (state_at listing c.args.state.now) c.args.cost (leads_by task (atoms_at listing) bits) numbers c.loop-number.number-index c.loop-number-test.false
    (successors_there task (atoms_at listing) cert (store_in listing.cert.now) listing.listed bits numbers c.requires.numbers) c.loop-number.invariant.listed c.requires.goal

pub returns-in_default-clause-wrong : goal.returns-in_default-clause-wrong
returns-in_default-clause-wrong c =
    let listing = c.args.listing.now in
    let task = task_at listing in
    let cert = certificate_at listing in
    let here = (goal.at.returns-in_default-clause-wrong c).After-least_cost in
    reported task cert c.state_line.result SuccessorMissing (state_line cert c.args.place) c.state_line.ensures
    (wrong_missing task cert c.args.place (state_at listing c.args.state.now) c.args.cost (there here).0 (there here).1 c.requires.listed (leads here)
    (subst (λ s. ¬ IsListed (AreAlikeFor task cert) (lines_of task cert) s) (sym (is_there here)) c.in_default.ensures.least))

pub returns-then-listed-cost-clause-wrong : goal.returns-then-listed-cost-clause-wrong
returns-then-listed-cost-clause-wrong c =
    let listing = c.args.listing.now in
    let task = task_at listing in
    let cert = certificate_at listing in
    let here = (goal.at.returns-then-listed-cost-clause-wrong c).After-least_cost in
    let step = cost_there here in
    let listed = subst (λ s. IsLeastCost (AreAlikeFor task cert) (lines_of task cert) s c.in-Some.listed) (sym (is_there here)) c.in-Some.ensures.least in
    reported task cert c.state_line-then-listed-cost.result SuccessorDearer (state_line cert c.args.place) c.state_line-then-listed-cost.ensures
    (wrong_dearer task cert c.args.place (state_at listing c.args.state.now) c.args.cost (there here).0 (there here).1 c.in-Some.listed c.requires.listed (leads here) listed (omega (arith, step, c.from.ensures, c.cost.ensures, c.if-listed-cost.true)))

pub returns-in_default-clause-first : goal.returns-in_default-clause-first
returns-in_default-clause-first c =
    λ plan most right.
    let listing = c.args.listing.now in
    let task = task_at listing in
    let cert = certificate_at listing in
    let line : Line State = record { state = state_at listing c.args.state.now; cost = c.args.cost; mark = expanded } in
    let here = (goal.at.returns-in_default-clause-first c).After-least_cost in
    reported_first task cert plan most c.state_line.result SuccessorMissing (state_line cert c.args.place) c.state_line.ensures
    (first_in_line task cert plan most c.args.place successor_missing right refl (open_here task cert c.args.place line c.requires.listed refl c.requires.goal))
    (line, (there here).0, (there here).1, leaves here, subst (λ s. ¬ IsListed (AreAlikeFor task cert) (lines_of task cert) s) (sym (is_there here)) c.in_default.ensures.least)

pub returns-then-listed-cost-clause-first : goal.returns-then-listed-cost-clause-first
returns-then-listed-cost-clause-first c =
    λ plan most right.
    let listing = c.args.listing.now in
    let task = task_at listing in
    let cert = certificate_at listing in
    let line : Line State = record { state = state_at listing c.args.state.now; cost = c.args.cost; mark = expanded } in
    let here = (goal.at.returns-then-listed-cost-clause-first c).After-least_cost in
    let step = cost_there here in
    let listed = subst (λ s. IsLeastCost (AreAlikeFor task cert) (lines_of task cert) s c.in-Some.listed) (sym (is_there here)) c.in-Some.ensures.least in
    reported_first task cert plan most c.state_line-then-listed-cost.result SuccessorDearer (state_line cert c.args.place) c.state_line-then-listed-cost.ensures
    (first_in_line task cert plan most c.args.place successor_dearer right refl (open_here task cert c.args.place line c.requires.listed refl c.requires.goal)) (
      line,
      (there here).0,
      (there here).1,
      leaves here,
      listed_somewhere (AreAlikeFor task cert) (lines_of task cert) (there here).1 c.in-Some.listed listed,
      not_within (AreAlikeFor task cert) (lines_of task cert) (there here).1 c.in-Some.listed (c.args.cost + (system_of task).cost (there here).0) listed (omega (arith, step, c.from.ensures, c.cost.ensures, c.if-listed-cost.true)),
    )
