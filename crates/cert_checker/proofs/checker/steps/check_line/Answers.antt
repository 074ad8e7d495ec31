use Rattle.std.proofs.Common.{◌≡◌, ◌<◌, get_or, length, subst, arith}
use Rattle.std.proofs.lemmas.Option.{slice_get-get_or}
use Rattle.certificate_definitions.specs.Evidence.{expanded, cut, dead}
use Rattle.certificate_reader.specs.Lines.{basis_of, mark_of}
use Rattle.certificate_reader.specs.declared.line.Mark.{Mark}
use Rattle.certificate_reader.specs.declared.line.Mark.TheVariants.{Expanded, Cut, Dead}
use Rattle.certificate.specs.declared.states.Listed.{Listed}
use Rattle.cert_checker.specs.CheckedLines.{HasCost}
use Rattle.cert_checker.specs.PackedListing.{task_at, certificate_at, state_at}
use Rattle.cert_checker.proofs.CertCheckerLemmas.{as_listed, small_cost, small_cut, line_if_ok}
use Rattle.cert_checker.proofs.RefusalsLemmas.{as_many_marks, has_cost}
use Rattle.cert_checker.proofs.checker.steps.check_line.Goals as goal
use Rattle.cert_checker.proofs.checker.steps.check_line.Goals.{After-get}

-- what is listed at the place
abbrev listed_at : After-get → Listed
listed_at c = get_or c.marks.result.now c.args.place (record { cost = 0; mark = Expanded })

-- its cost and its mark are those of the line
has_mark : (c : After-get) → HasCost (certificate_at c.args.listing.now) c.args.place (listed_at c).cost (mark_of (listed_at c).mark)
has_mark c =
    let cert = certificate_at c.args.listing.now in
    let within : c.args.place < length c.marks.result.now = omega (arith, c.requires.within, as_many_marks cert c.marks.result.now c.marks.ensures.marks) in
    has_cost cert c.marks.result.now c.args.place (listed_at c) c.marks.ensures.marks (slice_get-get_or c.marks.result.now c.args.place (record { cost = 0; mark = Expanded }) within)

-- so they are, of a line of this mark
marked : (c : After-get) (mark : Mark) → (listed_at c).mark ≡ mark → HasCost (certificate_at c.args.listing.now) c.args.place (listed_at c).cost (mark_of mark)
marked c mark is = subst (λ m. HasCost (certificate_at c.args.listing.now) c.args.place (listed_at c).cost (mark_of m)) is (has_mark c)

pub bounds-marks-place : goal.bounds-marks-place
bounds-marks-place c = omega (arith, c.requires.within, as_many_marks (certificate_at c.args.listing.now) c.marks.result.now c.marks.ensures.marks)

-- the listing in memory is small
pub offset_bounds-marks-place : goal.offset_bounds-marks-place
offset_bounds-marks-place c =
    let cert = certificate_at c.args.listing.now in
    let within : c.args.place < length c.marks.result.now = omega (arith, c.requires.within, as_many_marks cert c.marks.result.now c.marks.ensures.marks) in
    omega (arith, within, c.marks.ensures.at_most)

pub check_expanded-requires-clause-small : goal.check_expanded-requires-clause-small
check_expanded-requires-clause-small c =
    let here = (goal.at.check_expanded-requires-clause-small c).After-get in
    small_cost (certificate_at c.args.listing.now) c.args.place (listed_at here).cost expanded c.args.listing.now.cert.now.within_limits (marked here Expanded c.in-Expanded.is)

pub check_expanded-requires-clause-listed : goal.check_expanded-requires-clause-listed
check_expanded-requires-clause-listed c =
    let here = (goal.at.check_expanded-requires-clause-listed c).After-get in
    as_listed (task_at c.args.listing.now) (certificate_at c.args.listing.now) c.args.place (state_at c.args.listing.now c.get.new.into) (listed_at here).cost expanded
    (c.get.ensures.state (listed_at here).cost expanded (marked here Expanded c.in-Expanded.is))

pub check_cut-requires-clause-small : goal.check_cut-requires-clause-small
check_cut-requires-clause-small c =
    let here = (goal.at.check_cut-requires-clause-small c).After-get in
    let cert = certificate_at c.args.listing.now in
    let keeps = c.args.listing.now.cert.now.within_limits in
    let there = marked here (Cut c.in-Cut.by c.in-Cut.rest) c.in-Cut.is in
    let basis = basis_of c.in-Cut.by in
    (small_cost cert c.args.place (listed_at here).cost (cut basis c.in-Cut.rest) keeps there, small_cut cert c.args.place (listed_at here).cost basis c.in-Cut.rest keeps there)

pub check_cut-requires-clause-listed : goal.check_cut-requires-clause-listed
check_cut-requires-clause-listed c =
    let here = (goal.at.check_cut-requires-clause-listed c).After-get in
    c.get.ensures.state (listed_at here).cost (cut (basis_of c.in-Cut.by) c.in-Cut.rest) (marked here (Cut c.in-Cut.by c.in-Cut.rest) c.in-Cut.is)

pub check_dead-requires-clause-listed : goal.check_dead-requires-clause-listed
check_dead-requires-clause-listed c =
    let here = (goal.at.check_dead-requires-clause-listed c).After-get in
    ((listed_at here).cost, c.get.ensures.state (listed_at here).cost (dead (basis_of c.in-Dead.by)) (marked here (Dead c.in-Dead.by) c.in-Dead.is))

pub returns-in-Expanded-clause-right : goal.returns-in-Expanded-clause-right
returns-in-Expanded-clause-right c =
    let here = (goal.at.returns-in-Expanded-clause-right c).After-get in
    let listing = c.args.listing.now in
    let cost = (listed_at here).cost in
    line_if_ok (task_at listing) (certificate_at listing) c.args.place (state_at listing c.get.new.into) cost expanded c.check_expanded.result (c.get.ensures.state cost expanded (marked here Expanded c.in-Expanded.is))
    c.check_expanded.ensures.right

pub returns-in-Cut-clause-right : goal.returns-in-Cut-clause-right
returns-in-Cut-clause-right c =
    let here = (goal.at.returns-in-Cut-clause-right c).After-get in
    let listing = c.args.listing.now in
    let cost = (listed_at here).cost in
    let mark = cut (basis_of c.in-Cut.by) c.in-Cut.rest in
    line_if_ok (task_at listing) (certificate_at listing) c.args.place (state_at listing c.get.new.into) cost mark c.check_cut.result
    (c.get.ensures.state cost mark (marked here (Cut c.in-Cut.by c.in-Cut.rest) c.in-Cut.is)) c.check_cut.ensures.right

pub returns-in-Dead-clause-right : goal.returns-in-Dead-clause-right
returns-in-Dead-clause-right c =
    let here = (goal.at.returns-in-Dead-clause-right c).After-get in
    let listing = c.args.listing.now in
    let cost = (listed_at here).cost in
    let mark = dead (basis_of c.in-Dead.by) in
    line_if_ok (task_at listing) (certificate_at listing) c.args.place (state_at listing c.get.new.into) cost mark c.check_dead.result
    (c.get.ensures.state cost mark (marked here (Dead c.in-Dead.by) c.in-Dead.is)) c.check_dead.ensures.right
