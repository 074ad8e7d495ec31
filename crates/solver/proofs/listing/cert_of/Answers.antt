use Rattle.std.proofs.Common.{◌≡◌, ◌∙◌, ap, map, length, sym, arith}
use Rattle.certificate_reader.specs.Lines.{claim_of}
use Rattle.certificate.specs.ListedSets.{lines_with}
use Rattle.certificate.specs.CertificateParts.{certificate_with, listed_of}
use Rattle.packed_state.specs.PooledView.{pooled_states}
use Rattle.grounding.specs.Ground.{task_in, atoms_in}
use Rattle.search_spaces.specs.GroundListing.{listed_states}
use Rattle.search_spaces.specs.SearchSpace.{class_in, ground_in, exchanges_in}
use Rattle.solver.specs.Guidance.{estimate_by, reports_dead}
use Rattle.solver.specs.Listing.{certificate_by, found_certificate}
use Rattle.solver.specs.Written.{guidance_of}
use Rattle.solver.proofs.FoundLines.{lines_of_marks, as_many_marks}
use Rattle.solver.proofs.ListingLemmas.{within_limits}
use Rattle.solver.proofs.listing.cert_of.Goals as goal
use Rattle.solver.proofs.listing.cert_of.Goals.{In_ok-header}

pub states_of-requires : goal.states_of-requires
states_of-requires c = c.requires.found.within_limit

pub header_of-requires : goal.header_of-requires
header_of-requires c = c.requires.space

-- the certificate of the parts is that of what was found
made : (c : In_ok-header)
    → certificate_with c.in_ok-header.header c.in_ok-states.states
    ≡ found_certificate (claim_of c.args.claim) (exchanges_in c.args.space) (atoms_in (ground_in c.args.space)) (guidance_of c.args.guidance) (listed_states c.args.found.store) c.args.found.nodes.items
made c =
    let guidance = guidance_of c.args.guidance in
    let states = listed_states c.args.found.store in
    let nodes = c.args.found.nodes.items in
    let marks = ap (map listed_of) c.in_ok-states.ensures.marks ∙ c.requires.marks in
    let lines = (λ i. lines_with (marks i) (c.in_ok-states.ensures.sets i)) ∙ lines_of_marks (estimate_by guidance) (reports_dead guidance) states nodes in
    c.in_ok-header.ensures (lines_with (map listed_of c.in_ok-states.states.marks.items) (pooled_states c.in_ok-states.states.sets))
    ∙ ap (certificate_by (claim_of c.args.claim) (exchanges_in c.args.space) (atoms_in (ground_in c.args.space)) guidance) lines

pub from_parts-requires-clause-limits : goal.from_parts-requires-clause-limits
from_parts-requires-clause-limits c =
    let known = ground_in c.args.space in
    within_limits (task_in known) (claim_of c.args.claim) 16777216 (exchanges_in c.args.space) (guidance_of c.args.guidance) (listed_states c.args.found.store) c.args.found.nodes.items (atoms_in known) c.requires.space.atoms
    (class_in c.args.space) c.requires.found _
    (made (goal.at.from_parts-requires-clause-limits c).In_ok-header) c.requires.guidance c.requires.claim c.requires.few (omega arith) c.requires.exchanges c.requires.space.few

pub from_parts-requires-clause-marked : goal.from_parts-requires-clause-marked
from_parts-requires-clause-marked c =
    let guidance = guidance_of c.args.guidance in
    let found = c.args.found in
    ap length c.in_ok-states.ensures.marks
    ∙ as_many_marks (estimate_by guidance) (reports_dead guidance) c.args.marks.items (listed_states found.store) found.nodes.items c.requires.found.one_for_each c.requires.marks
    ∙ ap length (sym c.in_ok-states.ensures.sets)

pub returns : goal.returns
returns c = c.from_parts.ensures.certificate ∙ made (goal.at.returns c).In_ok-header
