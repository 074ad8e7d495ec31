use Rattle.std.proofs.Common.{◌≡◌, ◌∙◌, ℕ, ◌<◌, true, [], length, Some, refl, sym, ap, subst, arith}
use Rattle.std.specs.Prelude.{not, slice_get}
use Rattle.std.specs.List.{list_all}
use Rattle.std.specs.Option.{option_map}
use Rattle.std.proofs.lemmas.List.{length-map}
use Rattle.std.proofs.lemmas.Option.{slice_get_read, slice_get-map, slice_get_within}
use Rattle.grounding.specs.Ground.{atoms_in, task_in}
use Rattle.lower_bounds.specs.TableFunctions.{SeveralValues}
use Rattle.lower_bounds.specs.LandmarkLines.{keep_limits}
use Rattle.landmark_zones.specs.Landmarks.{landmarks_of}
use Rattle.landmarks.specs.Fairness.{AreFairness, is_unfair}
use Rattle.certificate.specs.CertificateParts.{listed_of}
use Rattle.certificate.specs.declared.states.Listed.{Listed}
use Rattle.certificate_definitions.specs.Evidence.{LineMark}
use Rattle.packed_state.specs.Packed.{bits_of}
use Rattle.packed_state.proofs.PackedLemmas.{length-set_of}
use Rattle.guides.specs.FairTables.{functions_in, ground_in}
use Rattle.tables.specs.Several.{several_of, width_of}
use Rattle.line_evidence.specs.Roles.{marks_in}
use Rattle.line_evidence.specs.Shown.{IsDeadFairAt, IsShown}
use Rattle.line_evidence.proofs.ShownLemmas.{dead_fair_at, fair_at, next_of_both, next_of_one}
use Rattle.line_evidence.proofs.shown.are_supported.Goals as goal

pub loop-place-init : goal.loop-place-init
loop-place-init g c = record {
  state = ap length c.in_ok-empty.ensures ∙ length-set_of c.width.result [] ∙ c.width.ensures ∙ c.requires.width
      ∙ sym (ap (λ (f : SeveralValues). length f.dead_ends.weights) c.functions-functions.ensures ∙ c.args.guide.now.width);
  known = c.in_ok-known_state.ensures;
  shown = λ k bits mark below. absurd (omega (arith, below));
  dead_fair = λ k mark below. absurd (omega (arith, below));
}

pub shows-requires-clause-limits : goal.shows-requires-clause-limits
shows-requires-clause-limits g c =
    let width : width_of c.functions-functions.result.now ≡ length (atoms_in (ground_in c.args.guide.now)) = ap (λ (f : SeveralValues). length f.dead_ends.weights) c.functions-functions.ensures ∙ c.args.guide.now.width in
    subst (λ (n : ℕ). keep_limits n (landmarks_of c.args.marked.now.landmarks) ≡ true) (sym width) (rw c.in-Some.is at c.in_ok-fairness.ensures.limits)

pub loop-place-preserved : goal.loop-place-preserved
loop-place-preserved g c =
    let items = c.args.marked.now.marks.items in
    let place = c.loop-place.place in
    let states = g.L.StateListing.states c.args.listing.now in
    let below : place < length items = omega (arith, c.loop-place-test.true, c.len-place-end.ensures) in
    let item = c.index.result.now in
    let read : slice_get items place ≡ Some item = slice_get_read items _ place item refl below c.index.ensures in
    let at : slice_get (marks_in items) place ≡ Some (listed_of item).mark = slice_get-map (λ (l : Listed). (listed_of l).mark) items place ∙ ap (option_map (λ (l : Listed). (listed_of l).mark)) read in
    record {
      state = ap (λ s. length (bits_of s)) c.shows.ensures.state ∙ c.get.ensures.width ∙ c.requires.width
          ∙ sym (ap (λ (f : SeveralValues). length f.dead_ends.weights) c.functions-functions.ensures ∙ c.args.guide.now.width);
      known = c.shows.ensures.known;
      shown = next_of_both (λ bits mark. IsShown (several_of c.functions-functions.result.now) (landmarks_of c.args.marked.now.landmarks) bits mark) states (marks_in items) place (bits_of c.get.new.into) (listed_of item).mark
          c.get.ensures.state at (c.shows.ensures.shown c.if-not-shows.false) c.loop-place.invariant.shown;
      dead_fair = next_of_one (IsDeadFairAt c.in-Some.fairness.items) (marks_in items) place (listed_of item).mark at (subst (λ found. IsDeadFairAt found (listed_of item).mark) c.deref-in-loop-place.ensures.value (c.is_dead_fair.ensures c.if-not-is_dead_fair.false)) c.loop-place.invariant.dead_fair;
    }

pub returns : goal.returns
returns g c = λ _.
    let task = task_in (ground_in c.args.guide.now) in
    let atoms = atoms_in (ground_in c.args.guide.now) in
    let tables = (functions_in c.args.guide.now).tables in
    let l = landmarks_of c.args.marked.now.landmarks in
    let items = c.args.marked.now.marks.items in
    let found = c.in-Some.fairness.items in
    let are : AreFairness task atoms tables l found = rw c.in-Some.is at c.in_ok-fairness.ensures.fairness in
    let all : list_all (λ f. not (is_unfair f)) found ≡ true = ap (list_all (λ f. not (is_unfair f))) (sym c.deref.ensures.value) ∙ sym c.are_all_fair.ensures ∙ c.if-not-are_all_fair.false in
    let many = length-map items (λ (x : Listed). (listed_of x).mark) in
    let so_far : (k : ℕ) (mark : LineMark) → slice_get (marks_in items) k ≡ Some mark → k < c.loop-place.place =
    λ k mark at. omega (arith, slice_get_within (marks_in items) k mark at, many, c.loop-place-test.false, c.len-place-end.ensures) in
    record {
      limits = rw c.in-Some.is at c.in_ok-fairness.ensures.limits;
      few_zones = sym c.have_few_zones.ensures ∙ c.if-not-have_few_zones.false;
      fair = fair_at task atoms tables l found are all;
      shown = λ k bits mark at_s at_m.
          subst (λ (s : SeveralValues). IsShown s l bits mark) c.functions-functions.ensures (c.loop-place.invariant.shown k bits mark (so_far k mark at_m) at_s at_m);
      dead_fair = λ k mark at_m. dead_fair_at task atoms tables l found are mark (c.loop-place.invariant.dead_fair k mark (so_far k mark at_m) at_m);
    }
