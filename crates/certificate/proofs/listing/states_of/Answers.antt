use Rattle.std.proofs.Common.{◌≡◌, ◌<◌, ◌≤◌, ◌++◌, ◌∷◌, [], get_or, length, map, take, sym, ap, ◌∙◌, subst, arith}
use Rattle.std.specs.Prelude.{All, Contains}
use Rattle.std.proofs.lemmas.List.{length-map, length-take-le}
use Rattle.std.proofs.lemmas.List.Elements.{All-contains}
use Rattle.std.proofs.Math.ListN.{get_or-map}
use Rattle.packed_state.specs.PooledView.{pooled_states}
use Rattle.packed_state.specs.Sets.{set_of}
use Rattle.packed_state.specs.Store.{AreDistinct}
use Rattle.certificate_reader.specs.Lines.{line_of}
use Rattle.certificate.specs.CertificateParts.{listed_of}
use Rattle.certificate.specs.ListedSets.{lines_with, marked}
use Rattle.certificate.proofs.SetsLemmas.{rise_below}
use Rattle.certificate.proofs.ListedLemmas.{IsRising, lines_back, listed_twice, once_by_sets, set_at, taken_all, taken_more}
use Rattle.certificate.proofs.listing.states_of.Goals as goal

pub push-requires-clause-below : goal.push-requires-clause-below
push-requires-clause-below c =
    let lines = map line_of c.args.lines.now in
    let i = c.loop-line.line-index in
    let line = line_of c.line-item.result in
    let within : i < length lines = omega (arith, c.loop-line-test.true, length-map c.args.lines.now line_of) in
    let is : get_or lines i line ≡ line = get_or-map line_of c.args.lines.now i c.line-item.result ∙ ap line_of (sym c.line-item.is) in
    let rises : IsRising c.args.atom_count line = All-contains (IsRising c.args.atom_count) lines line c.requires.rising (i, within, is) in
    subst (λ width. All (λ number. number < width) line.atoms) (sym c.loop-line.invariant.width) (rise_below c.args.atom_count 0 line.atoms rises)

pub push-requires-clause-room : goal.push-requires-clause-room
push-requires-clause-room c =
    let lines = map line_of c.args.lines.now in
    let i = c.loop-line.line-index in
    let few : length c.args.lines.now ≤ 16777216 = c.requires.few in
    let within : i < length lines = omega (arith, c.loop-line-test.true, length-map c.args.lines.now line_of) in
    omega (
      arith,
      ap length c.loop-line.invariant.sets ∙ length-map (take i lines) (set_at c.args.atom_count),
      length-take-le i lines (omega (arith, within)),
      c.loop-line-test.true,
      few,
    )

pub returns-then-not-branch-clause-twice : goal.returns-then-not-branch-clause-twice
returns-then-not-branch-clause-twice c =
    let lines = map line_of c.args.lines.now in
    let i = c.loop-line.line-index in
    let line = line_of c.line-item.result in
    let within : i < length lines = omega (arith, c.loop-line-test.true, length-map c.args.lines.now line_of) in
    let is : get_or lines i line ≡ line = get_or-map line_of c.args.lines.now i c.line-item.result ∙ ap line_of (sym c.line-item.is) in
    let there = rw c.if-not-branch.true at c.in_ok-push.ensures.pushed in
    listed_twice c.args.atom_count lines i line within is c.requires.rising
    (subst (λ sets. Contains sets (set_at c.args.atom_count line)) c.loop-line.invariant.sets
    (subst (λ width. Contains (pooled_states c.loop-line.states.sets) (set_of width line.atoms)) c.loop-line.invariant.width there))

pub loop-line-preserved : goal.loop-line-preserved
loop-line-preserved c =
    let lines = map line_of c.args.lines.now in
    let i = c.loop-line.line-index in
    let line = line_of c.line-item.result in
    let within : i < length lines = omega (arith, c.loop-line-test.true, length-map c.args.lines.now line_of) in
    let is : get_or lines i line ≡ line = get_or-map line_of c.args.lines.now i c.line-item.result ∙ ap line_of (sym c.line-item.is) in
    let so_far = c.loop-line.invariant in
    let old = c.loop-line.states in
    let pushed = rw c.if-not-branch.false at c.in_ok-push.ensures.pushed in
    record {
      width = c.in_ok-push.ensures.width ∙ so_far.width;
      sets = taken_more c.args.atom_count lines i line within is (set_at c.args.atom_count) _ _ so_far.sets
          (pushed.1 ∙ ap (λ width. pooled_states old.sets ++ set_of width line.atoms ∷ []) so_far.width);
      marks = taken_more c.args.atom_count lines i line within is marked _ _ so_far.marks pushed.2;
    }

pub returns-clause-lines : goal.returns-clause-lines
returns-clause-lines c =
    let lines = map line_of c.args.lines.now in
    let i = c.loop-line.line-index in
    let past : length lines ≤ i = omega (arith, c.loop-line-test.false, length-map c.args.lines.now line_of) in
    let sets = taken_all c.args.atom_count (set_at c.args.atom_count) _ lines i past c.loop-line.invariant.sets in
    let marks = taken_all c.args.atom_count marked _ lines i past c.loop-line.invariant.marks in
    (λ k. lines_with (marks k) (sets k)) ∙ lines_back c.args.atom_count lines c.requires.rising

pub returns-clause-marked : goal.returns-clause-marked
returns-clause-marked c =
    let sets = c.loop-line.invariant.sets in
    let marks = c.loop-line.invariant.marks in
    let so_far = take c.loop-line.line-index (map line_of c.args.lines.now) in
    sym (length-map c.loop-line.states.marks.items listed_of) ∙ ap length marks ∙ length-map so_far marked ∙ sym (ap length sets ∙ length-map so_far (set_at c.args.atom_count))

pub returns-clause-once : goal.returns-clause-once
returns-clause-once c =
    let lines = map line_of c.args.lines.now in
    let i = c.loop-line.line-index in
    let past : length lines ≤ i = omega (arith, c.loop-line-test.false, length-map c.args.lines.now line_of) in
    once_by_sets c.args.atom_count lines (subst AreDistinct (taken_all c.args.atom_count (set_at c.args.atom_count) _ lines i past c.loop-line.invariant.sets) c.loop-line.states.sets.pooled.stored.distinct)
