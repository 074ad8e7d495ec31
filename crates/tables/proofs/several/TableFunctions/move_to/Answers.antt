use Rattle.std.proofs.Common.{◌≡◌, ◌∙◌, ◌<◌, Some, length, pos, get_or, refl, sym, ap, subst, arith}
use Rattle.std.specs.Prelude.{slice_get}
use Rattle.std.proofs.lemmas.Option.{slice_get_read}
use Rattle.packed_state.specs.Packed.{bits_of}
use Rattle.lower_bounds.specs.PotentialFunctions.{score}
use Rattle.potentials.specs.Potentials.{potentials_of}
use Rattle.potentials.specs.declared.potentials.Potentials.{Potentials}
use Rattle.tables.specs.AllTables.{tables_of, count_of}
use Rattle.tables.specs.KnownRows.{IsKnown}
use Rattle.tables.specs.Several.{width_of, AreScores}
use Rattle.tables.specs.declared.known_rows.KnownRows.{KnownRows}
use Rattle.tables.proofs.TablesLemmas.{each-at}
use Rattle.tables.proofs.ValueLemmas.{scores-unmoved, scores-moved, scores-all-moved}
use Rattle.tables.proofs.several.TableFunctions.move_to.Goals as goal
use Rattle.tables.proofs.several.TableFunctions.move_to.Goals.{After-index, After-score_after-2}

-- the potentials that are read
read : (c : After-index) → slice_get c.args.self.now.values.items c.loop-place.place ≡ Some c.index.result.now
read c =
    let items = c.args.self.now.values.items in
    let within : c.loop-place.place < length items = omega (arith, c.loop-place-test.true, c.len-place-end.ensures) in
    slice_get_read items (length items) c.loop-place.place c.index.result.now refl within c.index.ensures

wide : (c : After-index) → length (potentials_of c.index.result.now).weights ≡ width_of c.args.self.now
wide c = each-at (λ (p : Potentials). length (potentials_of p).weights ≡ width_of c.args.self.now) c.args.self.now.values.items c.loop-place.place c.index.result.now (read c) c.args.self.now.together.widths

pub loop-place-init : goal.loop-place-init
loop-place-init c = record { rows = refl; scores = scores-unmoved c.args.self.now.values.items (bits_of c.args.state.now) c.args.known.now.scores.items }

pub score_after-requires-clause-there : goal.score_after-requires-clause-there
score_after-requires-clause-there c = omega (arith, c.loop-place-test.true, c.len-place-end.ensures, c.loop-place.invariant.scores.long, c.requires.known.scores.long)

pub score_after-requires-clause-before : goal.score_after-requires-clause-before
score_after-requires-clause-before c =
    ap (λ (k : KnownRows). length (bits_of k.projections.state)) c.loop-place.invariant.rows ∙ c.requires.known.width ∙ sym (wide (goal.at.score_after-requires-clause-before c).After-index)

pub score_after-requires-clause-next : goal.score_after-requires-clause-next
score_after-requires-clause-next c = c.requires.width ∙ sym (wide (goal.at.score_after-requires-clause-next c).After-index)

pub score_after-requires-clause-score : goal.score_after-requires-clause-score
score_after-requires-clause-score c =
    c.loop-place.invariant.scores.left c.loop-place.place (omega arith) ∙ c.requires.known.scores.each c.loop-place.place c.index.result.now (read (goal.at.score_after-requires-clause-score c).After-index)
    ∙ ap (λ (k : KnownRows). score (potentials_of c.index.result.now) (bits_of k.projections.state)) (sym c.loop-place.invariant.rows)

pub loop-place-preserved : goal.loop-place-preserved
loop-place-preserved c =
    let inv = c.loop-place.invariant in
    record {
      rows = c.score_after.ensures.rows ∙ inv.rows;
      scores = scores-moved c.args.self.now.values.items (bits_of c.args.state.now) c.loop-place.place c.index.result.now c.args.known.now.scores.items c.loop-place.known.scores.items c.score_after.new.self.scores.items _
          (read (goal.at.loop-place-preserved c).After-index) (omega (arith, c.loop-place-test.true, c.len-place-end.ensures, inv.scores.long, c.requires.known.scores.long)) refl c.score_after.ensures.scores inv.scores;
    }

pub score_after-requires-2-clause-there : goal.score_after-requires-2-clause-there
score_after-requires-2-clause-there c = omega (arith, c.len.ensures, c.loop-place.invariant.scores.long, c.requires.known.scores.long)

pub score_after-requires-2-clause-before : goal.score_after-requires-2-clause-before
score_after-requires-2-clause-before c = ap (λ (k : KnownRows). length (bits_of k.projections.state)) c.loop-place.invariant.rows ∙ c.requires.known.width

pub score_after-requires-2-clause-score : goal.score_after-requires-2-clause-score
score_after-requires-2-clause-score c =
    c.loop-place.invariant.scores.left c.len.result (omega (arith, c.loop-place.auto.place-end, c.len.ensures, c.len-place-end.ensures))
    ∙ ap (λ n. get_or c.args.known.now.scores.items n (pos 0)) (let at : c.len.result ≡ length c.args.self.now.values.items = omega (arith, c.len.ensures) in at) ∙ c.requires.known.scores.last
    ∙ ap (λ (k : KnownRows). score (potentials_of c.args.self.now.dead_ends) (bits_of k.projections.state)) (sym c.loop-place.invariant.rows)

rows-are : (c : After-score_after-2) → c.score_after-2.new.self.rows ≡ c.args.known.now.rows
rows-are c = c.score_after-2.ensures.rows ∙ c.loop-place.invariant.rows

pub move_to-requires-clause-known : goal.move_to-requires-clause-known
move_to-requires-clause-known c =
    subst (IsKnown (tables_of c.args.self.now.tables) (count_of c.args.self.now.tables)) (sym (rows-are (goal.at.move_to-requires-clause-known c).After-score_after-2)) c.requires.known.rows

pub move_to-requires-clause-width : goal.move_to-requires-clause-width
move_to-requires-clause-width c =
    c.requires.width ∙ sym (ap (λ (k : KnownRows). length (bits_of k.projections.state)) (rows-are (goal.at.move_to-requires-clause-width c).After-score_after-2) ∙ c.requires.known.width)

pub returns-clause-known : goal.returns-clause-known
returns-clause-known c =
    let self = c.args.self.now in
    record {
      width = ap length c.move_to.ensures.state ∙ c.requires.width;
      rows = c.move_to.ensures.known;
      scores = subst (λ bits. AreScores self.values.items self.dead_ends bits c.score_after-2.new.self.scores.items) (sym c.move_to.ensures.state)
          (scores-all-moved self.values.items self.dead_ends (bits_of c.args.state.now) c.loop-place.place c.len.result c.args.known.now.scores.items c.loop-place.known.scores.items c.score_after-2.new.self.scores.items
          (omega (arith, c.loop-place-test.false, c.len-place-end.ensures)) (omega (arith, c.len.ensures)) (c.loop-place.invariant.scores.long ∙ c.requires.known.scores.long) c.score_after-2.ensures.scores c.loop-place.invariant.scores);
    }
