use Rattle.std.proofs.Common.{◌≡◌, ◌∙◌, ◌+◌, ◌-◌, ◌*◌, ◌<◌, ◌≤◌, true, false, Some, length, refl, sym, ap, subst, arith}
use Rattle.std.specs.Prelude.{min, nat_le, slice_get}
use Rattle.std.proofs.lemmas.Bool.{leb-true, leb-false}
use Rattle.std.proofs.lemmas.Option.{slice_get_read}
use Rattle.grounding.specs.Ground.{task_in, atoms_in}
use Rattle.model.specs.StaticallyFalse.{kept_instances}
use Rattle.tables.specs.Several.{several_of}
use Rattle.tables.specs.declared.losses.Losses.{Losses}
use Rattle.tables.proofs.TablesLemmas.{mapped-at}
use Rattle.tables.proofs.UnfairLemmas.{IsFirstSoFar, first-next, first-past, first-is}
use Rattle.tables.proofs.several.TableFunctions.first_unfair.Goals.{After-index, After-loop-index}
use Rattle.tables.proofs.several.TableFunctions.first_unfair.Goals as goal

-- the instance that is looked at
read : (c : After-index) → slice_get c.in_ok-losses.losses.items c.loop-index.index ≡ Some c.index.result.now
read c =
    let items = c.in_ok-losses.losses.items in
    slice_get_read items (length items) c.loop-index.index c.index.result.now refl (omega (arith, c.loop-index-test.true, c.len-index-end.ensures)) c.index.ensures

-- all instances of the block
done : (c : After-loop-index) → IsFirstSoFar (task_in c.args.ground.now) (atoms_in c.args.ground.now) (several_of c.args.self.now) (512 * (c.loop-block.block + 1)) c.loop-index.first
done c =
    let task = task_in c.args.ground.now in
    let atoms = atoms_in c.args.ground.now in
    let s = several_of c.args.self.now in
    let count = length (kept_instances task) in
    let number = c.loop-block.block * 512 + c.loop-index.index in
    let next = 512 * (c.loop-block.block + 1) in
    let all : c.loop-index.index ≡ c.min.result = omega (arith, c.loop-index-test.false, c.len-index-end.ensures, c.in_ok-losses.ensures.long) in
    let rest : c.min.result ≡ min 512 (count - c.loop-block.block * 512) = omega (arith, c.min.ensures, c.instance_count-count.ensures) in
    let within : c.loop-block.block * 512 ≤ count = omega (arith, c.loop-block-test.true, c.loop-block.auto.block-end, c.instance_count-count.ensures) in
    elim (nat_le next count) as (λ b. nat_le next count ≡ b → IsFirstSoFar task atoms s next c.loop-index.first) [
      | true ↦ λ is.
          let less = leb-true next count is in
          subst (λ n. IsFirstSoFar task atoms s n c.loop-index.first) (let e : number ≡ next = omega (arith, all, rest, less) in e) c.loop-index.invariant
      | false ↦ λ is.
          let more = leb-false next count is in
          first-past task atoms s number next c.loop-index.first (omega (arith, all, rest, more, within)) c.loop-index.invariant
    ] refl

pub loop-index-preserved : goal.loop-index-preserved
loop-index-preserved c =
    let task = task_in c.args.ground.now in
    let atoms = atoms_in c.args.ground.now in
    let s = several_of c.args.self.now in
    let l = c.index.result.now in
    let k = c.loop-index.index in
    let number = c.loop-block.block * 512 + k in
    let numbered : l.number ≡ number = c.in_ok-losses.ensures.numbers k l.number (mapped-at (λ (x : Losses). x.number) c.in_ok-losses.losses.items k l (read (goal.at.loop-index-preserved c).After-index)) in
    let below : number < length (kept_instances task) =
    omega (arith, c.loop-index-test.true, c.len-index-end.ensures, c.in_ok-losses.ensures.long, c.min.ensures, c.instance_count-count.ensures, c.loop-block-test.true, c.loop-block.auto.block-end) in
    subst (λ n. IsFirstSoFar task atoms s n c.earlier-first.result) (let e : number + 1 ≡ c.loop-block.block * 512 + (k + 1) = omega arith in e)
    (subst (IsFirstSoFar task atoms s (number + 1)) (sym c.earlier-first.ensures)
    (first-next task atoms s number below c.first_place-place.result (λ i at. c.first_place-place.ensures i (ap (slice_get (kept_instances task)) numbered ∙ at)) c.loop-index.first c.loop-index.invariant))

pub returns-then-places_before-eq0 : goal.returns-then-places_before-eq0
returns-then-places_before-eq0 c =
    first-is (task_in c.args.ground.now) (atoms_in c.args.ground.now) (several_of c.args.self.now) (512 * (c.loop-block.block + 1)) c.loop-index.first (done (goal.at.returns-then-places_before-eq0 c).After-loop-index)
    (λ k within. absurd (omega (arith, within, c.places_before.ensures, c.if-places_before-eq0.true)))

pub loop-block-preserved : goal.loop-block-preserved
loop-block-preserved c = done (goal.at.loop-block-preserved c).After-loop-index

pub returns : goal.returns
returns c =
    first-is (task_in c.args.ground.now) (atoms_in c.args.ground.now) (several_of c.args.self.now) (512 * c.loop-block.block) c.loop-block.first c.loop-block.invariant
    (λ k within. omega (arith, c.loop-block-test.false, c.loop-block.auto.block-end, c.instance_count-count.ensures))
