use Rattle.std.proofs.Common.{◌≡◌, ◌∙◌, ◌+◌, ◌<◌, false, List, map, length, ap, sym, subst}
use Rattle.std.specs.Prelude.{IfSome}
use Rattle.std.specs.List.{All}
use Rattle.std.specs.Option.{option_map_or}
use Rattle.grounding_instances.specs.Numbers.{numbered_of}
use Rattle.grounding.specs.Conditions.{literals_in, can_hold_in}
use Rattle.grounding.specs.Watched.{IsWatchable}
use Rattle.grounding.specs.WatchLists.{AreWatched}
use Rattle.grounding.proofs.GroundLemmas.{got}
use Rattle.grounding.proofs.WatchLemmas.{watched-none, watched-more, watched-same}
use Rattle.model.specs.NumberedLiterals.{NumberedLiteral}
use Rattle.grounding.proofs.watch_lists.WatchLists.new.Goals.{then-can_hold+in_ok-file, else-can_hold}
use Rattle.grounding.proofs.watch_lists.WatchLists.new.Goals as goal

pub loop-number-init : goal.loop-number-init
loop-number-init c = watched-none c.args.width c.args.conditions.now c.in_ok-lists.lists c.in_ok-lists.ensures.width c.in_ok-lists.ensures.rows c.in_ok-lists.ensures.unwatched

pub rarest-requires : goal.rarest-requires
rarest-requires c =
    let conditions = c.args.conditions.now in
    let number = c.loop-number.number in
    let condition = c.index-conditions-number.result in
    let many : length c.deref.result.now ≡ c.args.width = ap length c.deref.ensures.value ∙ c.in_ok-ranks.ensures in
    subst (λ w. All (λ (l : NumberedLiteral). l.atom < w) (map numbered_of c.literals.result.now)) (sym many)
    (subst (λ ls. All (λ (l : NumberedLiteral). l.atom < c.args.width) ls) (sym c.literals.ensures) (c.requires.within number condition (got conditions number condition c.loop-number-test.true c.index-conditions-number.is)))

pub loop-number-preserved : goal.loop-number-preserved
loop-number-preserved c =
    let conditions = c.args.conditions.now in
    let number = c.loop-number.number in
    let condition = c.index-conditions-number.result in
    let at = got conditions number condition c.loop-number-test.true c.index-conditions-number.is in
    let may = ap (λ o. option_map_or can_hold_in o false) at ∙ sym c.can_hold.ensures in
    elim c.if-can_hold.branch [
      | then-can_hold+in_ok-file w ↦
          let many : length w.deref.result.now ≡ c.args.width = ap length w.deref.ensures.value ∙ c.in_ok-ranks.ensures in
          subst (AreWatched c.args.width conditions (number + 1)) (sym w.lists-is)
          (watched-more c.args.width conditions number w.rarest.result c.loop-number.lists w.file.new.self condition c.loop-number.invariant w.in_ok-file.ensures c.loop-number-test.true at
          (subst (λ v. IfSome w.rarest.result (IsWatchable v (literals_in condition))) many
          (subst (λ (ls : List NumberedLiteral). IfSome w.rarest.result (IsWatchable (length w.deref.result.now) ls)) w.literals.ensures w.rarest.ensures))
          (may ∙ w.if-can_hold.true))
      | else-can_hold w ↦ subst (AreWatched c.args.width conditions (number + 1)) (sym w.lists-is) (watched-same c.args.width conditions number c.loop-number.lists c.loop-number.invariant (may ∙ w.if-can_hold.false))
    ]
