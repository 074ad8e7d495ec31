use Rattle.std.proofs.Common.{List, length, take, get_or, map, sym, subst, arith}
use Rattle.std.proofs.lemmas.List.{take_all, take_more}
use Rattle.grounding.specs.Ground.{atoms_in, task_in}
use Rattle.grounding.specs.Changes.{counting_of}
use Rattle.model.specs.ConditionalChanges.{ConditionalChange}
use Rattle.table_rows.specs.Lists.{place_count}
use Rattle.landmarks.specs.Makers.{AreFiled, AreMakers}
use Rattle.landmarks.proofs.MakerLemmas.{counting-within, makers-none, makers-more}
use Rattle.landmarks.proofs.makers.Makers.new.Goals as goal

pub loop-number-init : goal.loop-number-init
loop-number-init c = record {
  made = makers-none (task_in c.args.ground.now) (atoms_in c.args.ground.now) c.in_ok-makers.makers c.in_ok-makers.ensures.none;
  adding = omega (arith, c.in_ok-makers.ensures.adding, c.width.ensures);
  deleting = omega (arith, c.in_ok-makers.ensures.deleting, c.width.ensures);
}

pub counting-requires : goal.counting-requires
counting-requires c = c.requires c.loop-number.number-index 0 c.loop-number-test.true

pub file_all-requires-clause-adding : goal.file_all-requires-clause-adding
file_all-requires-clause-adding c =
    counting-within (task_in c.args.ground.now) (atoms_in c.args.ground.now) (get_or c.args.asked.now c.loop-number.number-index 0) (place_count c.loop-number.makers.adding)
    (map counting_of c.counting.result.now) c.counting.ensures.counting c.loop-number.invariant.adding

pub file_all-requires-clause-deleting : goal.file_all-requires-clause-deleting
file_all-requires-clause-deleting c =
    counting-within (task_in c.args.ground.now) (atoms_in c.args.ground.now) (get_or c.args.asked.now c.loop-number.number-index 0) (place_count c.loop-number.makers.deleting)
    (map counting_of c.counting.result.now) c.counting.ensures.counting c.loop-number.invariant.deleting

pub loop-number-preserved : goal.loop-number-preserved
loop-number-preserved c =
    let task = task_in c.args.ground.now in
    let atoms = atoms_in c.args.ground.now in
    let asked = c.args.asked.now in
    let i = c.loop-number.number-index in
    let number = get_or asked i 0 in
    let filed = subst (λ (changes : List ConditionalChange). AreFiled number changes c.loop-number.makers c.file_all.new.self) c.counting.ensures.conditional c.in_ok-file_all.ensures in
    record {
      made = subst (λ l. AreMakers task atoms l c.file_all.new.self) (sym (take_more asked i 0 c.loop-number-test.true))
          (makers-more task atoms (take i asked) number c.loop-number.makers c.file_all.new.self c.loop-number.invariant.made filed);
      adding = omega (arith, filed.adding, c.loop-number.invariant.adding);
      deleting = omega (arith, filed.deleting, c.loop-number.invariant.deleting);
    }

pub returns : goal.returns
returns c =
    subst (λ l. AreMakers (task_in c.args.ground.now) (atoms_in c.args.ground.now) l c.loop-number.makers) (take_all c.loop-number.number-index c.args.asked.now c.loop-number-test.false) c.loop-number.invariant.made
