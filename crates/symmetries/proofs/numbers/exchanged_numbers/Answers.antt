use Rattle.std.proofs.Common.{◌≡◌, ◌∙◌, ◌<◌, ◌≤◌, length, map, ap, sym, arith}
use Rattle.std.proofs.lemmas.List.{length-map}
use Rattle.task.specs.TaskParts.{atom_of}
use Rattle.model.proofs.Tests.{passes_whole}
use Rattle.symmetries.specs.Exchange.{image}
use Rattle.symmetries.specs.Numbers.{exchanged_below}
use Rattle.symmetries.proofs.NumberLemmas.{is_kept, image_kept, image_missing, numbers_more}
use Rattle.symmetries.proofs.TestSteps.{at_fails, at_more}
use Rattle.symmetries.proofs.numbers.exchanged_numbers.Goals as goal

pub loop-number-preserved : goal.loop-number-preserved
loop-number-preserved c =
    let atoms = map atom_of c.args.atoms.now.keys in
    let to = image c.args.exchange.now in
    let n = c.loop-number.number in
    let same = length-map c.args.atoms.now.keys atom_of in
    let within : n < length atoms = omega (arith, same, c.loop-number-test.true, c.len-number-end.ensures.len) in
    let has = sym c.number_of_image.ensures ∙ c.in-Some.is in (
      numbers_more atoms to n c.in-Some.other c.loop-number.pairs.items c.add_if_rising.new.pairs.items has c.in_ok-add_if_rising-in-Some.ensures c.loop-number.invariant.0,
      at_more (is_kept atoms to) atoms n within (image_kept atoms to n c.in-Some.other has) c.loop-number.invariant.1,
    )

pub returns : goal.returns
returns c =
    let atoms = map atom_of c.args.atoms.now.keys in
    let to = image c.args.exchange.now in
    let n = c.loop-number.number in
    let same = length-map c.args.atoms.now.keys atom_of in
    let past : length atoms ≤ n = omega (arith, same, c.loop-number-test.false, c.len-number-end.ensures.len) in
    let end : n ≡ length atoms = omega (arith, past, same, c.loop-number.auto.number-end, c.len-number-end.ensures.len) in
    record {
      kept = passes_whole (is_kept atoms to) atoms n past c.loop-number.invariant.1;
      pairs = c.loop-number.invariant.0 ∙ ap (exchanged_below atoms to) end;
    }

pub returns-in-None : goal.returns-in-None
returns-in-None c =
    let atoms = map atom_of c.args.atoms.now.keys in
    let to = image c.args.exchange.now in
    let n = c.loop-number.number in
    let same = length-map c.args.atoms.now.keys atom_of in
    let within : n < length atoms = omega (arith, same, c.loop-number-test.true, c.len-number-end.ensures.len) in
    record { kept = at_fails (is_kept atoms to) atoms n (image_missing atoms to n within (sym c.number_of_image.ensures ∙ c.in-None.is)); pairs = tt }
