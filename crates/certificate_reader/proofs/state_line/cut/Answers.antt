use Rattle.std.proofs.Common.{ap, refl}
use Rattle.certificate_reader.specs.Words.{text_in}
use Rattle.certificate_reader.proofs.LinesRead.{is_cut, no_cut_alone, no_cut_after, no_cut_cost}
use Rattle.certificate_reader.proofs.state_line.cut.Goals as goal

pub returns-in_default-clause-none : goal.returns-in_default-clause-none
returns-in_default-clause-none c = no_cut_cost c.args.rest.now c.args.atom_count _ _ c.first_word.ensures c.in_default.ensures.none

pub returns-in_default-following-clause-none : goal.returns-in_default-following-clause-none
returns-in_default-following-clause-none c = no_cut_alone c.args.rest.now c.args.atom_count _ _ c.first_word.ensures (ap text_in c.in_default-following.is)

pub returns-in-Some-2-clause-some : goal.returns-in-Some-2-clause-some
returns-in-Some-2-clause-some c =
    let read = rw c.in-Some-2.is at c.in_ok-least.ensures.some in
    let cost = c.in-Some.ensures.some in (
      c.in-Some-2.least,
      refl,
      is_cut c.args.rest.now c.args.atom_count _ _ c.first_word.ensures c.in-Some-following.following.now (ap text_in c.in-Some-following.is)
          c.in-Some.cost c.in-Some-2.least c.in-Some-2.atoms.items cost.0 cost.1 read,
    )

pub returns-in-None-clause-none : goal.returns-in-None-clause-none
returns-in-None-clause-none c =
    let never = rw c.in-None.is at c.in_ok-least.ensures.none in
    no_cut_after c.args.rest.now c.args.atom_count _ _ c.first_word.ensures c.in-Some-following.following.now (ap text_in c.in-Some-following.is) never
