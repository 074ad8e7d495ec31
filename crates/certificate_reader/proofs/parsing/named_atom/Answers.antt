use Rattle.std.proofs.Common.{sym, ◌∙◌}
use Rattle.certificate_reader.proofs.LinesRead.{no_lower_predicate, no_names_after, is_atom_line}
use Rattle.certificate_reader.proofs.parsing.named_atom.Goals as goal

pub returns-then-not-is_lower_name-clause-none : goal.returns-then-not-is_lower_name-clause-none
returns-then-not-is_lower_name-clause-none c =
    no_lower_predicate c.args.rest.now c.in-Some.inner.now c.in-Some.ensures.some _ _ c.first_word.ensures (sym c.is_lower_name.ensures ∙ c.if-not-is_lower_name.true)

pub returns-in_ok-copy-in-Some-2-clause-some : goal.returns-in_ok-copy-in-Some-2-clause-some
returns-in_ok-copy-in-Some-2-clause-some c =
    let names = rw c.in-Some-2.is at c.in_ok-objects.ensures.some in
    is_atom_line c.args.rest.now c.in-Some.inner.now c.in-Some.ensures.some _ _ c.first_word.ensures (sym c.is_lower_name.ensures ∙ c.if-not-is_lower_name.false)
    c.in_ok-copy-in-Some-2.field-0.items _ c.in_ok-copy-in-Some-2.ensures names.0 names.1

pub returns-in-None-clause-none : goal.returns-in-None-clause-none
returns-in-None-clause-none c =
    let never = rw c.in-None.is at c.in_ok-objects.ensures.none in
    no_names_after c.args.rest.now c.in-Some.inner.now c.in-Some.ensures.some _ _ c.first_word.ensures never
