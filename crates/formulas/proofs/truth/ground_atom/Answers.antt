use Rattle.std.proofs.Common.{◌∙◌, ap, map, length, arith}
use Rattle.task.specs.declared.atoms.Term.TheVariants.{Variable}
use Rattle.task.specs.TaskParts.{object_of, term_of}
use Rattle.model.specs.Meaning as meaning
use Rattle.formulas.proofs.Tasks.{named_more, named_whole}
use Rattle.formulas.proofs.truth.ground_atom.Goals as goal

pub loop-term-preserved : goal.loop-term-preserved
loop-term-preserved c = (
  omega (arith, c.push.ensures.len, c.loop-term.invariant.0),
  ap (map object_of) c.push.ensures.items
      ∙ named_more (map object_of c.args.binding.now.items) c.loop-term.objects.items c.deref-term-items.result.now c.loop-term.term-index (Variable record { 0 = 0 }) c.named_by.result
      c.loop-term-test.true c.loop-term.invariant.1 c.named_by.ensures,
)

pub returns : goal.returns
returns c =
    let binding = map object_of c.args.binding.now.items in
    let objects = named_whole binding c.loop-term.objects.items c.deref-term-items.result.now c.loop-term.term-index c.loop-term-test.false c.loop-term.invariant.1
    ∙ ap (λ l. map (meaning.object_of binding) (map term_of l)) c.deref-term-items.ensures.value in
    λ i. record { predicate = c.args.atom.now.predicate.0; objects = objects i }

pub push-requires : goal.push-requires
push-requires c = (omega arith, omega (arith, c.requires, c.loop-term.invariant.0, ap length c.deref-term-items.ensures.value))
