use Rattle.std.proofs.Common.{rules, ◌∙◌, ◌∷◌, ◌+◌, ap, sym, map}
use Rattle.task.specs.declared.schemas.Formula.{the_lemmas}
use Rattle.task.specs.TaskParts.{object_of, formula_of}
use Rattle.formulas.proofs.Trees.{typed_by_all}
use Rattle.grounding_instances.specs.Numbering.{task_in}
use Rattle.model.specs.WellTyped.{is_formula}
use Rattle.model.proofs.Tests.{passes_at, passes_map}
use Rattle.grounding.specs.Settled as settled
use Rattle.grounding.proofs.SettledLemmas.{beyond_by_all, next_said, said_here, nothing_left}
use Rattle.grounding.proofs.settled.+beyond.Goals as goal

pub beyond-beyond_each-requires : goal.beyond-beyond_each-requires
beyond-beyond_each-requires t c = (
  search (rules, the_lemmas),
  record {
    scope = c.requires.scope;
    typed = typed_by_all c.args.formula.now c.in-And.parts c.deref.result.now c.in-And.is c.deref.ensures.value (task_in c.args.numbering.now) c.requires.scope c.requires.typed;
    fits = c.requires.fits;
  },
)

pub beyond-returns-in-And : goal.beyond-returns-in-And
beyond-returns-in-And t c =
    c.beyond_each.ensures
    ∙ sym (beyond_by_all (task_in c.args.numbering.now) (map object_of c.args.binding.now.items) c.args.formula.now c.in-And.parts c.deref.result.now c.in-And.is c.deref.ensures.value)

pub beyond_each-beyond-said-requires : goal.beyond_each-beyond-said-requires
beyond_each-beyond-said-requires t c =
    let typed = is_formula (task_in c.args.numbering.now) c.requires.scope in (
      search (rules, the_lemmas),
      record {
        scope = c.requires.scope;
        typed = passes_at (λ part. typed (formula_of part)) c.args.parts.now c.loop-part.part-index c.part-item.result c.loop-part-test.true c.part-item.is
            (sym (passes_map typed formula_of c.args.parts.now) ∙ c.requires.typed);
        fits = c.requires.fits;
      },
    )

pub beyond_each-loop-part-preserved : goal.beyond_each-loop-part-preserved
beyond_each-loop-part-preserved t c =
    next_said (task_in c.args.numbering.now) (map object_of c.args.binding.now.items) c.args.parts.now c.loop-part.part-index c.part-item.result c.loop-part-test.true c.part-item.is
    (ap settled.is_nothing (sym c.beyond-said.ensures) ∙ sym c.is_nothing.ensures ∙ c.if-not-is_nothing.false)
    ∙ c.loop-part.invariant

pub beyond_each-returns-then-not-is_nothing : goal.beyond_each-returns-then-not-is_nothing
beyond_each-returns-then-not-is_nothing t c =
    c.beyond-said.ensures
    ∙ sym (said_here (task_in c.args.numbering.now) (map object_of c.args.binding.now.items) c.args.parts.now c.loop-part.part-index c.part-item.result c.loop-part-test.true c.part-item.is
    (ap settled.is_nothing (sym c.beyond-said.ensures) ∙ sym c.is_nothing.ensures ∙ c.if-not-is_nothing.true))
    ∙ c.loop-part.invariant

pub beyond_each-returns : goal.beyond_each-returns
beyond_each-returns t c =
    sym (nothing_left (task_in c.args.numbering.now) (map object_of c.args.binding.now.items) c.args.parts.now c.loop-part.part-index c.loop-part-test.false)
    ∙ c.loop-part.invariant
