use Rattle.std.proofs.Common.{◌∙◌, List, ap, sym, subst, take, Contains, arith}
use Rattle.std.proofs.lemmas.List.{take_all}
use Rattle.explain_hints.specs.Files.{text_in}
use Rattle.file_answers.specs.Complete.{IsAccounted, TaskRefusal, of_pair}
use Rattle.file_answers.specs.FurtherFaults.{AreFurther}
use Rattle.file_answers.proofs.CompleteLemmas.{complete, taken_more}
use Rattle.model.proofs.ListLemmas.{Contains-none}
use Rattle.file_answers.proofs.explaining.further.FurtherSearch.further_faults.Goals as goal

pub faults-init : goal.faults-init
faults-init c = (
  subst (AreFurther c.args.self.texts.now) (sym c.new-further.ensures.items) (λ k f below. absurd (omega (arith, below))),
  λ r at. absurd (Contains-none r at),
)

pub faults-preserved : goal.faults-preserved
faults-preserved c = (
  c.in_ok-add_fault.ensures.further c.faults.invariant.0,
  taken_more c.deref-refusal-items.result.now c.faults.refusal-index (λ (r : TaskRefusal). IsAccounted (text_in c.args.self.texts.now) c.args.self.first c.add_fault.new.further.items (of_pair r)) _ c.faults-test.true
      (λ r at. c.in_ok-add_fault.ensures.kept (of_pair r) (c.faults.invariant.1 r at)) c.in_ok-add_fault.ensures.added,
)

pub returns-clause-further : goal.returns-clause-further
returns-clause-further c = c.faults.invariant.0

pub returns-clause-complete : goal.returns-clause-complete
returns-clause-complete c =
    let items = c.deref-refusal-items.result.now in
    let whole = take_all c.faults.refusal-index items c.faults-test.false ∙ c.deref-refusal-items.ensures.value in
    complete (text_in c.args.self.texts.now) c.args.self.first c.faults.further.items c.in_ok-found.found.items c.in_ok-found.ensures.all
    (λ r at. c.faults.invariant.1 r (subst (λ (l : List TaskRefusal). Contains l r) (sym whole) at))
